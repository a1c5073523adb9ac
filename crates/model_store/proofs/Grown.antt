-- A block that grows by one model, or by another block.
use Rattle.std.proofs.Common.{◌≡◌, ℕ, ◌+◌, ◌*◌, ◌^◌, ◌<◌, ◌≤◌, List, [], ◌∷◌, ◌++◌, length, drop, sym, ap, ◌∙◌, subst, length-append, mul-zero, arith}
use Rattle.std.proofs.lemmas.List.{take-append-drop}
use Rattle.std.proofs.lemmas.List.Elements.{All-nil, All-append, All-push}
use Rattle.cnf_core.specs.Literals.{Assignment}
use Rattle.cnf_core.specs.Formulas.{Cnf, IsModel}
use Rattle.model_store.specs.Steps.Packed.{words_for, unpacked, all_unpacked, AppendsValues}
use Rattle.model_store.specs.Stores.{Store, store_of, with_model, with_models}
use Rattle.model_store.specs.Steps.Blocks.{IsBlock}
use Rattle.model_store.proofs.Blocks.{length-all_unpacked, all_unpacked-zero, all_unpacked-more, all_unpacked-append}

-- the empty block
pub block-empty : (F : Cnf) → IsBlock [] F 0
block-empty F = record {
  whole = omega arith;
  holds = record {
    each = rw (all_unpacked-zero [] F.vars) (All-nil (IsModel F));
    limit = rw (length-all_unpacked [] F.vars 0) (omega arith);
  };
}

one_unpacked : (words : List ℕ) (n : ℕ) → all_unpacked words n 1 ≡ unpacked words n ∷ []
one_unpacked words n =
    all_unpacked-more words n 0
    ∙ ap (λ (front : List Assignment). front ++ unpacked (drop (words_for n * 0) words) n ∷ []) (all_unpacked-zero words n)
    ∙ ap (λ (k : ℕ). unpacked (drop k words) n ∷ []) (mul-zero (words_for n))

-- one assignment more
pub all_unpacked-appends : (old new : List ℕ) (n count : ℕ) (a : Assignment) → length a ≡ n
    → length old ≡ words_for n * count → AppendsValues old new a
    → all_unpacked new n (count + 1) ≡ all_unpacked old n count ++ a ∷ []
all_unpacked-appends old new n count a is whole appends =
    let more : List ℕ = drop (length old) new in
    let parts : old ++ more ≡ new =
    ap (λ (front : List ℕ). front ++ more) (sym appends.front) ∙ take-append-drop (length old) new in
    let values : unpacked more n ≡ a = subst (λ k. unpacked more k ≡ a) is appends.values in
    ap (λ (words : List ℕ). all_unpacked words n (count + 1)) (sym parts)
    ∙ all_unpacked-append old more n count 1 whole
    ∙ ap (λ (last : List Assignment). all_unpacked old n count ++ last) (one_unpacked more n)
    ∙ ap (λ (b : Assignment). all_unpacked old n count ++ b ∷ []) values

pub block-pushed : (old new : List ℕ) (F : Cnf) (count : ℕ) (a : Assignment) → IsBlock old F count
    → IsModel F a → AppendsValues old new a → count < 2 ^ 26 → IsBlock new F (count + 1)
block-pushed old new F count a block model appends room =
    record {
      whole = omega (arith, block.whole, appends.count, ap words_for model.values);
      holds = record {
        each = rw (all_unpacked-appends old new F.vars count a model.values block.whole appends)
            (All-push (IsModel F) (all_unpacked old F.vars count) a block.holds.each model);
        limit = rw (length-all_unpacked new F.vars (count + 1)) (omega arith);
      };
    }

pub block-append : (xs ys : List ℕ) (F : Cnf) (count more : ℕ) → IsBlock xs F count → IsBlock ys F more
    → count + more ≤ 2 ^ 26 → IsBlock (xs ++ ys) F (count + more)
block-append xs ys F count more first second room =
    record {
      whole = omega (arith, length-append xs ys, first.whole, second.whole);
      holds = record {
        each = rw (all_unpacked-append xs ys F.vars count more first.whole)
            (All-append (IsModel F) (all_unpacked xs F.vars count) (all_unpacked ys F.vars more)
            first.holds.each second.holds.each);
        limit = rw (length-all_unpacked (xs ++ ys) F.vars (count + more)) room;
      };
    }

-- what a view tells of the fields
pub count_of_view : (words : List ℕ) (F : Cnf) (count : ℕ) (s : Store)
    → store_of F (all_unpacked words F.vars count) ≡ s → count ≡ length s.models
count_of_view words F count s is =
    sym (length-all_unpacked words F.vars count) ∙ ap (λ (t : Store). length t.models) is

pub formula_of_view : (words : List ℕ) (F : Cnf) (count : ℕ) (s : Store)
    → store_of F (all_unpacked words F.vars count) ≡ s → F ≡ s.formula
formula_of_view words F count s is = ap (λ (t : Store). t.formula) is

pub store-pushed : (old new : List ℕ) (F : Cnf) (count : ℕ) (a : Assignment) (s : Store)
    → store_of F (all_unpacked old F.vars count) ≡ s → IsBlock old F count → length a ≡ F.vars
    → AppendsValues old new a → store_of F (all_unpacked new F.vars (count + 1)) ≡ with_model s a
store-pushed old new F count a s is block values appends =
    ap (store_of F) (all_unpacked-appends old new F.vars count a values block.whole appends)
    ∙ ap (λ (t : Store). with_model t a) is

pub store-append : (xs ys : List ℕ) (F : Cnf) (count more : ℕ) (s t : Store)
    → store_of F (all_unpacked xs F.vars count) ≡ s → store_of F (all_unpacked ys F.vars more) ≡ t
    → IsBlock xs F count → store_of F (all_unpacked (xs ++ ys) F.vars (count + more)) ≡ with_models s t
store-append xs ys F count more s t is other block =
    ap (store_of F) (all_unpacked-append xs ys F.vars count more block.whole)
    ∙ ap (λ (u : Store). with_models u (store_of F (all_unpacked ys F.vars more))) is
    ∙ ap (λ (u : Store). with_models s u) other
