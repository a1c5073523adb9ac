-- Flips one after another: what a walk leaves, and how many values then differ from the first.
use Rattle.std.proofs.Common.{◌≡◌, ◌≢◌, ℕ, zero, suc, ◌+◌, ◌-◌, ◌<◌, ◌≤◌, Bool, true, false, not, if◌then◌else◌, List, [], ◌∷◌, ◌++◌, length, Contains, take, set, get_or, refl, sym, ap, ◌∙◌, subst, ⊎_elim, inl, inr, length-set, arith}
use Rattle.std.proofs.lemmas.Bool.{cases_eq, true≢false}
use Rattle.std.proofs.lemmas.List.{take_more, take_all}
use Rattle.std.proofs.lemmas.List.Elements.{Contains-push_cases}
use Rattle.cnf_core.specs.Literals.{Assignment, value_of}
use Rattle.cnf_core.specs.Formulas.{IsModel}
use Rattle.cnf_core.proofs.Lists.{Contains-nil}
use Rattle.cnf_core.proofs.Truth.{value_of-with_value, value_of-with_value_other}
use Rattle.model_check.specs.Flips.{flipped}
use Rattle.flip_literals.specs.Listings.{Listing}
use Rattle.flip_literals.specs.Walks.{IsTurned, IsWalked, IsAtRest, differences}
use Rattle.flip_literals.specs.Steps.Passes.{IsFlipped, IsHeld, PassTells, IsPassed}

-- nothing flipped yet
pub walked-same : (o : Listing) (vs : List ℕ) (a : Assignment) → IsModel o.formula a → IsWalked o vs a a
walked-same o vs a model = record { is_model = model; each = refl; kept = λ v low high. inl refl }

-- one walk after another
pub walked-more : (o : Listing) (vs : List ℕ) (a b d : Assignment) → IsWalked o vs a b → IsWalked o vs b d
    → IsWalked o vs a d
walked-more o vs a b d first second = record {
  is_model = second.is_model;
  each = second.each ∙ first.each;
  kept = λ v low high.
      ⊎_elim
      (λ (same : value_of d v ≡ value_of b v).
      ⊎_elim
      (λ (before : value_of b v ≡ value_of a v). inl (same ∙ before))
      (λ (turned : IsTurned o.first vs a b v).
      inr (record { listed = turned.listed; before = turned.before; after = same ∙ turned.after }))
      (first.kept v low high))
      (λ (turned : IsTurned o.first vs b d v).
      ⊎_elim
      (λ (before : value_of b v ≡ value_of a v).
      inr (record { listed = turned.listed; before = sym before ∙ turned.before; after = turned.after }))
      (λ (turned_before : IsTurned o.first vs a b v).
      inr (record { listed = turned.listed; before = turned_before.before; after = turned.after }))
      (first.kept v low high))
      (second.kept v low high);
}

-- one flip of a candidate with its first value
pub walked-flip : (o : Listing) (vs : List ℕ) (a : Assignment) (v : ℕ) → length a ≡ o.formula.vars → 0 < v
    → v ≤ o.formula.vars → Contains vs v → value_of a v ≡ value_of o.first v → IsModel o.formula (flipped a v)
    → IsWalked o vs a (flipped a v)
walked-flip o vs a v values low high here first model = record {
  is_model = model;
  each = length-set a (v - 1) (not (value_of a v));
  kept = λ w low_w high_w.
      ⊎_elim
      (λ (own : w ≡ v).
      inr (subst (IsTurned o.first vs a (flipped a v)) (sym own)
      (record {
        listed = here;
        before = first;
        after = value_of-with_value a v (not (value_of a v)) low (omega (arith, values)) ∙ ap not first;
      })))
      (λ (other : w ≢ v). inl (value_of-with_value_other a v w (not (value_of a v)) low low_w other))
      (cases_eq w v);
}

-- a flip of a first value makes one difference more
differences-set : (first a : Assignment) (i : ℕ) → i < length a → length first ≡ length a
    → get_or a i false ≡ get_or first i false
    → differences first (set a i (not (get_or a i false))) ≡ suc (differences first a)
differences-set first [] i below same_length same = absurd (omega arith)
differences-set [] (y ∷ a) i below same_length same = absurd (omega arith)
differences-set (x ∷ first) (y ∷ a) zero below same_length same = by_values x y same
  where
    by_values : (x y : Bool) → y ≡ x
        → (if x then (if not y then 0 else 1) else (if not y then 1 else 0)) + differences first a
        ≡ suc ((if x then (if y then 0 else 1) else (if y then 1 else 0)) + differences first a)
    by_values true true same = omega arith
    by_values false false same = omega arith
    by_values true false same = absurd (true≢false (sym same))
    by_values false true same = absurd (true≢false same)
differences-set (x ∷ first) (y ∷ a) (suc i) below same_length same =
    let shorter : length first ≡ length a = omega (arith, same_length) in
    let later = differences-set first a i (omega arith) shorter same in
    ap (λ n. (if x then (if y then 0 else 1) else (if y then 1 else 0)) + n) later ∙ omega arith

pub differences-flip : (first a : Assignment) (v : ℕ) → 0 < v → v ≤ length a → length first ≡ length a
    → value_of a v ≡ value_of first v → differences first (flipped a v) ≡ suc (differences first a)
differences-flip first a v low high same_length same = differences-set first a (v - 1) (omega arith) same_length same

-- a candidate that is flipped
pub flips : (o : Listing) (a : Assignment) (v : ℕ) → length o.first ≡ o.formula.vars → length a ≡ o.formula.vars
    → 0 < v → v ≤ o.formula.vars → value_of a v ≡ value_of o.first v → IsModel o.formula (flipped a v)
    → IsFlipped o v a (flipped a v)
flips o a v values each low high first model = record {
  first = first;
  is = refl;
  is_model = model;
  more = differences-flip o.first a v low (omega (arith, each)) (omega (arith, values, each)) first ∙ omega arith;
}

-- a pass that has come so far
pub record IsPassing (o : Listing) (vs : List ℕ) (i : ℕ) (a b : Assignment) (changed : Bool) : Type 0 where
  pub walked : IsWalked o vs a b
  pub told : PassTells o (take i vs) a b changed

pub passing-start : (o : Listing) (vs : List ℕ) (a : Assignment) → IsModel o.formula a → IsPassing o vs 0 a a false
passing-start o vs a model = record {
  walked = walked-same o vs a model;
  told = (refl, λ v here first flips. Contains-nil v here);
}

pub passing-flipped : (o : Listing) (vs : List ℕ) (i v : ℕ) (a b d : Assignment) (changed : Bool)
    → IsPassing o vs i a b changed → Contains vs v → 0 < v → v ≤ o.formula.vars → IsFlipped o v b d
    → IsPassing o vs (i + 1) a d true
passing-flipped o vs i v a b d changed so_far here low high flip = record {
  walked =
      walked-more o vs a b d so_far.walked
      (subst (IsWalked o vs b) (sym flip.is)
      (walked-flip o vs b v so_far.walked.is_model.values low high here flip.first
      (subst (IsModel o.formula) flip.is flip.is_model)));
  told = more changed so_far.told;
}
  where
    more : (changed : Bool) → PassTells o (take i vs) a b changed → differences o.first a < differences o.first d
    more true told = omega (arith, told, flip.more)
    more false told = omega (arith, ap (differences o.first) told.0, flip.more)

pub passing-held : (o : Listing) (vs : List ℕ) (i v : ℕ) (a b d : Assignment) (changed : Bool)
    → IsPassing o vs i a b changed → i < length vs → v ≡ get_or vs i 0 → IsHeld o v b d
    → IsPassing o vs (i + 1) a d changed
passing-held o vs i v a b d changed so_far below is held = record {
  walked = subst (IsWalked o vs a) (sym held.same) so_far.walked;
  told = rest changed so_far.told;
}
  where
    at_rest : b ≡ a → IsAtRest o (take i vs) a → IsAtRest o (take (i + 1) vs) a
    at_rest same before w here first model =
        let more : take (i + 1) vs ≡ take i vs ++ v ∷ [] =
        take_more vs i 0 below ∙ ap (λ (n : ℕ). take i vs ++ n ∷ []) (sym is) in
        ⊎_elim
        (λ (earlier : Contains (take i vs) w). before w earlier first model)
        (λ (own : v ≡ w).
        subst (λ (m : Assignment). value_of m v ≡ value_of o.first v → IsModel o.formula (flipped m v) → ⊥) same held.held
        (subst (λ u. value_of a u ≡ value_of o.first u) (sym own) first)
        (subst (λ u. IsModel o.formula (flipped a u)) (sym own) model))
        (Contains-push_cases (take i vs) v w (subst (λ (us : List ℕ). Contains us w) more here))

    rest : (changed : Bool) → PassTells o (take i vs) a b changed → PassTells o (take (i + 1) vs) a d changed
    rest true told = subst (λ (m : Assignment). differences o.first a < differences o.first m) (sym held.same) told
    rest false told = (held.same ∙ told.0, at_rest told.0 told.1)

pub passed : (o : Listing) (vs : List ℕ) (i : ℕ) (a b : Assignment) (changed : Bool)
    → IsPassing o vs i a b changed → length vs ≤ i → IsPassed o vs a b changed
passed o vs i a b changed so_far all = record {
  walked = so_far.walked;
  told = subst (λ (us : List ℕ). PassTells o us a b changed) (take_all i vs all) so_far.told;
}
