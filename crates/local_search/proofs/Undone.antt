-- Flips that are taken back.
use Rattle.std.proofs.Common.{◌≡◌, ◌≢◌, ℕ, zero, suc, ◌+◌, ◌-◌, ◌<◌, ◌≤◌, Bool, true, false, not, List, length, set, get_or, refl, sym, ap, ◌∙◌, subst, ⊎_elim, get_or-set_same, get_or-set_other, set-set, arith}
use Rattle.std.proofs.lemmas.Bool.{cases_eq}
use Rattle.std.proofs.lemmas.List.{set-get_or}
use Rattle.cnf_core.specs.Literals.{Assignment, value_of}
use Rattle.cnf_core.specs.Formulas.{Cnf, IsModel}
use Rattle.cnf_core.proofs.Truth.{value_of-with_value}
use Rattle.model_check.specs.Flips.{flipped}
use Rattle.local_search.specs.Steps.States.{IsFree}
use Rattle.local_search.specs.Steps.Descents.{undone, IsUndone}

-- a flip takes itself back
pub flipped-flipped : (a : Assignment) (v : ℕ) → 0 < v → v ≤ length a → flipped (flipped a v) v ≡ a
flipped-flipped a v low high =
    let value : value_of (flipped a v) v ≡ not (value_of a v) = value_of-with_value a v (not (value_of a v)) low high in
    ap (λ (b : Bool). set (flipped a v) (v - 1) (not b)) value
    ∙ set-set a (v - 1) (not (value_of a v)) (not (not (value_of a v)))
    ∙ ap (λ (b : Bool). set a (v - 1) b) (twice (value_of a v))
    ∙ set-get_or a (v - 1) false
  where
    twice : (b : Bool) → not (not b) ≡ b
    twice true = refl
    twice false = refl

-- entries behind don't matter
pub undone-set : (a : Assignment) (journal : List ℕ) (n i v : ℕ) → n ≤ i → undone a (set journal i v) n ≡ undone a journal n
undone-set a journal zero i v behind = refl
undone-set a journal (suc n) i v behind =
    let same : get_or (set journal i v) n 0 ≡ get_or journal n 0 = get_or-set_other journal i n v 0 (λ is. omega (arith, is)) in
    ap (λ (w : ℕ). undone (flipped a w) (set journal i v) n) same
    ∙ undone-set (flipped a (get_or journal n 0)) journal n i v (omega arith)

-- one flip more in the journal
pub undone_more : (F : Cnf) (held a : Assignment) (journal : List ℕ) (n v : ℕ) → IsFree F.vars held v → n < length journal
    → IsUndone F held (flipped a v) journal n → IsUndone F held a (set journal n v) (n + 1)
undone_more F held a journal n v free below u = record {
  is_model = subst (λ (k : ℕ). IsModel F (undone a (set journal n v) k)) (sym add)
      (subst (λ (w : ℕ). IsModel F (undone (flipped a w) (set journal n v) n)) (sym here)
      (subst (IsModel F) (sym (undone-set (flipped a v) journal n n v (omega arith))) u.is_model));
  free = λ k before.
      ⊎_elim
      (λ (own : k ≡ n). subst (IsFree F.vars held) (sym (ap (λ (j : ℕ). get_or (set journal n v) j 0) own ∙ here)) free)
      (λ (other : k ≢ n).
      subst (IsFree F.vars held) (sym (get_or-set_other journal n k v 0 other)) (u.free k (omega arith)))
      (cases_eq k n);
}
  where
    add : n + 1 ≡ suc n
    add = omega arith

    here : get_or (set journal n v) n 0 ≡ v
    here = get_or-set_same journal n v 0 below

-- and before it is there, the flip is taken back by hand
pub undone_flip : (F : Cnf) (held a held' a' : Assignment) (journal journal' : List ℕ) (n v : ℕ) → IsUndone F held a journal n
    → 0 < v → v ≤ length a → a' ≡ flipped a v → held' ≡ held → journal' ≡ journal → IsUndone F held' (flipped a' v) journal' n
undone_flip F held a held' a' journal journal' n v u low high is same_held same_journal =
    rw (is, same_held, same_journal, flipped-flipped a v low high) u
