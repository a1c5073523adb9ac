-- Lists of words and of views after a write.
use Rattle.std.proofs.Common.{◌≡◌, ◌≢◌, ℕ, ◌+◌, ◌<◌, ◌≤◌, List, [], ◌∷◌, ◌++◌, length, get_or, set, sym, ap, ◌∙◌, subst, ⊎_elim, arith}
use Rattle.std.proofs.lemmas.Bool.{cases_eq, cases_lt}
use Rattle.std.proofs.lemmas.List.{length_push, get_or-set_same, get_or-set_other, get_or_append_left, get_or_push, get_or_past}
use Rattle.std.specs.List.{sum_by}
use Rattle.std.proofs.lemmas.List.Sums.{sum_by-set}

-- what holds of the element that was written and of the others
pub at_set : {X : Type 0} (P : X → Type 0) (xs : List X) (i j : ℕ) (y d : X) → i < length xs
    → (j ≡ i → P y) → (j ≢ i → P (get_or xs j d)) → P (get_or (set xs i y) j d)
at_set P xs i j y d within here there =
    ⊎_elim (λ (same : j ≡ i). subst (λ z. P z) (sym (ap (λ (k : ℕ). get_or (set xs i y) k d) same ∙ get_or-set_same xs i y d within)) (here same))
    (λ (other : j ≢ i). subst (λ z. P z) (sym (get_or-set_other xs i j y d other)) (there other))
    (cases_eq j i)

-- the same of an element behind the others
pub at_push : {X : Type 0} (P : X → Type 0) (xs : List X) (y d : X) (j : ℕ)
    → (j ≡ length xs → P y) → (j ≢ length xs → P (get_or xs j d)) → P (get_or (xs ++ y ∷ []) j d)
at_push P xs y d j here there =
    ⊎_elim (λ (same : j ≡ length xs). subst (λ z. P z) (sym (get_or_push xs y d j (sym same))) (here same))
    (λ (other : j ≢ length xs). ⊎_elim
    (λ (low : j < length xs). subst (λ z. P z) (sym (get_or_append_left xs (y ∷ []) d j low)) (there other))
    (λ (high : length xs ≤ j). subst (λ z. P z)
    (get_or_past xs j d high ∙ sym (get_or_past (xs ++ y ∷ []) j d (omega (arith, length_push xs y)))) (there other))
    (cases_lt j (length xs)))
    (cases_eq j (length xs))

-- a sum after a write
pub sum_set : {X : Type 0} (f : X → ℕ) (xs : List X) (i : ℕ) (y d : X) → i < length xs
    → sum_by f (set xs i y) + f (get_or xs i d) ≡ sum_by f xs + f y
sum_set f xs i y d within = sum_by-set f xs i y d within
