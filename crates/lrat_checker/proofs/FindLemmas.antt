-- The first of a list that passes a test, looked for one after another.
use Rattle.std.proofs.Common.{◌≡◌, ℕ, ◌+◌, ◌<◌, Bool, true, false, if◌then◌else◌, List, [], ◌∷◌, ◌++◌, Option, Some, None, length, take}
use Rattle.std.proofs.Common.{drop, get_or, inl, inr, refl, sym, ap, ◌∙◌, take-append-drop}
use Rattle.std.specs.Prelude.{find}
use Rattle.std.specs.List.{list_all}
use Rattle.std.proofs.lemmas.Bool.{cases_Bool, and_left, and_from}
use Rattle.std.proofs.lemmas.List.{take_more, drop_more}

find_past : {X : Type 0} (p : X → Bool) (xs ys : List X) → find p xs ≡ None → find p (xs ++ ys) ≡ find p ys
find_past p [] ys none = refl
find_past {X} p (x ∷ xs) ys none = elim (cases_Bool (p x)) [
  | inl passes ↦ (let wrong : Some x ≡ None = rw passes at none in absurd (cc wrong))
  | inr fails ↦ (let later : find p xs ≡ None = rw fails at none in rw fails (find_past p xs ys later))
]

pub find_found : {X : Type 0} (p : X → Bool) (xs : List X) (i : ℕ) (x : X) → i < length xs → x ≡ get_or xs i x
    → find p (take i xs) ≡ None → p x ≡ true → find p xs ≡ Some x
find_found p xs i x lt is none passes =
    ap (find p) (sym (take-append-drop i xs) ∙ ap (λ rest. take i xs ++ rest) (drop_more xs i x lt)
    ∙ ap (λ y. take i xs ++ y ∷ drop (i + 1) xs) (sym is))
    ∙ find_past p (take i xs) (x ∷ drop (i + 1) xs) none
    ∙ rw passes refl

pub find_more : {X : Type 0} (p : X → Bool) (xs : List X) (i : ℕ) (x : X) → i < length xs → x ≡ get_or xs i x
    → find p (take i xs) ≡ None → p x ≡ false → find p (take (i + 1) xs) ≡ None
find_more p xs i x lt is none fails =
    ap (find p) (take_more xs i x lt ∙ ap (λ y. take i xs ++ y ∷ []) (sym is))
    ∙ find_past p (take i xs) (x ∷ []) none
    ∙ rw fails refl

all_past : {X : Type 0} (p : X → Bool) (xs ys : List X) → list_all p xs ≡ true → list_all p (xs ++ ys) ≡ list_all p ys
all_past p [] ys all = refl
all_past p (x ∷ xs) ys all = elim (cases_Bool (p x)) [
  | inl passes ↦ (let later : list_all p xs ≡ true = rw passes at all in rw passes (all_past p xs ys later))
  | inr fails ↦ (let wrong : false ≡ true = rw fails at all in absurd (cc wrong))
]

pub all_more : {X : Type 0} (p : X → Bool) (xs : List X) (i : ℕ) (x : X) → i < length xs → x ≡ get_or xs i x
    → list_all p (take i xs) ≡ true → p x ≡ true → list_all p (take (i + 1) xs) ≡ true
all_more p xs i x lt is all passes =
    ap (list_all p) (take_more xs i x lt ∙ ap (λ y. take i xs ++ y ∷ []) (sym is))
    ∙ all_past p (take i xs) (x ∷ []) all
    ∙ rw passes refl

pub all_fails : {X : Type 0} (p : X → Bool) (xs : List X) (i : ℕ) (x : X) → i < length xs → x ≡ get_or xs i x
    → list_all p (take i xs) ≡ true → p x ≡ false → list_all p xs ≡ false
all_fails p xs i x lt is all fails =
    ap (list_all p) (sym (take-append-drop i xs) ∙ ap (λ rest. take i xs ++ rest) (drop_more xs i x lt)
    ∙ ap (λ y. take i xs ++ y ∷ drop (i + 1) xs) (sym is))
    ∙ all_past p (take i xs) (x ∷ drop (i + 1) xs) all
    ∙ rw fails refl
