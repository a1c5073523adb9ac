-- Facts that each element owes to those before it.
use Rattle.std.proofs.Common.{ℕ, zero, suc, ◌+◌, ◌<◌, ◌≤◌, ◌≡◌, List, [], ◌∷◌, ◌++◌, length, take, get_or, subst, ⊎_elim, arith}
use Rattle.std.specs.Prelude.{All}
use Rattle.lrat_lines.specs.Prefixes.{EachAfter}
use Rattle.std.proofs.lemmas.Bool.{cases_lt}
use Rattle.std.proofs.lemmas.List.{take-append-le, take_at, take_all, get_or_append_left, get_or_push, length_push}
use Rattle.std.proofs.lemmas.List.Elements.{All-nil, All-more}

pub each_after_push : {X : Type 0} (P : List X → X → Type 0) (xs : List X) (x : X) → EachAfter P xs → P xs x
    → EachAfter P (xs ++ x ∷ [])
each_after_push P xs x each last k d within =
    ⊎_elim
    (λ (old : k < length xs).
    rw (take-append-le k xs (x ∷ []) (omega arith), get_or_append_left xs (x ∷ []) d k old) (each k d old))
    (λ (new : length xs ≤ k).
    let at : length xs ≡ k = omega (arith, length_push xs x) in
    rw (take_at xs (x ∷ []) k at, get_or_push xs x d k at) last)
    (cases_lt k (length xs))

all_upto : {X : Type 0} (P : List X → X → Type 0) (Q : X → Type 0) (xs : List X) (d : X) → EachAfter P xs
    → ((before : List X) (x : X) → P before x → All Q before → Q x) → (k : ℕ) → k ≤ length xs → All Q (take k xs)
all_upto P Q xs d each step zero within = All-nil Q
all_upto {X} P Q xs d each step (suc k) within =
    let before : All Q (take k xs) = all_upto P Q xs d each step k (omega arith) in
    let next : k + 1 ≡ suc k = omega arith in
    subst (λ (n : ℕ). All Q (take n xs)) next
    (All-more Q xs k d (omega arith) before (step (take k xs) (get_or xs k d) (each k d (omega arith)) before))

-- what follows from what each element owes, and from the same of those before it
pub all_by_each_after : {X : Type 0} (P : List X → X → Type 0) (Q : X → Type 0) (xs : List X) (d : X) → EachAfter P xs
    → ((before : List X) (x : X) → P before x → All Q before → Q x) → All Q xs
all_by_each_after {X} P Q xs d each step =
    subst (λ (ys : List X). All Q ys) (take_all (length xs) xs (omega arith))
    (all_upto P Q xs d each step (length xs) (omega arith))
