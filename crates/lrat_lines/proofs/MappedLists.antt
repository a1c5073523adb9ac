-- Members of a mapped list.
use Rattle.std.proofs.Common.{◌≡◌, List, [], ◌∷◌, map, Contains, subst, ⊎_elim}
use Rattle.cnf_core.proofs.Lists.{Contains-head, Contains-tail, Contains-cons_cases, Contains-nil}

-- a member of the list that is mapped to this one
pub record IsSource {X Y : Type 0} (f : X → Y) (xs : List X) (y : Y) : Type 0 where
  pub source : X
  pub member : Contains xs source
  pub is : f source ≡ y

pub source_of_map : {X Y : Type 0} (f : X → Y) (xs : List X) (y : Y) → Contains (map f xs) y → IsSource f xs y
source_of_map f [] y there = absurd (Contains-nil y there)
source_of_map f (x ∷ xs) y there = ⊎_elim
    (λ (is : f x ≡ y). record { source = x; member = Contains-head x xs; is = is })
    (λ (later : Contains (map f xs) y).
    let found = source_of_map f xs y later in
    record { source = found.source; member = Contains-tail x xs found.source found.member; is = found.is })
    (Contains-cons_cases (f x) (map f xs) y there)

pub member_of_map : {X Y : Type 0} (f : X → Y) (xs : List X) (x : X) → Contains xs x → Contains (map f xs) (f x)
member_of_map f [] x there = absurd (Contains-nil x there)
member_of_map {X} {Y} f (y ∷ xs) x there = ⊎_elim
    (λ (is : y ≡ x). subst (λ (z : X). Contains (map f (y ∷ xs)) (f z)) is (Contains-head (f y) (map f xs)))
    (λ (later : Contains xs x). Contains-tail (f y) (map f xs) (f x) (member_of_map f xs x later))
    (Contains-cons_cases y xs x there)
