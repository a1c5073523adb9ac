-- Sets of literals. A list of literals stands for the set of its members: their order and number say nothing.
use Rattle.std.specs.Prelude.{◌==◌, Bool, not, ◌&&◌, if◌then◌else◌, List, Contains}
use Rattle.std.specs.List.{list_any}
use Rattle.cnf_core.specs.Literals.{Literal, Literals, negated}

-- whether two literals are the same
abbrev pub is_same : Literal → Literal → Bool
is_same k l = (k.var == l.var) && (if k.positive then l.positive else not l.positive)

-- whether the set has the literal
abbrev pub has : Literals → Literal → Bool
has c l = list_any (is_same l) c

-- whether the set has a literal and its negation
abbrev pub has_complements : Literals → Bool
has_complements c = list_any (λ l. has c (negated l)) c

-- the lists have the same members
pub record IsSameSet (c d : Literals) : Type 0 where
  pub forth : (l : Literal) → Contains c l → Contains d l
  pub back : (l : Literal) → Contains d l → Contains c l

-- each member of the first list is one of the second
abbrev pub IsSubset : Literals → Literals → Type 0
IsSubset c d = (l : Literal) → Contains c l → Contains d l

-- one of the sets is this one
pub record HasSet (sets : List Literals) (c : Literals) : Type 0 where
  pub set : Literals
  pub member : Contains sets set
  pub same : IsSameSet c set
