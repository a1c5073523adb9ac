-- The true literal that a clause rests on.
use Rattle.std.specs.Prelude.{IsTrue, Option, MatchOption}
use Rattle.cnf_core.specs.Literals.{Literal, Literals, Assignment, is_true}
use Rattle.cnf_core.specs.Laws.{IsCriticalFor}

-- the clause rests on this true literal alone
pub record RestsOn (a : Assignment) (c : Literals) (l : Literal) : Type 0 where
  pub holds : IsTrue (is_true a l)
  pub critical : IsCriticalFor a l c

-- the true literal that the clause rests on alone, if there is one
abbrev pub IsSupport : Assignment → Literals → Option Literal → Type 0
IsSupport a c support = MatchOption support ((l : Literal) → RestsOn a c l → ⊥) (RestsOn a c)
