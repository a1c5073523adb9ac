-- The states of a search, and what a step leaves as it was.
use Rattle.std.specs.Prelude.{◌≡◌, ℕ, List}
use Rattle.cnf_core.specs.Literals.{Literal, Literals}
use Rattle.assumption_solver.specs.declared.search.Search.{Search}
use Rattle.trail_core.specs.declared.entry.Assigned.{Assigned}
use Rattle.trail_core.specs.Trails.{HasLiteral}
use Rattle.trail_core.specs.TrueAndFalse.{HasLiteralAt}
use Rattle.assumption_solver.specs.Steps.Standing.{KeepsLearnt}
use Rattle.assumption_solver.specs.Steps.Solving.{IsBearing, IsSolving}
use Rattle.assumption_solver.specs.Steps.Queries.{IsGuided}

abbrev pub Bears : Search → Type 0
Bears s = IsBearing s.analyser s.settled s.arena s.watches s.trail s.journal

abbrev pub Solves : Search → Type 0
Solves s = IsSolving s.analyser s.settled s.arena s.watches s.trail s.journal s.epochs

-- the clauses of an epoch that stood still stand
abbrev pub StaysLearnt : Search → Search → Type 0
StaysLearnt s u = (learnt : List Literals) (epoch : ℕ) → KeepsLearnt s.arena s.trail.entries learnt epoch
    → KeepsLearnt u.arena u.trail.entries learnt epoch

-- whatever the query is
abbrev pub StaysGuided : Search → Search → Type 0
StaysGuided s u = (assume chunk : Literals) → IsGuided assume chunk s.trail → IsGuided assume chunk u.trail

-- the log and the epochs stay
pub record IsUnlogged (s u : Search) : Type 0 where
  pub journal : u.journal ≡ s.journal
  pub epochs : u.epochs ≡ s.epochs
  pub vars : u.trail.vars ≡ s.trail.vars

-- only the trail and the saved signs change
pub record IsSameButTrail (s u : Search) : Type 0 where
  pub arena : u.arena ≡ s.arena
  pub watches : u.watches ≡ s.watches
  pub analyser : u.analyser ≡ s.analyser
  pub settled : u.settled ≡ s.settled
  pub journal : u.journal ≡ s.journal
  pub epochs : u.epochs ≡ s.epochs

-- what was true stays true, at the root too
pub record IsGrown (es fs : List Assigned) : Type 0 where
  pub literals : (l : Literal) → HasLiteral es l → HasLiteral fs l
  pub roots : (l : Literal) → HasLiteralAt es 0 l → HasLiteralAt fs 0 l
