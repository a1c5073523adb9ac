-- What is kept while a formula's clauses are loaded, before watches are built.
use Rattle.std.specs.Prelude.{◌≡◌, ◌≢◌, Bool, true, false, [], AllPairs, List}
use Rattle.cnf_core.specs.Literals.{Literals}
use Rattle.trail_core.specs.Trails.{IsTrail}
use Rattle.watch_lists.specs.Clauses.{AreClean}
use Rattle.lrat_lines.specs.Sets.{IsSameSet}
use Rattle.lrat_log.specs.Fresh.{learnt_in}
use Rattle.search_policy.specs.Epochs.{first_epoch}
use Rattle.assumption_solver.specs.declared.search.Search.{Search}
use Rattle.assumption_solver.specs.Steps.Plain.{AreLong}
use Rattle.assumption_solver.specs.Steps.Searching.{HaveUnits}
use Rattle.assumption_solver.specs.Steps.Standing.{KeepsInputs, IsTautology}
use Rattle.assumption_solver.specs.Steps.Solving.{IsLogged, IsSettled}

-- each variable stands in the clause once
abbrev pub IsEachOnce : Literals → Type 0
IsEachOnce c = AllPairs (λ k l. k.var ≢ l.var) c

-- a clause is made plain: doubled literals go; where it has a literal and its negation it isn't
abbrev pub PlainSays : Bool → Literals → Literals → Type 0
PlainSays true d c = IsSameSet d c × IsEachOnce c
PlainSays false d c = IsTautology d

-- the search is at the root, the clauses taken so far stand, and no clause is watched yet
pub record IsLoading (s : Search) : Type 0 where
  pub vars : s.trail.vars ≡ s.journal.formula.vars
  pub analyser_vars : s.analyser ≡ s.trail.vars
  pub watches_vars : s.watches.vars ≡ s.trail.vars
  pub trail : IsTrail s.trail
  pub root : s.trail.level ≡ 0
  pub gone : s.trail.gone ≡ 0
  pub units : HaveUnits s.trail.entries
  pub settles : IsSettled s.trail.entries s.settled
  pub long : AreLong s.arena
  pub clean : AreClean s.trail.vars s.arena
  pub logged : IsLogged s.arena s.trail.entries s.journal
  pub none_learnt : learnt_in s.journal.entries s.journal.query ≡ []
  pub epochs : s.epochs ≡ first_epoch

-- the clauses that stood still stand
abbrev pub StaysTaken : Search → Search → Type 0
StaysTaken s u = (ds : List Literals) → KeepsInputs s.arena s.trail.entries ds → KeepsInputs u.arena u.trail.entries ds
