-- What the search has come to, as an answer.
use Rattle.std.proofs.Common.{ℕ, ◌<◌, length, Contains, subst, arith}
use Rattle.cnf_core.specs.Literals.{Literal, Literals}
use Rattle.clause_arena.specs.Entries.{Entries}
use Rattle.trail_core.specs.Trails.{TrailState, IsTrail}
use Rattle.watch_lists.specs.Lists.{WatchLists}
use Rattle.conflict_analysis.proofs.Walking.{level_le}
use Rattle.lrat_log.specs.Entries.{Recorded}
use Rattle.assumption_solver.specs.Units.{IsUnitAt, HasUnit}
use Rattle.assumption_solver.specs.Steps.Searching.{HaveUnits}
use Rattle.assumption_solver.specs.Steps.Solving.{IsBearing}
use Rattle.assumption_solver.specs.Steps.Queries.{IsAllFixed}

-- the literals of the chunk, which are true at the root, have units
pub fixed_units : (n s : ℕ) (a : Entries) (w : WatchLists) (t : TrailState) (L : Recorded) (chunk : Literals) → IsBearing n s a w t L
    → IsTrail t → HaveUnits t.entries → IsAllFixed chunk t → (0 < length chunk) × ((l : Literal) → Contains chunk l → HasUnit L l)
fixed_units n s a w t L chunk h trail units fixed = (
  fixed.some,
  λ l member.
      let x = fixed.made l member in
      let u = units x.place x.within (omega (arith, level_le t x.place trail x.within, fixed.root)) in record {
        id = u.id;
        at_id = subst (λ (k : Literal). IsUnitAt L u.id k) x.lit (h.logged.units x.place u.id x.within u.reason);
      },
)
