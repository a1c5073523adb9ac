-- What propagation does.
use Rattle.std.specs.Prelude.{◌≡◌, ℕ, ◌<◌, ◌≤◌, length, take}
use Rattle.clause_arena.specs.Entries.{Entries}
use Rattle.trail_core.specs.Trails.{TrailState, assigned_at}
use Rattle.watch_lists.specs.declared.step.Step.{Step}
use Rattle.watch_lists.specs.declared.step.Step.TheVariants.{Quiet, Conflict, Memory}
use Rattle.watch_lists.specs.Clauses.{IsFalsified, IsForced}

-- forced literals were pushed at the present level, and perhaps more entries count as propagated
pub record IsPropagated (a : Entries) (old new : TrailState) : Type 0 where
  pub grown : length old.entries ≤ length new.entries
  pub front : take (length old.entries) new.entries ≡ old.entries
  pub forced : (k : ℕ) → length old.entries ≤ k → k < length new.entries → IsForced a new.entries k
  pub levels : (k : ℕ) → length old.entries ≤ k → k < length new.entries → (assigned_at new.entries k).level ≡ old.level
  pub gone : old.gone ≤ new.gone
  pub level : new.level ≡ old.level
  pub vars : new.vars ≡ old.vars

-- what an answer says: nothing is left to propagate, or the clause is falsified
abbrev pub StepSays : Step → Entries → TrailState → Type 0
StepSays Quiet a t = t.gone ≡ length t.entries
StepSays (Conflict r) a t = IsFalsified a t.entries r
StepSays Memory a t = Unit {0}
