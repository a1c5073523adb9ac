-- How one list of watches is gone through.
use Rattle.std.specs.Prelude.{◌≡◌, ◌≢◌, ℕ, ◌+◌, ◌<◌, ◌≤◌, ◌⊎◌, List, length}
use Rattle.cnf_core.specs.Literals.{Literal}
use Rattle.clause_arena.specs.Entries.{Entries, len_of, literal_of}
use Rattle.trail_core.specs.declared.entry.Assigned.{Assigned}
use Rattle.trail_core.specs.declared.entry.Reason.TheVariants.{Clause}
use Rattle.trail_core.specs.Trails.{TrailState, with_entry}
use Rattle.trail_core.specs.TrueAndFalse.{IsFalse}
use Rattle.watch_lists.specs.declared.step.Step.{Step}
use Rattle.watch_lists.specs.declared.step.Step.TheVariants.{Quiet, Conflict, Memory}
use Rattle.watch_lists.specs.declared.step.Fate.{Fate}
use Rattle.watch_lists.specs.declared.step.Fate.TheVariants.{Keep, Move, Falsified, NoRoom}
use Rattle.watch_lists.specs.Clauses.{HasTrue, IsLong, IsReordered, IsFalsified}
use Rattle.watch_lists.specs.Lists.{WatchLists, HasWatchFrom, list_of}
use Rattle.watch_lists.specs.Watching.{IsReady}
use Rattle.watch_lists.specs.Propagating.{IsPropagated}

-- the place of a literal that is at one of the first two
pub record IsWatchPlace (a : Entries) (r : ℕ) (f : Literal) (place : ℕ) : Type 0 where
  pub watched : place < 2
  pub zeroth : place ≡ 0 → literal_of a r 0 ≡ f
  pub first : place ≡ 1 → literal_of a r 0 ≢ f

-- a place behind the watches, with a literal that isn't false
pub record IsOther (a : Entries) (es : List Assigned) (r k : ℕ) : Type 0 where
  pub behind : 2 ≤ k
  pub within : k < len_of a r
  pub not_false : IsFalse es (literal_of a r k) → ⊥

-- the literals behind the watches and before a place are false
pub record AreFalseBelow (a : Entries) (es : List Assigned) (r end : ℕ) : Type 0 where
  pub each : (k : ℕ) → 2 ≤ k → k < end → IsFalse es (literal_of a r k)

-- the clauses that watch a false literal have a true one, but for those from a place of its list on
pub record IsPending (a : Entries) (es : List Assigned) (w : WatchLists) (f : Literal) (start : ℕ) : Type 0 where
  pub rest : (r i : ℕ) → IsLong a r → i < 2 → literal_of a r i ≡ f → HasTrue a es r ⊎ HasWatchFrom (list_of w f) r start

-- the list of a false literal is gone through up to a place
pub record IsVisiting (a : Entries) (w : WatchLists) (t : TrailState) (f : Literal) (start : ℕ) : Type 0 where
  pub ready : IsReady a w t
  pub made_false : IsFalse t.entries f
  pub pending : IsPending a t.entries w f start

-- arena and trail are what a part of a propagation leaves
pub record IsAdvanced (a : Entries) (t : TrailState) (b : Entries) (u : TrailState) : Type 0 where
  pub arena : IsReordered a b
  pub trail : IsPropagated b t u
  pub gone : u.gone ≡ t.gone

-- what becomes of the watch at a place of the list: it stays and is done, it is taken out, or all ends there
abbrev pub FateSays : Fate → Entries → WatchLists → WatchLists → TrailState → Literal → ℕ → Type 0
FateSays Keep b w v u f start = (length (list_of v f) ≡ length (list_of w f)) × IsVisiting b v u f (start + 1)
FateSays Move b w v u f start = (length (list_of v f) + 1 ≡ length (list_of w f)) × IsVisiting b v u f start
FateSays (Falsified r) b w v u f start = IsReady b v u × IsFalsified b u.entries r
FateSays NoRoom b w v u f start = IsReady b v u

-- what becomes of a clause whose other literals are false: its last one is pushed, or is false too
abbrev pub ForceSays : Fate → TrailState → TrailState → Literal → ℕ → Type 0
ForceSays Keep t u l r = (IsFalse t.entries l → ⊥) × (u ≡ with_entry t l t.level (Clause r))
ForceSays Move t u l r = ⊥
ForceSays (Falsified s) t u l r = IsFalse t.entries l × (s ≡ r) × (u ≡ t)
ForceSays NoRoom t u l r = ⊥

-- what the walk through a list ends with
abbrev pub VisitSays : Step → Entries → WatchLists → TrailState → Literal → Type 0
VisitSays Quiet b v u f = IsVisiting b v u f (length (list_of v f))
VisitSays (Conflict r) b v u f = IsReady b v u × IsFalsified b u.entries r
VisitSays Memory b v u f = IsReady b v u
