-- The decisions of a query, and what its next step is.
use Rattle.std.specs.Prelude.{◌≡◌, ◌⊎◌, ℕ, ◌+◌, ◌<◌, ◌≤◌, Option, Some, None, List, length, Contains, slice_index_or}
use Rattle.cnf_core.specs.Literals.{Literal, Literals, negated, IsWithin}
use Rattle.clause_arena.specs.Entries.{Entries, no_literal}
use Rattle.trail_core.specs.declared.entry.Assigned.{Assigned}
use Rattle.trail_core.specs.declared.entry.Reason.TheVariants.{Decision}
use Rattle.trail_core.specs.Trails.{TrailState, assigned_at, HasLiteral, IsFree, with_entry}
use Rattle.trail_core.specs.TrueAndFalse.{HasLiteralBefore, HasLiteralBy, IsFalse, IsFalseAt}
use Rattle.watch_lists.specs.Clauses.{IsFalsified}
use Rattle.watch_lists.specs.Laws.{IsComplete}
use Rattle.assumption_solver.specs.declared.query.Next.{Next}
use Rattle.assumption_solver.specs.declared.query.Next.TheVariants.{Assume, Decide, Refuted, Failed, AllFixed, Complete}
use Rattle.assumption_solver.specs.declared.query.Course.{Course}
use Rattle.assumption_solver.specs.declared.query.Course.TheVariants.{Conflict, Refuted as CourseRefuted, Failed as CourseFailed, AllFixed as CourseFixed, Complete as CourseComplete}
use Rattle.assumption_solver.specs.declared.query.Split.{Split}
use Rattle.assumption_solver.specs.declared.query.Split.TheVariants.{Made as SplitMade, Open as SplitOpen, AllFixed as SplitAllFixed}
use Rattle.assumption_solver.specs.declared.query.Sweep.{Sweep}
use Rattle.assumption_solver.specs.Steps.Searching.{HaveUnits}

-- a literal of the chunk was made false, at the first level or at the root
pub record HasSplit (es : List Assigned) (chunk : Literals) : Type 0 where
  pub literal : Literal
  pub member : Contains chunk literal
  pub made : HasLiteralBy es 1 (negated literal)

-- each decision is an assumption, or comes after all of them; above the root the chunk is split
pub record IsGuided (assume chunk : Literals) (t : TrailState) : Type 0 where
  pub assumptions : (k : ℕ) → k < length t.entries → (assigned_at t.entries k).reason ≡ Decision
      → Contains assume (assigned_at t.entries k).lit ⊎ ((x : Literal) → Contains assume x → HasLiteralBefore t.entries k x)
  pub split : 0 < t.level → 0 < length chunk → HasSplit t.entries chunk

-- an assumption that is false at the root
pub record IsRefuted (assume : Literals) (t : TrailState) (l : Literal) : Type 0 where
  pub member : Contains assume l
  pub made : IsFalseAt t.entries 0 l

-- an assumption that is false above the root, while those decided so far are assumptions alone
pub record IsFailed (assume : Literals) (t : TrailState) (l : Literal) : Type 0 where
  pub member : Contains assume l
  pub made_false : IsFalse t.entries l
  pub above : (k : ℕ) → k < length t.entries → (assigned_at t.entries k).lit.var ≡ l.var → 0 < (assigned_at t.entries k).level

-- all literals of the chunk are true at the root
pub record IsAllFixed (chunk : Literals) (t : TrailState) : Type 0 where
  pub some : 0 < length chunk
  pub root : t.level ≡ 0
  pub made : (x : Literal) → Contains chunk x → HasLiteral t.entries x

-- every variable has a value, all assumptions are true, and some literal of the chunk is false
pub record IsFound (assume chunk : Literals) (t : TrailState) : Type 0 where
  pub complete : IsComplete t
  pub assumed : (x : Literal) → Contains assume x → HasLiteral t.entries x
  pub split : 0 < length chunk → HasSplit t.entries chunk

-- what a sweep over the first n assumptions has noted: the first that is false at the root, or that all are true
abbrev pub SweptSays : Option Literal → Literals → TrailState → ℕ → Type 0
SweptSays None assume t n = (k : ℕ) → k < n → HasLiteral t.entries (slice_index_or assume k no_literal)
SweptSays (Some l) assume t n = IsRefuted assume t l

-- so far has the sweep come
pub record IsSwept (assume : Literals) (t : TrailState) (s : Sweep) : Type 0 where
  pub fits : s.passed ≤ length assume
  pub says : SweptSays s.refuted assume t s.passed

-- a literal that may be decided
pub record MayDecide (assume chunk : Literals) (t : TrailState) (l : Literal) : Type 0 where
  pub within : IsWithin t.vars l
  pub free : IsFree t.entries l.var
  pub guided : IsGuided assume chunk (with_entry t l (t.level + 1) Decision)

-- what the next step of a quiet search is
abbrev pub NextSays : Next → Literals → Literals → TrailState → Type 0
NextSays (Assume l) assume chunk t = MayDecide assume chunk t l
NextSays (Decide l) assume chunk t = MayDecide assume chunk t l
NextSays (Refuted l) assume chunk t = IsRefuted assume t l
NextSays (Failed l) assume chunk t = IsFailed assume t l
NextSays AllFixed assume chunk t = IsAllFixed chunk t
NextSays Complete assume chunk t = IsFound assume chunk t

-- where a sweep ends: at the next step, or behind the last assumption
abbrev pub SweepSays : Option Next → Literals → Literals → TrailState → Sweep → Type 0
SweepSays (Some next) assume chunk t s = NextSays next assume chunk t × IsSwept assume t s
SweepSays None assume chunk t s = IsSwept assume t s × (s.passed ≡ length assume)

-- how the chunk stands
abbrev pub SplitSays : Split → Literals → TrailState → Type 0
SplitSays SplitMade chunk t = 0 < length chunk → HasSplit t.entries chunk
SplitSays (SplitOpen l) chunk t = (0 < length chunk) × Contains chunk l × IsFree t.entries l.var × (t.level ≡ 0)
SplitSays SplitAllFixed chunk t = IsAllFixed chunk t

-- where the search came by propagations and decisions
abbrev pub CourseSays : Course → Literals → Literals → Entries → TrailState → Type 0
CourseSays (Conflict r) assume chunk a t = IsFalsified a t.entries r
CourseSays (CourseRefuted l) assume chunk a t = IsRefuted assume t l × HaveUnits t.entries
CourseSays (CourseFailed l) assume chunk a t = IsFailed assume t l
CourseSays CourseFixed assume chunk a t = IsAllFixed chunk t × HaveUnits t.entries
CourseSays CourseComplete assume chunk a t = IsFound assume chunk t × HaveUnits t.entries
