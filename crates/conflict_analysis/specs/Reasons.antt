-- What analysis asks of a trail and an arena: reasons that imply their entries, and a conflict.
use Rattle.std.specs.Prelude.{◌≡◌, ◌≢◌, ℕ, ◌<◌, List, length, Contains}
use Rattle.cnf_core.specs.Literals.{Literal, Literals}
use Rattle.clause_arena.specs.Entries.{Entries, entry_at, IsLive}
use Rattle.trail_core.specs.declared.entry.Assigned.{Assigned}
use Rattle.trail_core.specs.declared.entry.Reason.TheVariants.{Decision, Clause as ByClause, Unit as ByUnit}
use Rattle.trail_core.specs.Trails.{TrailState, assigned_at}
use Rattle.trail_core.specs.TrueAndFalse.{IsFalse, IsFalseBefore, IsFalseAt, IsFalseBelow, IsFreeBelow}

-- the clause implies the entry's literal: it has it, and its others were false when the entry came
pub record IsReason (a : Entries) (es : List Assigned) (place reference : ℕ) : Type 0 where
  pub live : IsLive a reference
  pub member : Contains (entry_at a reference).lits (assigned_at es place).lit
  pub others : (x : Literal) → Contains (entry_at a reference).lits x → x ≢ (assigned_at es place).lit
      → IsFalseBefore es place x

-- only the first entry of a level above the root is a decision, units are at the root, and clauses
-- imply their entries
pub record IsReasoned (a : Entries) (es : List Assigned) : Type 0 where
  pub first_of_level : (j k : ℕ) → j < k → k < length es → (assigned_at es k).reason ≡ Decision
      → (assigned_at es j).level ≢ (assigned_at es k).level
  pub decisions : (k : ℕ) → k < length es → (assigned_at es k).reason ≡ Decision → 0 < (assigned_at es k).level
  pub units : (k id : ℕ) → k < length es → (assigned_at es k).reason ≡ ByUnit id → (assigned_at es k).level ≡ 0
  pub clauses : (k r : ℕ) → k < length es → (assigned_at es k).reason ≡ ByClause r → IsReason a es k r

-- where the entries of this level and those above are taken away, no live clause is false, and none
-- has one literal without value and all others false
pub record IsQuietBelow (a : Entries) (es : List Assigned) (level : ℕ) : Type 0 where
  pub none_false : (r : ℕ) → IsLive a r
      → ((x : Literal) → Contains (entry_at a r).lits x → IsFalseBelow es level x) → ⊥
  pub none_unit : (r : ℕ) (l : Literal) → IsLive a r → Contains (entry_at a r).lits l → IsFreeBelow es level l.var
      → ((x : Literal) → Contains (entry_at a r).lits x → x ≢ l → IsFalseBelow es level x) → ⊥

-- the entry's reason is a unit
pub record IsUnit (e : Assigned) : Type 0 where
  pub id : ℕ
  pub reason : e.reason ≡ ByUnit id

-- the literal is true at the root, and the entries before its own have units as reasons
pub record IsRootLiteral (es : List Assigned) (l : Literal) : Type 0 where
  pub place : ℕ
  pub within : place < length es
  pub lit : (assigned_at es place).lit ≡ l
  pub at_root : (assigned_at es place).level ≡ 0
  pub units : (k : ℕ) → k < place → IsUnit (assigned_at es k)

-- some literal of the clause is false at the level
pub record HasFalseAt (es : List Assigned) (level : ℕ) (c : Literals) : Type 0 where
  pub literal : Literal
  pub member : Contains c literal
  pub at_level : IsFalseAt es level literal

-- a live clause that is false, with a literal of the present level, which is above the root. The root
-- entries have units as reasons, and nothing was left to propagate before the level
pub record IsConflict (a : Entries) (t : TrailState) (reference : ℕ) : Type 0 where
  pub live : IsLive a reference
  pub all_false : (x : Literal) → Contains (entry_at a reference).lits x → IsFalse t.entries x
  pub at_level : HasFalseAt t.entries t.level (entry_at a reference).lits
  pub above_root : 0 < t.level
  pub root_units : (k : ℕ) → k < length t.entries → (assigned_at t.entries k).level ≡ 0 → IsUnit (assigned_at t.entries k)
  pub quiet : IsQuietBelow a t.entries t.level

-- a live clause that is false at the root
pub record IsRootConflict (a : Entries) (es : List Assigned) (reference : ℕ) : Type 0 where
  pub live : IsLive a reference
  pub all_false : (x : Literal) → Contains (entry_at a reference).lits x → IsFalseAt es 0 x
