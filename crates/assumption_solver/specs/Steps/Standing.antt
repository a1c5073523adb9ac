-- Clauses that a search must not lose: the formula's, and those that were learnt in the present epoch. Each stands as
-- a live clause that is a part of it, or has a literal that is true at the root.
use Rattle.std.specs.Prelude.{◌≡◌, ◌⊎◌, ℕ, ◌<◌, Bool, true, false, List, length, drop, Contains}
use Rattle.cnf_core.specs.Literals.{Literal, Literals, negated}
use Rattle.cnf_core.specs.Epochs.{epoch_start}
use Rattle.clause_arena.specs.Entries.{Entry, Entries}
use Rattle.trail_core.specs.declared.entry.Assigned.{Assigned}
use Rattle.trail_core.specs.Trails.{assigned_at}
use Rattle.lrat_lines.specs.Sets.{IsSubset, IsSameSet}

-- a live clause, learnt or not, is a part of this one
pub record HasPart (a : Entries) (learnt : Bool) (d : Literals) : Type 0 where
  pub entry : Entry
  pub present : Contains a entry
  pub live : entry.live ≡ true
  pub kind : entry.learnt ≡ learnt
  pub part : IsSubset entry.lits d

-- a literal of the clause is true at the root
pub record HasRootTrue (es : List Assigned) (d : Literals) : Type 0 where
  pub literal : Literal
  pub member : Contains d literal
  pub place : ℕ
  pub within : place < length es
  pub lit : (assigned_at es place).lit ≡ literal
  pub at_root : (assigned_at es place).level ≡ 0

abbrev pub Stands : Entries → List Assigned → Bool → Literals → Type 0
Stands a es learnt d = HasPart a learnt d ⊎ HasRootTrue es d

-- the clause has a literal and its negation
pub record IsTautology (d : Literals) : Type 0 where
  pub literal : Literal
  pub member : Contains d literal
  pub other : Contains d (negated literal)

abbrev pub KeepsInputs : Entries → List Assigned → List Literals → Type 0
KeepsInputs a es inputs = (d : Literals) → Contains inputs d → IsTautology d ⊎ Stands a es false d

abbrev pub KeepsLearnt : Entries → List Assigned → List Literals → ℕ → Type 0
KeepsLearnt a es learnt epoch = (d : Literals) → Contains (drop (epoch_start epoch) learnt) d → Stands a es true d

-- a live clause under the same id, of the same literals
pub record HasEntry (b : Entries) (e : Entry) : Type 0 where
  pub entry : Entry
  pub present : Contains b entry
  pub live : entry.live ≡ true
  pub id : entry.id ≡ e.id
  pub kind : entry.learnt ≡ e.learnt
  pub same : IsSameSet e.lits entry.lits

-- each live clause of the second arena is one of the first
abbrev pub Covers : Entries → Entries → Type 0
Covers b a = (e : Entry) → Contains a e → e.live ≡ true → HasEntry b e

-- the second arena has live clauses of the first alone, and all that weren't learnt
pub record IsThinned (a b : Entries) : Type 0 where
  pub from : (e : Entry) → Contains b e → e.live ≡ true → Contains a e
  pub kept : (e : Entry) → Contains a e → e.live ≡ true → e.learnt ≡ false → Contains b e
