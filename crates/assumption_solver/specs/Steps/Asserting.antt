-- A learnt clause after the way back: its first literal is to be made true.
use Rattle.std.specs.Prelude.{◌≡◌, ◌≢◌, ℕ, ◌<◌, List, ◌∷◌, length, slice_index_or, Contains, AllPairs}
use Rattle.cnf_core.specs.Literals.{Literal, Literals, AreWithin}
use Rattle.clause_arena.specs.Entries.{no_literal}
use Rattle.trail_core.specs.declared.entry.Assigned.{Assigned}
use Rattle.trail_core.specs.Trails.{TrailState, assigned_at, IsFree}
use Rattle.trail_core.specs.TrueAndFalse.{IsFalse}
use Rattle.conflict_analysis.specs.Reasons.{HasFalseAt}

-- its first literal has no value, and the others are false, one of them at the present level if that is
-- above the root
pub record IsUnitNow (t : TrailState) (lits : Literals) : Type 0 where
  pub first : Literal
  pub others : Literals
  pub is : lits ≡ first ∷ others
  pub free : IsFree t.entries first.var
  pub others_false : (x : Literal) → Contains others x → IsFalse t.entries x
  pub reached : 0 < t.level → HasFalseAt t.entries t.level others
  pub each_once : AllPairs (λ k l. k.var ≢ l.var) lits
  pub within : AreWithin t.vars lits

-- an entry gives the literal of this place a value at the level
pub record HasLevelAt (es : List Assigned) (lits : Literals) (i n : ℕ) : Type 0 where
  pub place : ℕ
  pub within : place < length es
  pub var : (assigned_at es place).lit.var ≡ (slice_index_or lits i no_literal).var
  pub level : (assigned_at es place).level ≡ n

-- a place behind the first. Where the literal of some such place has the level, that of this one has it
pub record IsSecond (es : List Assigned) (lits : Literals) (level second : ℕ) : Type 0 where
  pub behind : 0 < second
  pub within : second < length lits
  pub has_level : (i k : ℕ) → 0 < i → i < length lits → HasLevelAt es lits i level
      → k < length es → (assigned_at es k).lit.var ≡ (slice_index_or lits second no_literal).var → (assigned_at es k).level ≡ level
