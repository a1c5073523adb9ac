-- A trail: which literals were made true, in which order, at which level, and why.
use Rattle.std.specs.Prelude.{◌≡◌, ℕ, ◌+◌, ◌-◌, ◌<◌, ◌≤◌, ◌^◌, ℤ, pos, negsuc, min, List, [], ◌∷◌, ◌++◌, length, take, slice_index_or}
use Rattle.std.specs.Prelude.{slice_set, false, if◌then◌else◌}
use Rattle.cnf_core.specs.Literals.{Literal, IsWithin}
use Rattle.trail_core.specs.declared.entry.Assigned.{Assigned}
use Rattle.trail_core.specs.declared.entry.Reason.{Reason}
use Rattle.trail_core.specs.declared.entry.Reason.TheVariants.{Decision, Unit as ByUnit}

-- the entries in the order of their coming, how many of the first were propagated, the present level,
-- and for how many variables the trail was made
pub record TrailState : Type 0 where
  pub entries : List Assigned
  pub gone : ℕ
  pub level : ℕ
  pub vars : ℕ

-- what reads give past the end
abbrev pub no_entry : Assigned
no_entry = record { lit = record { var = 0; positive = false }; level = 0; reason = Decision }

abbrev pub assigned_at : List Assigned → ℕ → Assigned
assigned_at es k = slice_index_or es k no_entry

-- some entry makes the literal true
pub record HasLiteral (es : List Assigned) (l : Literal) : Type 0 where
  pub place : ℕ
  pub within : place < length es
  pub lit : (assigned_at es place).lit ≡ l

-- no entry gives the variable a value
abbrev pub IsFree : List Assigned → ℕ → Type 0
IsFree es v = (k : ℕ) → k < length es → (assigned_at es k).lit.var ≡ v → ⊥

-- some entry gives the variable a value
pub record HasVariable (es : List Assigned) (v : ℕ) : Type 0 where
  pub place : ℕ
  pub within : place < length es
  pub var : (assigned_at es place).lit.var ≡ v

-- the levels rise along the trail, from 0 or 1 and by at most 1, to the present level
pub record IsLeveled (es : List Assigned) (level : ℕ) : Type 0 where
  pub first : 0 < length es → (assigned_at es 0).level ≤ 1
  pub steps : (k : ℕ) → k + 1 < length es → (assigned_at es (k + 1)).level ≤ (assigned_at es k).level + 1
  pub rises : (j k : ℕ) → j ≤ k → k < length es → (assigned_at es j).level ≤ (assigned_at es k).level
  pub top : (k : ℕ) → k + 1 ≡ length es → (assigned_at es k).level ≡ level
  pub empty : length es ≡ 0 → level ≡ 0

-- what holds of every trail
pub record IsTrail (t : TrailState) : Type 0 where
  pub vars_limit : t.vars ≤ 2 ^ 20
  pub within : (k : ℕ) → k < length t.entries → IsWithin t.vars (assigned_at t.entries k).lit
  pub distinct : (j k : ℕ) → j < length t.entries → k < length t.entries
      → (assigned_at t.entries j).lit.var ≡ (assigned_at t.entries k).lit.var → j ≡ k
  pub leveled : IsLeveled t.entries t.level
  pub gone : t.gone ≤ length t.entries
  pub few : length t.entries ≤ t.vars

-- the trail without entries
abbrev pub empty_trail : ℕ → TrailState
empty_trail vars = record { entries = []; gone = 0; level = 0; vars = vars }

-- the trail with one entry more, at a level that becomes the present one
abbrev pub with_entry : TrailState → Literal → ℕ → Reason → TrailState
with_entry t l level reason =
    record t { entries = t.entries ++ record { lit = l; level = level; reason = reason } ∷ []; level = level }

-- the trail with the reason of one entry set
abbrev pub with_root : TrailState → ℕ → ℕ → TrailState
with_root t k id = record t { entries = slice_set t.entries k (record (assigned_at t.entries k) { reason = ByUnit id }) }

-- the trail without the entries of levels above one that it has
pub record IsBacktracked (target : ℕ) (old new : TrailState) : Type 0 where
  pub fits : length new.entries ≤ length old.entries
  pub front : new.entries ≡ take (length new.entries) old.entries
  pub kept : (k : ℕ) → k < length new.entries → (assigned_at old.entries k).level ≤ target
  pub removed : (k : ℕ) → length new.entries ≤ k → k < length old.entries → target < (assigned_at old.entries k).level
  pub gone : new.gone ≡ min old.gone (length new.entries)
  pub level : new.level ≡ target
  pub vars : new.vars ≡ old.vars

-- the sign of a value: 1 for true and -1 for false
abbrev pub sign_of : Literal → ℤ
sign_of l = if l.positive then pos 1 else negsuc 0

-- the values of the variables 1 to n, 0 where there is none
pub record AreValues (vars : ℕ) (es : List Assigned) (signs : List ℤ) : Type 0 where
  pub count : length signs ≡ vars
  pub valued : (k : ℕ) → k < length es
      → slice_index_or signs ((assigned_at es k).lit.var - 1) (pos 0) ≡ sign_of (assigned_at es k).lit
  pub free : (v : ℕ) → 0 < v → v ≤ vars → IsFree es v → slice_index_or signs (v - 1) (pos 0) ≡ pos 0

-- the least variable without a value
pub record IsFirstFree (t : TrailState) (v : ℕ) : Type 0 where
  pub within : (0 < v) × (v ≤ t.vars)
  pub free : IsFree t.entries v
  pub below : (u : ℕ) → 0 < u → u < v → HasVariable t.entries u
