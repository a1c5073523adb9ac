-- What a walk over reasons has gathered, and how it grows.
use Rattle.std.specs.Prelude.{◌≡◌, ◌⊎◌, ℕ, zero, suc, ◌+◌, ◌==◌, ◌<◌, ◌≤◌, Bool, true, false, if◌then◌else◌, List, [], Contains}
use Rattle.std.specs.Prelude.{slice_index}
use Rattle.cnf_core.specs.Literals.{Literal, Literals}
use Rattle.trail_core.specs.declared.entry.Assigned.{Assigned}
use Rattle.trail_core.specs.Trails.{assigned_at}
use Rattle.trail_core.specs.TrueAndFalse.{IsFalseBefore}

-- the stamps by variable with the present one, the literals of the clause to come, the root literals,
-- the ids so far, and how many met literals are left to look at
pub record WalkView : Type 0 where
  pub stamps : List ℕ
  pub stamp : ℕ
  pub lits : Literals
  pub roots : Literals
  pub hints : List ℕ
  pub count : ℕ

-- whether the variable was met
abbrev pub is_seen : WalkView → ℕ → Bool
is_seen w v = slice_index w.stamps v == w.stamp

-- no stamp is above the present one
abbrev pub IsStamped : List ℕ → ℕ → Type 0
IsStamped stamps stamp = (v : ℕ) → slice_index stamps v ≤ stamp

-- a walk that begins: nothing is met or gathered
pub record IsStarted (w : WalkView) : Type 0 where
  pub unseen : (v : ℕ) → is_seen w v ≡ false
  pub no_lits : w.lits ≡ []
  pub no_roots : w.roots ≡ []
  pub no_hints : w.hints ≡ []
  pub no_count : w.count ≡ 0

-- one of the literals has the variable
pub record HasVar (xs : Literals) (v : ℕ) : Type 0 where
  pub literal : Literal
  pub member : Contains xs literal
  pub var : literal.var ≡ v

-- the variables of these literals were met too, and no others
pub record IsGrown (xs : Literals) (before after : ℕ → Bool) : Type 0 where
  pub kept : (v : ℕ) → before v ≡ true → after v ≡ true
  pub marked : (x : Literal) → Contains xs x → after x.var ≡ true
  pub only : (v : ℕ) → after v ≡ true → (before v ≡ true) ⊎ HasVar xs v

-- each literal of the clause was met, or is false before this place
abbrev pub AreTakeable : List Assigned → ℕ → (ℕ → Bool) → Literals → Type 0
AreTakeable es end seen c = (x : Literal) → Contains c x → (seen x.var ≡ true) ⊎ IsFalseBefore es end x

-- the last place before the end whose variable was met
pub record IsLastSeen (es : List Assigned) (seen : ℕ → Bool) (end place : ℕ) : Type 0 where
  pub before : place < end
  pub met : seen (assigned_at es place).lit.var ≡ true
  pub none_after : (k : ℕ) → place < k → k < end → seen (assigned_at es k).lit.var ≡ false

-- some place before the end
pub record HasSeen (es : List Assigned) (seen : ℕ → Bool) (end : ℕ) : Type 0 where
  pub place : ℕ
  pub before : place < end
  pub met : seen (assigned_at es place).lit.var ≡ true

-- how many of the first places have a property
unfoldable pub count_below : (ℕ → Bool) → ℕ → ℕ
count_below has zero = 0
count_below has (suc n) = count_below has n + (if has n then 1 else 0)
