-- What the entries of a trail make true and false, and which: those before a place, at a level, below it, up to it.
use Rattle.std.specs.Prelude.{◌≡◌, ℕ, ◌<◌, ◌≤◌, List, length}
use Rattle.cnf_core.specs.Literals.{Literal, negated}
use Rattle.trail_core.specs.declared.entry.Assigned.{Assigned}
use Rattle.trail_core.specs.Trails.{assigned_at, HasLiteral}

-- ---- true

-- an entry before this place makes the literal true
pub record HasLiteralBefore (es : List Assigned) (end : ℕ) (l : Literal) : Type 0 where
  pub place : ℕ
  pub before : place < end
  pub lit : (assigned_at es place).lit ≡ l

-- an entry of this level does
pub record HasLiteralAt (es : List Assigned) (level : ℕ) (l : Literal) : Type 0 where
  pub place : ℕ
  pub within : place < length es
  pub lit : (assigned_at es place).lit ≡ l
  pub of_level : (assigned_at es place).level ≡ level

-- an entry of a lower level does
pub record HasLiteralBelow (es : List Assigned) (level : ℕ) (l : Literal) : Type 0 where
  pub place : ℕ
  pub within : place < length es
  pub lit : (assigned_at es place).lit ≡ l
  pub below : (assigned_at es place).level < level

-- an entry of this level or a lower one does
pub record HasLiteralBy (es : List Assigned) (limit : ℕ) (l : Literal) : Type 0 where
  pub place : ℕ
  pub within : place < length es
  pub lit : (assigned_at es place).lit ≡ l
  pub level : (assigned_at es place).level ≤ limit

-- ---- false: the negation is true

abbrev pub IsFalse : List Assigned → Literal → Type 0
IsFalse es l = HasLiteral es (negated l)

abbrev pub IsFalseBefore : List Assigned → ℕ → Literal → Type 0
IsFalseBefore es end l = HasLiteralBefore es end (negated l)

abbrev pub IsFalseAt : List Assigned → ℕ → Literal → Type 0
IsFalseAt es level l = HasLiteralAt es level (negated l)

abbrev pub IsFalseBelow : List Assigned → ℕ → Literal → Type 0
IsFalseBelow es level l = HasLiteralBelow es level (negated l)

-- ---- neither

-- no entry of a lower level gives the variable a value
abbrev pub IsFreeBelow : List Assigned → ℕ → ℕ → Type 0
IsFreeBelow es level v = (k : ℕ) → k < length es → (assigned_at es k).lit.var ≡ v → level ≤ (assigned_at es k).level
