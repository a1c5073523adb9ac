-- What a clause of an arena is under a trail.
use Rattle.std.specs.Prelude.{◌≡◌, ◌≢◌, ℕ, ◌<◌, ◌≤◌, List, length, slice_index_or, Contains, IsPermutation}
use Rattle.cnf_core.specs.Literals.{Literal, Literals, IsWithin}
use Rattle.clause_arena.specs.Entries.{Entry, Entries, no_literal, entry_at, len_of, IsLive}
use Rattle.trail_core.specs.declared.entry.Assigned.{Assigned}
use Rattle.trail_core.specs.declared.entry.Reason.TheVariants.{Clause}
use Rattle.trail_core.specs.Trails.{assigned_at, HasLiteral}
use Rattle.trail_core.specs.TrueAndFalse.{HasLiteralBy, IsFalse, IsFalseBefore, IsFalseBelow, IsFreeBelow}

-- a live clause of two or more literals
pub record IsLong (a : Entries) (r : ℕ) : Type 0 where
  pub live : IsLive a r
  pub long : 2 ≤ len_of a r

-- a clause whose variables are among 1 to n, and of which none stands in it twice
pub record IsClean (n : ℕ) (c : Literals) : Type 0 where
  pub within : (i : ℕ) → i < length c → IsWithin n (slice_index_or c i no_literal)
  pub distinct : (i j : ℕ) → i < length c → j < length c
      → (slice_index_or c i no_literal).var ≡ (slice_index_or c j no_literal).var → i ≡ j

-- each live clause of two or more literals is clean
abbrev pub AreClean : ℕ → Entries → Type 0
AreClean n a = (r : ℕ) → IsLong a r → IsClean n (entry_at a r).lits

-- one entry is the other with its literals in some order
pub record IsReorderedEntry (old new : Entry) : Type 0 where
  pub id : new.id ≡ old.id
  pub learnt : new.learnt ≡ old.learnt
  pub live : new.live ≡ old.live
  pub lits : IsPermutation old.lits new.lits

-- one arena is the other with the literals of each clause in some order
pub record IsReordered (old new : Entries) : Type 0 where
  pub count : length new ≡ length old
  pub entries : (r : ℕ) → r < length old → IsReorderedEntry (entry_at old r) (entry_at new r)

-- some literal of the clause is true
pub record HasTrue (a : Entries) (es : List Assigned) (r : ℕ) : Type 0 where
  pub lit : Literal
  pub member : Contains (entry_at a r).lits lit
  pub made : HasLiteral es lit

-- one is true by an entry of this level or a lower one
pub record HasTrueBy (a : Entries) (es : List Assigned) (r limit : ℕ) : Type 0 where
  pub lit : Literal
  pub member : Contains (entry_at a r).lits lit
  pub made : HasLiteralBy es limit lit

-- a live clause whose literals are all false
pub record IsFalsified (a : Entries) (es : List Assigned) (r : ℕ) : Type 0 where
  pub live : IsLive a r
  pub all_false : (l : Literal) → Contains (entry_at a r).lits l → IsFalse es l

-- the entry of this place had no value before it, and is the one literal of a live clause whose other
-- literals were all false by then; that clause is its reason
pub record IsForced (a : Entries) (es : List Assigned) (k : ℕ) : Type 0 where
  pub clause : ℕ
  pub reason : (assigned_at es k).reason ≡ Clause clause
  pub live : IsLive a clause
  pub member : Contains (entry_at a clause).lits (assigned_at es k).lit
  pub free : (j : ℕ) → j < k → (assigned_at es j).lit.var ≢ (assigned_at es k).lit.var
  pub others : (l : Literal) → Contains (entry_at a clause).lits l → l ≢ (assigned_at es k).lit
      → IsFalseBefore es k l

-- without the entries of a level and of those above it, no live clause of two or more literals is false,
-- and none has one literal without value and all others false
pub record IsSettledBelow (a : Entries) (es : List Assigned) (level : ℕ) : Type 0 where
  pub none_false : (r : ℕ) → IsLong a r
      → ((l : Literal) → Contains (entry_at a r).lits l → IsFalseBelow es level l) → ⊥
  pub none_unit : (r : ℕ) (u : Literal) → IsLong a r → Contains (entry_at a r).lits u
      → IsFreeBelow es level u.var
      → ((l : Literal) → Contains (entry_at a r).lits l → l ≢ u → IsFalseBelow es level l) → ⊥
