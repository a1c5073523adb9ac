-- The walk that learns a clause: from the conflict down to the first unique implication point.
use Rattle.std.specs.Prelude.{◌≡◌, ◌≢◌, ◌⊎◌, ℕ, ◌+◌, ◌==◌, ◌&&◌, ◌<◌, ◌≤◌, ◌^◌, Bool, true, false, List, [], ◌∷◌, ◌++◌, length, reverse}
use Rattle.std.specs.Prelude.{Contains, AllPairs}
use Rattle.cnf_core.specs.Literals.{Literal, Literals, negated}
use Rattle.clause_arena.specs.Entries.{Entries, entry_at, IsLive}
use Rattle.trail_core.specs.declared.entry.Assigned.{Assigned}
use Rattle.trail_core.specs.Trails.{TrailState, assigned_at, IsTrail}
use Rattle.lrat_lines.specs.Propagation.{Known}
use Rattle.conflict_analysis.specs.Members.{IsMapOf, IsProof}
use Rattle.trail_core.specs.TrueAndFalse.{IsFalse, IsFalseBefore, IsFalseAt}
use Rattle.conflict_analysis.specs.Reasons.{IsReasoned, IsUnit}
use Rattle.conflict_analysis.specs.Answers.{IsHighest}
use Rattle.conflict_analysis.specs.Steps.Walks.{WalkView, is_seen, IsGrown, AreTakeable, count_below}
use Rattle.conflict_analysis.specs.Steps.Resolvents.{Derives, IsLeft}

-- whether the entry at this place is of the level, and its variable was met
abbrev pub is_open : List Assigned → ℕ → (ℕ → Bool) → ℕ → Bool
is_open es level seen k = seen (assigned_at es k).lit.var && ((assigned_at es k).level == level)

-- how many of the first entries are
abbrev pub open_count : List Assigned → ℕ → (ℕ → Bool) → ℕ → ℕ
open_count es level seen n = count_below (is_open es level seen) n

-- the literal was met, and is false between the root and the level
pub record IsLower (es : List Assigned) (level : ℕ) (seen : ℕ → Bool) (x : Literal) : Type 0 where
  pub place : ℕ
  pub within : place < length es
  pub lit : (assigned_at es place).lit ≡ negated x
  pub met : seen (assigned_at es place).lit.var ≡ true
  pub above_root : 0 < (assigned_at es place).level
  pub below : (assigned_at es place).level < level

-- the literal was met, and is false at the root
pub record IsRoot (es : List Assigned) (seen : ℕ → Bool) (x : Literal) : Type 0 where
  pub place : ℕ
  pub within : place < length es
  pub lit : (assigned_at es place).lit ≡ negated x
  pub met : seen (assigned_at es place).lit.var ≡ true
  pub at_root : (assigned_at es place).level ≡ 0

-- what was met is sorted by level, and those of the present level before this place are counted
pub record IsSorted (t : TrailState) (end : ℕ) (w : WalkView) : Type 0 where
  pub above_root : 0 < t.level
  pub lits_only : (x : Literal) → Contains w.lits x → IsLower t.entries t.level (is_seen w) x
  pub lits_all : (k : ℕ) → k < length t.entries → is_seen w (assigned_at t.entries k).lit.var ≡ true
      → 0 < (assigned_at t.entries k).level → (assigned_at t.entries k).level < t.level
      → Contains w.lits (negated (assigned_at t.entries k).lit)
  pub once : AllPairs (λ k l. k.var ≢ l.var) w.lits
  pub roots_only : (x : Literal) → Contains w.roots x → IsRoot t.entries (is_seen w) x
  pub roots_all : (k : ℕ) → k < length t.entries → is_seen w (assigned_at t.entries k).lit.var ≡ true
      → (assigned_at t.entries k).level ≡ 0 → Contains w.roots (negated (assigned_at t.entries k).lit)
  pub counted : w.count ≡ open_count t.entries t.level (is_seen w) end

-- the literal is new and may be taken up
pub record CanTake (t : TrailState) (w : WalkView) (x : Literal) : Type 0 where
  pub end : ℕ
  pub within : end ≤ length t.entries
  pub short : end < 2 ^ 32
  pub trail : IsTrail t
  pub size : length w.stamps ≡ t.vars + 1
  pub sorted : IsSorted t end w
  pub false_before : IsFalseBefore t.entries end x
  pub unseen : is_seen w x.var ≡ false

-- it was taken up
pub record IsTaken (t : TrailState) (x : Literal) (old new : WalkView) : Type 0 where
  pub hints : new.hints ≡ old.hints
  pub grown : IsGrown (x ∷ []) (is_seen old) (is_seen new)
  pub sorted : (end : ℕ) → end ≤ length t.entries → IsSorted t end old → IsFalseBefore t.entries end x → IsSorted t end new

-- the clause may be added to what was met
pub record CanAdd (a : Entries) (t : TrailState) (w : WalkView) (reference : ℕ) : Type 0 where
  pub end : ℕ
  pub within : end ≤ length t.entries
  pub short : end < 2 ^ 32
  pub trail : IsTrail t
  pub size : length w.stamps ≡ t.vars + 1
  pub sorted : IsSorted t end w
  pub live : IsLive a reference
  pub low : (x : Literal) → Contains (entry_at a reference).lits x → x.var ≤ t.vars
  pub takeable : AreTakeable t.entries end (is_seen w) (entry_at a reference).lits

-- it was added
pub record IsAdded (a : Entries) (t : TrailState) (reference : ℕ) (old new : WalkView) : Type 0 where
  pub hints : new.hints ≡ old.hints ++ (entry_at a reference).id ∷ []
  pub grown : IsGrown (entry_at a reference).lits (is_seen old) (is_seen new)
  pub sorted : (end : ℕ) → end ≤ length t.entries → IsSorted t end old
      → AreTakeable t.entries end (is_seen old) (entry_at a reference).lits → IsSorted t end new

-- the entries from this place on are resolved
pub record IsWalked (a : Entries) (t : TrailState) (end : ℕ) (w : WalkView) : Type 0 where
  pub within : end ≤ length t.entries
  pub sorted : IsSorted t end w
  pub some : 0 < w.count
  pub derives : (known : Known) → IsMapOf a t.entries known
      → Derives known t.entries (length t.entries) (IsLeft t.entries end (is_seen w)) (reverse w.hints)

-- what the walk stands on
pub record CanWalk (a : Entries) (t : TrailState) (w : WalkView) : Type 0 where
  pub trail : IsTrail t
  pub short : length t.entries < 2 ^ 32
  pub size : length w.stamps ≡ t.vars + 1
  pub reasons : IsReasoned a t.entries

-- the entry at this place is the next one to resolve, and another of its level is left
pub record CanResolve (a : Entries) (t : TrailState) (w : WalkView) (place : ℕ) : Type 0 where
  pub can_walk : CanWalk a t w
  pub walked : IsWalked a t (place + 1) w
  pub met : is_seen w (assigned_at t.entries place).lit.var ≡ true
  pub another : 1 < w.count

-- the first unique implication point is found: its negation and the gathered literals are what is left,
-- with root literals
pub record IsFound (a : Entries) (t : TrailState) (first : Literal) (w : WalkView) : Type 0 where
  pub first_at : IsFalseAt t.entries t.level first
  pub lits_only : (x : Literal) → Contains w.lits x → IsLower t.entries t.level (is_seen w) x
  pub once : AllPairs (λ k l. k.var ≢ l.var) w.lits
  pub roots_only : (x : Literal) → Contains w.roots x → IsRoot t.entries (is_seen w) x
  pub derives : (known : Known) → IsMapOf a t.entries known
      → Derives known t.entries (length t.entries) (λ x. Contains (first ∷ w.lits) x ⊎ Contains w.roots x) (reverse w.hints)

-- the literal is false at the root, by an entry whose reason is a unit
pub record IsFalseByUnit (es : List Assigned) (x : Literal) : Type 0 where
  pub place : ℕ
  pub within : place < length es
  pub lit : (assigned_at es place).lit ≡ negated x
  pub at_root : (assigned_at es place).level ≡ 0
  pub unit : IsUnit (assigned_at es place)

-- from these hints to those, the root literals are resolved away
abbrev pub ResolvesRoots : List Assigned → Literals → List ℕ → List ℕ → Type 0
ResolvesRoots es roots old new = (a : Entries) (known : Known) (own : Literals) → IsMapOf a es known
    → Derives known es (length es) (λ x. Contains own x ⊎ Contains roots x) (reverse old)
    → Derives known es (length es) (Contains own) (reverse new)

-- from these hints to those, the literals of a clause but this one are resolved away: they are false at the root
-- before the top
abbrev pub ResolvesOthers : List Assigned → Literals → Literal → List ℕ → List ℕ → Type 0
ResolvesOthers es c own old new = (a : Entries) (known : Known) (top : ℕ) → IsMapOf a es known → top ≤ length es
    → ((x : Literal) → Contains c x → x ≢ own → IsFalseBefore es top x)
    → Derives known es top (Contains c) (reverse old) → Derives known es top (Contains (own ∷ [])) (reverse new)

-- the literal is that of an entry of the root, and the entries before it have units as reasons
pub record CanShow (a : Entries) (t : TrailState) (l : Literal) (place : ℕ) : Type 0 where
  pub trail : IsTrail t
  pub reasons : IsReasoned a t.entries
  pub within : place < length t.entries
  pub lit : (assigned_at t.entries place).lit ≡ l
  pub at_root : (assigned_at t.entries place).level ≡ 0
  pub units : (k : ℕ) → k < place → IsUnit (assigned_at t.entries k)

-- the hints show the literal as a unit clause
abbrev pub ShowsLiteral : Entries → List Assigned → Literal → List ℕ → Type 0
ShowsLiteral a es l hints = (known : Known) → IsMapOf a es known → IsProof known hints (l ∷ [])

-- what the walk has gathered may be learnt
pub record CanLearn (t : TrailState) (first : Literal) (w : WalkView) : Type 0 where
  pub trail : IsTrail t
  pub gathered : (x : Literal) → Contains w.lits x → IsFalse t.entries x
  pub units : (x : Literal) → Contains w.roots x → IsFalseByUnit t.entries x

-- it is: the clause, the level to go back to, and the hints without root literals
pub record IsDerived (t : TrailState) (first : Literal) (w : WalkView) (lits : Literals) (back : ℕ) (hints : List ℕ) : Type 0 where
  pub clause : lits ≡ first ∷ w.lits
  pub highest : IsHighest t.entries w.lits back
  pub derives : (a : Entries) (known : Known) (own : Literals) → IsMapOf a t.entries known
      → Derives known t.entries (length t.entries) (λ x. Contains own x ⊎ Contains w.roots x) (reverse w.hints)
      → Derives known t.entries (length t.entries) (Contains own) hints
