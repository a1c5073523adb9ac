-- The walk that follows reasons down to decisions: for the core of a literal, and for a root conflict.
use Rattle.std.specs.Prelude.{◌≡◌, ◌≢◌, ◌⊎◌, ℕ, ◌+◌, ◌<◌, ◌≤◌, Bool, true, List, [], ◌∷◌, ◌++◌, length, reverse, Contains, AllPairs}
use Rattle.cnf_core.specs.Literals.{Literal, Literals, negated}
use Rattle.clause_arena.specs.Entries.{Entries, entry_at, IsLive}
use Rattle.trail_core.specs.declared.entry.Assigned.{Assigned}
use Rattle.trail_core.specs.declared.entry.Reason.TheVariants.{Decision}
use Rattle.trail_core.specs.Trails.{TrailState, assigned_at, IsTrail}
use Rattle.lrat_lines.specs.Propagation.{Known}
use Rattle.conflict_analysis.specs.Members.{IsMapOf}
use Rattle.conflict_analysis.specs.Reasons.{IsReasoned}
use Rattle.conflict_analysis.specs.Steps.Walks.{WalkView, is_seen, IsGrown, AreTakeable, count_below}
use Rattle.conflict_analysis.specs.Steps.Resolvents.{Derives, IsLeft}

-- whether the variable of the entry at this place was met
abbrev pub is_met : List Assigned → (ℕ → Bool) → ℕ → Bool
is_met es seen k = seen (assigned_at es k).lit.var

-- those before this place are counted: they are left to look at
abbrev pub IsCounted : List Assigned → ℕ → WalkView → Type 0
IsCounted es end w = w.count ≡ count_below (is_met es (is_seen w)) end

-- the clause may be marked: it is live, its variables have stamps, and its literals that were not met are
-- false before a place
pub record CanMark (a : Entries) (t : TrailState) (w : WalkView) (reference : ℕ) : Type 0 where
  pub end : ℕ
  pub within : end ≤ length t.entries
  pub trail : IsTrail t
  pub counted : IsCounted t.entries end w
  pub live : IsLive a reference
  pub low : (x : Literal) → Contains (entry_at a reference).lits x → x.var < length w.stamps
  pub takeable : AreTakeable t.entries end (is_seen w) (entry_at a reference).lits

-- its variables were met, those that are new were counted, and its id is the last hint
pub record IsMarked (a : Entries) (t : TrailState) (reference : ℕ) (old new : WalkView) : Type 0 where
  pub hints : new.hints ≡ old.hints ++ (entry_at a reference).id ∷ []
  pub lits : new.lits ≡ old.lits
  pub grown : IsGrown (entry_at a reference).lits (is_seen old) (is_seen new)
  pub counted : (end : ℕ) → end ≤ length t.entries → IsCounted t.entries end old
      → AreTakeable t.entries end (is_seen old) (entry_at a reference).lits → IsCounted t.entries end new

-- the literal is the negation of a decision of this level or a lower one
pub record IsLowDecision (es : List Assigned) (bound : ℕ) (x : Literal) : Type 0 where
  pub place : ℕ
  pub within : place < length es
  pub reason : (assigned_at es place).reason ≡ Decision
  pub lit : x ≡ negated (assigned_at es place).lit
  pub low : (assigned_at es place).level ≤ bound

-- the entries between this place and the top are resolved away, but for the decisions: these are
-- gathered, beside literals that were there, none of a variable before the place and each variable once.
-- All that was met is of this level or a lower one
pub record IsTraced (a : Entries) (es : List Assigned) (top bound : ℕ) (own : Literals) (end : ℕ) (w : WalkView) : Type 0 where
  pub within : end ≤ top
  pub low : (k : ℕ) → k < length es → is_seen w (assigned_at es k).lit.var ≡ true → (assigned_at es k).level ≤ bound
  pub drawn : (x : Literal) → Contains w.lits x → Contains own x ⊎ IsLowDecision es bound x
  pub all_own : (x : Literal) → Contains own x → Contains w.lits x
  pub past : (x : Literal) (k : ℕ) → Contains w.lits x → k < end → (assigned_at es k).lit.var ≢ x.var
  pub once : AllPairs (λ k l. k.var ≢ l.var) w.lits
  pub derives : (known : Known) → IsMapOf a es known
      → Derives known es top (λ x. Contains w.lits x ⊎ IsLeft es end (is_seen w) x) (reverse w.hints)

-- what tracing stands on
pub record CanTrace (a : Entries) (t : TrailState) (w : WalkView) : Type 0 where
  pub trail : IsTrail t
  pub size : length w.stamps ≡ t.vars + 1
  pub reasons : IsReasoned a t.entries

-- the entry at this place was met, and it and those before it are left to look at
pub record CanVisit (a : Entries) (t : TrailState) (w : WalkView) (place : ℕ) : Type 0 where
  pub can_trace : CanTrace a t w
  pub within : place < length t.entries
  pub met : is_seen w (assigned_at t.entries place).lit.var ≡ true
  pub counted : IsCounted t.entries (place + 1) w

-- an entry that was met is resolved away or gathered
abbrev pub IsVisited : Entries → List Assigned → ℕ → WalkView → WalkView → Type 0
IsVisited a es place old new = (top bound : ℕ) (own : Literals) → top ≤ length es
    → IsTraced a es top bound own (place + 1) old → IsTraced a es top bound own place new

-- the walk from the top down to the first entry is done
abbrev pub IsAllTraced : Entries → List Assigned → ℕ → WalkView → WalkView → Type 0
IsAllTraced a es top old new = (bound : ℕ) (own : Literals)
    → IsTraced a es top bound own top old → IsTraced a es top bound own 0 new

-- the entry at this place makes the literal false
pub record IsFalseBy (es : List Assigned) (place : ℕ) (x : Literal) : Type 0 where
  pub within : place < length es
  pub lit : (assigned_at es place).lit ≡ negated x

-- a walk that has begun with the negation of a literal that is false: just its variable was met
pub record IsCoreBegun (lit : Literal) (w : WalkView) : Type 0 where
  pub met : is_seen w lit.var ≡ true
  pub only : (v : ℕ) → is_seen w v ≡ true → v ≡ lit.var
  pub own : w.lits ≡ negated lit ∷ []
  pub no_hints : w.hints ≡ []
  pub no_count : w.count ≡ 0
