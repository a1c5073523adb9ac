-- What analysis answers: a clause to learn, or the core of a literal that is false.
use Rattle.std.specs.Prelude.{◌≡◌, ◌≢◌, ◌⊎◌, ℕ, ◌<◌, ◌≤◌, List, ◌∷◌, length, Contains, AllPairs}
use Rattle.cnf_core.specs.Literals.{Literal, Literals, negated}
use Rattle.clause_arena.specs.Entries.{Entries}
use Rattle.trail_core.specs.declared.entry.Assigned.{Assigned}
use Rattle.trail_core.specs.declared.entry.Reason.TheVariants.{Decision}
use Rattle.trail_core.specs.Trails.{TrailState, assigned_at}
use Rattle.lrat_lines.specs.Sets.{IsSubset}
use Rattle.lrat_lines.specs.Propagation.{Known}
use Rattle.lrat_lines.specs.Tight.{IsTight}
use Rattle.conflict_analysis.specs.Members.{IsMember, IsMapOf, IsProof}
use Rattle.trail_core.specs.TrueAndFalse.{IsFalse, IsFalseAt, IsFalseBelow}
use Rattle.conflict_analysis.specs.Reasons.{HasFalseAt}

-- the number is the highest level at which a literal is false, or 0
pub record IsHighest (es : List Assigned) (lits : Literals) (highest : ℕ) : Type 0 where
  pub at_most : (x : Literal) (k : ℕ) → Contains lits x → k < length es → (assigned_at es k).lit ≡ negated x
      → (assigned_at es k).level ≤ highest
  pub reached : 0 < highest → HasFalseAt es highest lits

-- a clause that a conflict teaches: it is false, and of its literals just the first is false at the
-- present level, so that the clause forces that one at the level to go back to. Each variable stands in
-- it once. In every map of the members tight hints prove it, and no member is a part of it
pub record IsLearnt (a : Entries) (t : TrailState) (lits : Literals) (back : ℕ) (hints : List ℕ) : Type 0 where
  pub all_false : (x : Literal) → Contains lits x → IsFalse t.entries x
  pub first : Literal
  pub others : Literals
  pub is : lits ≡ first ∷ others
  pub first_at : IsFalseAt t.entries t.level first
  pub others_below : (x : Literal) → Contains others x → IsFalseBelow t.entries t.level x
  pub highest : IsHighest t.entries others back
  pub plain : (x : Literal) → Contains lits x → Contains lits (negated x) → ⊥
  pub each_once : AllPairs (λ k l. k.var ≢ l.var) lits
  pub tight : (known : Known) → IsMapOf a t.entries known → IsTight known hints lits
  pub proved : (known : Known) → IsMapOf a t.entries known → IsProof known hints lits
  pub fresh : (id : ℕ) (c : Literals) → IsMember a t.entries id c → IsSubset c lits → ⊥

-- some decision of the trail has the literal's negation
pub record NegatesDecision (es : List Assigned) (l : Literal) : Type 0 where
  pub place : ℕ
  pub within : place < length es
  pub reason : (assigned_at es place).reason ≡ Decision
  pub lit : l ≡ negated (assigned_at es place).lit

-- a clause over the negations of a literal and of decisions, that of the literal among them, which is
-- proved from every map of the members. Each variable stands in it once, but where the literal is false by
-- a decision: then the clause has both its signs
pub record IsCore (a : Entries) (t : TrailState) (lit : Literal) (lits : Literals) (hints : List ℕ) : Type 0 where
  pub drawn : (x : Literal) → Contains lits x → (x ≡ negated lit) ⊎ NegatesDecision t.entries x
  pub own : Contains lits (negated lit)
  pub each_once : (NegatesDecision t.entries lit → ⊥) → AllPairs (λ k l. k.var ≢ l.var) lits
  pub proved : (known : Known) → IsMapOf a t.entries known → IsProof known hints lits
