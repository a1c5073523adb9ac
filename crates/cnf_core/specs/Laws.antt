-- The statements of the laws: what holds of every formula by the definitions alone.
use Rattle.std.specs.Prelude.{◌≡◌, ◌↔◌, ℕ, ◌<◌, ◌≤◌, ◌&&◌, not, IsTrue, [], ◌∷◌, length, All, AllPairs, Contains, filter}
use Rattle.cnf_core.specs.Literals.{Literal, Literals, Assignment, negated, value_of, with_value, is_true, IsWithin, AreWithin, RisesByVar}
use Rattle.cnf_core.specs.Formulas.{Cnf, with_clause, assignments, models, IsModel, entails, Entails, backbone, is_shown, shown_backbone, true_literal, true_literals}

-- each list of n truth values is there, no other list is, and none stands twice
pub record HasEachOnce (n : ℕ) : Type 0 where
  pub each : (a : Assignment) → length a ≡ n → Contains (assignments n) a
  pub only : (a : Assignment) → Contains (assignments n) a → length a ≡ n
  pub once : AllPairs (λ a b. a ≡ b → ⊥) (assignments n)

-- the list of the models has just the assignments that are models
abbrev pub ModelsAreMembers : Type 0
ModelsAreMembers = (F : Cnf) (a : Assignment) → Contains (models F) a ↔ IsModel F a

-- a literal is entailed exactly where its negation leaves no model
abbrev pub EntailedByRefutation : Type 0
EntailedByRefutation = (F : Cnf) (l : Literal) → Entails F l ↔ (models (with_clause F (negated l ∷ [])) ≡ [])

-- one model is enough to find the backbone: it is what is entailed of the model's own literals
abbrev pub BackboneInOneModel : Type 0
BackboneInOneModel = (F : Cnf) (a : Assignment) → IsModel F a
    → backbone F ≡ filter (entails F) (true_literals a F.vars)

-- the backbone of a formula with a model, by its members: each variable at most once and in order,
-- and of the formula's literals just those that are entailed
pub record IsBackboneOf (F : Cnf) (fixed : Literals) : Type 0 where
  pub rises : RisesByVar fixed
  pub within : AreWithin F.vars fixed
  pub just : (l : Literal) → IsWithin F.vars l → Contains fixed l ↔ Entails F l

abbrev pub BackboneByMembers : Type 0
BackboneByMembers = (F : Cnf) (a : Assignment) → IsModel F a → IsBackboneOf F (backbone F)

-- its members determine it
abbrev pub BackboneDetermined : Type 0
BackboneDetermined = (F : Cnf) (a : Assignment) (fixed : Literals) → IsModel F a → IsBackboneOf F fixed → fixed ≡ backbone F

-- the shown members are what is shown and entailed of one model's own literals
abbrev pub ShownBackboneInOneModel : Type 0
ShownBackboneInOneModel = (F : Cnf) (a : Assignment) → IsModel F a
    → shown_backbone F ≡ filter (λ l. is_shown F l.var && entails F l) (true_literals a F.vars)

-- the shown members, by themselves: in order, and just the literals that are shown and entailed
pub record IsShownBackboneOf (F : Cnf) (fixed : Literals) : Type 0 where
  pub rises : RisesByVar fixed
  pub just : (l : Literal) → Contains fixed l ↔ (IsTrue (is_shown F l.var) × Entails F l)

abbrev pub ShownBackboneByMembers : Type 0
ShownBackboneByMembers = (F : Cnf) (a : Assignment) → IsModel F a → IsShownBackboneOf F (shown_backbone F)

-- they determine the list
abbrev pub ShownBackboneDetermined : Type 0
ShownBackboneDetermined = (F : Cnf) (a : Assignment) (fixed : Literals) → IsModel F a → IsShownBackboneOf F fixed
    → fixed ≡ shown_backbone F

-- the clause has the literal, no other true literal, and not the literal's negation:
-- it fails where the literal's variable is flipped
pub record IsCriticalFor (a : Assignment) (l : Literal) (c : Literals) : Type 0 where
  pub present : Contains c l
  pub plain : Contains c (negated l) → ⊥
  pub alone : (k : Literal) → Contains c k → IsTrue (is_true a k) → k ≡ l

-- a model with one variable flipped is a model exactly where no clause rests on that variable alone
abbrev pub FlippedModel : Type 0
FlippedModel = (F : Cnf) (a : Assignment) (v : ℕ) → 0 < v → v ≤ F.vars
    → All (AreWithin F.vars) F.clauses → IsModel F a
    → IsModel F (with_value a v (not (value_of a v)))
    ↔ ((c : Literals) → Contains F.clauses c → IsCriticalFor a (true_literal a v) c → ⊥)
