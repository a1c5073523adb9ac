-- Root entries: what their reasons are.
use Rattle.std.proofs.Common.{◌≡◌, ℕ, ◌<◌, length, refl, sym, ap, ◌∙◌, arith}
use Rattle.cnf_core.specs.Literals.{Literal}
use Rattle.clause_arena.specs.Entries.{Entries}
use Rattle.trail_core.specs.declared.entry.Assigned.{Assigned}
use Rattle.trail_core.specs.declared.entry.Reason.{Reason}
use Rattle.trail_core.specs.declared.entry.Reason.TheVariants.{Decision, Clause as ByClause, Unit as ByUnit}
use Rattle.trail_core.specs.Trails.{TrailState, assigned_at, IsTrail}
use Rattle.conflict_analysis.specs.Reasons.{IsReasoned, IsUnit, IsRootLiteral}
use Rattle.conflict_analysis.proofs.Walking.{level_le}

pub at_root : (t u : TrailState) → IsTrail t → t.level ≡ 0 → u ≡ t → (k : ℕ) → k < length u.entries → (assigned_at u.entries k).level ≡ 0
at_root t u trail root same k lt =
    let within : k < length t.entries = omega (arith, ap (λ (y : TrailState). length y.entries) same) in
    let level : (assigned_at u.entries k).level ≡ (assigned_at t.entries k).level =
    ap (λ (y : TrailState). (assigned_at y.entries k).level) same in
    omega (arith, root, level, level_le t k trail within)

-- the literal of an entry at the root, where those before it have units
pub root_literal : (t : TrailState) (place : ℕ) (l : Literal) → IsTrail t → t.level ≡ 0 → place < length t.entries
    → l ≡ (assigned_at t.entries place).lit → ((k : ℕ) → k < place → IsUnit (assigned_at t.entries k)) → IsRootLiteral t.entries l
root_literal t place l trail root within read units = record {
  place = place;
  within = within;
  lit = sym read;
  at_root = at_root t t trail root refl place within;
  units = units;
}

unit_of : (es : (k : ℕ) → Assigned) (place : ℕ) (reason : Reason) → (es place).reason ≡ reason
    → ((es place).reason ≡ Decision → 0 < (es place).level) → (es place).level ≡ 0 → ((r : ℕ) → reason ≡ ByClause r → ⊥)
    → IsUnit (es place)
unit_of es place Decision is deep root other = absurd (omega (arith, deep is, root))
unit_of es place (ByClause r) is deep root other = absurd (other r refl)
unit_of es place (ByUnit id) is deep root other = record { id = id; reason = is }

-- at the root a reason that isn't a clause is a unit
pub unit_at : (a : Entries) (t : TrailState) (place v : ℕ) (l : Literal) (reason : Reason) → IsReasoned a t.entries
    → IsTrail t → t.level ≡ 0
    → place < length t.entries → l ≡ (assigned_at t.entries place).lit → v ≡ l.var
    → ((k : ℕ) → k < length t.entries → (assigned_at t.entries k).lit.var ≡ v → reason ≡ (assigned_at t.entries k).reason)
    → ((r : ℕ) → reason ≡ ByClause r → ⊥) → IsUnit (assigned_at t.entries place)
unit_at a t place v l reason h trail root lt read var is other =
    unit_of (λ k. assigned_at t.entries k) place reason
    (sym (is place lt (ap (λ (y : Literal). y.var) (sym read) ∙ sym var)))
    (h.decisions place lt) (at_root t t trail root refl place lt) other
