use Rattle.std.proofs.Common.{◌≡◌, true, false, refl, sym, ◌∙◌}
use Rattle.cnf_core.specs.Formulas.{is_shown}
use Rattle.bone_check.specs.Proving.{has_unit}
use Rattle.bone_check.proofs.Reaching.{has_unit_told}
use Rattle.bone_check.proofs.units.unit_fault.Goals as goal

pub returns-then-not-has_unit : goal.returns-then-not-has_unit
returns-then-not-has_unit c lines stands =
    let F = c.args.formula.now in
    let l = c.args.lit in
    let shown : is_shown F l.var ≡ true = sym c.is_shown.ensures ∙ c.if-not-is_shown.false in
    let unit : has_unit F lines l ≡ false =
    sym (has_unit_told F lines l c.has_unit.result (c.has_unit.ensures F lines stands)) ∙ c.if-not-has_unit.true in
    rw (shown, unit) refl

pub returns-else-not-has_unit : goal.returns-else-not-has_unit
returns-else-not-has_unit c lines stands =
    let F = c.args.formula.now in
    let l = c.args.lit in
    let shown : is_shown F l.var ≡ true = sym c.is_shown.ensures ∙ c.if-not-is_shown.false in
    let unit : has_unit F lines l ≡ true =
    sym (has_unit_told F lines l c.has_unit.result (c.has_unit.ensures F lines stands)) ∙ c.if-not-has_unit.false in
    rw (shown, unit) refl
