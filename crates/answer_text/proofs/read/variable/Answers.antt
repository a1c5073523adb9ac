-- Digits without a leading zero.
use Rattle.std.proofs.Common.{◌≡◌, ◌<◌, ◌≤◌, ℕ, Option, rules, sym, subst}
use Rattle.std.specs.Prelude.{IfSome}
use Rattle.answer_text.specs.Reading.{variable_of}
use Rattle.answer_text.proofs.Digits.{variable_range}
use Rattle.answer_text.proofs.read.variable.Goals as goal

pub returns-in_default-clause-range : goal.returns-in_default-clause-range
returns-in_default-clause-range c =
    let e : c.number.result ≡ variable_of c.args.vars c.args.bytes.now = search rules in
    subst (λ (o : Option ℕ). IfSome o (λ v. (0 < v) × (v ≤ c.args.vars))) (sym e) (variable_range c.args.vars c.args.bytes.now)
