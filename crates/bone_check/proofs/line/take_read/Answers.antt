use Rattle.std.proofs.Common.{sym, subst, Result, Err}
use Rattle.lrat_checker.specs.declared.refused.Refused.{Refused}
use Rattle.lrat_checker.specs.Checking.{Answers}
use Rattle.bone_check.specs.declared.line.Untaken.{Untaken}
use Rattle.bone_check.specs.Steps.Taking.{LineSays}
use Rattle.bone_check.proofs.Taken.{line_refused}
use Rattle.bone_check.proofs.line.take_read.Goals as goal

pub returns-in-Err : goal.returns-in-Err
returns-in-Err c F lines stands =
    let new = c.line.new.self in
    let said : Answers F lines c.args.line.now new (Err c.in-Err.refused) =
    subst (λ (r : Result (Unit {0}) Refused). Answers F lines c.args.line.now new r) c.in-Err.is (c.line.ensures.step F lines stands) in
    subst (λ (u : Untaken). LineSays F lines c.args.line.now new (Err u)) (sym c.untaken_refusal.ensures)
    (line_refused F lines c.args.line.now new c.in-Err.refused said)
