use Rattle.std.proofs.Common.{◌≡◌, not, sym, ap, ◌∙◌}
use Rattle.cnf_core.specs.Literals.{value_of}
use Rattle.board_core.specs.Subjects.{candidate}
use Rattle.table_cases.proofs.Cases.{opposed_one, differ}
use Rattle.table_cases.proofs.is_opposed.Goals as goal

pub returns : goal.returns
returns c apart =
    let shown : candidate c.args.case.now.formula c.args.var ≡ 1 = c.is_candidate.ensures.candidate c.if-not-is_candidate.false in
    let value : value_of c.args.case.now.other c.args.var ≡ not (value_of c.args.case.now.phases c.args.var) =
    sym c.get-2.ensures ∙ differ c.get.result c.get-2.result apart ∙ ap not c.get.ensures in
    opposed_one c.args.case.now.formula c.args.case.now.phases c.args.case.now.other c.args.var c.requires shown value
