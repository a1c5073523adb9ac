use Rattle.std.proofs.Common.{◌≡◌, ◌∷◌, [], Contains, Bool, ap, ◌∙◌, subst}
use Rattle.cnf_core.specs.Literals.{Literal}
use Rattle.cnf_core.specs.Formulas.{true_literal}
use Rattle.board_core.specs.Subjects.{candidate}
use Rattle.table_cases.proofs.Cases.{given_one}
use Rattle.table_cases.proofs.is_given.Goals as goal

pub returns : goal.returns
returns c found =
    let shown : candidate c.args.case.now.formula c.args.var ≡ 1 = c.is_candidate.ensures.candidate c.if-not-is_candidate.false in
    let literal : c.new.result ≡ true_literal c.args.case.now.phases c.args.var =
    c.new.ensures ∙ ap (λ (value : Bool). record { var = c.args.var; positive = value }) c.get.ensures in
    given_one c.args.case.now.formula c.args.case.now.phases c.args.var shown
    (subst (λ (l : Literal). Contains c.args.case.now.formula.clauses (l ∷ [])) literal (c.has_unit.ensures found))
