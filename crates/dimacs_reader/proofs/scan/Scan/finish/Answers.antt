use Rattle.std.proofs.Common.{◌∙◌, subst, sym}
use Rattle.std.specs.Prelude.{Result}
use Rattle.cnf_core.specs.Formulas.{Cnf}
use Rattle.dimacs_reader.specs.declared.fault.Fault.{Fault}
use Rattle.dimacs_reader.specs.Scans.{Gives}
use Rattle.dimacs_reader.proofs.OnePass.{outcome_of_stands}
use Rattle.dimacs_reader.proofs.scan.Scan.finish.Goals as goal

pub returns-in-Some-clause-gives : goal.returns-in-Some-clause-gives
returns-in-Some-clause-gives c text stands =
    subst (λ (r : Result Cnf Fault). Gives c.outcome.result r)
    (outcome_of_stands c.args.self c.in-Some.pass text (sym c.self.view_is ∙ c.in-Some.is) stands)
    c.outcome.ensures
