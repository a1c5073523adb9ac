use Rattle.cnf_core.proofs.Assignments.{each_once}
use Rattle.cnf_core.proofs.laws.every_assignment_once.Goals as goal

pub returns : goal.returns
returns c = each_once
