use Rattle.conflict_analysis.proofs.Examples.{examples_are_ready}
use Rattle.conflict_analysis.proofs.tests.examples_are_ready.Goals as goal

pub returns : goal.returns
returns c = examples_are_ready
