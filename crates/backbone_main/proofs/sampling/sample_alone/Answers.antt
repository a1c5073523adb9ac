-- What the run over the formula told is told of the sample.
use Rattle.std.proofs.Common.{arith}
use Rattle.backbone_main.proofs.sampling.sample_alone.Goals as goal

pub returns-in-Ok : goal.returns-in-Ok
returns-in-Ok g c = c.tell.ensures 1 (omega arith) c.in-Ok.ensures.value c.run_one-outcome.ensures
