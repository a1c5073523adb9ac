-- What the run over the formula told is told of the sample.
use Rattle.backbone_main.proofs.sampling.sample.Goals as goal

pub returns-in-Ok : goal.returns-in-Ok
returns-in-Ok g c =
    c.tell.ensures c.args.sampling.settings.workers c.requires.limits.some_workers c.in-Ok.ensures.value c.run_many-outcome.ensures
