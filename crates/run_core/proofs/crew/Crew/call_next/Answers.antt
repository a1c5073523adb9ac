-- The slot of the number has a recruit now.
use Rattle.run_core.proofs.Crews.{hiring_next}
use Rattle.run_core.proofs.crew.Crew.call_next.Goals as goal

pub returns-clause-hiring : goal.returns-clause-hiring
returns-clause-hiring g c =
    let crew = c.args.self.now in
    hiring_next crew.words crew.settings.workers crew.settings.budget c.args.number crew.slots.items c.called.result c.requires.number.0
    c.requires.number.1 c.requires.hiring c.called.ensures
