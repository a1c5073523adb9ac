use Rattle.run_core.proofs.Crews.{hiring_first}
use Rattle.run_core.proofs.crew.Crew.hire_first.Goals as goal

pub returns-clause-hiring : goal.returns-clause-hiring
returns-clause-hiring g c =
    let crew = c.args.self.now in
    hiring_first crew.words crew.settings.workers crew.settings.budget crew.slots.items c.run_ahead-is_done.new.worker c.requires.workers
    c.requires.seats c.run_ahead-is_done.ensures.ready c.run_ahead-is_done.ensures.first
