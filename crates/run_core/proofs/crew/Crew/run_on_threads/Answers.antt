use Rattle.run_core.proofs.Crews.{crew_written}
use Rattle.run_core.proofs.crew.Crew.run_on_threads.Goals as goal

pub returns-clause-returned : goal.returns-clause-returned
returns-clause-returned g c =
    let crew = c.args.self.now in
    crew_written crew.words crew.settings.workers crew.settings.budget crew.slots.items c.deref_mut.result.now c.run_on_threads.new.slots
    crew.slots.len crew.slots.ok.0 c.deref_mut.ensures.value c.requires.crew c.run_on_threads.ensures.len c.run_on_threads.ensures.each
