use Rattle.run_core.proofs.Crews.{ahead_ready}
use Rattle.run_core.proofs.crew.Crew.run_ahead.Goals as goal

pub returns-clause-ready : goal.returns-clause-ready
returns-clause-ready g c =
    let crew = c.args.self.now in
    (ahead_ready crew.words crew.settings.workers crew.settings.budget c.args.worker.now c.run_ahead.new.self
    (c.requires.ready, c.requires.first) c.run_ahead.ensures.sits c.run_ahead.ensures.later c.run_ahead.ensures.number c.run_ahead.ensures.first
    c.run_ahead.ensures.few).0

pub returns-clause-first : goal.returns-clause-first
returns-clause-first g c =
    let crew = c.args.self.now in
    (ahead_ready crew.words crew.settings.workers crew.settings.budget c.args.worker.now c.run_ahead.new.self
    (c.requires.ready, c.requires.first) c.run_ahead.ensures.sits c.run_ahead.ensures.later c.run_ahead.ensures.number c.run_ahead.ensures.first
    c.run_ahead.ensures.few).1
