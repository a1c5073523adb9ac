use Rattle.std.proofs.Common.{◌∙◌, ap}
use Rattle.model_store.specs.Stores.{with_model}
use Rattle.run_core.proofs.Crews.{first_ready}
use Rattle.run_core.proofs.crew.Crew.first_worker.Goals as goal

pub returns-clause-ready : goal.returns-clause-ready
returns-clause-ready g c =
    let crew = c.args.self.now in
    (first_ready crew.words c.args.question.now crew.settings.workers crew.settings.budget c.args.root c.in-Ok.worker c.absorb_model.new.self
    c.requires.about c.requires.root c.in-Ok.ensures.number.0 c.in-Ok.ensures.made c.absorb_model.ensures.sits c.absorb_model.ensures.later
    c.absorb_model.ensures.number (c.in_ok-absorb_model.ensures.stored ∙ ap (with_model c.in-Ok.worker.post.models) c.phases.ensures)).0

pub returns-clause-few : goal.returns-clause-few
returns-clause-few g c =
    let crew = c.args.self.now in
    (first_ready crew.words c.args.question.now crew.settings.workers crew.settings.budget c.args.root c.in-Ok.worker c.absorb_model.new.self
    c.requires.about c.requires.root c.in-Ok.ensures.number.0 c.in-Ok.ensures.made c.absorb_model.ensures.sits c.absorb_model.ensures.later
    c.absorb_model.ensures.number (c.in_ok-absorb_model.ensures.stored ∙ ap (with_model c.in-Ok.worker.post.models) c.phases.ensures)).2
