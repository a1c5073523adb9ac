use Rattle.std.proofs.Common.{ap, ◌∙◌}
use Rattle.model_store.specs.Stores.{Store, with_model}
use Rattle.run_core.proofs.Searches.{lone_complete}
use Rattle.run_core.proofs.first.lone_model.Goals as goal

pub returns : goal.returns
returns c =
    lone_complete c.args.formula.now c.args.model.now _ c.requires.vars c.requires.model
    (c.in_ok-push.ensures.ok ∙ ap (λ (s : Store). with_model s c.args.model.now) c.new-models.ensures)
    c.new.ensures.items c.new-2.ensures.items c.in_ok-merge_needed.ensures.accepted c.in_ok-merge_needed.ensures.tidy
