use Rattle.std.proofs.Common.{ap, ◌∙◌, subst}
use Rattle.model_store.specs.Stores.{Store}
use Rattle.worker_loop.specs.Posts.{WorkerState}
use Rattle.worker_loop.specs.Steps.Dropping.{IsKeepingAt}
use Rattle.worker_loop.proofs.Absorbed.{loaded_settled, absorbed_paced}
use Rattle.worker_loop.proofs.worker.Worker.absorb_model.Goals as goal

pub invariant_of-self : goal.invariant_of-self
invariant_of-self g c = record {
  post = c.absorb.ensures.post;
  between = λ alive.
      let old = c.self.invariant.between alive in record {
        settled = c.in-Ok.ensures.settled (loaded_settled c.self.inside.post c.load_all.new.self c.load_all.ensures.post
            c.load_all.ensures.loaded old.settled);
        paced = absorbed_paced c.self.inside.post c.load_all.new.self c.absorb.new.self c.load_all.ensures.loaded c.absorb.ensures.onward
            c.absorb.ensures.solver old.paced;
      };
}

pub returns-in-Ok-clause-settled : goal.returns-in-Ok-clause-settled
returns-in-Ok-clause-settled g c =
    subst (λ (s : Store). IsKeepingAt s c.absorb.new.self)
    (c.load_all.ensures.loaded.models ∙ ap (λ (w : WorkerState). w.post.models) c.self.view_is) c.in-Ok.ensures.keeping
