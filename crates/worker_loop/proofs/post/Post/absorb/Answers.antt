use Rattle.std.proofs.Common.{◌∙◌}
use Rattle.worker_loop.proofs.Absorbed.{is_dropped_from, absorbed_keeping, absorbed_settled}
use Rattle.worker_loop.proofs.post.Post.absorb.Goals as goal

pub returns-clause-dropped : goal.returns-clause-dropped
returns-clause-dropped c =
    is_dropped_from c.args.self.now c.make_ready.new.self c.drop_all.new.self c.args.model.now c.make_ready.ensures.same.question
    c.make_ready.ensures.same.copy c.make_ready.ensures.post.loaded c.drop_all.ensures.dropped

pub returns-clause-settled : goal.returns-clause-settled
returns-clause-settled c =
    absorbed_settled c.args.self.now c.make_ready.new.self c.drop_all.new.self c.args.model.now c.make_ready.ensures.same.question
    c.make_ready.ensures.same.seat c.make_ready.ensures.same.copy (c.make_ready.ensures.same.models ∙ c.in_ok-place.ensures.ok)
    c.requires.copied c.make_ready.ensures.post c.drop_all.ensures.post c.drop_all.ensures.onward c.drop_all.ensures.rest
    c.drop_all.ensures.dropped

pub returns-clause-keeping : goal.returns-clause-keeping
returns-clause-keeping c =
    absorbed_keeping c.args.self.now c.make_ready.new.self c.drop_all.new.self c.args.model.now c.make_ready.ensures.same.question
    c.make_ready.ensures.same.seat c.make_ready.ensures.same.copy (c.make_ready.ensures.same.models ∙ c.in_ok-place.ensures.ok)
    c.requires.copied c.make_ready.ensures.post c.drop_all.ensures.post c.drop_all.ensures.onward c.drop_all.ensures.rest
    c.drop_all.ensures.dropped
