use Rattle.worker_loop.proofs.Started.{first_begun}
use Rattle.worker_loop.proofs.tools.begun.Goals as goal

pub returns : goal.returns
returns g c =
    first_begun c.args.question.now c.formula-formula.result.now c.args.share.budget c.new.result c.formula-formula.ensures c.new.ensures
