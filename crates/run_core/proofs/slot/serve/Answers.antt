use Rattle.run_core.proofs.Crews.{new_few}
use Rattle.run_core.proofs.slot.serve.Goals as goal

pub run-requires-clause-few : goal.run-requires-clause-few
run-requires-clause-few g c = λ κs bounds.
    new_few c.args.question.now c.args.recruit.seat c.args.recruit.share.budget c.in_ok-worker.worker.post c.in_ok-worker.ensures.made
