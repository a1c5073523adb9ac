use Rattle.worker_loop.proofs.Heard.{up_to_next}
use Rattle.worker_loop.proofs.post.Post.hear.Goals as goal

pub loop-group-preserved : goal.loop-group-preserved
loop-group-preserved c =
    up_to_next c.args.words.now c.args.self.now c.loop-group.self c.hear_in.new.self c.loop-group.group
    c.loop-group.invariant c.in_ok-hear_in.ensures.listened c.in_ok-hear_in.ensures.heard c.in_ok-hear_in.ensures.taken
