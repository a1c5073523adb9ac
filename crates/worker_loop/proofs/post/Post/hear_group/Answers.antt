use Rattle.worker_loop.proofs.Heard.{heard_next}
use Rattle.worker_loop.proofs.post.Post.hear_group.Goals as goal

pub loop-bit-preserved : goal.loop-bit-preserved
loop-bit-preserved c =
    heard_next c.args.words.now c.args.self.now c.loop-bit.self c.hear_bit.new.self c.args.group c.args.fixed c.loop-bit.bit
    c.loop-bit.invariant c.in_ok-hear_bit.ensures.listened c.in_ok-hear_bit.ensures.heard c.in_ok-hear_bit.ensures.taken
