use Rattle.std.proofs.Common.{arith}
use Rattle.worker_loop.proofs.Loads.{load_next, all_copied, all_loaded}
use Rattle.worker_loop.proofs.post.Post.load_all.Goals as goal

pub loop-group-preserved : goal.loop-group-preserved
loop-group-preserved c =
    load_next c.args.words.now c.args.self.now c.loop-group.self c.load-word.new.seat c.loop-group.group c.load-word.result
    c.loop-group.invariant
    (omega (arith, c.loop-group-test.true, c.len-group-end.ensures, c.requires.post.loaded))
    c.load-word.ensures.sits c.load-word.ensures.once c.load-word.ensures.loaded

pub returns-clause-copied : goal.returns-clause-copied
returns-clause-copied c =
    all_copied c.args.words.now c.args.self.now c.loop-group.self c.loop-group.group
    (omega (arith, c.loop-group-test.false, c.len-group-end.ensures, c.requires.post.loaded)) c.loop-group.invariant

pub returns-clause-loaded : goal.returns-clause-loaded
returns-clause-loaded c =
    all_loaded c.args.words.now c.args.self.now c.loop-group.self c.loop-group.group
    (omega (arith, c.loop-group-test.false, c.len-group-end.ensures, c.requires.post.loaded)) c.loop-group.invariant
