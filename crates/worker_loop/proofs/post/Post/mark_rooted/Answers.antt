use Rattle.worker_loop.proofs.Marked.{post_marked}
use Rattle.worker_loop.proofs.post.Post.mark_rooted.Goals as goal

-- src/loading.rt:123:5
pub returns-clause-post : goal.returns-clause-post
returns-clause-post c =
    post_marked c.args.self.now c.args.var c.group_of.result c.bit_of.result c.index_mut.result.now c.requires.post c.requires.var.0
    c.requires.var.1
    c.group_of.ensures c.bit_of.ensures c.index_mut.ensures.value c.requires.shown
