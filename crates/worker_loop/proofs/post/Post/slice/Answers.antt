use Rattle.worker_loop.proofs.Slices.{post_continued}
use Rattle.worker_loop.proofs.post.Post.slice.Goals as goal

pub returns-clause-post : goal.returns-clause-post
returns-clause-post g c = post_continued c.args.self.now c.go_on.new.self c.requires.post c.go_on.ensures.log c.go_on.ensures.most
