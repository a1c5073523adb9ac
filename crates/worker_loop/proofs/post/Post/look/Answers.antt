use Rattle.worker_loop.proofs.Slices.{post_queried, looked_onward, looked_asked}
use Rattle.worker_loop.proofs.post.Post.look.Goals as goal

pub go_on_for-found-requires-clause-post : goal.go_on_for-found-requires-clause-post
go_on_for-found-requires-clause-post g c = post_queried c.args.self.now c.begin.new.self c.requires.post c.begin.ensures.log c.begin.ensures.count

pub returns-clause-onward : goal.returns-clause-onward
returns-clause-onward g c =
    looked_onward c.args.self.now c.go_on_for-found.new.self c.harvest.new.self c.begin.new.self c.begin.ensures.log c.go_on_for-found.ensures.part.onward
    c.harvest.ensures.onward

pub returns-clause-asked : goal.returns-clause-asked
returns-clause-asked g c =
    looked_asked c.args.self.now c.go_on_for-found.new.self c.harvest.new.self c.begin.new.self c.args.conflicts c.begin.ensures.log c.begin.ensures.count
    c.go_on_for-found.ensures.part.onward c.go_on_for-found.ensures.part.log c.go_on_for-found.ensures.most c.harvest.ensures.solver
