use Rattle.worker_loop.proofs.Cores.{shown_core, rooted_core, unit_core, goes_all}
use Rattle.worker_loop.proofs.Settling.{settled_onward}
use Rattle.worker_loop.proofs.post.Post.fix_core.Goals as goal

pub fix_all-requires-clause-rooted : goal.fix_all-requires-clause-rooted
fix_all-requires-clause-rooted c =
    rooted_core c.args.self.now c.args.self.now.solver.log c.args.core.now c.requires.core.were_open
    (unit_core c.args.self.now c.args.core.now c.requires.core c.requires.one)

pub fix_all-requires-clause-shown : goal.fix_all-requires-clause-shown
fix_all-requires-clause-shown c = shown_core c.args.self.now c.args.core.now c.requires.post c.requires.copied c.requires.core.were_open

pub returns-clause-goes : goal.returns-clause-goes
returns-clause-goes c =
    goes_all c.args.self.now c.fix_all.new.self c.args.core.now c.requires.post c.requires.copied c.fix_all.ensures.onward c.requires.core c.fix_all.ensures.closed

pub returns-clause-settled : goal.returns-clause-settled
returns-clause-settled c =
    settled_onward c.args.self.now c.fix_all.new.self c.fix_all.ensures.post c.fix_all.ensures.onward c.fix_all.ensures.models
