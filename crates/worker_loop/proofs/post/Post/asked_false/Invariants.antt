use Rattle.cnf_core.specs.Literals.{AreWithin}
use Rattle.worker_loop.proofs.post.Post.asked_false.Given as goal

abbrev pub invariant-loop-lit : goal.invariant-loop-lit
invariant-loop-lit l = AreWithin l.self.question.now.formula.vars l.lits.items
