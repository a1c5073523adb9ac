use Rattle.std.specs.Prelude.{◌≡◌, length}
use Rattle.worker_loop.proofs.post.Post.recent_model.Given as goal

abbrev pub invariant-loop-i : goal.invariant-loop-i
invariant-loop-i l = length l.model ≡ l.fn.self.question.now.formula.vars
