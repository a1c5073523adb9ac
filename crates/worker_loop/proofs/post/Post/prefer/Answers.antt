use Rattle.std.proofs.Common.{ℕ, ◌<◌, ◌≤◌, List, sym, subst}
use Rattle.std.specs.Prelude.{All}
use Rattle.worker_loop.proofs.Words.{block_within}
use Rattle.worker_loop.proofs.post.Post.prefer.Goals as goal

pub against-requires-clause-block : goal.against-requires-clause-block
against-requires-clause-block c =
    subst (λ (xs : List ℕ). All (λ x. (0 < x) × (x ≤ c.args.self.now.question.now.formula.vars)) xs) (sym c.deref.ensures.value)
    (block_within c.args.self.now.loaded.items c.in_ok-candidates.candidates.items c.args.self.now.question.now.formula.vars 1024 c.in_ok-candidates.ensures)
