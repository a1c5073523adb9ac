use Rattle.std.proofs.Common.{◌≡◌, ℕ, List, ◌<◌, sym, subst, arith}
use Rattle.std.proofs.lemmas.Result.{IfOk-weaker}
use Rattle.board_core.specs.Words.{open_at}
use Rattle.board_core.specs.Rules.{AreWords}
use Rattle.core_chunks.specs.Chunks.{IsBlockOf}
use Rattle.worker_loop.proofs.Words.{none_past}
use Rattle.worker_loop.proofs.post.Post.open_block.Goals as goal

pub open_from-requires-clause-words : goal.open_from-requires-clause-words
open_from-requires-clause-words c = omega (arith, c.requires.post.loaded, c.requires.post.limit)

pub open_from-requires-clause-from : goal.open_from-requires-clause-from
open_from-requires-clause-from c = omega (arith, c.requires.post.loaded, c.requires.from)

pub returns : goal.returns
returns c =
    let a = c.args.self.now.question.now in
    let words : AreWords a c.args.self.now.loaded.items =
    subst (λ (us : List ℕ). AreWords a us) (sym c.requires.copied) c.requires.post.view.loaded in
    let past : (x : ℕ) → a.formula.vars < x → open_at c.args.self.now.loaded.items x ≡ 0 = none_past a c.args.self.now.loaded.items words in
    IfOk-weaker c.open_from.result _ _ (λ found is.
    subst (λ (us : List ℕ). IsBlockOf us a.formula.vars c.args.size found.items) c.deref.ensures.value (is a.formula.vars (λ x high.
    subst (λ (us : List ℕ). open_at us x ≡ 0) (sym c.deref.ensures.value) (past x high)))) c.open_from.ensures
