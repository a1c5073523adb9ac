use Rattle.std.proofs.Common.{ℕ, List, sym, subst, arith}
use Rattle.std.proofs.lemmas.Result.{IfOk-weaker}
use Rattle.core_chunks.specs.Chunks.{block_of}
use Rattle.core_chunks.proofs.Counts.{block_is_open}
use Rattle.worker_loop.specs.Steps.Moves.{IsBlockOfAll}
use Rattle.worker_loop.proofs.turn.open_from.Goals as goal

pub returns : goal.returns
returns c =
    let here : IsBlockOfAll c.args.words.now c.args.size (block_of c.args.words.now c.args.from c.args.size) =
    λ n past. block_is_open c.args.words.now n c.args.from c.args.size (record { fits = λ g. omega (arith, c.type_inv.words g); within = past })
    (omega (arith, c.requires.from)) in
    IfOk-weaker c.block.result _ _ (λ found same. subst (λ (xs : List ℕ). IsBlockOfAll c.args.words.now c.args.size xs) (sym same) here) c.block.ensures
