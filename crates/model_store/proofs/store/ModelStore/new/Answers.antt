use Rattle.std.proofs.Common.{sym, ap, subst}
use Rattle.model_store.specs.Stores.{store_of}
use Rattle.model_store.specs.Steps.Blocks.{IsBlock}
use Rattle.model_store.proofs.Blocks.{all_unpacked-zero}
use Rattle.model_store.proofs.Grown.{block-empty}
use Rattle.model_store.proofs.store.ModelStore.new.Goals as goal

pub invariant_of-result : goal.invariant_of-result
invariant_of-result c =
    let F = c.args.formula.now in
    subst (λ words. IsBlock words F 0) (sym c.new.ensures.items) (block-empty F)

pub returns : goal.returns
returns c =
    let F = c.args.formula.now in
    ap (store_of F) (all_unpacked-zero c.new.result.items F.vars)
