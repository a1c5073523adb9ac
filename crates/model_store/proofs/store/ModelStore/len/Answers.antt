use Rattle.std.proofs.Common.{length, sym, ap, ◌∙◌}
use Rattle.model_store.specs.Stores.{Store}
use Rattle.model_store.proofs.Blocks.{length-all_unpacked}
use Rattle.model_store.proofs.store.ModelStore.len.Goals as goal

pub returns-clause-value : goal.returns-clause-value
returns-clause-value c =
    sym (length-all_unpacked c.self.inside.words.items c.self.inside.formula.now.vars c.self.inside.count)
    ∙ ap (λ (s : Store). length s.models) c.self.view_is
