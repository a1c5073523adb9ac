use Rattle.witness_text.proofs.Placed.{count_of_view}
use Rattle.witness_text.proofs.models.PackedModels.len.Goals as goal

pub returns : goal.returns
returns c = count_of_view c.self.inside.words.items c.self.inside.vars c.self.inside.count c.args.self.now c.self.view_is
