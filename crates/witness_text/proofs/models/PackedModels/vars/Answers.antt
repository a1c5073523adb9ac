use Rattle.witness_text.proofs.Placed.{length-model_in}
use Rattle.witness_text.proofs.models.PackedModels.vars.Goals as goal

pub returns : goal.returns
returns c model below =
    length-model_in c.self.inside.words.items c.self.inside.vars c.self.inside.count c.args.self.now model c.self.view_is below
