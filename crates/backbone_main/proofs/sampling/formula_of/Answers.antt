-- The hidden values are a model.
use Rattle.backbone_main.proofs.Sampled.{has_model_at}
use Rattle.backbone_main.proofs.sampling.formula_of.Goals as goal

pub returns-clause-model : goal.returns-clause-model
returns-clause-model c = has_model_at c.planted.result _ _ c.planted.ensures.value c.planted.ensures.model
