-- The definitions compute at the example.
use Rattle.std.proofs.Common.{refl}
use Rattle.cnf_core.specs.Formulas.{assignments, models, entails, backbone_at, backbone_upto, backbone}
use Rattle.cnf_core.proofs.laws.worked_example.Goals as goal

pub returns : goal.returns
unfolding assignments models entails backbone_at backbone_upto backbone
returns c = record { two_values = refl; two_models = refl; fixed = refl }
