use Rattle.std.proofs.Common.{refl}
use Rattle.cnf_core.specs.Formulas.{Entails, entails, models, assignments}
use Rattle.lrat_lines.specs.Examples.{implied_one, positive}
use Rattle.cert_merge.proofs.tests.learn.Goals as goal

holds : Entails implied_one (positive 1)
unfolding entails models assignments
holds = refl

pub import-requires : goal.import-requires
import-requires c = rw (c.requires, c.new.ensures) holds
