use Rattle.lrat_lines.proofs.SameSets.{propagates_by_sets}
use Rattle.lrat_lines.proofs.laws.propagation_looks_at_sets.Goals as goal

pub returns : goal.returns
returns c = propagates_by_sets
