use Rattle.lrat_lines.proofs.Renumbered.{hints_are_carried}
use Rattle.lrat_lines.proofs.laws.hints_lead_to_the_same_sets.Goals as goal

pub returns : goal.returns
returns c = hints_are_carried
