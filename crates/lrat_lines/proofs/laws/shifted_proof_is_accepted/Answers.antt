use Rattle.lrat_lines.proofs.Renumbered.{shifted_is_accepted}
use Rattle.lrat_lines.proofs.laws.shifted_proof_is_accepted.Goals as goal

pub returns : goal.returns
returns c = shifted_is_accepted
