use Rattle.lrat_lines.proofs.Renumbered.{follows_accepted}
use Rattle.lrat_lines.proofs.laws.renumbered_proof_is_accepted.Goals as goal

pub returns : goal.returns
returns c = follows_accepted
