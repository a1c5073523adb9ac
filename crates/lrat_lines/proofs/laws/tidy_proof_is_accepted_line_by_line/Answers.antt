use Rattle.lrat_lines.proofs.Accepted.{tidy_proofs_by_lines}
use Rattle.lrat_lines.proofs.laws.tidy_proof_is_accepted_line_by_line.Goals as goal

pub returns : goal.returns
returns c = tidy_proofs_by_lines
