use Rattle.lrat_lines.proofs.ReadsBack.{printed_reads_back}
use Rattle.lrat_lines.proofs.laws.printed_line_reads_back.Goals as goal

pub returns : goal.returns
returns c = printed_reads_back
