use Rattle.dimacs_reader.proofs.PlainReads.{reading_of-plain_text}
use Rattle.dimacs_reader.proofs.laws.plain_text_reads_back.Goals as goal

pub returns : goal.returns
returns c = reading_of-plain_text
