use Rattle.dimacs_reader.proofs.PlainReads.{IsPlain-unique}
use Rattle.dimacs_reader.proofs.laws.plain_text_spells_one.Goals as goal

pub returns : goal.returns
returns c = IsPlain-unique
