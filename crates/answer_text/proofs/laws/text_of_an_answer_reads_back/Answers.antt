use Rattle.answer_text.proofs.RoundTrip.{texts_read_back}
use Rattle.answer_text.proofs.laws.text_of_an_answer_reads_back.Goals as goal

pub returns : goal.returns
returns c = texts_read_back
