use Rattle.answer_text.proofs.SoFar.{read_is_text}
use Rattle.answer_text.proofs.laws.what_is_read_is_the_text.Goals as goal

pub returns : goal.returns
returns c = read_is_text
