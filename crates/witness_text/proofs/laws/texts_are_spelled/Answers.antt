use Rattle.witness_text.proofs.Spelling.{texts_spelled}
use Rattle.witness_text.proofs.laws.texts_are_spelled.Goals as goal

pub returns : goal.returns
returns c = texts_spelled
