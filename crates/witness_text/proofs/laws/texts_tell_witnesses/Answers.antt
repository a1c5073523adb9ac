use Rattle.witness_text.proofs.ReadTells.{texts_tell}
use Rattle.witness_text.proofs.laws.texts_tell_witnesses.Goals as goal

pub returns : goal.returns
returns c = texts_tell
