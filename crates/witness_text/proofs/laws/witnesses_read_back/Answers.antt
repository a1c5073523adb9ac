use Rattle.witness_text.proofs.ReadsBack.{witnesses_back}
use Rattle.witness_text.proofs.laws.witnesses_read_back.Goals as goal

pub returns : goal.returns
returns c = witnesses_back
