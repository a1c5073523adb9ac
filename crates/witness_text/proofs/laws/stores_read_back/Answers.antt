use Rattle.witness_text.proofs.ReadsBack.{stores_back}
use Rattle.witness_text.proofs.laws.stores_read_back.Goals as goal

pub returns : goal.returns
returns c = stores_back
