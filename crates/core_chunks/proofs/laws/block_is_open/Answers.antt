use Rattle.core_chunks.proofs.Counts.{block_is_open}
use Rattle.core_chunks.proofs.laws.block_is_open.Goals as goal

pub returns : goal.returns
returns c = block_is_open
