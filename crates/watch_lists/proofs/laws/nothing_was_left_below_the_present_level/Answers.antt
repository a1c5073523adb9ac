use Rattle.watch_lists.proofs.Kept.{settled_below}
use Rattle.watch_lists.proofs.laws.nothing_was_left_below_the_present_level.Goals as goal

pub returns : goal.returns
returns c = settled_below
