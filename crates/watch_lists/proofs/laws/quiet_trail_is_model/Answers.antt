use Rattle.watch_lists.proofs.QuietTrails.{quiet_is_model}
use Rattle.watch_lists.proofs.laws.quiet_trail_is_model.Goals as goal

pub returns : goal.returns
returns c = quiet_is_model
