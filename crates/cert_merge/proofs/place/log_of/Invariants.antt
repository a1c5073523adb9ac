use Rattle.std.proofs.Common.{◌-◌, ◌<◌, ◌≤◌, length, slice_index}
use Rattle.cert_merge.proofs.place.log_of.Given as goal

abbrev pub invariant-loop-end : goal.invariant-loop-end
invariant-loop-end l = record {
  below : l.log < l.end;
  end_within : l.end ≤ length l.starts;
  from : slice_index l.starts l.log ≤ l.number;
  to : l.end < length l.starts → l.number < slice_index l.starts l.end;
}

abbrev pub decreases-loop-end : goal.decreases-loop-end
decreases-loop-end l = l.end - l.log
