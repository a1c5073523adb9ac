use Rattle.std.proofs.Common.{◌≡◌, take, All}
use Rattle.lrat_log.specs.Kept.{IsLog}
use Rattle.cert_merge.proofs.Taken.{empty_lists}
use Rattle.cert_merge.proofs.order.Merger.new.Given as goal

abbrev pub invariant-loop-log : goal.invariant-loop-log
invariant-loop-log l = record {
  lists : l.ids.items ≡ empty_lists l.log-index;
  kept : All IsLog (take l.log-index l.logs);
}
