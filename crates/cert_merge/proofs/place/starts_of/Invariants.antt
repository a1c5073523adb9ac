use Rattle.std.proofs.Common.{◌≡◌, take, All}
use Rattle.lrat_log.specs.Kept.{IsLog}
use Rattle.cert_merge.specs.Steps.Numbered.{start_of}
use Rattle.cert_merge.proofs.Numbers.{StartsTo}
use Rattle.cert_merge.proofs.place.starts_of.Given as goal

abbrev pub invariant-loop-log : goal.invariant-loop-log
invariant-loop-log l = record {
  to : StartsTo l.logs l.starts.items l.log-index;
  next_is : l.next ≡ start_of l.logs l.log-index;
  kept : All IsLog (take l.log-index l.logs);
}
