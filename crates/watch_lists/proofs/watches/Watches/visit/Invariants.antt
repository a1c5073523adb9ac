-- The watches before the place are done.
use Rattle.std.proofs.Common.{◌-◌, ◌≤◌, length}
use Rattle.cnf_core.specs.Literals.{IsWithin}
use Rattle.watch_lists.specs.Lists.{list_of}
use Rattle.watch_lists.specs.Steps.Visiting.{IsVisiting, IsAdvanced}
use Rattle.watch_lists.proofs.watches.Watches.visit.Given as goal

abbrev pub invariant-loop-at : goal.invariant-loop-at
invariant-loop-at l = record {
  visiting : IsVisiting l.arena l.self l.trail l.lit l.at;
  advanced : IsAdvanced l.fn.arena l.fn.trail l.arena l.trail;
  reach : IsWithin l.self.vars l.lit;
  inside : l.at ≤ length (list_of l.self l.lit);
}

abbrev pub decreases-loop-at : goal.decreases-loop-at
decreases-loop-at l = length (list_of l.self l.lit) - l.at
