-- The clauses before the place are attached.
use Rattle.std.proofs.Common.{◌≡◌, ◌<◌}
use Rattle.watch_lists.specs.Lists.{empty_lists, with_clauses}
use Rattle.watch_lists.proofs.Attached.{IsFilled}
use Rattle.watch_lists.proofs.watches.Watches.rebuild.Given as goal

abbrev pub invariant-loop-place : goal.invariant-loop-place
invariant-loop-place l = record {
  lists : l.self ≡ with_clauses (empty_lists l.fn.self.vars) l.arena l.place;
  filled : IsFilled (λ r. r < l.place) l.arena l.self;
  vars : l.self.vars ≡ l.fn.self.vars;
}
