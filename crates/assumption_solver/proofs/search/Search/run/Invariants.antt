use Rattle.std.proofs.Common.{◌≤◌, ◌-◌}
use Rattle.lrat_log.specs.Entries.{learnt_count}
use Rattle.assumption_solver.specs.Logs.{IsContinued}
use Rattle.assumption_solver.specs.Steps.Queries.{IsGuided}
use Rattle.assumption_solver.specs.Steps.States.{Solves}
use Rattle.assumption_solver.proofs.search.Search.run.Given as goal

abbrev pub invariant-loop-conflict : goal.invariant-loop-conflict
invariant-loop-conflict g l = record {
  solves : Solves l.self;
  guided : IsGuided l.query.assume.now l.query.chunk.now l.self.trail;
  continued : IsContinued l.initial.self.journal l.self.journal;
  few : learnt_count l.self.journal.entries ≤ l.stop;
  asked : (goal.Chooser-dyn g (l.initial.chooser.vtable, l.initial.chooser.value)).asks l.initial.chooser.value
      ≤ (goal.Chooser-dyn g (l.chooser.vtable, l.chooser.value)).asks l.chooser.value;
}

abbrev pub decreases-loop-conflict : goal.decreases-loop-conflict
decreases-loop-conflict g l = l.stop - learnt_count l.self.journal.entries
