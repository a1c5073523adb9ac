use Rattle.std.proofs.Common.{◌≡◌, length}
use Rattle.clause_arena.specs.Entries.{entry_at}
use Rattle.conflict_analysis.proofs.Units.{ResolvesFront}
use Rattle.conflict_analysis.proofs.walk.Walk.add_units.Given as goal

abbrev pub invariant-loop-lit : goal.invariant-loop-lit
invariant-loop-lit l = record {
  size : length l.self.stamps ≡ length l.initial.self.stamps;
  resolved : ResolvesFront l.trail (entry_at l.arena l.fn.r).lits l.own l.lit-index l.initial.self.hints l.self.hints;
}
