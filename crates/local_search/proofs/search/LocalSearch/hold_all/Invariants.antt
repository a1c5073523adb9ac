-- The literals read so far are held false.
use Rattle.std.proofs.Common.{◌≡◌, length, take}
use Rattle.local_search.specs.Steps.States.{IsHeld}
use Rattle.local_search.proofs.search.LocalSearch.hold_all.Given as goal

abbrev pub invariant-loop-lit : goal.invariant-loop-lit
invariant-loop-lit l = record {
  counts : l.self.counts ≡ l.fn.self.counts;
  held : IsHeld (length l.fn.self.values) l.fn.self.values l.fn.self.held (take l.lit-index l.lits) l.self.held l.self.values;
}
