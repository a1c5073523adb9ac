use Rattle.std.proofs.Common.{length}
use Rattle.lrat_checker.proofs.TableLemmas.{IsCovered}
use Rattle.lrat_checker.proofs.assignment.forget_all.Given as goal

abbrev pub invariant-loop-lit : goal.invariant-loop-lit
invariant-loop-lit l = IsCovered l.falses l.trues.items

abbrev pub decreases-loop-lit : goal.decreases-loop-lit
decreases-loop-lit l = length l.trues.items
