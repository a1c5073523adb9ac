use Rattle.cnf_core.specs.Literals.{AreWithin}
use Rattle.merge_bench.specs.Drawn.{BeginsWithOne}
use Rattle.merge_bench.proofs.drawn.draw_lits.Given as goal

abbrev pub invariant-loop-k : goal.invariant-loop-k
invariant-loop-k l = record {
  first : BeginsWithOne l.lits.items;
  within : AreWithin l.vars l.lits.items;
}
