use Rattle.std.proofs.Common.{◌≡◌}
use Rattle.cnf_core.specs.Formulas.{true_literals}
use Rattle.backbone_main.proofs.enumeration.literals_of.Given as goal

abbrev pub invariant-loop-i : goal.invariant-loop-i
invariant-loop-i l = l.lits.items ≡ true_literals l.values l.i
