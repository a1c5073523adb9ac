use Rattle.std.proofs.Common.{◌≡◌, None, take}
use Rattle.std.specs.Prelude.{find, nat_lt}
use Rattle.cnf_core.specs.Literals.{AreWithin}
use Rattle.lrat_checker.proofs.checker.first_outside.Given as goal

abbrev pub invariant-loop-lit : goal.invariant-loop-lit
invariant-loop-lit l = record {
  none : find (λ k. nat_lt l.vars k.var) (take l.lit-index l.lits) ≡ None;
  within : AreWithin l.vars (take l.lit-index l.lits);
}
