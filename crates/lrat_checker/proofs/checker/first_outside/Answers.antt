use Rattle.std.proofs.Common.{sym, arith, rules}
use Rattle.std.specs.Prelude.{nat_lt}
use Rattle.std.proofs.lemmas.Bool.{lt-ltb, le-ltb}
use Rattle.std.proofs.lemmas.List.Elements.{All-more, at_read}
use Rattle.cnf_core.specs.Literals.{Literal, IsWithin}
use Rattle.lrat_checker.proofs.FindLemmas.{find_found, find_more}
use Rattle.lrat_checker.proofs.checker.first_outside.Goals as goal

pub returns-then-var-vars-clause-value : goal.returns-then-var-vars-clause-value
returns-then-var-vars-clause-value c =
    sym (find_found (λ (l : Literal). nat_lt c.args.vars l.var) c.args.lits.now c.loop-lit.lit-index c.lit-item.result
    c.loop-lit-test.true c.lit-item.is c.loop-lit.invariant.none
    (lt-ltb c.args.vars c.lit-item.result.var (omega arith)))

pub loop-lit-preserved : goal.loop-lit-preserved
loop-lit-preserved c = record {
  none = find_more (λ (l : Literal). nat_lt c.args.vars l.var) c.args.lits.now c.loop-lit.lit-index c.lit-item.result
      c.loop-lit-test.true c.lit-item.is c.loop-lit.invariant.none
      (le-ltb c.args.vars c.lit-item.result.var (omega arith));
  within = All-more (IsWithin c.args.vars) c.args.lits.now c.loop-lit.lit-index c.lit-item.result c.loop-lit-test.true
      c.loop-lit.invariant.within
      (at_read c.args.lits.now (IsWithin c.args.vars) c.loop-lit.lit-index c.lit-item.result c.loop-lit-test.true c.lit-item.is
      (record { low = omega arith; high = omega arith }) c.lit-item.result);
}
