use Rattle.std.proofs.Common.{◌∙◌, arith}
use Rattle.assumption_solver.proofs.Tables.{noted_trans}
use Rattle.assumption_solver.proofs.search.Search.settle_roots.Goals as goal

pub loop-self-preserved : goal.loop-self-preserved
loop-self-preserved c =
    let e = c.in_ok-settle_next.ensures in
    let was = c.loop-self.invariant in record {
      solves = e.solves;
      trail = e.trail;
      root = e.level ∙ was.root;
      gone = e.gone ∙ was.gone;
      count = e.count ∙ was.count;
      grown = record {
        literals = λ l h. e.grown.literals l (was.grown.literals l h);
        roots = λ l h. e.grown.roots l (was.grown.roots l h);
      };
      vars = e.vars ∙ was.vars;
      epochs = e.epochs ∙ was.epochs;
      guided = λ assume chunk h. e.guided assume chunk (was.guided assume chunk h);
      noted = noted_trans c.args.self.now.journal c.loop-self.self.journal c.settle_next.new.self.journal was.noted e.noted;
    }

pub returns-clause-units : goal.returns-clause-units
returns-clause-units c = λ k within root. c.loop-self.invariant.solves.bears.settles.units k (omega (arith, within, c.len.ensures.value, c.loop-self-test.false))

pub returns-in_err-settle_next-clause-noted : goal.returns-in_err-settle_next-clause-noted
returns-in_err-settle_next-clause-noted c =
    noted_trans c.args.self.now.journal c.loop-self.self.journal c.settle_next.new.self.journal c.loop-self.invariant.noted c.settle_next.ensures.noted
