use Rattle.std.proofs.Common.{◌∙◌, sym, subst, arith}
use Rattle.trail_core.specs.Trails.{TrailState}
use Rattle.lrat_log.specs.Entries.{Recorded}
use Rattle.assumption_solver.specs.Steps.Noted.{IsNoted}
use Rattle.assumption_solver.specs.Steps.Queries.{IsGuided}
use Rattle.assumption_solver.proofs.Queried.{noted_over}
use Rattle.assumption_solver.proofs.Sweeps.{swept_grown, swept_decided}
use Rattle.assumption_solver.proofs.search.Search.advance.Goals as goal

pub next_step-requires-clause-swept : goal.next_step-requires-clause-swept
next_step-requires-clause-swept g c =
    let assume = c.args.query.now.assume.now in
    let p = c.propagate.new.self.trail in
    swept_grown assume p c.settle_roots.new.self.trail c.loop-r.sweep c.in_ok-settle_roots.ensures.grown
    (swept_grown assume c.loop-r.self.trail p c.loop-r.sweep c.propagate.ensures.grown c.loop-r.invariant.swept)

pub loop-r-preserved-in-Assume : goal.loop-r-preserved-in-Assume
loop-r-preserved-in-Assume g c =
    let was = c.loop-r.invariant in
    let L = c.args.self.now.journal in
    let p = c.propagate in
    let s = c.settle_roots in
    let d = c.decide in
    let e = c.in-Assume.ensures in
    let assume = c.args.query.now.assume.now in
    let chunk = c.args.query.now.chunk.now in record {
      solves = d.ensures.solves;
      guided = subst (λ (t : TrailState). IsGuided assume chunk t) (sym d.ensures.trail) e.next.guided;
      swept = swept_decided assume s.new.self.trail d.new.self.trail c.in-Assume.lit c.next_step.new.sweep d.ensures.trail e.swept;
      vars = d.ensures.unlogged.vars ∙ c.in_ok-settle_roots.ensures.vars ∙ p.ensures.unlogged.vars ∙ was.vars;
      epochs = d.ensures.unlogged.epochs ∙ c.in_ok-settle_roots.ensures.epochs ∙ p.ensures.unlogged.epochs ∙ was.epochs;
      noted = subst (λ (M : Recorded). IsNoted L M) (sym d.ensures.unlogged.journal)
          (noted_over L c.loop-r.self.journal p.new.self.journal s.new.self.journal was.noted p.ensures.unlogged.journal s.ensures.noted);
      asked = omega (arith, was.asked, e.asked);
    }

pub loop-r-preserved : goal.loop-r-preserved
loop-r-preserved g c =
    let was = c.loop-r.invariant in
    let L = c.args.self.now.journal in
    let p = c.propagate in
    let s = c.settle_roots in
    let d = c.decide-in-Decide in
    let e = c.in-Decide.ensures in
    let assume = c.args.query.now.assume.now in
    let chunk = c.args.query.now.chunk.now in record {
      solves = d.ensures.solves;
      guided = subst (λ (t : TrailState). IsGuided assume chunk t) (sym d.ensures.trail) e.next.guided;
      swept = swept_decided assume s.new.self.trail d.new.self.trail c.in-Decide.lit c.next_step.new.sweep d.ensures.trail e.swept;
      vars = d.ensures.unlogged.vars ∙ c.in_ok-settle_roots.ensures.vars ∙ p.ensures.unlogged.vars ∙ was.vars;
      epochs = d.ensures.unlogged.epochs ∙ c.in_ok-settle_roots.ensures.epochs ∙ p.ensures.unlogged.epochs ∙ was.epochs;
      noted = subst (λ (M : Recorded). IsNoted L M) (sym d.ensures.unlogged.journal)
          (noted_over L c.loop-r.self.journal p.new.self.journal s.new.self.journal was.noted p.ensures.unlogged.journal s.ensures.noted);
      asked = omega (arith, was.asked, e.asked);
    }

pub returns-in_err-settle_roots-clause-noted : goal.returns-in_err-settle_roots-clause-noted
returns-in_err-settle_roots-clause-noted g c =
    noted_over c.args.self.now.journal c.loop-r.self.journal c.propagate.new.self.journal c.settle_roots.new.self.journal
    c.loop-r.invariant.noted c.propagate.ensures.unlogged.journal c.settle_roots.ensures.noted

pub returns-in-Refuted-clause-noted : goal.returns-in-Refuted-clause-noted
returns-in-Refuted-clause-noted g c =
    noted_over c.args.self.now.journal c.loop-r.self.journal c.propagate.new.self.journal c.settle_roots.new.self.journal
    c.loop-r.invariant.noted c.propagate.ensures.unlogged.journal c.settle_roots.ensures.noted

pub returns-in-Failed-clause-noted : goal.returns-in-Failed-clause-noted
returns-in-Failed-clause-noted g c =
    noted_over c.args.self.now.journal c.loop-r.self.journal c.propagate.new.self.journal c.settle_roots.new.self.journal
    c.loop-r.invariant.noted c.propagate.ensures.unlogged.journal c.settle_roots.ensures.noted

pub returns-in-AllFixed-clause-noted : goal.returns-in-AllFixed-clause-noted
returns-in-AllFixed-clause-noted g c =
    noted_over c.args.self.now.journal c.loop-r.self.journal c.propagate.new.self.journal c.settle_roots.new.self.journal
    c.loop-r.invariant.noted c.propagate.ensures.unlogged.journal c.settle_roots.ensures.noted

pub returns-in-Complete-clause-noted : goal.returns-in-Complete-clause-noted
returns-in-Complete-clause-noted g c =
    noted_over c.args.self.now.journal c.loop-r.self.journal c.propagate.new.self.journal c.settle_roots.new.self.journal
    c.loop-r.invariant.noted c.propagate.ensures.unlogged.journal c.settle_roots.ensures.noted
