use Rattle.std.proofs.Common.{sym, ap, subst, arith}
use Rattle.lrat_log.specs.Entries.{Recorded, learnt_count}
use Rattle.assumption_solver.specs.declared.query.Course.{Course}
use Rattle.assumption_solver.specs.Logs.{IsContinued}
use Rattle.assumption_solver.specs.Steps.Queries.{CourseSays}
use Rattle.assumption_solver.proofs.Tables.{continued_trans}
use Rattle.assumption_solver.proofs.Queried.{continued_noted}
use Rattle.assumption_solver.proofs.Modelled.{is_model_for}
use Rattle.assumption_solver.proofs.Outcomes.{fixed_units}
use Rattle.assumption_solver.proofs.search.Search.run.Goals as goal

pub returns-in_err-conflict-clause-continued : goal.returns-in_err-conflict-clause-continued
returns-in_err-conflict-clause-continued g c =
    continued_noted c.args.self.now.journal c.loop-conflict.self.journal c.advance.new.self.journal c.loop-conflict.invariant.continued
    c.advance.ensures.noted

pub returns-in-Refuted-clause-continued : goal.returns-in-Refuted-clause-continued
returns-in-Refuted-clause-continued g c =
    continued_noted c.args.self.now.journal c.advance.new.self.journal c.root_core.new.self.journal
    (continued_noted c.args.self.now.journal c.loop-conflict.self.journal c.advance.new.self.journal c.loop-conflict.invariant.continued
    c.advance.ensures.noted)
    c.root_core.ensures.noted

pub returns-in-Failed-clause-continued : goal.returns-in-Failed-clause-continued
returns-in-Failed-clause-continued g c =
    continued_noted c.args.self.now.journal c.advance.new.self.journal c.core.new.self.journal
    (continued_noted c.args.self.now.journal c.loop-conflict.self.journal c.advance.new.self.journal c.loop-conflict.invariant.continued
    c.advance.ensures.noted)
    c.core.ensures.noted

pub returns-in-AllFixed-clause-found : goal.returns-in-AllFixed-clause-found
returns-in-AllFixed-clause-found g c =
    let s = c.advance.new.self in
    let e = c.in_ok-conflict.ensures in
    let chunk = c.args.query.now.chunk.now in
    let h = subst (λ (x : Course). CourseSays x c.args.query.now.assume.now chunk s.arena s.trail) c.in-AllFixed.is e.course in
    fixed_units s.analyser s.settled s.arena s.watches s.trail s.journal chunk e.solves.bears e.trail h.1 h.0

pub returns-in-AllFixed-clause-continued : goal.returns-in-AllFixed-clause-continued
returns-in-AllFixed-clause-continued g c =
    continued_noted c.args.self.now.journal c.loop-conflict.self.journal c.advance.new.self.journal c.loop-conflict.invariant.continued
    c.advance.ensures.noted

pub returns-in_err-model-in-Complete-clause-continued : goal.returns-in_err-model-in-Complete-clause-continued
returns-in_err-model-in-Complete-clause-continued g c =
    continued_noted c.args.self.now.journal c.loop-conflict.self.journal c.advance.new.self.journal c.loop-conflict.invariant.continued
    c.advance.ensures.noted

pub returns-in-Complete-clause-found : goal.returns-in-Complete-clause-found
returns-in-Complete-clause-found g c =
    let s = c.advance.new.self in
    let e = c.in_ok-conflict.ensures in
    let assume = c.args.query.now.assume.now in
    let chunk = c.args.query.now.chunk.now in
    let h = subst (λ (x : Course). CourseSays x assume chunk s.arena s.trail) c.in-Complete.is e.course in
    let m = c.in_ok-model-in-Complete.ensures in
    is_model_for s.analyser s.settled s.arena s.watches s.trail s.journal assume chunk c.in_ok-model-in-Complete.field-0 e.solves.bears e.trail
    h.0 m.agrees m.count

pub returns-in-Complete-clause-continued : goal.returns-in-Complete-clause-continued
returns-in-Complete-clause-continued g c =
    continued_noted c.args.self.now.journal c.loop-conflict.self.journal c.advance.new.self.journal c.loop-conflict.invariant.continued
    c.advance.ensures.noted

pub returns-in_err-entry-clause-continued : goal.returns-in_err-entry-clause-continued
returns-in_err-entry-clause-continued g c =
    continued_noted c.args.self.now.journal c.advance.new.self.journal c.refute.new.self.journal
    (continued_noted c.args.self.now.journal c.loop-conflict.self.journal c.advance.new.self.journal c.loop-conflict.invariant.continued
    c.advance.ensures.noted)
    c.refute.ensures.noted

pub returns-then-level-eq0-clause-continued : goal.returns-then-level-eq0-clause-continued
returns-then-level-eq0-clause-continued g c =
    continued_noted c.args.self.now.journal c.advance.new.self.journal c.refute.new.self.journal
    (continued_noted c.args.self.now.journal c.loop-conflict.self.journal c.advance.new.self.journal c.loop-conflict.invariant.continued
    c.advance.ensures.noted)
    c.refute.ensures.noted

pub returns-then-count_learnt-stop-clause-continued : goal.returns-then-count_learnt-stop-clause-continued
returns-then-count_learnt-stop-clause-continued g c =
    continued_noted c.args.self.now.journal c.loop-conflict.self.journal c.advance.new.self.journal c.loop-conflict.invariant.continued
    c.advance.ensures.noted

pub returns-in_err-learn-clause-continued : goal.returns-in_err-learn-clause-continued
returns-in_err-learn-clause-continued g c =
    continued_trans c.args.self.now.journal c.advance.new.self.journal c.learn.new.self.journal
    (continued_noted c.args.self.now.journal c.loop-conflict.self.journal c.advance.new.self.journal c.loop-conflict.invariant.continued
    c.advance.ensures.noted)
    c.learn.ensures.continued

pub loop-conflict-preserved : goal.loop-conflict-preserved
loop-conflict-preserved g c =
    let assume = c.args.query.now.assume.now in
    let chunk = c.args.query.now.chunk.now in
    let r = c.restart.ensures in
    let same = r.unlogged.journal in record {
      solves = r.solves;
      guided = r.guided assume chunk (c.in_ok-learn.ensures.guided assume chunk c.in_ok-conflict.ensures.guided);
      continued = subst (λ (K : Recorded). IsContinued c.args.self.now.journal K) (sym same)
          (continued_trans c.args.self.now.journal c.advance.new.self.journal c.learn.new.self.journal
          (continued_noted c.args.self.now.journal c.loop-conflict.self.journal c.advance.new.self.journal c.loop-conflict.invariant.continued
          c.advance.ensures.noted)
          c.learn.ensures.continued);
      few = omega (arith, ap (λ (K : Recorded). learnt_count K.entries) same, c.learn.ensures.few, c.count_learnt.ensures, c.if-count_learnt-stop.false);
      asked = omega (arith, c.loop-conflict.invariant.asked, c.advance.ensures.asked, c.learn.ensures.asked, r.asked);
    }
