use Rattle.std.proofs.Common.{◌≡◌, ◌≤◌, sym, subst, arith}
use Rattle.std.specs.Prelude.{All}
use Rattle.std.proofs.lemmas.List.Elements.{All-weaker}
use Rattle.cnf_core.specs.Literals.{Literal}
use Rattle.assumption_solver.specs.SolverStates.{SolverState}
use Rattle.board_core.specs.Subjects.{About, candidate}
use Rattle.board_core.proofs.Ends.{candidate_within}
use Rattle.worker_loop.specs.Evidence.{IsRooted}
use Rattle.worker_loop.proofs.Onward.{stepped_refl, stepped_next, closed_none, closed_more, closed_all, still_closed, item_has}
use Rattle.worker_loop.proofs.post.Post.fix_all.Goals as goal

pub loop-lit-init : goal.loop-lit-init
loop-lit-init c =
    (stepped_refl c.args.words.now c.args.self.now c.requires.post c.requires.sits, closed_none c.args.self.now c.args.lits.now)

pub fix-requires-clause-post : goal.fix-requires-clause-post
fix-requires-clause-post c = c.loop-lit.invariant.0.post

pub fix-requires-clause-sits : goal.fix-requires-clause-sits
fix-requires-clause-sits c = c.loop-lit.invariant.0.sits

pub fix-requires-clause-rooted : goal.fix-requires-clause-rooted
fix-requires-clause-rooted c =
    let before = c.loop-lit.invariant.0 in
    subst (λ (a : About). IsRooted a c.loop-lit.self.solver.log c.lit-item.result) (sym before.onward.question)
    (subst (λ (s : SolverState). IsRooted c.args.self.now.question.now s.log c.lit-item.result) (sym before.solver)
    (item_has (IsRooted c.args.self.now.question.now c.args.self.now.solver.log) c.args.lits.now c.loop-lit.lit-index c.lit-item.result
    c.loop-lit-test.true c.lit-item.is c.requires.rooted))

pub fix-requires-clause-shown : goal.fix-requires-clause-shown
fix-requires-clause-shown c =
    subst (λ (a : About). candidate a.formula c.lit-item.result.var ≡ 1) (sym c.loop-lit.invariant.0.onward.question)
    (item_has (λ (l : Literal). candidate c.args.self.now.question.now.formula l.var ≡ 1) c.args.lits.now c.loop-lit.lit-index
    c.lit-item.result c.loop-lit-test.true c.lit-item.is c.requires.shown)

pub loop-lit-preserved : goal.loop-lit-preserved
loop-lit-preserved c =
    let before = c.loop-lit.invariant.0 in (
      stepped_next c.args.words.now c.args.self.now c.loop-lit.self c.fix.new.self before c.fix.ensures.post c.fix.ensures.sits
          c.fix.ensures.onward c.fix.ensures.models c.fix.ensures.solver,
      closed_more c.fix.new.self c.loop-lit.lit-index c.args.lits.now c.lit-item.result c.loop-lit-test.true c.lit-item.is
          (still_closed c.loop-lit.self c.fix.new.self c.loop-lit.lit-index c.args.lits.now c.fix.ensures.onward
          (subst (λ (a : About). All (λ (l : Literal). l.var ≤ a.formula.vars) c.args.lits.now) (sym before.onward.question)
          (All-weaker (λ (l : Literal). candidate c.args.self.now.question.now.formula l.var ≡ 1)
          (λ (l : Literal). l.var ≤ c.args.self.now.question.now.formula.vars)
          (λ l shown. let within = candidate_within c.args.self.now.question.now.formula l.var (omega (arith, shown)) in within.high)
          c.args.lits.now c.requires.shown))
          c.loop-lit.invariant.1)
          c.fix.ensures.closed,
    )

pub returns-clause-post : goal.returns-clause-post
returns-clause-post c = c.loop-lit.invariant.0.post

pub returns-clause-sits : goal.returns-clause-sits
returns-clause-sits c = c.loop-lit.invariant.0.sits

pub returns-clause-onward : goal.returns-clause-onward
returns-clause-onward c = c.loop-lit.invariant.0.onward

pub returns-clause-models : goal.returns-clause-models
returns-clause-models c = c.loop-lit.invariant.0.models

pub returns-clause-solver : goal.returns-clause-solver
returns-clause-solver c = c.loop-lit.invariant.0.solver

pub returns-clause-closed : goal.returns-clause-closed
returns-clause-closed c =
    let past = c.loop-lit-test.false in
    closed_all c.loop-lit.self c.loop-lit.lit-index c.args.lits.now (omega (arith, past)) c.loop-lit.invariant.1
