use Rattle.std.proofs.Common.{◌≡◌, ◌≤◌, ℕ, sym, ◌∙◌, subst, ap, arith}
use Rattle.std.specs.Prelude.{All}
use Rattle.std.proofs.lemmas.List.Elements.{All-weaker}
use Rattle.cnf_core.specs.Literals.{Literal, IsWithin}
use Rattle.board_core.specs.Subjects.{About}
use Rattle.worker_loop.specs.Steps.Moves.{IsClosed}
use Rattle.worker_loop.proofs.Onward.{stepped_refl, stepped_next, closed_none, closed_more, closed_all, still_closed, item_has}
use Rattle.worker_loop.proofs.post.Post.are_closed.Goals as goal

pub loop-lit-init : goal.loop-lit-init
loop-lit-init c =
    (stepped_refl c.args.words.now c.args.self.now c.requires.post c.requires.sits, closed_none c.args.self.now c.args.lits.now)

pub is_open_now-requires-clause-post : goal.is_open_now-requires-clause-post
is_open_now-requires-clause-post c = c.loop-lit.invariant.0.post

pub is_open_now-requires-clause-sits : goal.is_open_now-requires-clause-sits
is_open_now-requires-clause-sits c = c.loop-lit.invariant.0.sits

pub is_open_now-requires-clause-var : goal.is_open_now-requires-clause-var
is_open_now-requires-clause-var c =
    let within : IsWithin c.args.self.now.question.now.formula.vars c.lit-item.result =
    item_has (IsWithin c.args.self.now.question.now.formula.vars) c.args.lits.now c.loop-lit.lit-index c.lit-item.result
    c.loop-lit-test.true c.lit-item.is c.requires.lits in
    let var = c.var.ensures.value in
    let range = c.var.ensures.range in
    let high = within.high in
    let vars : c.loop-lit.self.question.now.formula.vars ≡ c.args.self.now.question.now.formula.vars =
    ap (λ (a : About). a.formula.vars) c.loop-lit.invariant.0.onward.question in
    (range.0, omega (arith, var, high, vars))

pub returns-then-is_open_now-clause-onward : goal.returns-then-is_open_now-clause-onward
returns-then-is_open_now-clause-onward c =
    let next = stepped_next c.args.words.now c.args.self.now c.loop-lit.self c.is_open_now.new.self c.loop-lit.invariant.0
    c.is_open_now.ensures.post c.is_open_now.ensures.sits c.is_open_now.ensures.onward c.is_open_now.ensures.models
    c.is_open_now.ensures.solver in
    next.onward

pub returns-then-is_open_now-clause-models : goal.returns-then-is_open_now-clause-models
returns-then-is_open_now-clause-models c = c.is_open_now.ensures.models ∙ c.loop-lit.invariant.0.models

pub returns-then-is_open_now-clause-solver : goal.returns-then-is_open_now-clause-solver
returns-then-is_open_now-clause-solver c = c.is_open_now.ensures.solver ∙ c.loop-lit.invariant.0.solver

pub loop-lit-preserved : goal.loop-lit-preserved
loop-lit-preserved c =
    let before = c.loop-lit.invariant.0 in
    let here : IsClosed c.is_open_now.new.self c.lit-item.result.var =
    subst (λ (x : ℕ). IsClosed c.is_open_now.new.self x) c.var.ensures.value (c.is_open_now.ensures.open c.if-is_open_now.false) in (
      stepped_next c.args.words.now c.args.self.now c.loop-lit.self c.is_open_now.new.self before c.is_open_now.ensures.post
          c.is_open_now.ensures.sits c.is_open_now.ensures.onward c.is_open_now.ensures.models c.is_open_now.ensures.solver,
      closed_more c.is_open_now.new.self c.loop-lit.lit-index c.args.lits.now c.lit-item.result c.loop-lit-test.true c.lit-item.is
          (still_closed c.loop-lit.self c.is_open_now.new.self c.loop-lit.lit-index c.args.lits.now c.is_open_now.ensures.onward
          (subst (λ (a : About). All (λ (l : Literal). l.var ≤ a.formula.vars) c.args.lits.now) (sym before.onward.question)
          (All-weaker (IsWithin c.args.self.now.question.now.formula.vars)
          (λ (l : Literal). l.var ≤ c.args.self.now.question.now.formula.vars) (λ l within. within.high)
          c.args.lits.now c.requires.lits))
          c.loop-lit.invariant.1)
          here,
    )

pub returns-clause-post : goal.returns-clause-post
returns-clause-post c = c.loop-lit.invariant.0.post

pub returns-clause-sits : goal.returns-clause-sits
returns-clause-sits c = c.loop-lit.invariant.0.sits

pub returns-clause-onward : goal.returns-clause-onward
returns-clause-onward c = c.loop-lit.invariant.0.onward

pub returns-clause-models : goal.returns-clause-models
returns-clause-models c = c.loop-lit.invariant.0.models

pub returns-clause-solver : goal.returns-clause-solver
returns-clause-solver c = c.loop-lit.invariant.0.solver

pub returns-clause-closed : goal.returns-clause-closed
returns-clause-closed c = λ _.
    let past = c.loop-lit-test.false in
    closed_all c.loop-lit.self c.loop-lit.lit-index c.args.lits.now (omega (arith, past)) c.loop-lit.invariant.1
