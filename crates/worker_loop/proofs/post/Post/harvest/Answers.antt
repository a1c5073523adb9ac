use Rattle.std.proofs.Common.{◌≡◌, ◌∙◌, ◌+◌, ◌-◌, ◌<◌, sym, ap, arith}
use Rattle.assumption_solver.specs.SolverStates.{SolverState}
use Rattle.worker_loop.proofs.Onward.{stepped_refl, stepped_next, stepped_counted}
use Rattle.worker_loop.proofs.post.Post.harvest.Goals as goal

pub loop-self-init : goal.loop-self-init
loop-self-init c = (stepped_refl c.args.words.now c.args.self.now c.requires.post c.requires.sits, c.requires.copied)

pub fix_open-requires-clause-post : goal.fix_open-requires-clause-post
fix_open-requires-clause-post c = c.loop-self.invariant.0.post

pub fix_open-requires-clause-sits : goal.fix_open-requires-clause-sits
fix_open-requires-clause-sits c = c.loop-self.invariant.0.sits

pub fix_open-requires-clause-copied : goal.fix_open-requires-clause-copied
fix_open-requires-clause-copied c = c.loop-self.invariant.1

pub fix_open-requires-clause-unit : goal.fix_open-requires-clause-unit
fix_open-requires-clause-unit c = c.root_at-lit.ensures

pub loop-self-smaller : goal.loop-self-smaller
loop-self-smaller c =
    let roots : c.fix_open.new.self.solver.roots ≡ c.loop-self.self.solver.roots =
    ap (λ (s : SolverState). s.roots) c.fix_open.ensures.solver in
    let counted : c.fix_open.new.self.harvested ≡ c.loop-self.self.harvested = c.fix_open.ensures.harvested in
    let low : c.loop-self.self.harvested < c.loop-self.self.solver.roots = omega (arith, c.loop-self-test.true, c.root_count.ensures) in
    let less : c.fix_open.new.self.solver.roots - (c.fix_open.new.self.harvested + 1) < c.loop-self.self.solver.roots -
    c.loop-self.self.harvested =
    omega (arith, roots, counted, low) in
    less

pub loop-self-preserved : goal.loop-self-preserved
loop-self-preserved c = (
  stepped_counted c.args.words.now c.args.self.now c.fix_open.new.self (c.fix_open.new.self.harvested + 1)
      (stepped_next c.args.words.now c.args.self.now c.loop-self.self c.fix_open.new.self c.loop-self.invariant.0 c.fix_open.ensures.post
      c.fix_open.ensures.sits c.fix_open.ensures.onward c.fix_open.ensures.models c.fix_open.ensures.solver),
  c.fix_open.ensures.onward.copy ∙ c.loop-self.invariant.1 ∙ sym c.fix_open.ensures.onward.loaded,
)

pub returns-clause-post : goal.returns-clause-post
returns-clause-post c = c.loop-self.invariant.0.post

pub returns-clause-sits : goal.returns-clause-sits
returns-clause-sits c = c.loop-self.invariant.0.sits

pub returns-clause-onward : goal.returns-clause-onward
returns-clause-onward c = c.loop-self.invariant.0.onward

pub returns-clause-models : goal.returns-clause-models
returns-clause-models c = c.loop-self.invariant.0.models

pub returns-clause-solver : goal.returns-clause-solver
returns-clause-solver c = c.loop-self.invariant.0.solver
