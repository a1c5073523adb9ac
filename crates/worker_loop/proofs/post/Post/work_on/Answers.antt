use Rattle.std.proofs.Common.{◌≡◌, [], sym, subst, ◌∙◌}
use Rattle.std.specs.Prelude.{All, map}
use Rattle.std.proofs.lemmas.Result.{on_ok_weaker}
use Rattle.cnf_core.specs.Literals.{Literals, AreWithin}
use Rattle.board_core.specs.Subjects.{About}
use Rattle.assumption_solver.specs.Answers.{FoundSays}
use Rattle.assumption_solver.specs.SolverStates.{SolverState}
use Rattle.worker_loop.specs.Steps.Moves.{IsClosed, IsAskedTimes, against_phase}
use Rattle.worker_loop.proofs.Words.{block_within}
use Rattle.worker_loop.proofs.Going.{goes_by_block}
use Rattle.worker_loop.proofs.Onward.{onward_trans}
use Rattle.worker_loop.proofs.Queries.{asked_after}
use Rattle.worker_loop.proofs.Turning.{learnt_longer}
use Rattle.worker_loop.proofs.Settling.{settled_onward, onward_from}
use Rattle.worker_loop.proofs.Blocked.{within_against, closed_by_all, block_later}
use Rattle.worker_loop.proofs.post.Post.work_on.Goals as goal

pub against-requires-clause-block : goal.against-requires-clause-block
against-requires-clause-block g c =
    block_within c.args.self.now.loaded.items c.args.block.now c.args.self.now.question.now.formula.vars 256 c.requires.block

pub ask-requires-clause-assume : goal.ask-requires-clause-assume
ask-requires-clause-assume g c =
    let p = c.args.self.now in
    let is : c.deref-2.result.now ≡ map (against_phase p.question.now.phases) c.args.block.now = c.deref-2.ensures.value ∙ c.in_ok-assume.ensures in
    subst (λ (a : About). AreWithin a.formula.vars c.deref-2.result.now) (sym c.prefer.ensures.same.question)
    (subst (λ (ls : Literals). AreWithin p.question.now.formula.vars ls) (sym is)
    (within_against p.question.now.phases p.loaded.items c.args.block.now p.question.now.formula.vars 256 c.requires.block))

pub returns-in-Closed-clause-onward : goal.returns-in-Closed-clause-onward
returns-in-Closed-clause-onward g c = onward_from c.args.self.now c.prefer.new.self c.ask.new.self c.prefer.ensures.same c.ask.ensures.onward

pub returns-in-Closed-clause-follows : goal.returns-in-Closed-clause-follows
returns-in-Closed-clause-follows g c =
    let p = c.args.self.now in
    let is : c.deref-2.result.now ≡ map (against_phase p.question.now.phases) c.args.block.now = c.deref-2.ensures.value ∙ c.in_ok-assume.ensures in
    let all = onward_from p c.prefer.new.self c.ask.new.self c.prefer.ensures.same c.ask.ensures.onward in
    goes_by_block p c.ask.new.self c.args.block.now c.requires.copied all c.requires.block c.requires.some
    (closed_by_all c.ask.new.self p.question.now.phases c.args.block.now
    (subst (λ (ls : Literals). All (λ l. IsClosed c.ask.new.self l.var) ls) is c.in-Closed.ensures.says.0))

pub returns-in-Closed-clause-settled : goal.returns-in-Closed-clause-settled
returns-in-Closed-clause-settled g c =
    let all = onward_from c.args.self.now c.prefer.new.self c.ask.new.self c.prefer.ensures.same c.ask.ensures.onward in
    settled_onward c.args.self.now c.ask.new.self c.ask.ensures.post all (c.ask.ensures.models ∙ c.prefer.ensures.same.models)

pub follow-requires-clause-block : goal.follow-requires-clause-block
follow-requires-clause-block g c =
    let p = c.args.self.now in
    let all = onward_from p c.prefer.new.self c.ask.new.self c.prefer.ensures.same c.ask.ensures.onward in
    block_later p c.ask.new.self c.args.block.now all c.requires.block

pub follow-requires-clause-found : goal.follow-requires-clause-found
follow-requires-clause-found g c =
    let p = c.args.self.now in
    let q = c.ask.new.self in
    let is : c.deref-2.result.now ≡ map (against_phase p.question.now.phases) c.args.block.now = c.deref-2.ensures.value ∙ c.in_ok-assume.ensures in
    let all = onward_from p c.prefer.new.self q c.prefer.ensures.same c.ask.ensures.onward in
    subst (λ (a : About). FoundSays c.in-Answered.found (map (against_phase a.phases) c.args.block.now) [] q.budget q.solver.log) (sym all.question)
    (subst (λ (ls : Literals). FoundSays c.in-Answered.found ls [] q.budget q.solver.log) is c.in-Answered.ensures.says)

pub returns-clause-onward : goal.returns-clause-onward
returns-clause-onward g c =
    let all = onward_from c.args.self.now c.prefer.new.self c.ask.new.self c.prefer.ensures.same c.ask.ensures.onward in
    onward_trans c.args.self.now c.ask.new.self c.follow.new.self all c.follow.ensures.onward

pub returns-clause-asked : goal.returns-clause-asked
returns-clause-asked g c =
    let p = c.args.self.now in
    let q = c.ask.new.self in
    let all = onward_from p c.prefer.new.self q c.prefer.ensures.same c.ask.ensures.onward in
    let first : IsAskedTimes 1 p.solver.log q.solver.log =
    subst (λ (s : SolverState). IsAskedTimes 1 s.log q.solver.log) c.prefer.ensures.same.solver c.ask.ensures.asked in
    asked_after 1 1 p.solver.log q.solver.log c.follow.new.self.solver.log (learnt_longer p.solver.log q.solver.log all.log)
    (learnt_longer q.solver.log c.follow.new.self.solver.log c.follow.ensures.onward.log) first c.follow.ensures.asked

pub returns-clause-settled : goal.returns-clause-settled
returns-clause-settled g c =
    let all = onward_from c.args.self.now c.prefer.new.self c.ask.new.self c.prefer.ensures.same c.ask.ensures.onward in
    on_ok_weaker c.follow.result (λ keeps settled. keeps
    (settled_onward c.args.self.now c.ask.new.self c.ask.ensures.post all (c.ask.ensures.models ∙ c.prefer.ensures.same.models) settled))
    c.follow.ensures.settled
