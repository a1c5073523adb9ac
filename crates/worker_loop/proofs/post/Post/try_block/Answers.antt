use Rattle.std.proofs.Common.{◌≡◌, ℕ, ◌+◌, sym, subst, ◌∙◌, arith}
use Rattle.std.specs.Prelude.{map}
use Rattle.cnf_core.specs.Literals.{Literals, AreWithin}
use Rattle.board_core.specs.Subjects.{About}
use Rattle.assumption_solver.specs.SolverStates.{SolverState}
use Rattle.worker_loop.specs.Steps.Moves.{IsAskedTimes, IsOnward, against_phase, queries_of}
use Rattle.worker_loop.proofs.Words.{block_within}
use Rattle.worker_loop.proofs.Blocked.{within_against}
use Rattle.worker_loop.proofs.Onward.{onward_trans}
use Rattle.worker_loop.proofs.Queries.{asked_after, asked_more, queries_few}
use Rattle.worker_loop.proofs.Turning.{learnt_longer}
use Rattle.worker_loop.proofs.Settling.{settled_onward, onward_from}
use Rattle.worker_loop.proofs.post.Post.try_block.Goals as goal

pub against-requires-clause-block : goal.against-requires-clause-block
against-requires-clause-block g c =
    block_within c.args.self.now.loaded.items c.args.block.now c.args.self.now.question.now.formula.vars 256 c.requires.block

pub look-requires-clause-assume : goal.look-requires-clause-assume
look-requires-clause-assume g c =
    let p = c.args.self.now in
    let is : c.deref-2.result.now ≡ map (against_phase p.question.now.phases) c.args.block.now = c.deref-2.ensures.value ∙ c.in_ok-assume.ensures in
    subst (λ (a : About). AreWithin a.formula.vars c.deref-2.result.now) (sym c.prefer.ensures.same.question)
    (subst (λ (ls : Literals). AreWithin p.question.now.formula.vars ls) (sym is)
    (within_against p.question.now.phases p.loaded.items c.args.block.now p.question.now.formula.vars 256 c.requires.block))

pub returns-in_default-clause-onward : goal.returns-in_default-clause-onward
returns-in_default-clause-onward g c = onward_from c.args.self.now c.prefer.new.self c.look.new.self c.prefer.ensures.same c.look.ensures.onward

pub returns-in_default-clause-asked : goal.returns-in_default-clause-asked
returns-in_default-clause-asked g c =
    let n : ℕ = queries_of c.args.conflicts in
    asked_more n 2 c.args.self.now.solver.log c.look.new.self.solver.log (omega (arith, queries_few c.args.conflicts))
    (subst (λ (t : SolverState). IsAskedTimes n t.log c.look.new.self.solver.log) c.prefer.ensures.same.solver c.look.ensures.asked)

pub returns-in_default-clause-settled : goal.returns-in_default-clause-settled
returns-in_default-clause-settled g c =
    settled_onward c.args.self.now c.look.new.self c.look.ensures.post
    (onward_from c.args.self.now c.prefer.new.self c.look.new.self c.prefer.ensures.same c.look.ensures.onward)
    (c.look.ensures.models ∙ c.prefer.ensures.same.models)

pub returns-in_err-follow-clause-onward : goal.returns-in_err-follow-clause-onward
returns-in_err-follow-clause-onward g c =
    onward_trans c.args.self.now c.look.new.self c.follow.new.self
    (onward_from c.args.self.now c.prefer.new.self c.look.new.self c.prefer.ensures.same c.look.ensures.onward) c.follow.ensures.onward

pub returns-in_err-follow-clause-asked : goal.returns-in_err-follow-clause-asked
returns-in_err-follow-clause-asked g c =
    let p = c.args.self.now in
    let q = c.look.new.self in
    let n : ℕ = queries_of c.args.conflicts in
    let all : IsOnward p q = onward_from p c.prefer.new.self q c.prefer.ensures.same c.look.ensures.onward in
    let looked : IsAskedTimes n p.solver.log q.solver.log =
    subst (λ (t : SolverState). IsAskedTimes n t.log q.solver.log) c.prefer.ensures.same.solver c.look.ensures.asked in
    asked_more (n + 1) 2 p.solver.log c.follow.new.self.solver.log (omega (arith, queries_few c.args.conflicts))
    (asked_after n 1 p.solver.log q.solver.log c.follow.new.self.solver.log (learnt_longer p.solver.log q.solver.log all.log)
    (learnt_longer q.solver.log c.follow.new.self.solver.log c.follow.ensures.onward.log) looked c.follow.ensures.asked)

pub returns-clause-onward : goal.returns-clause-onward
returns-clause-onward g c =
    onward_trans c.args.self.now c.look.new.self c.follow.new.self
    (onward_from c.args.self.now c.prefer.new.self c.look.new.self c.prefer.ensures.same c.look.ensures.onward) c.follow.ensures.onward

pub returns-clause-asked : goal.returns-clause-asked
returns-clause-asked g c =
    let p = c.args.self.now in
    let q = c.look.new.self in
    let n : ℕ = queries_of c.args.conflicts in
    let all : IsOnward p q = onward_from p c.prefer.new.self q c.prefer.ensures.same c.look.ensures.onward in
    let looked : IsAskedTimes n p.solver.log q.solver.log =
    subst (λ (t : SolverState). IsAskedTimes n t.log q.solver.log) c.prefer.ensures.same.solver c.look.ensures.asked in
    asked_more (n + 1) 2 p.solver.log c.follow.new.self.solver.log (omega (arith, queries_few c.args.conflicts))
    (asked_after n 1 p.solver.log q.solver.log c.follow.new.self.solver.log (learnt_longer p.solver.log q.solver.log all.log)
    (learnt_longer q.solver.log c.follow.new.self.solver.log c.follow.ensures.onward.log) looked c.follow.ensures.asked)

pub returns-clause-settled : goal.returns-clause-settled
returns-clause-settled g c =
    let all = onward_from c.args.self.now c.prefer.new.self c.look.new.self c.prefer.ensures.same c.look.ensures.onward in
    λ settled. c.in_ok-follow.ensures.settled
    (settled_onward c.args.self.now c.look.new.self c.look.ensures.post all (c.look.ensures.models ∙ c.prefer.ensures.same.models) settled)
