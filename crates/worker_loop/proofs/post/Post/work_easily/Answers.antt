use Rattle.std.proofs.Common.{◌∙◌, subst}
use Rattle.std.specs.Prelude.{Option, IfNone}
use Rattle.std.proofs.lemmas.Result.{on_ok_weaker}
use Rattle.worker_loop.specs.declared.endings.TurnEnd.{TurnEnd}
use Rattle.worker_loop.specs.Steps.Moves.{IsAskedTimes, IsInVain}
use Rattle.worker_loop.proofs.Onward.{onward_trans}
use Rattle.worker_loop.proofs.Queries.{asked_after}
use Rattle.worker_loop.proofs.Turning.{learnt_longer}
use Rattle.worker_loop.proofs.Settling.{settled_onward}
use Rattle.worker_loop.proofs.Turned.{given_up}
use Rattle.worker_loop.proofs.post.Post.work_easily.Goals as goal

pub returns-in_err-chosen-in-None-clause-onward : goal.returns-in_err-chosen-in-None-clause-onward
returns-in_err-chosen-in-None-clause-onward g c =
    onward_trans c.args.self.now c.try_block.new.self c.choose_block.new.self c.try_block.ensures.onward c.choose_block.ensures.looking.onward

pub returns-in_ok-chosen-in-None-clause-onward : goal.returns-in_ok-chosen-in-None-clause-onward
returns-in_ok-chosen-in-None-clause-onward g c =
    let p = c.args.self.now in
    let q = c.try_block.new.self in
    let r = c.choose_block.new.self in
    onward_trans p r c.try_block-in-None.new.self (onward_trans p q r c.try_block.ensures.onward c.choose_block.ensures.looking.onward)
    c.try_block-in-None.ensures.onward

pub returns-in_ok-chosen-in-None-clause-asked : goal.returns-in_ok-chosen-in-None-clause-asked
returns-in_ok-chosen-in-None-clause-asked g c =
    let p = c.args.self.now in
    let q = c.try_block.new.self in
    let r = c.choose_block.new.self in
    let s = c.try_block-in-None.new.self in
    let vain : IsInVain 0 p q = subst (λ (tried : Option TurnEnd). IfNone tried (IsInVain 0 p q)) c.in-None.is c.in_ok-end.ensures.vain in
    let chosen : IsAskedTimes 0 p.solver.log r.solver.log =
    asked_after 0 0 p.solver.log q.solver.log r.solver.log (learnt_longer p.solver.log q.solver.log c.try_block.ensures.onward.log)
    (learnt_longer q.solver.log r.solver.log c.choose_block.ensures.looking.onward.log) vain.asked c.choose_block.ensures.looking.asked in
    asked_after 0 2 p.solver.log r.solver.log s.solver.log
    (learnt_longer p.solver.log r.solver.log (onward_trans p q r c.try_block.ensures.onward c.choose_block.ensures.looking.onward).log)
    (learnt_longer r.solver.log s.solver.log c.try_block-in-None.ensures.onward.log) chosen c.try_block-in-None.ensures.asked

pub returns-in_ok-chosen-in-None-clause-settled : goal.returns-in_ok-chosen-in-None-clause-settled
returns-in_ok-chosen-in-None-clause-settled g c =
    let p = c.args.self.now in
    let q = c.try_block.new.self in
    let r = c.choose_block.new.self in
    let vain : IsInVain 0 p q = subst (λ (tried : Option TurnEnd). IfNone tried (IsInVain 0 p q)) c.in-None.is c.in_ok-end.ensures.vain in
    let all = onward_trans p q r c.try_block.ensures.onward c.choose_block.ensures.looking.onward in
    on_ok_weaker c.try_block-in-None.result (λ keeps settled. keeps
    (settled_onward p r c.choose_block.ensures.looking.post all (c.choose_block.ensures.looking.models ∙ vain.models) settled))
    c.try_block-in-None.ensures.settled

pub returns-in_ok-chosen-in-None-clause-vain : goal.returns-in_ok-chosen-in-None-clause-vain
returns-in_ok-chosen-in-None-clause-vain g c =
    let p = c.args.self.now in
    let q = c.try_block.new.self in
    let vain : IsInVain 0 p q = subst (λ (tried : Option TurnEnd). IfNone tried (IsInVain 0 p q)) c.in-None.is c.in_ok-end.ensures.vain in
    given_up c.in_ok-conflicts-in-None.conflicts p q c.choose_block.new.self c.try_block-in-None.new.self c.try_block-in-None.result vain
    c.try_block.ensures.onward c.choose_block.ensures.looking.onward c.try_block-in-None.ensures.onward c.choose_block.ensures.looking.asked
    c.choose_block.ensures.looking.models c.in_ok-conflicts-in-None.ensures c.try_block-in-None.ensures.vain
