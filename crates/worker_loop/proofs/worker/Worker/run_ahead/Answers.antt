use Rattle.std.proofs.Common.{◌≡◌, suc, ◌≤◌, sym, subst}
use Rattle.core_chunks.specs.Chunks.{open_count}
use Rattle.worker_loop.specs.declared.endings.TurnEnd.{TurnEnd}
use Rattle.worker_loop.specs.declared.endings.TurnEnd.TheVariants.{Going}
use Rattle.worker_loop.specs.Steps.Running.{IsRunning, turns_left}
use Rattle.worker_loop.proofs.Running.{running_first, running_next, running_vain, running_few, left_next}
use Rattle.worker_loop.proofs.worker.Worker.run_ahead.Goals as goal

pub loop-self-init : goal.loop-self-init
loop-self-init g c = record {
  running = running_first c.args.words.now 1 c.args.self.now c.requires.sits c.requires.few;
  evidence = c.prove_evidence.ensures;
}

pub returns-in-None-clause-few : goal.returns-in-None-clause-few
returns-in-None-clause-few g c =
    let w = c.args.self.now in
    let u = c.loop-self.self in
    let going : c.loop-self.end ≡ Going = c.is_going.ensures.0 c.loop-self-test.true in
    let before : IsRunning c.args.words.now 1 w u Going =
    subst (λ (e : TurnEnd). IsRunning c.args.words.now 1 w u e) going c.loop-self.invariant.running in
    running_few c.args.words.now 1 w c.easy_turn.new.self Going
    (running_vain c.args.words.now 1 w u c.easy_turn.new.self before c.easy_turn.ensures.sits c.easy_turn.ensures.later c.in-None.ensures.vain
    c.easy_turn.ensures.number)

pub loop-self-smaller : goal.loop-self-smaller
loop-self-smaller g c =
    let going : c.loop-self.end ≡ Going = c.is_going.ensures.0 c.loop-self-test.true in
    let u = c.loop-self.self in
    let v = c.easy_turn.new.self in
    subst (λ (e : TurnEnd). suc (turns_left c.in-Some.next (open_count v.post.seat.view.seen v.post.about.formula.vars))
    ≤ turns_left e (open_count u.post.seat.view.seen u.post.about.formula.vars)) (sym going)
    (left_next c.args.words.now u v c.in-Some.next c.easy_turn.ensures.sits c.prove_evidence-in-loop-self.ensures.view c.easy_turn.ensures.later
    c.in-Some.ensures.says)

pub loop-self-preserved : goal.loop-self-preserved
loop-self-preserved g c =
    let w = c.args.self.now in
    let u = c.loop-self.self in
    let going : c.loop-self.end ≡ Going = c.is_going.ensures.0 c.loop-self-test.true in record {
      running = running_next c.args.words.now 1 w u c.easy_turn.new.self c.in-Some.next
          (subst (λ (e : TurnEnd). IsRunning c.args.words.now 1 w u e) going c.loop-self.invariant.running)
          c.easy_turn.ensures.sits c.prove_evidence-in-loop-self.ensures.view c.easy_turn.ensures.later c.easy_turn.ensures.stored
          c.easy_turn.ensures.number c.in-Some.ensures.says c.in-Some.ensures.alive;
      evidence = c.prove_evidence-in-loop-self.ensures;
    }
