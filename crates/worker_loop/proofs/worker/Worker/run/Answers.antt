use Rattle.std.proofs.Common.{◌≡◌, suc, ◌≤◌, true≢false, sym, ◌∙◌, subst}
use Rattle.core_chunks.specs.Chunks.{open_count}
use Rattle.worker_loop.specs.declared.endings.End.{End}
use Rattle.worker_loop.specs.declared.endings.TurnEnd.{TurnEnd}
use Rattle.worker_loop.specs.declared.endings.TurnEnd.TheVariants.{Going}
use Rattle.worker_loop.specs.Steps.Handing.{HandsIn}
use Rattle.worker_loop.specs.Steps.Running.{IsRunning, turns_left}
use Rattle.worker_loop.proofs.Running.{running_first, running_next, left_next, found}
use Rattle.worker_loop.proofs.worker.Worker.run.Goals as goal

pub loop-end-init : goal.loop-end-init
loop-end-init g c = record {
  running = running_first c.args.words.now 2 c.args.self c.requires.sits c.requires.few;
  evidence = c.prove_evidence.ensures;
}

pub loop-end-smaller : goal.loop-end-smaller
loop-end-smaller g c =
    let going : c.loop-end.end ≡ Going = c.is_going.ensures.0 c.loop-end-test.true in
    let u = c.loop-end.worker in
    let v = c.turn-end.new.self in
    subst (λ (e : TurnEnd). suc (turns_left c.turn-end.result (open_count v.post.seat.view.seen v.post.about.formula.vars))
    ≤ turns_left e (open_count u.post.seat.view.seen u.post.about.formula.vars)) (sym going)
    (left_next c.args.words.now u v c.turn-end.result c.turn-end.ensures.sits c.prove_evidence-in-loop-end.ensures.view c.turn-end.ensures.later c.turn-end.ensures.says)

pub loop-end-preserved : goal.loop-end-preserved
loop-end-preserved g c =
    let going : c.loop-end.end ≡ Going = c.is_going.ensures.0 c.loop-end-test.true in record {
      running = running_next c.args.words.now 2 c.args.self c.loop-end.worker c.turn-end.new.self c.turn-end.result
          (subst (λ (e : TurnEnd). IsRunning c.args.words.now 2 c.args.self c.loop-end.worker e) going c.loop-end.invariant.running)
          c.turn-end.ensures.sits c.prove_evidence-in-loop-end.ensures.view c.turn-end.ensures.later c.turn-end.ensures.stored c.turn-end.ensures.number
          c.turn-end.ensures.says c.turn-end.ensures.alive;
      evidence = c.prove_evidence-in-loop-end.ensures;
    }

pub returns : goal.returns
returns g c =
    found c.args.words.now c.args.self c.loop-end.worker c.findings.result c.loop-end.end c.loop-end.invariant.running
    (λ going. true≢false (sym (c.is_going.ensures.1 going) ∙ c.loop-end-test.false)) c.loop-end.invariant.evidence
    (subst (λ (e : End). HandsIn c.loop-end.worker e c.findings.result) c.from.ensures c.findings.ensures)
