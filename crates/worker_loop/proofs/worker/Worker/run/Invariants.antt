use Rattle.candidate_words.specs.Seats.{Board}
use Rattle.worker_loop.specs.Posts.{WorkerState}
use Rattle.worker_loop.specs.declared.endings.TurnEnd.{TurnEnd}
use Rattle.core_chunks.specs.Chunks.{open_count}
use Rattle.worker_loop.specs.Steps.Running.{HasEvidence, IsRunning, turns_left}
use Rattle.worker_loop.proofs.worker.Worker.run.Given as goal

-- the turns so far, of which the last came to `end`
pub record IsAt (w v : WorkerState) (b : Board) (end : TurnEnd) : Type 0 where
  pub running : IsRunning b 2 w v end
  pub evidence : HasEvidence v

abbrev pub invariant-loop-end : goal.invariant-loop-end
invariant-loop-end g l = IsAt l.fn.self l.worker l.words l.end

-- how many more there may be
abbrev pub decreases-loop-end : goal.decreases-loop-end
decreases-loop-end g l = turns_left l.end (open_count l.worker.post.seat.view.seen l.worker.post.about.formula.vars)
