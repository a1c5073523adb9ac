use Rattle.candidate_words.specs.Seats.{Board}
use Rattle.core_chunks.specs.Chunks.{open_count}
use Rattle.worker_loop.specs.Posts.{WorkerState}
use Rattle.worker_loop.specs.declared.endings.TurnEnd.{TurnEnd}
use Rattle.worker_loop.specs.Steps.Running.{HasEvidence, IsRunning, turns_left}
use Rattle.worker_loop.proofs.worker.Worker.run_ahead.Given as goal

-- the turns so far, of which the last came to `end`
pub record IsAhead (w v : WorkerState) (b : Board) (end : TurnEnd) : Type 0 where
  pub running : IsRunning b 1 w v end
  pub evidence : HasEvidence v

abbrev pub invariant-loop-self : goal.invariant-loop-self
invariant-loop-self g l = IsAhead l.fn.self l.self l.words l.end

-- how many more there may be
abbrev pub decreases-loop-self : goal.decreases-loop-self
decreases-loop-self g l = turns_left l.end (open_count l.self.post.seat.view.seen l.self.post.about.formula.vars)
