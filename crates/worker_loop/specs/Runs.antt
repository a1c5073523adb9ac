-- What a worker hands in at its end.
use Rattle.std.specs.Prelude.{◌≡◌, ℕ, ◌+◌, ◌≤◌, length, take}
use Rattle.lrat_log.specs.Laws.{IsFull}
use Rattle.core_chunks.specs.Chunks.{open_count}
use Rattle.candidate_words.specs.Seats.{Board, Sits}
use Rattle.worker_loop.specs.declared.endings.End.{End}
use Rattle.worker_loop.specs.declared.endings.End.TheVariants.{Done, Spent, Memory}
use Rattle.worker_loop.specs.declared.findings.Findings.{Findings}
use Rattle.worker_loop.specs.Posts.{PostState, WorkerState}
use Rattle.worker_loop.specs.Evidence.{IsTold, IsSettled, IsClocked}

-- there is at most a model for each candidate that isn't seen open, and so many more
abbrev pub HasFewModels : ℕ → PostState → Type 0
HasFewModels more p = length p.models.models + open_count p.seat.view.seen p.about.formula.vars ≤ p.about.formula.vars + more

-- why it ended: nothing was seen open by the last turn, or its log is full for its budget
abbrev pub ByCause : End → PostState → Findings → Type 0
ByCause Done p f = open_count f.seat.view.seen p.about.formula.vars ≡ 0
ByCause Spent p f = IsFull p.about.formula p.budget f.log.entries
ByCause Memory p f = Unit {0}

abbrev pub UnlessMemory : End → Type 0 → Type 0
UnlessMemory Done T = T
UnlessMemory Spent T = T
UnlessMemory Memory T = Unit {0}

-- the seat of the same view of the table, and all that the worker won, with its evidence
pub record IsFound (b : Board) (w : WorkerState) (f : Findings) : Type 0 where
  pub worker : f.worker ≡ w.number
  pub sits : Sits b f.seat
  pub number : f.seat.view.number ≡ w.post.seat.view.number
  pub next : f.seat.view.next ≡ w.post.seat.view.next
  pub out : f.seat.view.out ≡ w.post.seat.view.out
  pub told : IsTold b.about f.seat.view f.models f.log f.drops.items f.fixes.items
  pub clocked : IsClocked b.about f.seat.view f.log
  pub settled : UnlessMemory f.end (IsSettled b.about f.seat.view f.models)
  pub first : take (length w.post.models.models) f.models.models ≡ w.post.models.models
  pub few : length f.models.models ≤ b.about.formula.vars + 3
  pub cause : ByCause f.end w.post f
