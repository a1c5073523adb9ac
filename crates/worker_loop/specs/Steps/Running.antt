-- What a worker keeps while it takes its turns.
use Rattle.std.specs.Prelude.{◌≡◌, ℕ, ◌+◌, ◌^◌, ◌≤◌, false, List, ◌++◌}
use Rattle.cnf_core.specs.Literals.{Assignment}
use Rattle.lrat_log.specs.Entries.{learnt_count}
use Rattle.lrat_log.specs.Kept.{EachNext}
use Rattle.core_chunks.specs.Chunks.{open_count}
use Rattle.candidate_words.specs.Seats.{Board, Sits}
use Rattle.worker_loop.specs.declared.endings.TurnEnd.{TurnEnd}
use Rattle.worker_loop.specs.declared.endings.TurnEnd.TheVariants.{Going, Done, Spent, Memory}
use Rattle.worker_loop.specs.Posts.{WorkerState, IsLater}
use Rattle.worker_loop.specs.Runs.{HasFewModels}
use Rattle.worker_loop.specs.Evidence.{IsTold, IsClocked}
use Rattle.worker_loop.specs.Steps.Held.{IsBetweenTurns}

-- the evidence that every worker has
pub record HasEvidence (w : WorkerState) : Type 0 where
  pub limit : w.post.about.formula.vars ≤ 2 ^ 20
  pub view : w.post.seat.view.about ≡ w.post.about
  pub told : IsTold w.post.about w.post.seat.view w.post.models w.post.log w.post.drops w.post.fixes
  pub clocked : IsClocked w.post.about w.post.seat.view w.post.log
  pub between : w.failed ≡ false → IsBetweenTurns w.post
  pub log : EachNext w.post.about.formula w.post.log.entries

-- how a turn left the worker
abbrev pub EndsBy : ℕ → TurnEnd → WorkerState → Type 0
EndsBy more Going w = HasFewModels more w.post
EndsBy more Done w = (open_count w.post.seat.view.seen w.post.about.formula.vars ≡ 0) × (w.failed ≡ false) × HasFewModels (more + 1) w.post
EndsBy more Spent w = (learnt_count w.post.log.entries ≡ w.post.budget) × (w.failed ≡ false) × HasFewModels (more + 1) w.post
EndsBy more Memory w = HasFewModels (more + 1) w.post

-- the worker took turns from the first state on, the last of which came to this
pub record IsRunning (b : Board) (most : ℕ) (first now : WorkerState) (end : TurnEnd) : Type 0 where
  pub sits : Sits b now.post.seat
  pub number : now.number ≡ first.number
  pub later : IsLater first.post now.post
  pub more : List Assignment
  pub models : now.post.models.models ≡ first.post.models.models ++ more
  pub ends : EndsBy most end now

-- how many turns may follow
abbrev pub turns_left : TurnEnd → ℕ → ℕ
turns_left Going n = n + 1
turns_left Done n = 0
turns_left Spent n = 0
turns_left Memory n = 0
