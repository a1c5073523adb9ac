-- What a worker hands in of its post.
use Rattle.std.specs.Prelude.{◌≡◌, ℕ}
use Rattle.worker_loop.specs.declared.endings.End.{End}
use Rattle.worker_loop.specs.declared.endings.End.TheVariants.{Done as EndDone, Spent as EndSpent, Memory as EndMemory}
use Rattle.worker_loop.specs.declared.endings.TurnEnd.{TurnEnd}
use Rattle.worker_loop.specs.declared.endings.TurnEnd.TheVariants.{Going, Done, Spent, Memory}
use Rattle.worker_loop.specs.declared.findings.Findings.{Findings}
use Rattle.worker_loop.specs.Posts.{PostState, WorkerState}

abbrev pub end_of : TurnEnd → End
end_of Going = EndDone
end_of Done = EndDone
end_of Spent = EndSpent
end_of Memory = EndMemory

-- the post's own seat, models, wins and log
pub record HasHandedIn (p : PostState) (number : ℕ) (cause : End) (f : Findings) : Type 0 where
  pub worker : f.worker ≡ number
  pub seat : f.seat ≡ p.seat
  pub drops : f.drops.items ≡ p.drops
  pub fixes : f.fixes.items ≡ p.fixes
  pub models : f.models ≡ p.models
  pub log : f.log ≡ p.log
  pub end : f.end ≡ cause

abbrev pub HandsIn : WorkerState → End → Findings → Type 0
HandsIn w end f = HasHandedIn w.post w.number end f
