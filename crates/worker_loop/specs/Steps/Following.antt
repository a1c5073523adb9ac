-- What a turn says before it is told whether memory was wanting.
use Rattle.std.specs.Prelude.{◌≡◌, ℕ, ◌<◌, length, All}
use Rattle.cnf_core.specs.Literals.{Literals}
use Rattle.lrat_log.specs.declared.kind.Kind.TheVariants.{Unit as UnitKind, Core}
use Rattle.lrat_log.specs.Entries.{entry_at, learnt_count}
use Rattle.worker_loop.specs.declared.endings.TurnEnd.{TurnEnd}
use Rattle.worker_loop.specs.declared.endings.TurnEnd.TheVariants.{Going, Done, Spent, Memory}
use Rattle.worker_loop.specs.declared.post.Post.{Post}
use Rattle.worker_loop.specs.Posts.{PostState}
use Rattle.worker_loop.specs.Turns.{Goes, IsWorked, IsDone}
use Rattle.worker_loop.specs.Steps.Held.{state_of}
use Rattle.worker_loop.specs.Steps.Moves.{IsOpenPhase}

-- the clause is an entry of the log, a unit or a core, of phase literals that were open
pub record IsCoreOf (p : Post) (core : Literals) : Type 0 where
  pub some : 0 < length core
  pub were_open : All (IsOpenPhase p) core
  pub place : ℕ
  pub within : place < length p.solver.log.entries
  pub literals : (entry_at p.solver.log place).literals ≡ core
  pub one : length core ≡ 1 → (entry_at p.solver.log place).kind ≡ UnitKind
  pub more : 1 < length core → (entry_at p.solver.log place).kind ≡ Core

-- what follows the loads
abbrev pub Follows : TurnEnd → Post → Type 0
Follows Going q = Goes (state_of q)
Follows Done q = ⊥
Follows Spent q = learnt_count q.solver.log.entries ≡ q.budget
Follows Memory q = ⊥

abbrev pub PostSays : TurnEnd → PostState → PostState → Type 0
PostSays Going p q = IsWorked p q × Goes q
PostSays Done p q = IsDone p q
PostSays Spent p q = IsWorked p q × (learnt_count q.log.entries ≡ q.budget)
PostSays Memory p q = ⊥
