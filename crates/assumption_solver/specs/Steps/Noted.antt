-- What single steps add to a log.
use Rattle.std.specs.Prelude.{◌≡◌, ◌+◌, ◌∷◌, [], ◌++◌, Some}
use Rattle.cnf_core.specs.Literals.{Literals}
use Rattle.lrat_log.specs.Entries.{Recorded, learnt_count, id_after, known_after}
use Rattle.lrat_log.specs.Fresh.{learnt_in}
use Rattle.assumption_solver.specs.Logs.{IsContinued}

-- nothing was learnt
pub record IsNoted (old new : Recorded) : Type 0 where
  pub continued : IsContinued old new
  pub learnt : learnt_in new.entries new.query ≡ learnt_in old.entries old.query
  pub count : learnt_count new.entries ≡ learnt_count old.entries

-- this clause was learnt
pub record HasLearnt (old new : Recorded) (c : Literals) : Type 0 where
  pub continued : IsContinued old new
  pub learnt : learnt_in new.entries new.query ≡ learnt_in old.entries old.query ++ c ∷ []
  pub count : learnt_count new.entries ≡ learnt_count old.entries + 1
  pub known : known_after new.formula new.entries (id_after old.formula old.entries) ≡ Some c
