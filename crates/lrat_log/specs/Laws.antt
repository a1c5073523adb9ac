-- The statements of the laws: what is logged is entailed, and how many clauses can be new.
use Rattle.std.specs.Prelude.{◌≡◌, ℕ, ◌+◌, ◌*◌, ◌^◌, ◌<◌, ◌≤◌, nat_eq, List, length, map, filter, All, AllPairs}
use Rattle.std.specs.Set.{distinct_count}
use Rattle.cnf_core.specs.Literals.{Literals, AreWithin}
use Rattle.cnf_core.specs.Formulas.{Cnf, EntailsClause}
use Rattle.lrat_lines.specs.Sets.{IsSubset}
use Rattle.lrat_log.specs.Entries.{Entry, Recorded, is_learnt_entry, learnt_count}
use Rattle.lrat_log.specs.Fresh.{HasNoComplements}
use Rattle.lrat_log.specs.Kept.{EachNext, IsLog}

-- what is logged holds in every model
abbrev pub LoggedIsEntailed : Type 0
LoggedIsEntailed = (F : Cnf) (es : List Entry) → EachNext F es → All (λ e. EntailsClause F e.literals) es

-- a clause over n variables that is neither empty nor always true
pub record IsProper (n : ℕ) (c : Literals) : Type 0 where
  pub some : 0 < length c
  pub plain : HasNoComplements c
  pub within : AreWithin n c

abbrev pub IsNoPart : Literals → Literals → Type 0
IsNoPart d c = IsSubset d c → ⊥

-- proper clauses of which none is a part of a later one are fewer than 3 ^ n
abbrev pub FreshClausesAreFew : Type 0
FreshClausesAreFew = (n : ℕ) (cs : List Literals) → All (IsProper n) cs → AllPairs IsNoPart cs → length cs < 3 ^ n

-- so many learnt clauses are enough for a formula of n variables
abbrev pub enough : ℕ → ℕ
enough n = 8 * (n + 1) * 3 ^ n

-- how many queries have a learnt clause
abbrev pub learning_queries : List Entry → ℕ
learning_queries es = distinct_count nat_eq (map (λ e. e.query) (filter is_learnt_entry es))

-- the learnt clauses stand in no more queries than the log has begun: their numbers go from 0 on
abbrev pub LearningQueriesAreFew : Type 0
LearningQueriesAreFew = (L : Recorded) → IsLog L → learning_queries L.entries ≤ L.query + 1

-- the log has spent its budget of learnt clauses, in no more queries than a search makes
pub record IsFull (F : Cnf) (budget : ℕ) (es : List Entry) : Type 0 where
  pub each_next : EachNext F es
  pub spent : learnt_count es ≡ budget
  pub few_queries : learning_queries es ≤ 2 * (F.vars + 1)

-- no log is full where the budget is enough
abbrev pub NoLogIsFull : Type 0
NoLogIsFull = (F : Cnf) (budget : ℕ) (es : List Entry) → enough F.vars ≤ budget → IsFull F budget es → ⊥
