-- What a search holds, and what it may answer.
use Rattle.std.specs.Prelude.{◌≡◌, ℕ, ◌<◌, ◌≤◌, false, not, IsTrue, length, filter, All}
use Rattle.cnf_core.specs.Literals.{Literals, Assignment, value_of, is_true}
use Rattle.cnf_core.specs.Formulas.{Cnf, IsModel}
use Rattle.local_search.specs.Cleaned.{Tabled, IsTabled}
use Rattle.local_search.specs.Scored.{IsScored}
use Rattle.local_search.specs.declared.search.LocalSearch.{LocalSearch}
use Rattle.local_search.specs.declared.descend.Descent.{Descent}

-- the search was made for these tables
pub record IsSearchOf (t : Tabled) (s : LocalSearch) : Type 0 where
  pub tabled : IsTabled t
  pub values : length s.values ≡ t.formula.vars
  pub held : length s.held ≡ t.formula.vars
  pub vars : s.counts.vars ≡ t.formula.vars
  pub clauses : length s.counts.tallies ≡ length t.clauses

-- the values that it ended with
abbrev pub values_of : LocalSearch → Assignment
values_of s = s.values

-- a model in which the frozen literals are false and the fixed variables have the values that they began with
pub record IsFrozenModel (F : Cnf) (start fixed : Assignment) (frozen : Literals) (found : Assignment) : Type 0 where
  pub is_model : IsModel F found
  pub fails : All (λ l. is_true found l ≡ false) frozen
  pub keeps : (v : ℕ) → 0 < v → v ≤ F.vars → IsTrue (value_of fixed v) → value_of found v ≡ value_of start v

-- a model in which the fixed variables have the values that they began with
pub record IsFixedModel (F : Cnf) (start fixed found : Assignment) : Type 0 where
  pub is_model : IsModel F found
  pub keeps : (v : ℕ) → 0 < v → v ≤ F.vars → IsTrue (value_of fixed v) → value_of found v ≡ value_of start v

-- how many of the literals are false
abbrev pub unmet_count : Assignment → Literals → ℕ
unmet_count a ls = length (filter (λ l. not (is_true a l)) ls)

-- the descent was made for these tables
pub record IsDescentOf (t : Tabled) (d : Descent) : Type 0 where
  pub scored : IsScored t d.scores
  pub journal : length d.journal.items ≡ 20000
