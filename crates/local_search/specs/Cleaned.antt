-- The clauses that a search goes over: those of the formula without the always true ones, each literal once.
use Rattle.std.specs.Prelude.{◌≡◌, ◌≢◌, ℕ, ◌≤◌, List, [], length, All, AllPairs, slice_index_or}
use Rattle.cnf_core.specs.Literals.{Literals, Assignment, all_true, AreWithin}
use Rattle.cnf_core.specs.Formulas.{Cnf, literal_count, IsFormula}

-- the clause at a place, counted from 0
abbrev pub clause_at : List Literals → ℕ → Literals
clause_at cs place = slice_index_or cs place []

-- no two literals of a clause have the same variable
abbrev pub AreApart : List Literals → Type 0
AreApart cs = All (AllPairs (λ l m. l.var ≢ m.var)) cs

-- the clauses say what the given ones say, over the variables 1 to n, and none says the same twice or is always true
pub record AreCleanOf (n : ℕ) (given cs : List Literals) : Type 0 where
  pub same : (a : Assignment) → all_true a cs ≡ all_true a given
  pub apart : AreApart cs
  pub within : All (AreWithin n) cs
  pub fewer : length cs ≤ length given
  pub shorter : literal_count cs ≤ literal_count given

-- the formula's clauses, cleaned
abbrev pub IsCleaned : Cnf → List Literals → Type 0
IsCleaned F cs = AreCleanOf F.vars F.clauses cs

-- a formula, with its clauses cleaned
pub record Tabled : Type 0 where
  pub formula : Cnf
  pub clauses : List Literals

-- the clauses are those of the formula, which is within its limits
pub record IsTabled (t : Tabled) : Type 0 where
  pub limits : IsFormula t.formula
  pub cleaned : IsCleaned t.formula t.clauses
