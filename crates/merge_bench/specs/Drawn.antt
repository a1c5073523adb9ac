-- Logs whose entries are shown by the formula's one clause, whatever else they have.
use Rattle.std.specs.Prelude.{◌≡◌, ℕ, ◌<◌, not, IsTrue, List, [], ◌∷◌, length, All}
use Rattle.cnf_core.specs.Literals.{Literals}
use Rattle.cnf_core.specs.Formulas.{Cnf}
use Rattle.lrat_lines.specs.Examples.{positive}
use Rattle.lrat_log.specs.declared.kind.Kind.TheVariants.{Unit as UnitKind}
use Rattle.lrat_log.specs.Entries.{Recorded, is_import, entry_at}

-- the formula has the clause of the literal 1 alone
pub record HasOnlyOne (F : Cnf) : Type 0 where
  pub vars : F.vars ≡ 1000
  pub clauses : F.clauses ≡ (positive 1 ∷ []) ∷ []

pub record BeginsWithOne (c : Literals) : Type 0 where
  pub rest : Literals
  pub is : c ≡ positive 1 ∷ rest

pub record BeginWithFirst (hints : List ℕ) : Type 0 where
  pub rest : List ℕ
  pub is : hints ≡ 1 ∷ rest

-- so many entries, and no import
pub record IsDrawn (F : Cnf) (count : ℕ) (L : Recorded) : Type 0 where
  pub formula : L.formula ≡ F
  pub count_is : length L.entries ≡ count
  pub no_import : All (λ e. IsTrue (not (is_import e.kind))) L.entries

-- one entry is the literal 1
pub record IsWhole (F : Cnf) (L : Recorded) : Type 0 where
  pub count : ℕ
  pub drawn : IsDrawn F count L
  pub place : ℕ
  pub within : place < length L.entries
  pub kind : (entry_at L place).kind ≡ UnitKind
  pub literals : (entry_at L place).literals ≡ positive 1 ∷ []
