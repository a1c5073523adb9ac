-- The entries of several logs in one order, and the proof that they make.
use Rattle.std.specs.Prelude.{◌≡◌, ℕ, ◌+◌, ◌-◌, ◌<◌, ◌≤◌, not, IsTrue, nat_le, if◌then◌else◌, List, [], ◌∷◌, length, map, slice_index_or, All, AllPairs, Contains}
use Rattle.cnf_core.specs.Literals.{Literal}
use Rattle.cnf_core.specs.Formulas.{Cnf, empty_formula}
use Rattle.lrat_lines.specs.declared.line.Line.{Line}
use Rattle.lrat_lines.specs.declared.line.Line.TheVariants.{Add}
use Rattle.lrat_lines.specs.Proofs.{IsReached}
use Rattle.lrat_lines.specs.Tidy.{clause_of}
use Rattle.lrat_log.specs.declared.kind.Kind.TheVariants.{Unit as UnitKind}
use Rattle.lrat_log.specs.Entries.{Entry, Recorded, empty_log, entry_at, literal_of, is_import}
use Rattle.cert_merge.specs.declared.place.Place.{Place}

-- the log of a place, and the entry there
abbrev pub log_at : List Recorded → ℕ → Recorded
log_at logs g = slice_index_or logs g (empty_log (empty_formula 0))

abbrev pub entry_in : List Recorded → Place → Entry
entry_in logs p = entry_at (log_at logs p.log) p.entry

-- the first literal of the entry: a unit's and an import's only one
abbrev pub literal_in : List Recorded → Place → Literal
literal_in logs p = literal_of (log_at logs p.log) p.entry 0

-- there is an entry
pub record IsPlace (logs : List Recorded) (p : Place) : Type 0 where
  pub log_within : p.log < length logs
  pub within : p.entry < length (log_at logs p.log).entries

-- imports give no line, and all others one
abbrev pub IsImport : List Recorded → Place → Type 0
IsImport logs p = IsTrue (is_import (entry_in logs p).kind)

abbrev pub GivesLine : List Recorded → Place → Type 0
GivesLine logs p = IsTrue (not (is_import (entry_in logs p).kind))

-- entries stand by clock, then by their logs, then by their places in the log
pub record IsBefore (logs : List Recorded) (p q : Place) : Type 0 where
  pub clock : (entry_in logs p).clock ≤ (entry_in logs q).clock
  pub by_log : (entry_in logs p).clock ≡ (entry_in logs q).clock → p.log ≤ q.log
  pub by_entry : (entry_in logs p).clock ≡ (entry_in logs q).clock → p.log ≡ q.log → p.entry < q.entry

-- all entries that give lines, in that order
pub record IsMergedOrder (logs : List Recorded) (order : List Place) : Type 0 where
  pub rises : AllPairs (IsBefore logs) order
  pub places : All (IsPlace logs) order
  pub give_lines : All (GivesLine logs) order
  pub all : (p : Place) → IsPlace logs p → GivesLine logs p → Contains order p

-- a unit of the literal, and the first one
pub record IsUnitOf (logs : List Recorded) (l : Literal) (p : Place) : Type 0 where
  pub place : IsPlace logs p
  pub kind : (entry_in logs p).kind ≡ UnitKind
  pub literals : (entry_in logs p).literals ≡ l ∷ []

pub record IsFirstUnitOf (logs : List Recorded) (l : Literal) (p : Place) : Type 0 where
  pub is_unit : IsUnitOf logs l p
  pub first : (q : Place) → IsUnitOf logs l q → IsBefore logs q p → ⊥

-- the entry has the id of the first unit of its literal
pub record HasUnitsId (logs : List Recorded) (id_of : Place → ℕ) (p : Place) : Type 0 where
  pub unit : Place
  pub is_first : IsFirstUnitOf logs (literal_in logs p) unit
  pub same : id_of p ≡ id_of unit

-- ids of the entries in the merged proof: behind those of the formula's clauses in the order, and an import's is that of
-- the first unit of its literal
pub record AreIds (F : Cnf) (logs : List Recorded) (order : List Place) (id_of : Place → ℕ) : Type 0 where
  pub lines : (k : ℕ) (d : Place) → k < length order → id_of (slice_index_or order k d) ≡ length F.clauses + 1 + k
  pub imports : (p : Place) → IsPlace logs p → IsImport logs p → HasUnitsId logs id_of p

-- the id in the merged proof of what has this id in the log: a clause of the formula, or an entry
abbrev pub merged_id : Cnf → (Place → ℕ) → ℕ → ℕ → ℕ
merged_id F id_of log id =
    if nat_le id (length F.clauses) then id else id_of (record { log = log; entry = id - (length F.clauses + 1) })

-- the line of an entry
abbrev pub line_of : Cnf → List Recorded → (Place → ℕ) → Place → Line
line_of F logs id_of p = Add (id_of p) (entry_in logs p).literals (map (merged_id F id_of p.log) (entry_in logs p).hints)

-- the proof that the logs make together
pub record IsMerged (F : Cnf) (logs : List Recorded) (lines : List Line) : Type 0 where
  pub order : List Place
  pub id_of : Place → ℕ
  pub is_order : IsMergedOrder logs order
  pub are_ids : AreIds F logs order id_of
  pub lines_are : lines ≡ map (line_of F logs id_of) order

-- each entry that gives a line has one with its clause
abbrev pub HasLines : List Recorded → List Line → Type 0
HasLines logs lines = (p : Place) → IsPlace logs p → GivesLine logs p → Contains (map clause_of lines) (entry_in logs p).literals

-- and the clause of every entry is reached
abbrev pub ReachesAll : Cnf → List Recorded → List Line → Type 0
ReachesAll F logs lines = (p : Place) → IsPlace logs p → IsReached F lines (entry_in logs p).literals

-- a unit of the import's literal stands before it
pub record IsShownBefore (logs : List Recorded) (p : Place) : Type 0 where
  pub unit : Place
  pub is_unit : IsUnitOf logs (literal_in logs p) unit
  pub before : IsBefore logs unit p

abbrev pub AreImportsShown : List Recorded → Type 0
AreImportsShown logs = (p : Place) → IsPlace logs p → IsImport logs p → IsShownBefore logs p

-- the logs are of this formula
abbrev pub AreOf : Cnf → List Recorded → Type 0
AreOf F logs = All (λ L. L.formula ≡ F) logs
