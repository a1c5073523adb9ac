-- What is needed of several logs' entries for some literals.
use Rattle.std.specs.Prelude.{IsTrue, List, Contains}
use Rattle.cnf_core.specs.Literals.{Literal, Literals}
use Rattle.cnf_core.specs.Formulas.{Cnf}
use Rattle.lrat_lines.specs.declared.line.Line.{Line}
use Rattle.lrat_log.specs.Entries.{Recorded}
use Rattle.cert_merge.specs.declared.place.Place.{Place}
use Rattle.cert_merge.specs.Merging.{entry_in, IsPlace, GivesLine, IsMerged}
use Rattle.cert_merge.specs.Trimming.{is_just, is_empty, IsTrimmed}

-- an entry that isn't an import has just this literal
pub record HasUnitEntry (logs : List Recorded) (l : Literal) : Type 0 where
  pub unit : Place
  pub place : IsPlace logs unit
  pub line : GivesLine logs unit
  pub just : IsTrue (is_just l (entry_in logs unit).literals)

abbrev pub HaveUnitEntries : List Recorded → Literals → Type 0
HaveUnitEntries logs keep = (l : Literal) → Contains keep l → HasUnitEntry logs l

-- an entry that isn't an import has the empty clause
pub record HasEmptyEntry (logs : List Recorded) : Type 0 where
  pub entry : Place
  pub place : IsPlace logs entry
  pub line : GivesLine logs entry
  pub empty : IsTrue (is_empty (entry_in logs entry).literals)

-- just the lines that are needed of the merged proof
pub record IsMergedAndTrimmed (F : Cnf) (logs : List Recorded) (keep : Literals) (kept : List Line) : Type 0 where
  pub lines : List Line
  pub merged : IsMerged F logs lines
  pub trimmed : IsTrimmed F lines keep kept
