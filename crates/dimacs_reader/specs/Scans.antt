-- What a scan stands for, and what it gives.
use Rattle.std.specs.Prelude.{◌≡◌, ℕ, List, Option, Some, None, Result, Ok, Err}
use Rattle.cnf_core.specs.Formulas.{Cnf}
use Rattle.dimacs_reader.specs.declared.fault.Fault.{Fault}
use Rattle.dimacs_reader.specs.declared.fault.ScanEnd.{ScanEnd}
use Rattle.dimacs_reader.specs.declared.fault.ScanEnd.TheVariants.{Bad, Memory}
use Rattle.dimacs_reader.specs.Steps.Machine.{Scanned, fresh_scan, after_bytes}

-- the scan stands for the text: it is as far as that text leads; one that found no memory stands
-- for every text
abbrev pub Stands : Option Scanned → List ℕ → Type 0
Stands None text = Unit {0}
Stands (Some s) text = s ≡ after_bytes fresh_scan text

-- how many bytes were read
abbrev pub byte_count : Option Scanned → ℕ
byte_count None = 0
byte_count (Some s) = s.place

-- the result is that of the text, or want of memory
abbrev pub Gives : Result Cnf ScanEnd → Result Cnf Fault → Type 0
Gives (Ok F) given = given ≡ Ok F
Gives (Err (Bad kind place)) given = given ≡ Err (record { kind = kind; place = place })
Gives (Err Memory) given = Unit {0}
