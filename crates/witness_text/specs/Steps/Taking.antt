-- What is answered to a line.
use Rattle.std.specs.Prelude.{◌≡◌, Bool, true, false, Option, Some, None}
use Rattle.witness_text.specs.Reading.{Witnessed}

-- the line was taken, or it can't stand there
abbrev pub Takes : Option Witnessed → Witnessed → Bool → Type 0
Takes given new true = given ≡ Some new
Takes given new false = given ≡ None
