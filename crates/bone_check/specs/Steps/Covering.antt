-- Marks on the variables that are covered.
use Rattle.std.specs.Prelude.{ℕ, if◌then◌else◌, Option, Some, None}
use Rattle.cnf_core.specs.Literals.{Assignment, value_of}
use Rattle.cnf_core.specs.Formulas.{Cnf, is_shown}
use Rattle.bone_check.specs.declared.verdict.Reason.{Reason}
use Rattle.bone_check.specs.declared.verdict.Reason.TheVariants.{NotCovered}

-- why a variable doesn't pass, by its mark
abbrev pub mark_fault : Cnf → Assignment → ℕ → Option Reason
mark_fault F covered v = if is_shown F v then (if value_of covered v then None else Some NotCovered) else None
