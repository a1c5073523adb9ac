-- Refusals as the checker answers them.
use Rattle.std.specs.Prelude.{◌≡◌, Option, Some, None, Result, Ok, Err}
use Rattle.cnf_core.specs.Literals.{Literal, number_of}
use Rattle.lrat_lines.specs.Propagation.{Refusal}
use Rattle.lrat_lines.specs.Propagation as why
use Rattle.lrat_checker.specs.declared.refused.Refused.{Refused}
use Rattle.lrat_checker.specs.declared.refused.Refused.TheVariants.{IdNotRising, VarRange, UnknownHint, NotUnit, NoConflict, Memory}

-- the refusal is this one; a literal is told by its number. Want of memory may come at any line
abbrev pub IsRefusal : Refused → Option Refusal → Type 0
IsRefusal (IdNotRising id) given = given ≡ Some (why.IdNotRising id)
IsRefusal (VarRange number) given = (l : Literal) × (number_of l ≡ number) × (given ≡ Some (why.VarRange l))
IsRefusal (UnknownHint id) given = given ≡ Some (why.UnknownHint id)
IsRefusal (NotUnit id) given = given ≡ Some (why.NotUnit id)
IsRefusal NoConflict given = given ≡ Some why.NoConflict
IsRefusal Memory given = Unit {0}

-- why a result is none
abbrev pub refusal_in : {A : Type 0} → Result A Refusal → Option Refusal
refusal_in (Ok x) = None
refusal_in (Err refusal) = Some refusal
