-- The tests of a witness: its models, its drop lines, and that they cover what the answer leaves out.
use Rattle.std.specs.Prelude.{ℕ, zero, suc, ◌+◌, ◌==◌, ◌&&◌, ◌||◌, Bool, not, if◌then◌else◌, List, [], ◌∷◌, ◌++◌, length, Option, Some, None}
use Rattle.std.specs.List.{list_any}
use Rattle.cnf_core.specs.Literals.{Literals, Assignment, is_true, all_true}
use Rattle.cnf_core.specs.Formulas.{Cnf, is_shown}
use Rattle.model_check.specs.Flips.{flipped}
use Rattle.witness_text.specs.declared.line.WitnessLine.{WitnessLine}
use Rattle.witness_text.specs.Reading.{Witnessed}
use Rattle.witness_text.specs.Models.{model_in}
use Rattle.bone_check.specs.declared.verdict.Reason.{Reason}
use Rattle.bone_check.specs.declared.verdict.Reason.TheVariants.{NoModel, NotAModel, NotAgainst, NotCovered}
use Rattle.bone_check.specs.declared.verdict.Verdict.{Verdict}
use Rattle.bone_check.specs.declared.verdict.Verdict.TheVariants.{Verified, NotVerified}
use Rattle.bone_check.specs.Tests.{◌then◌, each_from}

-- the assignment that a drop line takes: a model, as it stands or with the literal's variable flipped
abbrev pub taken_by : List Assignment → WitnessLine → Assignment
taken_by models d = if d.flip then flipped (model_in models d.model) d.lit.var else model_in models d.model

-- whether the literal is true in the first model, and false in what the line takes, which is a model
abbrev pub is_against : Cnf → List Assignment → WitnessLine → Bool
is_against F models d =
    is_true (model_in models 0) d.lit && (all_true (taken_by models d) F.clauses && not (is_true (taken_by models d) d.lit))

-- whether the variable is that of a printed literal or of a drop line
abbrev pub is_covered : Literals → List WitnessLine → ℕ → Bool
is_covered fixed drops v = list_any (λ l. l.var == v) fixed || list_any (λ d. d.lit.var == v) drops

-- the variables 1 to n
abbrev pub variables : ℕ → List ℕ
variables zero = []
variables (suc n) = variables n ++ suc n ∷ []

-- why a model, a drop line and a variable don't pass
abbrev pub model_fault : Cnf → Assignment → Option Reason
model_fault F a = if all_true a F.clauses then None else Some NotAModel

abbrev pub drop_fault : Cnf → List Assignment → WitnessLine → Option Reason
drop_fault F models d = if is_against F models d then None else Some NotAgainst

abbrev pub cover_fault : Cnf → Literals → List WitnessLine → ℕ → Option Reason
cover_fault F fixed drops v =
    if is_shown F v then (if is_covered fixed drops v then None else Some NotCovered) else None

-- the verdict where there is no model line
abbrev pub some_model : List Assignment → Verdict
some_model [] = NotVerified NoModel 1
some_model (a ∷ more) = Verified

-- the tests of a witness, where there is said to be a model, and these literals are printed
abbrev pub witness_verdict : Cnf → Literals → Witnessed → Verdict
witness_verdict F fixed w =
    some_model w.models
    then each_from (model_fault F) 1 w.models
    then each_from (drop_fault F w.models) (length w.models + 1) w.drops
    then each_from (cover_fault F fixed w.drops) 1 (variables F.vars)
