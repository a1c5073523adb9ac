-- One drop line, as it is tested.
use Rattle.std.proofs.Common.{◌≡◌, Bool, true, false, not, ◌&&◌, if◌then◌else◌, IsTrue, List, Some, None, refl, sym, ap, ◌∙◌, arith, length-set}
use Rattle.std.proofs.lemmas.Bool.{false_from_ne_true}
use Rattle.cnf_core.specs.Literals.{Literal, Assignment, value_of, is_true, all_true, IsWithin}
use Rattle.cnf_core.specs.Formulas.{Cnf, IsModel}
use Rattle.cnf_core.proofs.Truth.{value_of-with_value, is_true_flipped}
use Rattle.model_check.specs.Flips.{flipped}
use Rattle.flip_literals.specs.Critical.{MarksCritical}
use Rattle.witness_text.specs.declared.line.WitnessLine.{WitnessLine}
use Rattle.witness_text.specs.Models.{model_in}
use Rattle.bone_check.specs.declared.verdict.Reason.TheVariants.{NotAgainst}
use Rattle.bone_check.specs.Steps.Dropping.{flips_against}
use Rattle.bone_check.specs.Witnessing.{taken_by, is_against, drop_fault}

-- a variable that the model can't do without
pub flip_fails : (F : Cnf) (a : Assignment) (marks : List Bool) (l : Literal) → IsModel F a → MarksCritical F a marks → IsWithin F.vars l
    → value_of marks l.var ≡ true → flips_against F a l ≡ false
flip_fails F a marks l model critical within marked =
    let fails : all_true (flipped a l.var) F.clauses ≡ false =
    false_from_ne_true (all_true (flipped a l.var) F.clauses)
    (λ holds. (critical.marked l.var within.low within.high).0 marked
    (record { values = length-set _ _ _ ∙ model.values; satisfied = holds })) in
    rw fails refl

not_not : (b : Bool) → not (not b) ≡ b
not_not true = refl
not_not false = refl

-- one that it can do without
pub flip_holds : (F : Cnf) (a : Assignment) (marks : List Bool) (l : Literal) → IsModel F a → MarksCritical F a marks → IsWithin F.vars l
    → value_of marks l.var ≡ false → flips_against F a l ≡ is_true a l
flip_holds F a marks l model critical within unmarked =
    let flip_model = critical.unmarked l.var within.low within.high unmarked in
    let other : is_true (flipped a l.var) l ≡ not (is_true a l) =
    is_true_flipped a (flipped a l.var) l
    (value_of-with_value a l.var (not (value_of a l.var)) within.low (omega (arith, model.values, within.high))) in
    ap (λ (b : Bool). b && not (is_true (flipped a l.var) l)) flip_model.satisfied
    ∙ ap not other ∙ not_not (is_true a l)

pub against_first : (F : Cnf) (models : List Assignment) (d : WitnessLine) → is_true (model_in models 0) d.lit ≡ false
    → false ≡ is_against F models d
against_first F models d fails =
    sym (ap (λ (b : Bool). b && (all_true (taken_by models d) F.clauses && not (is_true (taken_by models d) d.lit))) fails)

pub against_flipped : (F : Cnf) (models : List Assignment) (d : WitnessLine) (a : Assignment) (r : Bool)
    → is_true (model_in models 0) d.lit ≡ true → d.flip ≡ true → a ≡ model_in models d.model → r ≡ flips_against F a d.lit
    → r ≡ is_against F models d
against_flipped F models d a r first flip is told =
    let taken : flipped a d.lit.var ≡ taken_by models d = rw flip (ap (λ (b : Assignment). flipped b d.lit.var) is) in
    told
    ∙ ap (λ (b : Assignment). all_true b F.clauses && not (is_true b d.lit)) taken
    ∙ sym (ap (λ (b : Bool). b && (all_true (taken_by models d) F.clauses && not (is_true (taken_by models d) d.lit))) first)

pub against_plain : (F : Cnf) (models : List Assignment) (d : WitnessLine) (a : Assignment) (r : Bool)
    → is_true (model_in models 0) d.lit ≡ true → d.flip ≡ false → a ≡ model_in models d.model → IsModel F a → r ≡ not (is_true a d.lit)
    → r ≡ is_against F models d
against_plain F models d a r first flip is model told =
    let taken : a ≡ taken_by models d = rw flip is in
    told
    ∙ sym (ap (λ (b : Bool). b && not (is_true a d.lit)) model.satisfied)
    ∙ ap (λ (b : Assignment). all_true b F.clauses && not (is_true b d.lit)) taken
    ∙ sym (ap (λ (b : Bool). b && (all_true (taken_by models d) F.clauses && not (is_true (taken_by models d) d.lit))) first)

pub drop_passes : (F : Cnf) (models : List Assignment) (d : WitnessLine) → IsTrue (is_against F models d) → drop_fault F models d ≡ None
drop_passes F models d holds = ap (λ (b : Bool). if b then None else Some NotAgainst) holds

pub drop_fails : (F : Cnf) (models : List Assignment) (d : WitnessLine) → is_against F models d ≡ false
    → drop_fault F models d ≡ Some NotAgainst
drop_fails F models d fails = ap (λ (b : Bool). if b then None else Some NotAgainst) fails
