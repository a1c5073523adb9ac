-- The tests of a witness, one after another.
use Rattle.std.proofs.Common.{◌≡◌, ◌≢◌, ℕ, Bool, true, false, if◌then◌else◌, List, [], ◌∷◌, Some, None, length, All, refl, arith}
use Rattle.std.proofs.lemmas.List.Elements.{All-contains, Contains-get_or}
use Rattle.cnf_core.specs.Literals.{Assignment, all_true}
use Rattle.cnf_core.specs.Formulas.{Cnf}
use Rattle.lrat_lines.proofs.Entailment.{member_of_slice_get}
use Rattle.witness_text.specs.declared.line.WitnessLine.{WitnessLine}
use Rattle.witness_text.specs.Models.{model_in}
use Rattle.witness_text.specs.Told.{HasLength, IsDropOf}
use Rattle.bone_check.specs.declared.verdict.Reason.TheVariants.{NoModel, NotAModel}
use Rattle.bone_check.specs.declared.verdict.Verdict.{Verdict}
use Rattle.bone_check.specs.declared.verdict.Verdict.TheVariants.{Verified, NotVerified}
use Rattle.bone_check.specs.Tests.{◌then◌, each_from}
use Rattle.bone_check.specs.Witnessing.{some_model, model_fault}
use Rattle.bone_check.specs.Steps.Verified.{is_verified}
use Rattle.bone_check.specs.Steps.Dropping.{AreNamed, AreTheirs, HaveValues, AreModels}
use Rattle.bone_check.proofs.TestLemmas.{each_passed}

pub verified_of : (v : Verdict) → is_verified v ≡ true → v ≡ Verified
verified_of Verified is = refl
verified_of (NotVerified reason place) is = absurd (cc)

-- a verdict that isn't verified stays so
pub stops : (v later : Verdict) → is_verified v ≡ false → v ≡ (v then later)
stops Verified later is = absurd (cc)
stops (NotVerified reason place) later is = refl

pub goes_on : (v later : Verdict) → is_verified v ≡ true → later ≡ (v then later)
goes_on Verified later is = refl
goes_on (NotVerified reason place) later is = absurd (cc)

pub no_model_first : (models : List Assignment) (later : Verdict) → length models ≡ 0 → NotVerified NoModel 1 ≡ (some_model models then later)
no_model_first [] later none = refl
no_model_first (a ∷ more) later none = absurd (omega arith)

pub some_model_first : (models : List Assignment) → length models ≢ 0 → some_model models ≡ Verified
some_model_first [] some = absurd (some refl)
some_model_first (a ∷ more) some = refl

pub have_values : (n : ℕ) (models : List Assignment) → All (HasLength n) models → HaveValues n models
have_values n models all k lt = all k [] lt

pub are_models : (F : Cnf) (models : List Assignment) → All (HasLength F.vars) models → each_from (model_fault F) 1 models ≡ Verified
    → AreModels F models
are_models F models values passed k lt =
    let there = Contains-get_or models k [] lt in
    record {
      values = values k [] lt;
      satisfied = holds (all_true (model_in models k) F.clauses) (each_passed (model_fault F) 1 models (model_in models k) passed there);
    }
  where
    holds : (b : Bool) → (if b then None else Some NotAModel) ≡ None → b ≡ true
    holds true none = refl
    holds false none = absurd (cc)

pub are_named : (n count : ℕ) (drops : List WitnessLine) → All (IsDropOf n count) drops → AreNamed count drops
are_named n count drops all i d here = (All-contains (IsDropOf n count) drops d all (member_of_slice_get drops i d here)).model

pub are_theirs : (n count : ℕ) (drops : List WitnessLine) → All (IsDropOf n count) drops → AreTheirs n drops
are_theirs n count drops all i d here = (All-contains (IsDropOf n count) drops d all (member_of_slice_get drops i d here)).within
