-- The statements of the laws.
use Rattle.std.specs.Prelude.{◌≡◌, ℕ, ◌<◌, ◌≤◌, ◌^◌, List, [], ◌∷◌, length, Contains}
use Rattle.cnf_core.specs.Literals.{Literal, Literals, Assignment, RisesByVar}
use Rattle.cnf_core.specs.Formulas.{Cnf, IsModel, shown_backbone}
use Rattle.lrat_lines.specs.declared.line.Line.{Line}
use Rattle.lrat_lines.specs.Proofs.{Proves, IsReached}
use Rattle.lrat_lines.specs.Printed.{proof_text}
use Rattle.model_store.specs.Stores.{Store}
use Rattle.model_store.specs.declared.witness.Witness.{Witness}
use Rattle.witness_text.specs.WitnessText.{store_text}
use Rattle.witness_text.specs.declared.line.WitnessLine.{WitnessLine}
use Rattle.witness_text.specs.Reading.{Witnessed}
use Rattle.witness_text.specs.Models.{model_in}
use Rattle.bone_check.specs.declared.verdict.Verdict.TheVariants.{Verified}
use Rattle.bone_check.specs.Tests.{each_from}
use Rattle.bone_check.specs.Proving.{unit_fault}
use Rattle.bone_check.specs.Witnessing.{witness_verdict}
use Rattle.bone_check.specs.Verdicts.{verdict_of}
use Rattle.bone_check.specs.Complete.{IsWritableProof, IsCompleteWitness}
use Rattle.answer_text.specs.AnswerText.{answer_text}

-- the models have a value for each of n variables, and the drop lines name models that are there
pub record IsReadable (n : ℕ) (w : Witnessed) : Type 0 where
  pub values : (a : Assignment) → Contains w.models a → length a ≡ n
  pub named : (d : WitnessLine) → Contains w.drops d → d.model < length w.models

-- literals that pass the tests of a proof and a witness are the shown members of the backbone
abbrev pub PrintedIsRight : Type 0
PrintedIsRight = (F : Cnf) (lines : List Line) (fixed : Literals) (w : Witnessed) → Proves F lines → RisesByVar fixed
    → IsReadable F.vars w → each_from (unit_fault F lines) 2 fixed ≡ Verified → witness_verdict F fixed w ≡ Verified
    → (fixed ≡ shown_backbone F) × IsModel F (model_in w.models 0)

-- a verified answer is the formula's, whatever the proof and the witness hold: that it has no model, or the shown
-- members of its backbone
abbrev pub VerifiedIsRight : Type 0
VerifiedIsRight = (F : Cnf) (answer proof witness : List ℕ) → F.vars ≤ 2 ^ 20 → verdict_of F answer proof witness ≡ Verified
    → answer ≡ answer_text F

-- the text of the shown members of the backbone, of a proof that reaches each of them, and of a witness against all other
-- shown variables: no test fails
abbrev pub CompleteIsVerified : Type 0
CompleteIsVerified = (F : Cnf) (lines : List Line) (s : Store) (drops : List Witness) → F.vars ≤ 2 ^ 20 → IsWritableProof F lines
    → ((l : Literal) → Contains (shown_backbone F) l → IsReached F lines (l ∷ [])) → IsCompleteWitness F (shown_backbone F) s drops
    → verdict_of F (answer_text F) (proof_text lines) (store_text s drops) ≡ Verified

-- the text that there is no model, and that of a proof that reaches the empty clause, without a witness: no test fails
abbrev pub RefutationIsVerified : Type 0
RefutationIsVerified = (F : Cnf) (lines : List Line) → F.vars ≤ 2 ^ 20 → IsWritableProof F lines → IsReached F lines []
    → verdict_of F (answer_text F) (proof_text lines) [] ≡ Verified
