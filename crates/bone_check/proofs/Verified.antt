-- Why a verified answer is right.
use Rattle.std.proofs.Common.{◌≡◌, ◌≢◌, ℕ, ◌+◌, ◌≤◌, ◌^◌, Bool, true, false, IsTrue, List, [], ◌∷◌, ◌++◌, None, Result, Ok, Err, length, refl, sym, ap, ◌∙◌, subst, inl, inr}
use Rattle.std.specs.Prelude.{is_ok}
use Rattle.std.proofs.lemmas.Bool.{cases_Bool}
use Rattle.std.proofs.lemmas.List.Elements.{All-contains}
use Rattle.cnf_core.specs.Literals.{Literals, RisesByVar}
use Rattle.cnf_core.specs.Formulas.{Cnf, models, shown_backbone}
use Rattle.cnf_core.proofs.Models.{no_model}
use Rattle.lrat_lines.specs.declared.line.Line.{Line}
use Rattle.lrat_lines.specs.declared.line.LineEnd.{LineEnd}
use Rattle.lrat_lines.specs.Grammar.{line_of}
use Rattle.lrat_lines.specs.Propagation.{Refusal}
use Rattle.lrat_lines.specs.Proofs.{Progress, checked, Proves}
use Rattle.lrat_lines.proofs.Progressing.{checked-nil}
use Rattle.text_lines.specs.Lines as text
use Rattle.text_lines.specs.Readings.{FaultAt, steps, at_line, ◌>>=◌}
use Rattle.answer_text.specs.declared.stage.Stage.{Stage}
use Rattle.answer_text.specs.declared.stage.Stage.TheVariants as stage
use Rattle.answer_text.specs.declared.stage.LineFault.{LineFault}
use Rattle.answer_text.specs.AnswerText.{sat_text, answer_text}
use Rattle.answer_text.specs.Reading.{Read, reading_of}
use Rattle.answer_text.proofs.SoFar.{unsat_read, sat_read}
use Rattle.answer_text.proofs.Verdicts.{answer_text-sat, answer_text-unsat}
use Rattle.witness_text.specs.Reading.{Witnessed}
use Rattle.witness_text.specs.Texts.{witness_reading}
use Rattle.witness_text.specs.Told.{HasLength, IsDropOf}
use Rattle.witness_text.proofs.ReadTells.{texts_tell}
use Rattle.bone_check.specs.declared.verdict.Reason.{Reason}
use Rattle.bone_check.specs.declared.verdict.Verdict.TheVariants.{Verified}
use Rattle.bone_check.specs.Tests.{at_place, each_from}
use Rattle.bone_check.specs.Proving.{is_skipped, unless_refused, with_line, after_text, has_empty, empty_fault, unit_fault}
use Rattle.bone_check.specs.Witnessing.{witness_verdict}
use Rattle.bone_check.specs.Verdicts.{text_step, proof_reading, no_lines, unsat_verdict, evidence_verdict, sat_verdict, answer_verdict, read_verdict, verdict_of}
use Rattle.bone_check.specs.Laws.{IsReadable, VerifiedIsRight}
use Rattle.bone_check.proofs.TestLemmas.{verified_parts, passed_at}
use Rattle.bone_check.proofs.Reaching.{no_models}
use Rattle.bone_check.proofs.Rightness.{printed_is_right}

-- lines that are taken are accepted
taken_proves : (F : Cnf) (lines after : List Line) (r : Result Progress Refusal) → checked F lines ≡ r → unless_refused lines r ≡ Ok after
    → Proves F after
taken_proves F lines after (Ok p) is taken =
    let same : lines ≡ after = cc in subst (λ (ls : List Line). Proves F ls) same (ap is_ok is)
taken_proves F lines after (Err refusal) is taken = absurd (cc)

line_proves : (F : Cnf) (lines after : List Line) (given : Result Line LineEnd) → with_line F lines given ≡ Ok after → Proves F after
line_proves F lines after (Ok line) taken = taken_proves F (lines ++ line ∷ []) after (checked F (lines ++ line ∷ [])) refl taken
line_proves F lines after (Err end) taken = absurd (cc)

text_proves : (F : Cnf) (lines after : List Line) (bytes : List ℕ) → Proves F lines → after_text F lines bytes ≡ Ok after → Proves F after
text_proves F lines after bytes proves taken = elim (cases_Bool (is_skipped bytes)) [
  | inl skipped ↦ (let same : Ok lines ≡ Ok after = rw skipped at taken in let is : lines ≡ after = cc in subst (λ (ls : List Line). Proves F ls) is proves)
  | inr read ↦ line_proves F lines after (line_of bytes) (rw read at taken)
]

first_proves : (F : Cnf) (n : ℕ) (lines after : List Line) (l : text.Line) (ls : List text.Line) (r : Result (List Line) Reason) → Proves F lines
    → after_text F lines l.bytes ≡ r → ((next : List Line) → Proves F next → steps (text_step F) (n + 1) next ls ≡ Ok after → Proves F after)
    → (at_line n r >>= λ t. steps (text_step F) (n + 1) t ls) ≡ Ok after → Proves F after
first_proves F n lines after l ls (Ok next) proves is onward taken = onward next (text_proves F lines next l.bytes proves is) taken
first_proves F n lines after l ls (Err reason) proves is onward taken = absurd (cc)

steps_prove : (F : Cnf) (n : ℕ) (lines after : List Line) (ls : List text.Line) → Proves F lines → steps (text_step F) n lines ls ≡ Ok after
    → Proves F after
steps_prove F n lines after [] proves taken = let is : lines ≡ after = cc in subst (λ (ls : List Line). Proves F ls) is proves
steps_prove F n lines after (l ∷ ls) proves taken =
    first_proves F n lines after l ls (after_text F lines l.bytes) proves refl
    (λ next next_proves rest. steps_prove F (n + 1) next after ls next_proves rest) taken

pub proof_proves : (F : Cnf) (proof : List ℕ) (lines : List Line) → proof_reading F proof ≡ Ok lines → Proves F lines
unfolding proof_reading
proof_proves F proof lines taken =
    let none : Proves F [] = ap is_ok (checked-nil F) in
    steps_prove F 1 [] lines (text.lines_of proof) none taken

-- what a text of a witness tells can be read
pub readable : (n : ℕ) (witness : List ℕ) (w : Witnessed) → witness_reading n witness ≡ Ok w → IsReadable n w
readable n witness w reads =
    let is = texts_tell n witness w reads in
    record {
      values = λ a there. All-contains (HasLength n) w.models a is.models there;
      named = λ d there. (All-contains (IsDropOf n (length w.models)) w.drops d is.drops there).model;
    }

unsat_right : (F : Cnf) (proof : List ℕ) (given : Result (List Line) (FaultAt Reason)) (witness : Result Witnessed (FaultAt (Unit {0})))
    → proof_reading F proof ≡ given → unsat_verdict F given witness ≡ Verified → models F ≡ []
unsat_right F proof (Err fault) witness reads passed = absurd (cc)
unsat_right F proof (Ok lines) witness reads passed =
    let parts = verified_parts (at_place 1 (empty_fault F lines)) (no_lines witness) passed in
    no_models F lines (proof_proves F proof lines reads) (reached (has_empty F lines) refl (passed_at 1 (empty_fault F lines) parts.0))
  where
    reached : (b : Bool) → has_empty F lines ≡ b → empty_fault F lines ≡ None → IsTrue (has_empty F lines)
    reached true is none = is
    reached false is none = absurd (cc (rw is at none))

sat_right : (F : Cnf) (fixed : Literals) (proof witness : List ℕ) (given : Result (List Line) (FaultAt Reason))
    (told : Result Witnessed (FaultAt (Unit {0}))) → RisesByVar fixed → proof_reading F proof ≡ given → witness_reading F.vars witness ≡ told
    → sat_verdict F fixed given told ≡ Verified → (fixed ≡ shown_backbone F) × (models F ≢ [])
sat_right F fixed proof witness (Err fault) told rises reads tells passed = absurd (cc)
sat_right F fixed proof witness (Ok lines) (Err fault) rises reads tells passed =
    let parts = verified_parts (each_from (unit_fault F lines) 2 fixed) (evidence_verdict F fixed (Err fault)) passed in
    let wrong = parts.1 in absurd (cc)
sat_right F fixed proof witness (Ok lines) (Ok w) rises reads tells passed =
    let parts = verified_parts (each_from (unit_fault F lines) 2 fixed) (witness_verdict F fixed w) passed in
    let both = printed_is_right F lines fixed w (proof_proves F proof lines reads) rises (readable F.vars witness w tells) parts.0 parts.1 in
    (both.0, λ none. no_model F _ none both.1)

answer_right : (F : Cnf) (answer proof witness : List ℕ) (r : Read) (s : Stage) → F.vars ≤ 2 ^ 20 → reading_of F.vars answer ≡ Ok r
    → r.stage ≡ s → answer_verdict F s r.fixed (proof_reading F proof) (witness_reading F.vars witness) ≡ Verified → answer ≡ answer_text F
answer_right F answer proof witness r stage.Unsat limit reads is passed =
    unsat_read F.vars answer r limit reads is
    ∙ sym (answer_text-unsat F (unsat_right F proof (proof_reading F proof) (witness_reading F.vars witness) refl passed))
answer_right F answer proof witness r stage.Sat limit reads is passed =
    let read = sat_read F.vars answer r limit reads is in
    let right = sat_right F r.fixed proof witness (proof_reading F proof) (witness_reading F.vars witness) read.rises refl refl passed in
    read.spelled ∙ ap sat_text right.0 ∙ sym (answer_text-sat F right.1)
answer_right F answer proof witness r stage.Partial limit reads is passed = absurd (cc)
answer_right F answer proof witness r stage.Unknown limit reads is passed = absurd (cc)
answer_right F answer proof witness r stage.First limit reads is passed = absurd (cc)
answer_right F answer proof witness r stage.Backbone limit reads is passed = absurd (cc)
answer_right F answer proof witness r stage.Fixed limit reads is passed = absurd (cc)
answer_right F answer proof witness r stage.Still limit reads is passed = absurd (cc)

read_right : (F : Cnf) (answer proof witness : List ℕ) (given : Result Read (FaultAt LineFault)) → F.vars ≤ 2 ^ 20
    → reading_of F.vars answer ≡ given
    → read_verdict F given (proof_reading F proof) (witness_reading F.vars witness) ≡ Verified → answer ≡ answer_text F
read_right F answer proof witness (Err fault) limit reads passed = absurd (cc)
read_right F answer proof witness (Ok r) limit reads passed = answer_right F answer proof witness r r.stage limit reads refl passed

-- an answer that is verified is the formula's
pub verified_is_right : VerifiedIsRight
unfolding verdict_of
verified_is_right F answer proof witness limit passed = read_right F answer proof witness (reading_of F.vars answer) limit refl passed
