-- Complete evidence passes every test.
use Rattle.std.proofs.Common.{◌≡◌, ◌⊎◌, ℕ, ◌+◌, ◌≤◌, ◌^◌, ◌==◌, Bool, true, false, not, ◌&&◌, ◌||◌, if◌then◌else◌, IsTrue, List, [], ◌∷◌, Option, Some, None, Ok, length, map, All, Contains, refl, sym, ap, ◌∙◌, subst, ⊎_elim, inl, inr, arith}
use Rattle.std.specs.List.{list_any}
use Rattle.std.proofs.lemmas.Bool.{cases_Bool, cond-true, eq-eqb, and_from}
use Rattle.std.proofs.lemmas.List.Elements.{All-contains, All-weaker, All-map, Contains-get_or}
use Rattle.cnf_core.specs.Literals.{Literal, Literals, Assignment, value_of, is_true, all_true, AreWithin}
use Rattle.cnf_core.specs.Formulas.{Cnf, IsModel, is_shown, shown_backbone, true_literal}
use Rattle.cnf_core.specs.Laws.{IsShownBackboneOf}
use Rattle.cnf_core.proofs.Lists.{Contains-nil, Contains-cons_cases}
use Rattle.cnf_core.proofs.Models.{no_model}
use Rattle.cnf_core.proofs.Shown.{shown_within, is_shown_backbone}
use Rattle.lrat_lines.specs.declared.line.Line.{Line}
use Rattle.lrat_lines.specs.Proofs.{IsReached}
use Rattle.lrat_lines.specs.Printed.{proof_text}
use Rattle.answer_text.specs.declared.answer.Answer.TheVariants.{Unsat}
use Rattle.answer_text.specs.declared.stage.Stage.{Stage}
use Rattle.answer_text.specs.AnswerText.{answer_text}
use Rattle.answer_text.specs.Reading.{reading_of}
use Rattle.answer_text.proofs.RoundTrip.{sat_reads_back, texts_read_back}
use Rattle.answer_text.proofs.Verdicts.{answer_text-sat, answer_text-unsat}
use Rattle.model_store.specs.Stores.{Store, model_at}
use Rattle.model_store.specs.Witnesses.{IsInRange, witness_in}
use Rattle.model_store.specs.declared.witness.Witness.{Witness}
use Rattle.witness_text.specs.declared.line.WitnessLine.{WitnessLine}
use Rattle.witness_text.specs.WitnessText.{named_by, named_drops, store_text}
use Rattle.witness_text.specs.Texts.{witness_reading}
use Rattle.witness_text.specs.Laws.{told_of_store}
use Rattle.witness_text.proofs.ReadsBack.{stores_back}
use Rattle.bone_check.specs.declared.verdict.Reason.{Reason}
use Rattle.bone_check.specs.declared.verdict.Reason.TheVariants.{NoEmpty, NotAModel, NotAgainst}
use Rattle.bone_check.specs.declared.verdict.Verdict.{Verdict}
use Rattle.bone_check.specs.declared.verdict.Verdict.TheVariants.{Verified}
use Rattle.bone_check.specs.Tests.{at_place, ◌then◌, each_from}
use Rattle.bone_check.specs.Proving.{has_unit, has_empty, unit_fault}
use Rattle.bone_check.specs.Witnessing.{is_against, is_covered, variables, model_fault, drop_fault, cover_fault, witness_verdict}
use Rattle.bone_check.specs.Verdicts.{proof_reading, no_lines, unsat_verdict, evidence_verdict, sat_verdict, answer_verdict}
use Rattle.bone_check.specs.Complete.{HasOpposite, IsCompleteWitness}
use Rattle.bone_check.specs.Laws.{CompleteIsVerified, RefutationIsVerified}
use Rattle.bone_check.proofs.TestLemmas.{each_verified}
use Rattle.bone_check.proofs.Reaching.{has_unit_is, has_empty_is, no_models}
use Rattle.bone_check.proofs.Witnessed.{some_model_first}
use Rattle.bone_check.proofs.Answered.{judged_answer}
use Rattle.bone_check.proofs.PrintedLines.{proof_read}

-- ---- the printed literals

unit_passes : (F : Cnf) (lines : List Line) (l : Literal) → IsTrue (is_shown F l.var) → IsReached F lines (l ∷ []) → unit_fault F lines l ≡ None
unit_passes F lines l shown reached =
    let unit : has_unit F lines l ≡ true = (has_unit_is F lines l).1 reached in rw (shown, unit) refl

-- ---- the drop lines

true_here : (b : Bool) → (if b then b else not b) ≡ true
true_here true = refl
true_here false = refl

false_there : (b : Bool) → not (if b then not b else not (not b)) ≡ true
false_there true = refl
false_there false = refl

drop_passes : (F : Cnf) (s : Store) (w : Witness) → HasOpposite F s w
    → drop_fault F s.models (named_by (model_at s 0) w) ≡ None
drop_passes F s w is =
    let a = model_at s 0 in
    let taken = witness_in s w in
    let here : is_true a (true_literal a w.var) ≡ true = true_here (value_of a w.var) in
    let there : not (is_true taken (true_literal a w.var)) ≡ true =
    ap (λ (b : Bool). not (if value_of a w.var then b else not b)) is.against.opposite ∙ false_there (value_of a w.var) in
    let passes : is_against F s.models (named_by a w) ≡ true =
    and_from (is_true a (true_literal a w.var)) (all_true taken F.clauses && not (is_true taken (true_literal a w.var))) here
    (and_from (all_true taken F.clauses) (not (is_true taken (true_literal a w.var))) is.against.is_model.satisfied there) in
    cond-true (is_against F s.models (named_by a w)) None (Some NotAgainst) passes

-- ---- the shown variables

or_true : (b : Bool) → (b || true) ≡ true
or_true true = refl
or_true false = refl

named_literal : (lits : Literals) (v : ℕ) → Contains (map (λ (l : Literal). l.var) lits) v → list_any (λ (l : Literal). l.var == v) lits ≡ true
named_literal [] v none = absurd (Contains-nil v none)
named_literal (l ∷ lits) v some = ⊎_elim
    (λ (is : l.var ≡ v). ap (λ (b : Bool). b || list_any (λ (k : Literal). k.var == v) lits) (eq-eqb l.var v is))
    (λ (later : Contains (map (λ (k : Literal). k.var) lits) v).
    ap (λ (b : Bool). (l.var == v) || b) (named_literal lits v later) ∙ or_true (l.var == v))
    (Contains-cons_cases l.var (map (λ (k : Literal). k.var) lits) v some)

named_drop : (a : Assignment) (drops : List Witness) (v : ℕ) → Contains (map (λ (w : Witness). w.var) drops) v
    → list_any (λ (d : WitnessLine). d.lit.var == v) (map (named_by a) drops) ≡ true
named_drop a [] v none = absurd (Contains-nil v none)
named_drop a (w ∷ drops) v some = ⊎_elim
    (λ (is : w.var ≡ v).
    ap (λ (b : Bool). b || list_any (λ (d : WitnessLine). d.lit.var == v) (map (named_by a) drops)) (eq-eqb w.var v is))
    (λ (later : Contains (map (λ (u : Witness). u.var) drops) v).
    ap (λ (b : Bool). (w.var == v) || b) (named_drop a drops v later) ∙ or_true (w.var == v))
    (Contains-cons_cases w.var (map (λ (u : Witness). u.var) drops) v some)

either_covers : (fixed : Literals) (s : Store) (drops : List Witness) (v : ℕ)
    → Contains (map (λ (w : Witness). w.var) drops) v ⊎ Contains (map (λ (l : Literal). l.var) fixed) v
    → is_covered fixed (named_drops s drops) v ≡ true
either_covers fixed s drops v named = ⊎_elim
    (λ (drop : Contains (map (λ (w : Witness). w.var) drops) v).
    ap (λ (b : Bool). list_any (λ (l : Literal). l.var == v) fixed || b) (named_drop (model_at s 0) drops v drop)
    ∙ or_true (list_any (λ (l : Literal). l.var == v) fixed))
    (λ (printed : Contains (map (λ (l : Literal). l.var) fixed) v).
    ap (λ (b : Bool). b || list_any (λ (d : WitnessLine). d.lit.var == v) (named_drops s drops)) (named_literal fixed v printed))
    named

cover_passes : (F : Cnf) (fixed : Literals) (drops : List WitnessLine) (v : ℕ)
    → (IsTrue (is_shown F v) → is_covered fixed drops v ≡ true) → cover_fault F fixed drops v ≡ None
cover_passes F fixed drops v covers = elim (cases_Bool (is_shown F v)) [
  | inl shown ↦ (let covered = covers shown in rw (shown, covered) refl)
  | inr hidden ↦ rw hidden refl
]

-- ---- the witness

witness_passes : (F : Cnf) (fixed : Literals) (s : Store) (drops : List Witness) → IsCompleteWitness F fixed s drops
    → witness_verdict F fixed (told_of_store s drops) ≡ Verified
witness_passes F fixed s drops is =
    let named = named_drops s drops in
    let each : All (IsModel F) s.models = subst (λ (G : Cnf). All (IsModel G) s.models) is.formula is.models.each in
    let cover : Verdict = each_from (cover_fault F fixed named) 1 (variables F.vars) in
    let drop : Verdict = each_from (drop_fault F s.models) (length s.models + 1) named in
    let model : Verdict = each_from (model_fault F) 1 s.models in
    ap (λ (v : Verdict). v then model then drop then cover) (some_model_first s.models (λ none. omega (arith, is.some, none)))
    ∙ ap (λ (v : Verdict). v then drop then cover) (each_verified (model_fault F) 1 s.models
    (λ a there. cond-true (all_true a F.clauses) None (Some NotAModel) (All-contains (IsModel F) s.models a each there).satisfied))
    ∙ ap (λ (v : Verdict). v then cover) (each_verified (drop_fault F s.models) (length s.models + 1) named
    (λ d there. All-contains (λ (e : WitnessLine). drop_fault F s.models e ≡ None) named d
    (All-map (λ (e : WitnessLine). drop_fault F s.models e ≡ None) (named_by (model_at s 0)) drops
    (All-weaker (HasOpposite F s) (λ (w : Witness). drop_fault F s.models (named_by (model_at s 0) w) ≡ None) (drop_passes F s) drops is.opposite))
    there))
    ∙ each_verified (cover_fault F fixed named) 1 (variables F.vars)
    (λ v there. cover_passes F fixed named v (λ shown. either_covers fixed s drops v (is.covers v shown)))

witness_read : (F : Cnf) (fixed : Literals) (s : Store) (drops : List Witness) → F.vars ≤ 2 ^ 20 → IsCompleteWitness F fixed s drops
    → witness_reading F.vars (store_text s drops) ≡ Ok (told_of_store s drops)
witness_read F fixed s drops small is =
    let same : s.formula.vars ≡ F.vars = ap (λ (G : Cnf). G.vars) is.formula in
    ap (λ (n : ℕ). witness_reading n (store_text s drops)) (sym same)
    ∙ stores_back s drops (omega (arith, small, same)) is.models
    (All-weaker (HasOpposite F s) (IsInRange s) (λ w h. h.range) drops is.opposite) is.rise

first_is_model : (F : Cnf) (fixed : Literals) (s : Store) (drops : List Witness) → IsCompleteWitness F fixed s drops → IsModel F (model_at s 0)
first_is_model F fixed s drops is =
    subst (λ (G : Cnf). IsModel G (model_at s 0)) is.formula (is.models.each 0 [] is.some)

-- ---- the verdicts

pub complete_is_verified : CompleteIsVerified
complete_is_verified F lines s drops small proof reached witness =
    let fixed = shown_backbone F in
    let text = store_text s drops in
    let a = model_at s 0 in
    let model = first_is_model F fixed s drops witness in
    let just : IsShownBackboneOf F fixed = is_shown_backbone F a model in
    let within : AreWithin F.vars fixed =
    λ i d lt. shown_within F _ ((just.just _).0 (Contains-get_or fixed i d lt)).0 in
    let back = sat_reads_back F.vars fixed small just.rises within in
    let reads : reading_of F.vars (answer_text F) ≡ Ok back.0 =
    ap (reading_of F.vars) (answer_text-sat F (λ none. no_model F a none model)) ∙ back.1 in
    let units : each_from (unit_fault F lines) 2 fixed ≡ Verified =
    each_verified (unit_fault F lines) 2 fixed (λ l there. unit_passes F lines l ((just.just l).0 there).0 (reached l there)) in
    judged_answer F (answer_text F) (proof_text lines) text back.0 reads
    ∙ ap (λ (st : Stage). answer_verdict F st back.0.fixed (proof_reading F (proof_text lines)) (witness_reading F.vars text)) back.2.0
    ∙ ap (λ (lits : Literals). sat_verdict F lits (proof_reading F (proof_text lines)) (witness_reading F.vars text)) back.2.1
    ∙ ap (λ given. sat_verdict F fixed given (witness_reading F.vars text)) (proof_read F lines proof)
    ∙ ap (λ (v : Verdict). v then evidence_verdict F fixed (witness_reading F.vars text)) units
    ∙ ap (λ given. evidence_verdict F fixed given) (witness_read F fixed s drops small witness)
    ∙ witness_passes F fixed s drops witness

pub refutation_is_verified : RefutationIsVerified
refutation_is_verified F lines small proof reached =
    let empty : has_empty F lines ≡ true = (has_empty_is F lines).1 reached in
    let back = texts_read_back F.vars Unsat small tt tt in
    let reads : reading_of F.vars (answer_text F) ≡ Ok back.read =
    ap (reading_of F.vars) (answer_text-unsat F (no_models F lines proof.accepted empty)) ∙ back.reading in
    judged_answer F (answer_text F) (proof_text lines) [] back.read reads
    ∙ ap (λ (st : Stage). answer_verdict F st back.read.fixed (proof_reading F (proof_text lines)) (witness_reading F.vars [])) back.says
    ∙ ap (λ given. unsat_verdict F given (witness_reading F.vars [])) (proof_read F lines proof)
    ∙ ap (λ (fault : Option Reason). at_place 1 fault then no_lines (witness_reading F.vars []))
    (cond-true (has_empty F lines) None (Some NoEmpty) empty)
