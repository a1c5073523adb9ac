-- What was written whole with its evidence is verified by a check of it.
use Rattle.std.proofs.Common.{◌≡◌, ℕ, ◌≤◌, ◌⊎◌, ◌^◌, ◌∙◌, Bool, true, false, IsTrue, List, [], ◌∷◌, All, Contains, refl, sym, ap, subst, true≢false}
use Rattle.std.specs.Prelude.{Option, Some, None, IfSome, is_some}
use Rattle.std.specs.Bool.{then_some}
use Rattle.std.proofs.lemmas.List.Elements.{All-weaker}
use Rattle.cnf_core.specs.Literals.{Literal, Literals}
use Rattle.cnf_core.specs.Formulas.{Cnf, shown_backbone}
use Rattle.lrat_lines.specs.declared.line.Line.{Line}
use Rattle.lrat_lines.specs.Proofs.{Proves, IsReached}
use Rattle.lrat_lines.specs.Tidy.{IsTidy}
use Rattle.lrat_lines.specs.Printed.{proof_text, IsInMemory}
use Rattle.model_store.specs.Stores.{Store, HoldsModels}
use Rattle.model_store.specs.declared.witness.Witness.{Witness}
use Rattle.witness_text.specs.WitnessText.{store_text}
use Rattle.answer_text.specs.AnswerText.{answer_text, sat_text, unsat_text}
use Rattle.answer_text.proofs.Verdicts.{answer_text-sat, answer_text-unsat}
use Rattle.bone_check.specs.declared.verdict.Verdict.TheVariants.{Verified}
use Rattle.bone_check.specs.Verdicts.{verdict_of}
use Rattle.bone_check.specs.Complete.{IsWritableProof, IsCompleteWitness, HasOpposite}
use Rattle.bone_check.proofs.Completed.{complete_is_verified, refutation_is_verified}
use Rattle.run_core.specs.declared.outcome.Report.{Report}
use Rattle.run_core.specs.Outcomes.{IsComplete, IsRefuted, IsDropped}
use Rattle.backbone_main.specs.declared.task.Files.{Files}
use Rattle.backbone_main.specs.declared.reply.Drops.{Drops}
use Rattle.backbone_main.specs.declared.reply.Evidence.{Evidence}
use Rattle.backbone_main.specs.declared.ending.Ending.TheVariants.{Complete, Unsatisfiable}
use Rattle.backbone_main.specs.Texts.{Texts, HasDropOf, HasLiteralOf}
use Rattle.backbone_main.specs.Extracting.{IsCertified}
use Rattle.backbone_main.specs.Steps.Replies.{HasText, IsKeptDrops, proof_text_of, drops_text_of}
use Rattle.backbone_main.proofs.Evidence.{printable_of_tidy, reached_empty, reached_unit}
use Rattle.backbone_main.proofs.Replies.{has_model_of}

-- ---- what was kept, where it was wanted

kept_lines : (wanted : Bool) (kept : Option (List Line)) (lines : List Line) → kept ≡ then_some wanted lines → IsTrue wanted
    → kept ≡ Some lines
kept_lines true kept lines is on = is
kept_lines false kept lines is on = absurd (true≢false (sym on))

kept_drops : (kept : Option Drops) (s : Store) (ws : List Witness) → IsTrue (is_some kept) → IfSome kept (IsKeptDrops s ws)
    → drops_text_of kept ≡ store_text s ws
kept_drops None s ws some keeps = absurd (true≢false (sym some))
kept_drops (Some d) s ws some keeps =
    ap (λ (t : Store). store_text t d.drops.items) keeps.store ∙ ap (λ (us : List Witness). store_text s us) keeps.list

in_memory_of : (kept : Option (List Line)) (lines : List Line) → kept ≡ Some lines → HasText kept → All IsInMemory lines
in_memory_of kept lines is text = subst (λ (o : Option (List Line)). HasText o) is text

-- ---- a whole backbone

complete_evidence : (F : Cnf) (r : Report) → IsComplete F r → HoldsModels r.models
    → IsCompleteWitness F (shown_backbone F) r.models r.drops.items
complete_evidence F r is holds = record {
  formula = is.report.formula;
  models = holds;
  some = is.report.some;
  rise = is.report.drops_rise;
  opposite = All-weaker (IsDropped F r.models) (HasOpposite F r.models)
      (λ w dropped. record { range = dropped.witness.range; against = dropped.witness.against }) r.drops.items is.report.dropped;
  covers = λ x shown. subst (λ (lits : Literals). HasDropOf r.drops.items x ⊎ HasLiteralOf lits x) is.backbone (is.covered x shown);
}

reached_members : (F : Cnf) (r : Report) → IsComplete F r → (l : Literal) → Contains (shown_backbone F) l → IsReached F r.proof (l ∷ [])
reached_members F r is l here =
    reached_unit F r.proof l is.report.tidy (is.report.units l (subst (λ (lits : Literals). Contains lits l) (sym is.backbone) here))

writable_of : (F : Cnf) (lines : List Line) → Proves F lines → IsTidy F lines → All IsInMemory lines → IsWritableProof F lines
writable_of F lines accepted tidy memory =
    record { accepted = accepted; printable = printable_of_tidy F lines tidy; in_memory = memory }

backbone_verified : (F : Cnf) (r : Report) → F.vars ≤ 2 ^ 20 → IsComplete F r → HoldsModels r.models → All IsInMemory r.proof
    → verdict_of F (answer_text F) (proof_text r.proof) (store_text r.models r.drops.items) ≡ Verified
backbone_verified F r small is holds memory =
    complete_is_verified F r.proof r.models r.drops.items small
    (writable_of F r.proof is.report.accepted is.report.tidy memory) (reached_members F r is) (complete_evidence F r is holds)

pub certified_backbone : (files : Files) (F : Cnf) (r : Report) (evidence : Evidence) → evidence.proof ≡ then_some files.proof r.proof
    → is_some evidence.witness ≡ files.witness → IfSome evidence.witness (IsKeptDrops r.models r.drops.items) → HoldsModels r.models
    → IsComplete F r → F.vars ≤ 2 ^ 20 → HasText evidence.proof
    → IsCertified files Complete F (record {
      answer = sat_text r.fixes.items;
      proof = proof_text_of evidence.proof;
      witness = drops_text_of evidence.witness;
    })
certified_backbone files F r evidence proof_is wanted keeps holds is small text = λ on_proof on_witness.
    let kept = kept_lines files.proof evidence.proof r.proof proof_is on_proof in
    let answer : sat_text r.fixes.items ≡ answer_text F = ap sat_text is.backbone ∙ sym (answer_text-sat F (has_model_of F r is.report)) in
    ap (λ (bytes : List ℕ). verdict_of F bytes (proof_text_of evidence.proof) (drops_text_of evidence.witness)) answer
    ∙ ap (λ (o : Option (List Line)). verdict_of F (answer_text F) (proof_text_of o) (drops_text_of evidence.witness)) kept
    ∙ ap (λ (bytes : List ℕ). verdict_of F (answer_text F) (proof_text r.proof) bytes)
    (kept_drops evidence.witness r.models r.drops.items (wanted ∙ on_witness) keeps)
    ∙ backbone_verified F r small is holds (in_memory_of evidence.proof r.proof kept text)

-- ---- no model

pub certified_no_model : (files : Files) (F : Cnf) (lines : List Line) (proof : Option (List Line)) → proof ≡ then_some files.proof lines
    → IsRefuted F lines → F.vars ≤ 2 ^ 20 → HasText proof
    → IsCertified files Unsatisfiable F (record { answer = unsat_text; proof = proof_text_of proof; witness = [] })
certified_no_model files F lines proof proof_is is small text = λ on_proof.
    let kept = kept_lines files.proof proof lines proof_is on_proof in
    ap (λ (bytes : List ℕ). verdict_of F bytes (proof_text_of proof) []) (sym (answer_text-unsat F is.none))
    ∙ ap (λ (o : Option (List Line)). verdict_of F (answer_text F) (proof_text_of o) []) kept
    ∙ refutation_is_verified F lines small (writable_of F lines is.accepted is.tidy (in_memory_of proof lines kept text))
    (reached_empty F lines is.tidy is.empty)
