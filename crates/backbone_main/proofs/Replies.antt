-- From an outcome to what is written of it.
use Rattle.std.proofs.Common.{◌≡◌, ℕ, ◌<◌, ◌-◌, ◌^◌, ◌++◌, List, [], ◌∷◌, false, true≢false, refl, sym, ap, ◌∙◌, subst, inl, inr, arith}
use Rattle.std.specs.Prelude.{Option, IfSome, IsSome, is_some, option_map}
use Rattle.std.specs.Bool.{then_some}
use Rattle.std.proofs.lemmas.List.Elements.{All-cons, All-nil}
use Rattle.bone_desk.specs.declared.desk.Port.{Port}
use Rattle.bone_desk.specs.declared.desk.Port.TheVariants as port
use Rattle.bone_desk.specs.declared.desk.Act.{Act}
use Rattle.bone_desk.specs.declared.desk.Act.TheVariants.{Write}
use Rattle.bone_desk.specs.Told.{Told, Rose, WritesOnly, Gave}
use Rattle.bone_desk.specs.Gives.{GaveFront}
use Rattle.cnf_core.specs.Literals.{Literals}
use Rattle.cnf_core.specs.Formulas.{Cnf, shown_backbone}
use Rattle.cnf_core.proofs.Models.{no_model}
use Rattle.lrat_lines.specs.declared.line.Line.{Line}
use Rattle.lrat_lines.specs.Printed.{proof_text}
use Rattle.model_store.specs.Stores.{model_at}
use Rattle.answer_text.specs.declared.answer.Answer.{Answer}
use Rattle.answer_text.specs.AnswerText.{sat_text, unsat_text, partial_text, text_of}
use Rattle.answer_text.proofs.Verdicts.{answer_text-sat, answer_text-unsat}
use Rattle.run_core.specs.declared.outcome.Report.{Report}
use Rattle.run_core.specs.Outcomes.{IsReport, IsComplete, IsRefuted, IsSpent, IsUnfinished}
use Rattle.lrat_log.specs.Entries.{Recorded}
use Rattle.backbone_main.specs.declared.task.Files.{Files}
use Rattle.backbone_main.specs.declared.reply.Drops.{Drops}
use Rattle.backbone_main.specs.declared.reply.Evidence.{Evidence}
use Rattle.backbone_main.specs.declared.reply.Reply.{Reply}
use Rattle.backbone_main.specs.declared.ending.Ending.{Ending}
use Rattle.backbone_main.specs.declared.ending.Ending.TheVariants.{Failed}
use Rattle.backbone_main.specs.Causes.{Acts}
use Rattle.backbone_main.specs.Endings.{IsItsOwn}
use Rattle.backbone_main.specs.Texts.{Texts, AreSpent, HasModel, TellsBackbone, TellsNoModel, TellsPart, TextsSay, IsProofOf, IsWitnessOf, IsRefutation}
use Rattle.backbone_main.specs.Extracting.{GaveAll, IsCertified, IsCutAt, StopsWhere}
use Rattle.backbone_main.specs.Steps.Open.{open_literals}
use Rattle.backbone_main.specs.Steps.Finish.{WritesOwn, Touches}
use Rattle.backbone_main.specs.Steps.Replies.{AllowsFiles, EndsWriting, Finishes, HasText, IsKeptDrops, IsWantedReply, IsWritable, proof_text_of, drops_text_of, texts_of}
use Rattle.backbone_main.proofs.Own.{touches_more, touches_by_write, touches_by_choice}
use Rattle.backbone_main.proofs.Partial.{complete_witness, first_is_model, known_part, partial_witness}
use Rattle.backbone_main.proofs.Evidence.{drops_where, drops_writable, printable_of_tidy, proof_of_report, proof_where, proof_writable, refutation}

-- ---- what each outcome's reply tells

pub has_model_of : (F : Cnf) (r : Report) → IsReport F r → HasModel F
has_model_of F r report empty = no_model F (model_at r.models 0) empty (first_is_model F r report)

pub tells_backbone : (files : Files) (F : Cnf) (r : Report) (proof : Option (List Line)) (drops : Option Drops)
    → proof ≡ then_some files.proof r.proof → is_some drops ≡ files.witness → IfSome drops (IsKeptDrops r.models r.drops.items)
    → IsComplete F r
    → TellsBackbone files F (record { answer = sat_text r.fixes.items; proof = proof_text_of proof; witness = drops_text_of drops })
tells_backbone files F r proof drops proof_is wanted keeps is =
    let has = has_model_of F r is.report in
    record {
      has_model = has;
      answer = ap sat_text is.backbone ∙ sym (answer_text-sat F has);
      evidence = record {
        proof = proof_where files.proof proof r.proof (IsProofOf F (shown_backbone F)) proof_is
            (subst (λ (lits : Literals). IsProofOf F lits (proof_text r.proof)) is.backbone (proof_of_report F r is.report));
        witness = drops_where files.witness drops r.models r.drops.items (IsWitnessOf F (shown_backbone F ++ [])) wanted keeps
            (complete_witness F r is);
      };
    }

pub tells_no_model : (files : Files) (F : Cnf) (lines : List Line) (proof : Option (List Line)) → proof ≡ then_some files.proof lines
    → IsRefuted F lines → TellsNoModel files F (record { answer = unsat_text; proof = proof_text_of proof; witness = [] })
tells_no_model files F lines proof proof_is is = record {
  no_model = is.none;
  answer = sym (answer_text-unsat F is.none);
  proof = proof_where files.proof proof lines (IsRefutation F) proof_is (refutation F lines is);
  witness = refl;
}

pub tells_part : (files : Files) (F : Cnf) (r : Report) (still : Literals) (answer : Answer) (proof : Option (List Line))
    (drops : Option Drops) → text_of answer ≡ partial_text r.fixes.items still → still ≡ open_literals F r
    → proof ≡ then_some files.proof r.proof → is_some drops ≡ files.witness
    → IfSome drops (IsKeptDrops r.models r.drops.items) → IsUnfinished F r
    → TellsPart files F (record { answer = text_of answer; proof = proof_text_of proof; witness = drops_text_of drops })
tells_part files F r still answer proof drops answer_is still_is proof_is wanted keeps is =
    record {
      has_model = has_model_of F r is.report;
      fixed = r.fixes.items;
      still = open_literals F r;
      known = known_part F r is;
      answer = answer_is ∙ ap (partial_text r.fixes.items) still_is;
      evidence = record {
        proof = proof_where files.proof proof r.proof (IsProofOf F r.fixes.items) proof_is (proof_of_report F r is.report);
        witness = drops_where files.witness drops r.models r.drops.items (IsWitnessOf F (r.fixes.items ++ open_literals F r)) wanted keeps
            (partial_witness F r is.report);
      };
    }

pub writable_report : (files : Files) (F : Cnf) (r : Report) (evidence : Evidence) → evidence.proof ≡ then_some files.proof r.proof
    → IfSome evidence.witness (IsKeptDrops r.models r.drops.items) → IsReport F r → IsWritable F evidence
writable_report files F r evidence proof_is keeps report = record {
  printable = proof_writable files.proof evidence.proof r.proof proof_is (printable_of_tidy F r.proof report.tidy);
  drops = drops_writable F r evidence.witness report keeps;
}

-- what is named is wanted
pub wanted_reply : (may : Acts) (files : Files) (reply : Reply) → AllowsFiles may files → is_some reply.evidence.proof ≡ files.proof
    → is_some reply.evidence.witness ≡ files.witness → IsItsOwn may reply.ending → IsWantedReply may reply
wanted_reply may files reply allows proof drops own = record {
  answer = allows.answer;
  proof = λ some. allows.proof (sym proof ∙ some);
  drops = λ some. allows.witness (sym drops ∙ some);
  own = own;
}

-- without evidence nothing has to be named
pub bare_reply : (may : Acts) (files : Files) (reply : Reply) → AllowsFiles may files → is_some reply.evidence.proof ≡ false
    → is_some reply.evidence.witness ≡ false → IsItsOwn may reply.ending → IsWantedReply may reply
bare_reply may files reply allows proof drops own = record {
  answer = allows.answer;
  proof = λ some. absurd (true≢false (sym some ∙ proof));
  drops = λ some. absurd (true≢false (sym some ∙ drops));
  own = own;
}

pub spent_of_one : (F : Cnf) (budget : ℕ) (L : Recorded) → IsSpent F budget L → AreSpent F 1 budget
spent_of_one F budget L spent =
    record { some = omega arith; logs = L ∷ []; each = refl; spent = All-cons (IsSpent F budget) L [] spent (All-nil (IsSpent F budget)) }

-- ---- what is written: the proof from a to b, the witness from b to c, the answer from c to d

gave_from : (p : Port) (text : List ℕ) (a b c : Told) → b.put p ≡ a.put p → Gave p text b c → Gave p text a c
gave_from p text a b c same gave = gave ∙ ap (option_map (λ before. before ++ text)) same

front_from : (p : Port) (text : List ℕ) (a b c : Told) → b.put p ≡ a.put p → GaveFront p text b c → GaveFront p text a c
front_from p text a b c same front =
    record { sent = front.sent; rest = front.rest; gave = gave_from p front.sent a b c same front.gave; all = front.all }

rose_from : (act : Act) (a b c : Told) → b.faults act ≡ a.faults act → Rose act b c → Rose act a c
rose_from act a b c same rose = subst (λ (n : ℕ). n < 2 ^ 64 - 1 → n < c.faults act) same rose

pub cut_proof : (texts : Texts) (a b : Told) → GaveFront port.Proof texts.proof a b → WritesOnly port.Proof a b
    → IsCutAt port.Proof texts a b
cut_proof texts a b front only = (front, only.put port.Witness (λ e. absurd (cc)), only.put port.Answer (λ e. absurd (cc)))

pub stops_at_witness : (texts : Texts) (a b c : Told) → Gave port.Proof texts.proof a b → WritesOnly port.Proof a b
    → GaveFront port.Witness texts.witness b c → WritesOnly port.Witness b c → Rose (Write port.Witness) b c
    → StopsWhere texts (Failed (Write port.Witness)) a c
stops_at_witness texts a b c gave first front second rose = (
  (
    second.put port.Proof (λ e. absurd (cc)) ∙ gave,
    front_from port.Witness texts.witness a b c (first.put port.Witness (λ e. absurd (cc))) front,
    second.put port.Answer (λ e. absurd (cc)) ∙ first.put port.Answer (λ e. absurd (cc)),
  ),
  rose_from (Write port.Witness) a b c (first.counts.others (Write port.Witness) (λ e. absurd (cc))) rose,
)

-- what both files gained, once both are written
gave_proof : (texts : Texts) (a b c d : Told) → Gave port.Proof texts.proof a b → WritesOnly port.Witness b c → WritesOnly port.Answer c d
    → Gave port.Proof texts.proof a d
gave_proof texts a b c d gave second third =
    third.put port.Proof (λ e. absurd (cc)) ∙ second.put port.Proof (λ e. absurd (cc)) ∙ gave

gave_witness : (texts : Texts) (a b c d : Told) → WritesOnly port.Proof a b → Gave port.Witness texts.witness b c
    → WritesOnly port.Answer c d → Gave port.Witness texts.witness a d
gave_witness texts a b c d first gave third =
    third.put port.Witness (λ e. absurd (cc))
    ∙ gave_from port.Witness texts.witness a b c (first.put port.Witness (λ e. absurd (cc))) gave

answer_untouched : (a b c : Told) → WritesOnly port.Proof a b → WritesOnly port.Witness b c → c.put port.Answer ≡ a.put port.Answer
answer_untouched a b c first second =
    second.put port.Answer (λ e. absurd (cc)) ∙ first.put port.Answer (λ e. absurd (cc))

answer_unfailed : (a b c : Told) → WritesOnly port.Proof a b → WritesOnly port.Witness b c
    → c.faults (Write port.Answer) ≡ a.faults (Write port.Answer)
answer_unfailed a b c first second =
    second.counts.others (Write port.Answer) (λ e. absurd (cc)) ∙ first.counts.others (Write port.Answer) (λ e. absurd (cc))

pub stops_at_answer : (texts : Texts) (a b c d : Told) → Gave port.Proof texts.proof a b → WritesOnly port.Proof a b
    → Gave port.Witness texts.witness b c → WritesOnly port.Witness b c
    → GaveFront port.Answer texts.answer c d → WritesOnly port.Answer c d → Rose (Write port.Answer) c d
    → StopsWhere texts (Failed (Write port.Answer)) a d
stops_at_answer texts a b c d proof first witness second front third rose = (
  (
    gave_proof texts a b c d proof second third,
    gave_witness texts a b c d first witness third,
    front_from port.Answer texts.answer a c d (answer_untouched a b c first second) front,
  ),
  rose_from (Write port.Answer) a c d (answer_unfailed a b c first second) rose,
)

pub gave_all : (texts : Texts) (a b c d : Told) → Gave port.Proof texts.proof a b → WritesOnly port.Proof a b
    → Gave port.Witness texts.witness b c → WritesOnly port.Witness b c → Gave port.Answer texts.answer c d → WritesOnly port.Answer c d
    → GaveAll texts a d
gave_all texts a b c d proof first witness second answer third port.Proof other = gave_proof texts a b c d proof second third
gave_all texts a b c d proof first witness second answer third port.Witness other = gave_witness texts a b c d first witness third
gave_all texts a b c d proof first witness second answer third port.Answer other =
    gave_from port.Answer texts.answer a c d (answer_untouched a b c first second) answer
gave_all texts a b c d proof first witness second answer third port.Notes other = absurd (other refl)

-- ---- and all of it is wanted

pub touches_proof : (may : Acts) (reply : Reply) (a b : Told) → IsWantedReply may reply → WritesOnly port.Proof a b
    → (is_some reply.evidence.proof ≡ false → b ≡ a) → Touches may a b
touches_proof may reply a b wanted only none =
    touches_by_choice may port.Proof reply.evidence.proof a b wanted.proof (λ e. absurd (cc)) only none

pub touches_drops : (may : Acts) (reply : Reply) (a b : Told) → IsWantedReply may reply → WritesOnly port.Witness a b
    → (is_some reply.evidence.witness ≡ false → b ≡ a) → Touches may a b
touches_drops may reply a b wanted only none =
    touches_by_choice may port.Witness reply.evidence.witness a b wanted.drops (λ e. absurd (cc)) only none

pub own_proof : (may : Acts) (reply : Reply) (ending : Ending) (a b : Told) → IsWantedReply may reply → WritesOnly port.Proof a b
    → (is_some reply.evidence.proof ≡ false → b ≡ a) → IsItsOwn may ending → WritesOwn may ending a b
own_proof may reply ending a b wanted only none own =
    record { touches = touches_proof may reply a b wanted only none; left = only.left; own = own }

pub own_witness : (may : Acts) (reply : Reply) (a b c : Told) → IsWantedReply may reply → WritesOnly port.Proof a b
    → (is_some reply.evidence.proof ≡ false → b ≡ a) → WritesOnly port.Witness b c
    → (is_some reply.evidence.witness ≡ false → c ≡ b) → IsSome reply.evidence.witness
    → WritesOwn may (Failed (Write port.Witness)) a c
own_witness may reply a b c wanted first no_proof second no_drops some = record {
  touches = touches_more may a b c (touches_proof may reply a b wanted first no_proof) (touches_drops may reply b c wanted second no_drops);
  left = λ f. second.left f ∙ first.left f;
  own = record { used = wanted.drops some; no_note = λ e. absurd (cc) };
}

pub own_answer : (may : Acts) (reply : Reply) (ending : Ending) (a b c d : Told) → IsWantedReply may reply
    → WritesOnly port.Proof a b → (is_some reply.evidence.proof ≡ false → b ≡ a) → WritesOnly port.Witness b c
    → (is_some reply.evidence.witness ≡ false → c ≡ b) → WritesOnly port.Answer c d → IsItsOwn may ending → WritesOwn may ending a d
own_answer may reply ending a b c d wanted first no_proof second no_drops third own = record {
  touches = touches_more may a b d (touches_proof may reply a b wanted first no_proof)
      (touches_more may b c d (touches_drops may reply b c wanted second no_drops)
      (touches_by_write may port.Answer c d wanted.answer (λ e. absurd (cc)) third));
  left = λ f. third.left f ∙ second.left f ∙ first.left f;
  own = own;
}

-- ---- from a reply that was written to what was done

pub finishes_writing : (w b : ℕ) (files : Files) (F : Cnf) (reply : Reply) (ending : Ending) (old new : Told)
    → TextsSay w b files reply.ending F (texts_of reply)
    → (HasText reply.evidence.proof → IsCertified files reply.ending F (texts_of reply))
    → EndsWriting reply ending old new → Finishes w b files F ending old new
finishes_writing w b files F reply ending old new say certified writes = elim writes [
  | inl whole ↦ inr (inl (record {
    texts = texts_of reply;
    say = subst (λ (e : Ending). TextsSay w b files e F (texts_of reply)) (sym whole.own) say;
    gave = whole.gave;
    certified = subst (λ (e : Ending). IsCertified files e F (texts_of reply)) (sym whole.own) (certified whole.evidence);
  }))
  | inr stop ↦ inr (inr (record { texts = texts_of reply; intended = reply.ending; say = say; stop = stop }))
]
