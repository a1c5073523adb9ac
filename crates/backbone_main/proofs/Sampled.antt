-- From what a run over a sample found out to what is told of it, and which statuses that leaves.
use Rattle.std.proofs.Common.{◌≡◌, ℕ, ◌≤◌, ◌^◌, length, get_or, Some, refl, sym, ap, subst, arith}
use Rattle.bone_desk.specs.declared.desk.Port.TheVariants as port
use Rattle.bone_desk.specs.declared.desk.Act.TheVariants.{Write}
use Rattle.bone_desk.specs.Told.{Told, Rose, WritesOnly, Gave}
use Rattle.bone_desk.specs.Gives.{GaveFront}
use Rattle.std.specs.Prelude.{Result, Ok, Err, IfOk}
use Rattle.cnf_core.specs.declared.memory.NoMemory.{NoMemory}
use Rattle.cnf_core.specs.Literals.{Literals, Assignment, AreWithin}
use Rattle.cnf_core.specs.Formulas.{Cnf, IsFormula, IsModel}
use Rattle.cnf_core.proofs.Models.{no_model}
use Rattle.cnf_core.proofs.Shown.{shown_within}
use Rattle.bone_words.specs.Settings.{Sampling, to_sample}
use Rattle.run_core.specs.declared.outcome.Report.{Report}
use Rattle.run_core.specs.Outcomes.{IsComplete, IsReport}
use Rattle.backbone_main.specs.declared.ending.Ending.{Ending}
use Rattle.backbone_main.specs.declared.ending.Ending.TheVariants.{Sampled, Unfinished, Unknown, Failed}
use Rattle.backbone_main.specs.declared.sample_text.Finding.{Finding}
use Rattle.backbone_main.specs.declared.sample_text.Finding.TheVariants.{Backbone, Part, Nothing}
use Rattle.backbone_main.specs.declared.sample_text.Summary.{Summary}
use Rattle.backbone_main.specs.Endings.{IsItsOwn}
use Rattle.backbone_main.specs.Texts.{HasModel}
use Rattle.backbone_main.specs.Sampling.{SampleAccounts, StopsSample, formula_of, sample_uses}
use Rattle.backbone_main.specs.Steps.Findings.{IsFinding, ending_of, finding_text}
use Rattle.backbone_main.specs.Steps.Finish.{Runs}
use Rattle.backbone_main.proofs.Own.{touches_by_write}
use Rattle.backbone_main.proofs.Rising.{few_rise}

-- the fixed literals of a report are few
fixes_within : (F : Cnf) (r : Report) → IsReport F r → AreWithin F.vars r.fixes.items
fixes_within F r is k d lt = shown_within F (get_or r.fixes.items k d) (is.fixed k d lt).shown

pub few_fixes : (F : Cnf) (r : Report) (lits : Literals) → lits ≡ r.fixes.items → IsFormula F → IsComplete F r
    → length lits ≤ 2 ^ 20
few_fixes F r lits same formula is =
    let few = few_rise r.fixes.items F.vars is.report.fixes_rise (fixes_within F r is.report) in
    let size = ap (λ (ls : Literals). length ls) same in
    omega (arith, size, few, formula.vars_limit)

-- a formula that is one with a model has a model
pub has_model_at : (answer : Result Cnf NoMemory) (F : Cnf) (a : Assignment) → IfOk answer (λ G. G ≡ F) → IsModel F a
    → IfOk answer HasModel
has_model_at (Ok G) F a same model =
    let P : Cnf → Type 0 = λ H. HasModel H in
    subst P (sym same) (λ none. no_model F a none model)
has_model_at (Err e) F a same model = tt

-- ---- what is told

account_told : (workers : ℕ) (s : Sampling) (finding : Finding) (a b : Told)
    → IsFinding workers s.budget (formula_of s) finding → Gave port.Answer (finding_text s finding) a b
    → SampleAccounts workers s (ending_of finding) a b
account_told workers s (Backbone summary) a b is gave = record {
  ends = tt;
  gave = subst (λ (x : Summary). Gave port.Answer (finding_text s (Backbone x)) a b) is gave;
}
account_told workers s Part a b is gave = record { ends = is; gave = gave }
account_told workers s Nothing a b is gave = record { ends = is; gave = gave }

own_ending : (finding : Finding) → IsItsOwn sample_uses (ending_of finding)
own_ending (Backbone summary) = tt
own_ending Part = tt
own_ending Nothing = tt

pub runs_told : (workers : ℕ) (s : Sampling) (finding : Finding) (ending : Ending) (a b : Told) → ending ≡ ending_of finding
    → IsFinding workers s.budget (formula_of s) finding → Gave port.Answer (finding_text s finding) a b → WritesOnly port.Answer a b
    → Runs workers (Some (to_sample s)) ending a b
runs_told workers s finding ending a b same is gave only =
    let P : Ending → Type 0 = λ e. Runs workers (Some (to_sample s)) e a b in
    subst P (sym same) (record {
      account = account_told workers s finding a b is gave;
      own = own_ending finding;
      touches = touches_by_write sample_uses port.Answer a b refl (λ e. absurd (cc)) only;
    })

-- or a front of it
account_stopped : (workers : ℕ) (s : Sampling) (finding : Finding) (a b : Told)
    → IsFinding workers s.budget (formula_of s) finding → GaveFront port.Answer (finding_text s finding) a b
    → Rose (Write port.Answer) a b → StopsSample workers s a b
account_stopped workers s (Backbone summary) a b is front rose = record {
  intended = Sampled;
  ends = tt;
  front = subst (λ (x : Summary). GaveFront port.Answer (finding_text s (Backbone x)) a b) is front;
  rose = rose;
}
account_stopped workers s Part a b is front rose = record { intended = Unfinished; ends = is; front = front; rose = rose }
account_stopped workers s Nothing a b is front rose = record { intended = Unknown; ends = is; front = front; rose = rose }

pub runs_stopped : (workers : ℕ) (s : Sampling) (finding : Finding) (a b : Told) → IsFinding workers s.budget (formula_of s) finding
    → GaveFront port.Answer (finding_text s finding) a b → WritesOnly port.Answer a b → Rose (Write port.Answer) a b
    → Runs workers (Some (to_sample s)) (Failed (Write port.Answer)) a b
runs_stopped workers s finding a b is front only rose = record {
  account = account_stopped workers s finding a b is front rose;
  own = record { used = refl; no_note = λ e. absurd (cc) };
  touches = touches_by_write sample_uses port.Answer a b refl (λ e. absurd (cc)) only;
}
