-- A whole call: what was done is done before the note, and each command says which statuses are left.
use Rattle.std.proofs.Common.{◌≡◌, ℕ, true, [], ◌∷◌, Option, Some, None, refl, sym, ap, subst, inl}
use Rattle.bone_desk.specs.declared.desk.Port.TheVariants as port
use Rattle.bone_desk.specs.declared.desk.Act.TheVariants.{Write}
use Rattle.bone_desk.specs.Told.{Told, WritesOnly}
use Rattle.bone_desk.proofs.Steps.{writes_none}
use Rattle.lrat_log.specs.Laws.{NoLogIsFull}
use Rattle.bone_words.specs.Settings.{Wanted, to_extract, to_check, to_sample}
use Rattle.backbone_main.specs.declared.ending.Ending.{Ending}
use Rattle.backbone_main.specs.declared.ending.Ending.TheVariants.{OutOfMemory, Usage}
use Rattle.backbone_main.specs.Notes.{note_of, GainsNote}
use Rattle.backbone_main.specs.Words.{uses, workers_of}
use Rattle.backbone_main.specs.Endings.{code_of, IsItsOwn}
use Rattle.backbone_main.specs.Extracting.{files_of}
use Rattle.backbone_main.specs.Outcome.{Accounts, Serves}
use Rattle.backbone_main.specs.Steps.Finish.{IsJob, IsJobOf, IsWordless, Runs, asked_check, asked_sample}
use Rattle.backbone_main.specs.Steps.Finish.{asked as asked_extract}
use Rattle.backbone_main.specs.declared.task.Extraction as asked
use Rattle.backbone_main.specs.declared.check.Checking as named
use Rattle.backbone_main.specs.declared.sampling.Sampling as planted
use Rattle.backbone_main.specs.declared.job.Job.{Job}
use Rattle.backbone_main.specs.declared.job.Job.TheVariants.{Extract, Check, Sample}
use Rattle.backbone_main.proofs.Own.{touches_none}
use Rattle.backbone_main.proofs.Given.{at_code}
use Rattle.backbone_main.proofs.Onward.{note_after, own_with_note}
use Rattle.backbone_main.proofs.Wordless.{usage_code, usage_onward}
use Rattle.backbone_main.proofs.Finished.{extract_onward}
use Rattle.backbone_main.proofs.Answering.{extracts}
use Rattle.backbone_main.proofs.Checked.{check_onward, checks}
use Rattle.backbone_main.proofs.SampleStatuses.{sample_onward, samples}

accounts_onward : (w : ℕ) (wanted : Option Wanted) (ending : Ending) (a b c : Told) → Accounts w wanted ending a b
    → WritesOnly port.Notes b c → Accounts w wanted ending a c
accounts_onward w None ending a b c is only = usage_onward ending a b c is only
accounts_onward w (Some (to_extract e)) ending a b c is only = extract_onward w e.budget (files_of e) ending a b c is only
accounts_onward w (Some (to_check k)) ending a b c is only = check_onward k ending a b c is only
accounts_onward w (Some (to_sample s)) ending a b c is only = sample_onward w s ending a b c is only

writes_notes : (wanted : Option Wanted) → uses wanted (Write port.Notes) ≡ true
writes_notes None = refl
writes_notes (Some (to_extract e)) = refl
writes_notes (Some (to_check c)) = refl
writes_notes (Some (to_sample s)) = refl

account_as : (w : ℕ) (wanted other : Option Wanted) (ending : Ending) (old new : Told) → wanted ≡ other → Accounts w wanted ending old new
    → Accounts w other ending old new
account_as w wanted other ending old new is account = subst (λ (o : Option Wanted). Accounts w o ending old new) is account

own_as : (wanted other : Option Wanted) (ending : Ending) → wanted ≡ other → IsItsOwn (uses wanted) ending → IsItsOwn (uses other) ending
own_as wanted other ending is own = subst (λ (o : Option Wanted). IsItsOwn (uses o) ending) is own

pub serves : (w : ℕ) (wanted : Option Wanted) (ending : Ending) (number : ℕ) (old mid new : Told) → NoLogIsFull → number ≡ code_of ending
    → GainsNote (note_of ending) mid new → WritesOnly port.Notes mid new → Runs w wanted ending old mid → Serves w wanted number old new
serves w wanted ending number old mid new law is_code note only runs =
    let account = accounts_onward w wanted ending old mid new runs.account only in
    record {
      ends = record {
        ending = ending;
        is_code = is_code;
        own = runs.own;
        account = account;
        note = note_after (uses wanted) ending old mid new runs.touches note;
      };
      changes = own_with_note (uses wanted) old mid new (writes_notes wanted) runs.touches only;
      usage = λ is. at_code (64 ∷ 40 ∷ []) number ending is_code
          (usage_code ending old new (account_as w wanted None ending old new is account));
      extracts = λ e is. extracts w e ending number old new law is_code
          (account_as w wanted (Some (to_extract e)) ending old new is account) (own_as wanted (Some (to_extract e)) ending is runs.own);
      checks = λ c is. checks c ending number old new is_code
          (account_as w wanted (Some (to_check c)) ending old new is account) (own_as wanted (Some (to_check c)) ending is runs.own);
      samples = λ s is. samples law w s ending number old new is_code
          (account_as w wanted (Some (to_sample s)) ending old new is account);
    }

-- ---- by the job of the words

job_is : (wanted : Option Wanted) (w : Wanted) (job : Job) → ((v : Wanted) → IsJob v job → v ≡ w) → IsJobOf wanted job → wanted ≡ Some w
job_is None w job same is = absurd is
job_is (Some v) w job same is = ap Some (same v is)

pub runs_extract : (wanted : Option Wanted) (e : asked.Extraction) (ending : Ending) (a b : Told) → IsJobOf wanted (Extract e)
    → Runs e.settings.workers (Some (to_extract (asked_extract e))) ending a b → Runs (workers_of wanted) wanted ending a b
runs_extract wanted e ending a b is runs =
    subst (λ (o : Option Wanted). Runs (workers_of o) o ending a b)
    (sym (job_is wanted (to_extract (asked_extract e)) (Extract e) (λ v same. same) is)) runs

pub runs_extract_alone : (wanted : Option Wanted) (e : asked.Extraction) (ending : Ending) (a b : Told) → IsJobOf wanted (Extract e)
    → Runs 1 (Some (to_extract (asked_extract e))) ending a b → Runs 1 wanted ending a b
runs_extract_alone wanted e ending a b is runs =
    subst (λ (o : Option Wanted). Runs 1 o ending a b)
    (sym (job_is wanted (to_extract (asked_extract e)) (Extract e) (λ v same. same) is)) runs

pub runs_check : (w : ℕ) (wanted : Option Wanted) (c : named.Checking) (ending : Ending) (a b : Told) → IsJobOf wanted (Check c)
    → ((n : ℕ) → Runs n (Some (to_check (asked_check c))) ending a b) → Runs w wanted ending a b
runs_check w wanted c ending a b is runs =
    subst (λ (o : Option Wanted). Runs w o ending a b)
    (sym (job_is wanted (to_check (asked_check c)) (Check c) (λ v same. same) is)) (runs w)

pub runs_sample : (wanted : Option Wanted) (s : planted.Sampling) (ending : Ending) (a b : Told) → IsJobOf wanted (Sample s)
    → Runs s.settings.workers (Some (to_sample (asked_sample s))) ending a b → Runs (workers_of wanted) wanted ending a b
runs_sample wanted s ending a b is runs =
    subst (λ (o : Option Wanted). Runs (workers_of o) o ending a b)
    (sym (job_is wanted (to_sample (asked_sample s)) (Sample s) (λ v same. same) is)) runs

pub runs_sample_alone : (wanted : Option Wanted) (s : planted.Sampling) (ending : Ending) (a b : Told) → IsJobOf wanted (Sample s)
    → Runs 1 (Some (to_sample (asked_sample s))) ending a b → Runs 1 wanted ending a b
runs_sample_alone wanted s ending a b is runs =
    subst (λ (o : Option Wanted). Runs 1 o ending a b)
    (sym (job_is wanted (to_sample (asked_sample s)) (Sample s) (λ v same. same) is)) runs

-- nothing was done

lacking_account : (w : ℕ) (wanted : Option Wanted) (t : Told) → Accounts w wanted OutOfMemory t t
lacking_account w None t = writes_none port.Notes t
lacking_account w (Some (to_extract e)) t = inl (λ p other. refl)
lacking_account w (Some (to_check c)) t = λ p other. refl
lacking_account w (Some (to_sample s)) t = λ p other. refl

pub runs_wordless : (w : ℕ) (wanted : Option Wanted) (ending : Ending) (t : Told) → IsWordless wanted ending → Runs w wanted ending t t
runs_wordless w wanted Usage t is =
    let account : Accounts w None Usage t t = writes_none port.Notes t in
    let P : Option Wanted → Type 0 = λ o. Accounts w o Usage t t in
    record { account = subst P (sym is) account; own = tt; touches = touches_none (uses wanted) t }
runs_wordless w wanted OutOfMemory t is =
    record { account = lacking_account w wanted t; own = tt; touches = touches_none (uses wanted) t }
runs_wordless w wanted ending t is = absurd is
