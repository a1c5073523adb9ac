-- A sample past its note: what was done is done, and which statuses there are.
use Rattle.std.proofs.Common.{◌≡◌, ℕ, ◌≤◌, [], ◌∷◌, refl, arith}
use Rattle.bone_desk.specs.declared.desk.Port.TheVariants as port
use Rattle.bone_desk.specs.declared.desk.Act.TheVariants.{Write}
use Rattle.bone_desk.specs.Told.{Told, WritesOnly}
use Rattle.lrat_log.specs.Laws.{enough, NoLogIsFull}
use Rattle.bone_words.specs.Settings.{Sampling}
use Rattle.backbone_main.specs.declared.ending.Ending.{Ending}
use Rattle.backbone_main.specs.declared.ending.Ending.TheVariants.{Sampled, Unfinished, Unknown, OutOfMemory, Failed}
use Rattle.backbone_main.specs.Causes.{IsFaultless, IsOneOf, IsTaken}
use Rattle.backbone_main.specs.Endings.{code_of}
use Rattle.backbone_main.specs.Sampling.{SampleAccounts, Samples, StopsSample, WritesSample, formula_of, sample_text, sample_uses}
use Rattle.backbone_main.proofs.Given.{at_code, never_rose}
use Rattle.backbone_main.proofs.Onward.{front_onward, gave_onward, rose_onward, silent_onward}
use Rattle.backbone_main.proofs.Served.{never_spent}

stopped_onward : (workers : ℕ) (s : Sampling) (a b c : Told) → StopsSample workers s a b → WritesOnly port.Notes b c
    → StopsSample workers s a c
stopped_onward workers s a b c is only = record {
  intended = is.intended;
  ends = is.ends;
  front = front_onward port.Answer (sample_text s is.intended) a b c (λ e. absurd (cc)) is.front only;
  rose = rose_onward (Write port.Answer) a b c is.rose (λ e. absurd (cc)) only;
}

written_onward : (workers : ℕ) (s : Sampling) (ending : Ending) (a b c : Told) → WritesSample workers s ending a b
    → WritesOnly port.Notes b c → WritesSample workers s ending a c
written_onward workers s ending a b c is only =
    record { ends = is.ends; gave = gave_onward port.Answer (sample_text s ending) a b c (λ e. absurd (cc)) is.gave only }

pub sample_onward : (workers : ℕ) (s : Sampling) (ending : Ending) (a b c : Told) → SampleAccounts workers s ending a b
    → WritesOnly port.Notes b c → SampleAccounts workers s ending a c
sample_onward workers s Sampled a b c is only = written_onward workers s Sampled a b c is only
sample_onward workers s Unfinished a b c is only = written_onward workers s Unfinished a b c is only
sample_onward workers s Unknown a b c is only = written_onward workers s Unknown a b c is only
sample_onward workers s OutOfMemory a b c is only = silent_onward a b c is only
sample_onward workers s (Failed (Write port.Answer)) a b c is only = stopped_onward workers s a b c is only
sample_onward workers s ending a b c is only = absurd is

-- ---- the statuses

-- the answer was taken
answer_taken : (a b : Told) → IsTaken sample_uses a b → IsFaultless (Write port.Answer) a b
answer_taken a b taken = taken port.Answer (λ e. absurd (cc)) refl

any_code : (workers : ℕ) (s : Sampling) (ending : Ending) (a b : Told) → SampleAccounts workers s ending a b
    → IsOneOf (code_of ending) (0 ∷ 30 ∷ 31 ∷ 40 ∷ 61 ∷ [])
any_code workers s Sampled a b is = (0, omega arith, refl)
any_code workers s Unfinished a b is = (1, omega arith, refl)
any_code workers s Unknown a b is = (2, omega arith, refl)
any_code workers s OutOfMemory a b is = (3, omega arith, refl)
any_code workers s (Failed (Write port.Answer)) a b is = (4, omega arith, refl)
any_code workers s ending a b is = absurd is

answered_code : (workers : ℕ) (s : Sampling) (ending : Ending) (a b : Told) → SampleAccounts workers s ending a b
    → IsTaken sample_uses a b → IsOneOf (code_of ending) (0 ∷ 30 ∷ 31 ∷ 40 ∷ [])
answered_code workers s Sampled a b is taken = (0, omega arith, refl)
answered_code workers s Unfinished a b is taken = (1, omega arith, refl)
answered_code workers s Unknown a b is taken = (2, omega arith, refl)
answered_code workers s OutOfMemory a b is taken = (3, omega arith, refl)
answered_code workers s (Failed (Write port.Answer)) a b is taken =
    absurd (never_rose (Write port.Answer) a b (answer_taken a b taken) is.rose)
answered_code workers s ending a b is taken = absurd is

-- where the budget is enough it isn't spent
bounded_code : NoLogIsFull → (workers : ℕ) (s : Sampling) (ending : Ending) (a b : Told) → SampleAccounts workers s ending a b
    → IsTaken sample_uses a b → enough s.vars ≤ s.budget → IsOneOf (code_of ending) (0 ∷ 40 ∷ [])
bounded_code law workers s Sampled a b is taken is_enough = (0, omega arith, refl)
bounded_code law workers s Unfinished a b is taken is_enough =
    absurd (never_spent law (formula_of s) workers s.budget is_enough is.ends)
bounded_code law workers s Unknown a b is taken is_enough = absurd (never_spent law (formula_of s) 1 s.budget is_enough is.ends)
bounded_code law workers s OutOfMemory a b is taken is_enough = (1, omega arith, refl)
bounded_code law workers s (Failed (Write port.Answer)) a b is taken is_enough =
    absurd (never_rose (Write port.Answer) a b (answer_taken a b taken) is.rose)
bounded_code law workers s ending a b is taken is_enough = absurd is

pub samples : NoLogIsFull → (workers : ℕ) (s : Sampling) (ending : Ending) (number : ℕ) (a b : Told) → number ≡ code_of ending
    → SampleAccounts workers s ending a b → Samples s number a b
samples law workers s ending number a b is_code is =
    record {
      all = at_code (0 ∷ 30 ∷ 31 ∷ 40 ∷ 61 ∷ []) number ending is_code (any_code workers s ending a b is);
      answered = λ taken. at_code (0 ∷ 30 ∷ 31 ∷ 40 ∷ []) number ending is_code (answered_code workers s ending a b is taken);
      bound = λ taken is_enough. at_code (0 ∷ 40 ∷ []) number ending is_code
          (bounded_code law workers s ending a b is taken is_enough);
    }
