-- What `sample` does, by how it ends, and which statuses a cause leaves.
use Rattle.std.specs.Prelude.{◌≤◌, ℕ, not, List, [], ◌∷◌, ◌++◌, false, true, length, codes, decimal, count_by}
use Rattle.std.specs.List.{sum_by}
use Rattle.bone_desk.specs.declared.desk.Port.TheVariants as port
use Rattle.bone_desk.specs.declared.desk.Act.TheVariants.{Write}
use Rattle.bone_desk.specs.Told.{Told, Rose, Gave}
use Rattle.bone_desk.specs.Gives.{GaveFront}
use Rattle.cnf_core.specs.Literals.{Literal, Literals}
use Rattle.cnf_core.specs.Formulas.{Cnf, shown_backbone}
use Rattle.cnf_gen.specs.Planted.{planted_of}
use Rattle.lrat_log.specs.Laws.{enough}
use Rattle.bone_words.specs.Settings.{Sampling}
use Rattle.backbone_main.specs.declared.ending.Ending.{Ending}
use Rattle.backbone_main.specs.declared.ending.Ending.TheVariants.{Sampled, Unfinished, Unknown, OutOfMemory, Failed}
use Rattle.backbone_main.specs.Causes.{Acts, IsOneOf, IsTaken, WritesNothing}
use Rattle.backbone_main.specs.Texts.{AreSpent}

-- the answer and the notes are written
abbrev pub sample_uses : Acts
sample_uses (Write port.Answer) = true
sample_uses (Write port.Notes) = true
sample_uses act = false

-- the formula that the three numbers make
abbrev pub formula_of : Sampling → Cnf
formula_of s = planted_of s.vars s.clauses s.seed

-- ---- the text

-- the first line has the three numbers
abbrev pub numbers_line : Sampling → List ℕ
numbers_line s =
    (codes "sample vars " ++ decimal s.vars)
    ++ (codes " clauses " ++ decimal s.clauses)
    ++ (codes " seed " ++ decimal s.seed)
    ++ codes "\n"

-- how many of the literals are negative, and the sum of their variables
abbrev pub negative_count : Literals → ℕ
negative_count lits = count_by (λ (l : Literal). not l.positive) lits

abbrev pub variable_sum : Literals → ℕ
variable_sum lits = sum_by (λ (l : Literal). l.var) lits

-- the line of a backbone of a formula over so many variables
abbrev pub backbone_line : ℕ → Literals → List ℕ
backbone_line vars lits =
    (codes "backbone " ++ decimal (length lits))
    ++ (codes " of " ++ decimal vars)
    ++ (codes ", " ++ decimal (negative_count lits))
    ++ (codes " negative, sum " ++ decimal (variable_sum lits))
    ++ codes "\n"

-- the lines behind the first one, by how the run ends
abbrev pub end_lines : Sampling → Ending → List ℕ
end_lines s Sampled = codes "s SATISFIABLE\n" ++ backbone_line s.vars (shown_backbone (formula_of s))
end_lines s Unfinished = codes "s PARTIAL\n"
end_lines s Unknown = codes "s UNKNOWN\n"
end_lines s ending = []

abbrev pub sample_text : Sampling → Ending → List ℕ
sample_text s ending = numbers_line s ++ end_lines s ending

-- ---- the account

-- a run with so many workers ends so: less than the whole backbone is told only where the workers' logs are full
abbrev pub EndsSampling : ℕ → Sampling → Ending → Type 0
EndsSampling workers s Sampled = Unit {0}
EndsSampling workers s Unfinished = AreSpent (formula_of s) workers s.budget
EndsSampling workers s Unknown = AreSpent (formula_of s) 1 s.budget
EndsSampling workers s ending = ⊥

-- the text of this ending was written
pub record WritesSample (workers : ℕ) (s : Sampling) (ending : Ending) (old new : Told) : Type 0 where
  pub ends : EndsSampling workers s ending
  pub gave : Gave port.Answer (sample_text s ending) old new

-- or a front of the text of some ending, since a write failed
pub record StopsSample (workers : ℕ) (s : Sampling) (old new : Told) : Type 0 where
  pub intended : Ending
  pub ends : EndsSampling workers s intended
  pub front : GaveFront port.Answer (sample_text s intended) old new
  pub rose : Rose (Write port.Answer) old new

-- what a run with so many workers did, by its ending
abbrev pub SampleAccounts : ℕ → Sampling → Ending → Told → Told → Type 0
SampleAccounts workers s Sampled old new = WritesSample workers s Sampled old new
SampleAccounts workers s Unfinished old new = WritesSample workers s Unfinished old new
SampleAccounts workers s Unknown old new = WritesSample workers s Unknown old new
SampleAccounts workers s OutOfMemory old new = WritesNothing old new
SampleAccounts workers s (Failed (Write port.Answer)) old new = StopsSample workers s old new
SampleAccounts workers s ending old new = ⊥

-- ---- which statuses there are, and which a cause leaves; want of memory is always left

pub record Samples (s : Sampling) (number : ℕ) (old new : Told) : Type 0 where
  pub all : IsOneOf number (0 ∷ 30 ∷ 31 ∷ 40 ∷ 61 ∷ [])
  pub answered : IsTaken sample_uses old new → IsOneOf number (0 ∷ 30 ∷ 31 ∷ 40 ∷ [])
  pub bound : IsTaken sample_uses old new → enough s.vars ≤ s.budget → IsOneOf number (0 ∷ 40 ∷ [])
