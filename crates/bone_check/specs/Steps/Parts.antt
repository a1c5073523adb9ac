-- The verdict behind the answer, by the texts of the proof and the witness.
use Rattle.std.specs.Prelude.{◌≡◌, ℕ, Bool, if◌then◌else◌, List, [], Result}
use Rattle.bone_desk.specs.declared.desk.Feed.TheVariants as feed
use Rattle.cnf_core.specs.Literals.{Literals}
use Rattle.cnf_core.specs.Formulas.{Cnf}
use Rattle.witness_text.specs.Texts.{witness_reading}
use Rattle.bone_check.specs.declared.verdict.Verdict.{Verdict}
use Rattle.bone_check.specs.Verdicts.{proof_reading, unsat_verdict, sat_verdict}
use Rattle.bone_desk.specs.Told.{Told}
use Rattle.bone_check.specs.declared.verdict.CheckEnd.{CheckEnd}
use Rattle.bone_check.specs.Checks.{Texts, AllCame, Says}

-- the verdict on the answer that there is no model
abbrev pub unsat_on : Cnf → Bool → Texts → Verdict
unsat_on F witness texts =
    unsat_verdict F (proof_reading F (texts feed.Proof)) (witness_reading F.vars (if witness then texts feed.Witness else []))

-- and on one that prints these literals
abbrev pub sat_on : Cnf → Bool → Literals → Texts → Verdict
sat_on F witness fixed texts =
    sat_verdict F fixed (proof_reading F (texts feed.Proof)) (witness_reading F.vars (if witness then texts feed.Witness else []))

-- the texts of the three feeds
abbrev pub texts_of : (answer proof witness : List ℕ) → Texts
texts_of answer proof witness feed.Text = []
texts_of answer proof witness feed.Answer = answer
texts_of answer proof witness feed.Proof = proof
texts_of answer proof witness feed.Witness = witness

-- the same as of all feeds, behind the answer, of which no more is read
pub record ChecksRest (witness : Bool) (old new : Told) (means : Texts → Verdict) (result : Result Verdict CheckEnd) : Type 0 where
  pub proof : List ℕ
  pub evidence : List ℕ
  pub all : AllCame witness old new (texts_of [] proof evidence)
  pub says : Says witness old new (texts_of [] proof evidence) means result
  pub answer_left : new.left feed.Answer ≡ old.left feed.Answer
