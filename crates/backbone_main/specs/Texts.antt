-- What `extract` is to write for a formula, by how it ends.
use Rattle.std.specs.Prelude.{◌≡◌, ◌≢◌, ◌<◌, ◌≤◌, ◌⊎◌, ℕ, Bool, true, false, IsTrue, List, [], ◌∷◌, ◌++◌, length, map, All, AllPairs, Contains}
use Rattle.bone_desk.specs.declared.desk.Port.{Port}
use Rattle.bone_desk.specs.declared.desk.Port.TheVariants as port
use Rattle.cnf_core.specs.Literals.{Literal, Literals}
use Rattle.cnf_core.specs.Formulas.{Cnf, IsModel, models, is_shown, shown_backbone}
use Rattle.answer_text.specs.AnswerText.{answer_text, partial_text, unknown_text, IsPartialInOrder}
use Rattle.lrat_lines.specs.declared.line.Line.{Line}
use Rattle.lrat_lines.specs.Proofs.{Proves, IsReached}
use Rattle.lrat_lines.specs.Tidy.{IsTidy}
use Rattle.lrat_lines.specs.Printed.{proof_text}
use Rattle.lrat_log.specs.Entries.{Recorded}
use Rattle.model_store.specs.Stores.{Store}
use Rattle.model_store.specs.declared.witness.Witness.{Witness}
use Rattle.witness_text.specs.WitnessText.{store_text}
use Rattle.run_core.specs.Outcomes.{IsSpent, IsDropped}
use Rattle.backbone_main.specs.declared.task.Files.{Files}
use Rattle.backbone_main.specs.declared.ending.Ending.{Ending}
use Rattle.backbone_main.specs.declared.ending.Ending.TheVariants.{Complete, Unsatisfiable, Unfinished, Unknown, OutOfMemory}

-- no files are wanted beside the answer
abbrev pub no_files : Files
no_files = record { proof = false; witness = false }

-- what the three ports are to get
pub record Texts : Type 0 where
  pub answer : List ℕ
  pub proof : List ℕ
  pub witness : List ℕ

abbrev pub text_for : Texts → Port → List ℕ
text_for texts port.Answer = texts.answer
text_for texts port.Proof = texts.proof
text_for texts port.Witness = texts.witness
text_for texts port.Notes = []

abbrev pub HasModel : Cnf → Type 0
HasModel F = models F ≢ []

abbrev pub HasNoModel : Cnf → Type 0
HasNoModel F = models F ≡ []

-- ---- the evidence

-- the text of a proof that is accepted from the formula alone: additions, whose ids follow on those of its clauses
pub record IsProofText (F : Cnf) (lines : List Line) (text : List ℕ) : Type 0 where
  pub text_is : text ≡ proof_text lines
  pub tidy : IsTidy F lines
  pub accepted : Proves F lines

-- a proof that has each of the literals as a clause
pub record IsProofOf (F : Cnf) (fixed : Literals) (text : List ℕ) : Type 0 where
  pub lines : List Line
  pub proof : IsProofText F lines text
  pub units : (l : Literal) → Contains fixed l → IsReached F lines (l ∷ [])

-- a proof that has the empty clause
pub record IsRefutation (F : Cnf) (text : List ℕ) : Type 0 where
  pub lines : List Line
  pub proof : IsProofText F lines text
  pub empty : IsReached F lines []

-- the variable has a drop; it is that of one of the literals
abbrev pub HasDropOf : List Witness → ℕ → Type 0
HasDropOf drops x = Contains (map (λ (w : Witness). w.var) drops) x

abbrev pub HasLiteralOf : Literals → ℕ → Type 0
HasLiteralOf lits x = Contains (map (λ (l : Literal). l.var) lits) x

-- models of the formula, and a drop for each shown variable that isn't one of the literals', and for no other: it names a
-- model, or one with that variable flipped, in which the variable hasn't the value that it has in the first model
pub record IsWitnessOf (F : Cnf) (named : Literals) (text : List ℕ) : Type 0 where
  pub store : Store
  pub drops : List Witness
  pub text_is : text ≡ store_text store drops
  pub formula : store.formula ≡ F
  pub some : 0 < length store.models
  pub are_models : All (IsModel F) store.models
  pub rise : AllPairs (λ (w u : Witness). w.var < u.var) drops
  pub dropped : All (IsDropped F store) drops
  pub apart : (x : ℕ) → HasDropOf drops x → HasLiteralOf named x → ⊥
  pub covers : (x : ℕ) → IsTrue (is_shown F x) → HasDropOf drops x ⊎ HasLiteralOf named x

-- the text is so where its file is wanted, and else there is none
abbrev pub WhereWanted : Bool → (List ℕ → Type 0) → List ℕ → Type 0
WhereWanted true P text = P text
WhereWanted false P text = text ≡ []

-- the evidence for an answer with these literals: proofs of the fixed ones, and a witness against the variables that have
-- neither a fixed literal nor one that is still open
pub record IsEvidence (files : Files) (F : Cnf) (fixed still : Literals) (texts : Texts) : Type 0 where
  pub proof : WhereWanted files.proof (IsProofOf F fixed) texts.proof
  pub witness : WhereWanted files.witness (IsWitnessOf F (fixed ++ still)) texts.witness

-- ---- the endings

-- what is known of a formula's backbone: each fixed literal is a shown member of it, and each shown member is fixed or
-- still open
pub record IsKnownPart (F : Cnf) (fixed still : Literals) : Type 0 where
  pub in_order : IsPartialInOrder fixed still
  pub some : 0 < length still
  pub members : All (λ l. Contains (shown_backbone F) l) fixed
  pub shown : All (λ l. IsTrue (is_shown F l.var)) still
  pub others : (l : Literal) → Contains (shown_backbone F) l → Contains fixed l ⊎ Contains still l

-- there are logs of so many searches of the formula, at least one, each full for its budget
pub record AreSpent (F : Cnf) (count budget : ℕ) : Type 0 where
  pub some : 1 ≤ count
  pub logs : List Recorded
  pub each : length logs ≡ count
  pub spent : All (IsSpent F budget) logs

-- the whole backbone
pub record TellsBackbone (files : Files) (F : Cnf) (texts : Texts) : Type 0 where
  pub has_model : HasModel F
  pub answer : texts.answer ≡ answer_text F
  pub evidence : IsEvidence files F (shown_backbone F) [] texts

-- that there is no model: a witness has no line
pub record TellsNoModel (files : Files) (F : Cnf) (texts : Texts) : Type 0 where
  pub no_model : HasNoModel F
  pub answer : texts.answer ≡ answer_text F
  pub proof : WhereWanted files.proof (IsRefutation F) texts.proof
  pub witness : texts.witness ≡ []

-- a part of the backbone
pub record TellsPart (files : Files) (F : Cnf) (texts : Texts) : Type 0 where
  pub has_model : HasModel F
  pub fixed : Literals
  pub still : Literals
  pub known : IsKnownPart F fixed still
  pub answer : texts.answer ≡ partial_text fixed still
  pub evidence : IsEvidence files F fixed still texts

-- that nothing is known
pub record TellsNothing (texts : Texts) : Type 0 where
  pub answer : texts.answer ≡ unknown_text
  pub proof : texts.proof ≡ []
  pub witness : texts.witness ≡ []

-- what the ports are to get from a run over the formula with so many workers, of which each may learn so many clauses,
-- by the ending; without memory a part is told with no evidence
abbrev pub TextsSay : ℕ → ℕ → Files → Ending → Cnf → Texts → Type 0
TextsSay workers budget files Complete F texts = TellsBackbone files F texts
TextsSay workers budget files Unsatisfiable F texts = TellsNoModel files F texts
TextsSay workers budget files Unfinished F texts = TellsPart files F texts × AreSpent F workers budget
TextsSay workers budget files Unknown F texts = TellsNothing texts × AreSpent F 1 budget
TextsSay workers budget files OutOfMemory F texts = TellsPart no_files F texts
TextsSay workers budget files ending F texts = ⊥
