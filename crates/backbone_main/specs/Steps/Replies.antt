-- Replies to outcomes, and what is written of them.
use Rattle.std.specs.Prelude.{◌≡◌, ◌<◌, ◌⊎◌, ℕ, List, [], length, All, AllPairs, IfSome, IsSome, IsTrue, Option, Some, None}
use Rattle.bone_desk.specs.declared.desk.Port.TheVariants as port
use Rattle.bone_desk.specs.declared.desk.Act.TheVariants.{Write}
use Rattle.bone_desk.specs.Told.{Told}
use Rattle.cnf_core.specs.Formulas.{Cnf}
use Rattle.lrat_lines.specs.declared.line.Line.{Line}
use Rattle.lrat_lines.specs.Printed.{proof_text, IsPrintable, IsInMemory}
use Rattle.answer_text.specs.AnswerText.{text_of}
use Rattle.model_store.specs.Stores.{Store}
use Rattle.model_store.specs.Witnesses.{IsInRange}
use Rattle.model_store.specs.declared.witness.Witness.{Witness}
use Rattle.witness_text.specs.WitnessText.{store_text}
use Rattle.run_core.specs.Outcomes.{OutcomeSays}
use Rattle.run_core.specs.declared.outcome.Outcome.{Outcome}
use Rattle.backbone_main.specs.Causes.{Acts, WritesNothing}
use Rattle.backbone_main.specs.Endings.{IsItsOwn}
use Rattle.backbone_main.specs.Texts.{Texts}
use Rattle.backbone_main.specs.Extracting.{GaveAll, Stops, StopsWhere, WritesAll}
use Rattle.backbone_main.specs.declared.task.Files.{Files}
use Rattle.backbone_main.specs.declared.reply.Evidence.{Evidence}
use Rattle.backbone_main.specs.declared.reply.Drops.{Drops}
use Rattle.backbone_main.specs.declared.reply.Reply.{Reply}
use Rattle.backbone_main.specs.declared.ending.Ending.{Ending}
use Rattle.backbone_main.specs.declared.ending.Ending.TheVariants.{OutOfMemory}

-- what a run with some workers and some budget came to
pub record HasEnded (F : Cnf) (outcome : Outcome) : Type 0 where
  pub workers : ℕ
  pub budget : ℕ
  pub says : OutcomeSays F workers budget outcome

-- the texts of a reply
abbrev pub proof_text_of : Option (List Line) → List ℕ
proof_text_of None = []
proof_text_of (Some lines) = proof_text lines

abbrev pub drops_text_of : Option Drops → List ℕ
drops_text_of None = []
drops_text_of (Some d) = store_text d.models d.drops.items

abbrev pub texts_of : Reply → Texts
texts_of reply = record {
  answer = text_of reply.answer;
  proof = proof_text_of reply.evidence.proof;
  witness = drops_text_of reply.evidence.witness;
}

-- the drops are by models of the formula, and rise by variable
pub record HoldsDrops (F : Cnf) (d : Drops) : Type 0 where
  pub formula : d.models.formula ≡ F
  pub some : 0 < length d.models.models
  pub within : All (IsInRange d.models) d.drops.items
  pub rise : AllPairs (λ (w u : Witness). w.var < u.var) d.drops.items

-- the evidence may be written
pub record IsWritable (F : Cnf) (evidence : Evidence) : Type 0 where
  pub printable : IfSome evidence.proof (λ lines. All IsPrintable lines)
  pub drops : IfSome evidence.witness (HoldsDrops F)

-- answer and files are wanted
pub record AllowsFiles (may : Acts) (files : Files) : Type 0 where
  pub answer : IsTrue (may (Write port.Answer))
  pub proof : IsTrue files.proof → IsTrue (may (Write port.Proof))
  pub witness : IsTrue files.witness → IsTrue (may (Write port.Witness))

-- the answer and the evidence are wanted, and no act failed so far
pub record IsWantedReply (may : Acts) (reply : Reply) : Type 0 where
  pub answer : IsTrue (may (Write port.Answer))
  pub proof : IsSome reply.evidence.proof → IsTrue (may (Write port.Proof))
  pub drops : IsSome reply.evidence.witness → IsTrue (may (Write port.Witness))
  pub own : IsItsOwn may reply.ending

-- these are the models and the drops
pub record IsKeptDrops (s : Store) (ws : List Witness) (d : Drops) : Type 0 where
  pub store : d.models ≡ s
  pub list : d.drops.items ≡ ws

-- the numbers of the proof, where there is one, are such that its text reads back
abbrev pub HasText : Option (List Line) → Type 0
HasText proof = IfSome proof (λ lines. All IsInMemory lines)

-- the reply was written whole, and the ending is its own
pub record IsWritten (reply : Reply) (ending : Ending) (old new : Told) : Type 0 where
  pub own : ending ≡ reply.ending
  pub gave : GaveAll (texts_of reply) old new
  pub evidence : HasText reply.evidence.proof

-- or the writing stopped by another ending
abbrev pub EndsWriting : Reply → Ending → Told → Told → Type 0
EndsWriting reply ending old new = IsWritten reply ending old new ⊎ StopsWhere (texts_of reply) ending old new

-- what was done with the formula, by the ending
abbrev pub Finishes : ℕ → ℕ → Files → Cnf → Ending → Told → Told → Type 0
Finishes workers budget files F ending old new =
    ((ending ≡ OutOfMemory) × WritesNothing old new)
    ⊎ (WritesAll workers budget files ending F old new ⊎ Stops workers budget files ending F old new)
