-- The verdict on the texts of an answer, a proof and a witness.
use Rattle.std.specs.Prelude.{ℕ, ◌==◌, ◌&&◌, if◌then◌else◌, List, [], length, Option, Some, None, Result, Ok, Err}
use Rattle.cnf_core.specs.Literals.{Literals}
use Rattle.cnf_core.specs.Formulas.{Cnf}
use Rattle.lrat_lines.specs.declared.line.Line.{Line}
use Rattle.text_lines.specs.Lines as text
use Rattle.text_lines.specs.Readings.{FaultAt, steps}
use Rattle.witness_text.specs.Reading.{Witnessed}
use Rattle.bone_check.specs.declared.verdict.Reason.{Reason}
use Rattle.witness_text.specs.Texts.{witness_reading}
use Rattle.answer_text.specs.declared.stage.Stage.{Stage}
use Rattle.answer_text.specs.declared.stage.Stage.TheVariants as stage
use Rattle.answer_text.specs.declared.stage.LineFault.{LineFault}
use Rattle.answer_text.specs.declared.stage.LineFault.TheVariants as answer
use Rattle.answer_text.specs.Reading.{Read, reading_of}
use Rattle.bone_check.specs.declared.verdict.Reason.TheVariants.{BadLine, NotSorted, Unfinished, WitnessLine}
use Rattle.bone_check.specs.declared.verdict.Verdict.{Verdict}
use Rattle.bone_check.specs.declared.verdict.Verdict.TheVariants.{NotVerified}
use Rattle.bone_check.specs.Tests.{at_place, ◌then◌, each_from}
use Rattle.bone_check.specs.Proving.{after_text, unit_fault, empty_fault}
use Rattle.bone_check.specs.Witnessing.{witness_verdict}

-- the lines so far and what one more line of the proof's text says; it needs no line feed
abbrev pub text_step : Cnf → List Line → text.Line → Result (List Line) Reason
text_step F lines l = after_text F lines l.bytes

-- the lines of a proof's text, or the first that doesn't read or is refused
unfoldable pub proof_reading : Cnf → List ℕ → Result (List Line) (FaultAt Reason)
proof_reading F proof = steps (text_step F) 1 [] (text.lines_of proof)

-- where there is said to be no model, the witness has no lines
abbrev pub lines_fault : Witnessed → Option Reason
lines_fault w = if (length w.models == 0) && (length w.drops == 0) then None else Some WitnessLine

abbrev pub no_lines : Result Witnessed (FaultAt (Unit {0})) → Verdict
no_lines (Err fault) = NotVerified WitnessLine fault.line
no_lines (Ok w) = at_place 1 (lines_fault w)

-- the verdict on the answer that there is no model, by the proof and the witness
abbrev pub unsat_verdict : Cnf → Result (List Line) (FaultAt Reason) → Result Witnessed (FaultAt (Unit {0})) → Verdict
unsat_verdict F (Err fault) witness = NotVerified fault.fault fault.line
unsat_verdict F (Ok lines) witness = at_place 1 (empty_fault F lines) then no_lines witness

abbrev pub evidence_verdict : Cnf → Literals → Result Witnessed (FaultAt (Unit {0})) → Verdict
evidence_verdict F fixed (Err fault) = NotVerified WitnessLine fault.line
evidence_verdict F fixed (Ok w) = witness_verdict F fixed w

-- the verdict on the answer that these literals are the backbone
abbrev pub sat_verdict : Cnf → Literals → Result (List Line) (FaultAt Reason) → Result Witnessed (FaultAt (Unit {0})) → Verdict
sat_verdict F fixed (Err fault) witness = NotVerified fault.fault fault.line
sat_verdict F fixed (Ok lines) witness = each_from (unit_fault F lines) 2 fixed then evidence_verdict F fixed witness

-- the verdict on a text that reads as an answer. It says that there is no model, or prints these literals; a part of
-- a backbone is not enough. A text doesn't end at any other stage
abbrev pub answer_verdict : Cnf → Stage → Literals → Result (List Line) (FaultAt Reason) → Result Witnessed (FaultAt (Unit {0})) → Verdict
answer_verdict F stage.Unsat fixed proof witness = unsat_verdict F proof witness
answer_verdict F stage.Sat fixed proof witness = sat_verdict F fixed proof witness
answer_verdict F stage.Partial fixed proof witness = NotVerified Unfinished 1
answer_verdict F stage.Unknown fixed proof witness = NotVerified Unfinished 1
answer_verdict F stage.First fixed proof witness = NotVerified BadLine 1
answer_verdict F stage.Backbone fixed proof witness = NotVerified BadLine 1
answer_verdict F stage.Fixed fixed proof witness = NotVerified BadLine 1
answer_verdict F stage.Still fixed proof witness = NotVerified BadLine 1

abbrev pub answer_reason : LineFault → Reason
answer_reason answer.Bad = BadLine
answer_reason answer.NotSorted = NotSorted

abbrev pub read_verdict : Cnf → Result Read (FaultAt LineFault) → Result (List Line) (FaultAt Reason) → Result Witnessed (FaultAt (Unit {0}))
    → Verdict
read_verdict F (Err fault) proof witness = NotVerified (answer_reason fault.fault) fault.line
read_verdict F (Ok r) proof witness = answer_verdict F r.stage r.fixed proof witness

-- the verdict on an answer, a proof and a witness, from the formula alone: the first test that fails, or that none does
unfoldable pub verdict_of : Cnf → List ℕ → List ℕ → List ℕ → Verdict
verdict_of F answer proof witness =
    read_verdict F (reading_of F.vars answer) (proof_reading F proof) (witness_reading F.vars witness)
