use Rattle.std.proofs.Common.{◌∙◌, sym, subst, Result, Ok, Err}
use Rattle.lrat_lines.specs.declared.line.Line.{Line}
use Rattle.lrat_lines.specs.declared.line.LineEnd.{LineEnd}
use Rattle.lrat_lines.specs.Grammar.{line_of, Gives}
use Rattle.bone_check.specs.declared.line.Untaken.{Untaken}
use Rattle.bone_check.specs.Steps.Taking.{TextSays}
use Rattle.bone_check.proofs.Taken.{text_skipped, text_ended, text_taken}
use Rattle.bone_check.proofs.line.take_line.Goals as goal

pub returns-then-is_skipped : goal.returns-then-is_skipped
returns-then-is_skipped c = record {
  says = λ F lines stands.
      text_skipped F lines c.args.bytes.now c.args.checker.now (sym c.is_skipped.ensures ∙ c.if-is_skipped.true) stands;
}

pub returns-in-Ok : goal.returns-in-Ok
returns-in-Ok c =
    let text = c.args.bytes.now in
    let given : Gives (Ok c.in-Ok.line) (line_of text) =
    subst (λ (r : Result Line LineEnd). Gives r (line_of text)) c.in-Ok.is c.read_line.ensures in
    record {
      says = λ F lines stands.
          text_taken F lines text c.in-Ok.line c.take_read.new.checker c.take_read.result
          (sym c.is_skipped.ensures ∙ c.if-is_skipped.false) given (c.take_read.ensures F lines stands);
    }

pub returns-in-Err : goal.returns-in-Err
returns-in-Err c =
    let text = c.args.bytes.now in
    let given : Gives {A = Line} (Err c.in-Err.end) (line_of text) =
    subst (λ (r : Result Line LineEnd). Gives r (line_of text)) c.in-Err.is c.read_line.ensures in
    record {
      says = λ F lines stands.
          subst (λ (u : Untaken). TextSays F lines text c.args.checker.now (Err u)) (sym c.untaken_end.ensures)
          (text_ended F lines text c.args.checker.now c.in-Err.end (sym c.is_skipped.ensures ∙ c.if-is_skipped.false) given);
    }
