-- All lines were taken, and the text may end there.
use Rattle.std.proofs.Common.{sym, ◌∙◌, ap}
use Rattle.text_lines.specs.Readings.{reading}
use Rattle.answer_text.specs.Reading.{Read, line_read, end_read}
use Rattle.answer_text.proofs.read.read_answer.Goals as goal

pub returns : goal.returns
returns g c =
    let r = c.in_ok-read_lines.ensures in
    record {
      text = r.text;
      came = r.came;
      ends = record {
        came = r.answer.came;
        read = c.read_lines.new.reader;
        reading = ap (λ (s : Read). reading line_read end_read s r.text) (sym c.in_ok-reader.ensures) ∙ r.answer.reading;
        says = c.into_answer.ensures;
      };
    }
