-- The reader of lines was left with the models and drop lines that are answered.
use Rattle.witness_text.proofs.ReadTells.{read_as}
use Rattle.witness_text.proofs.read.read_witness.Goals as goal

pub returns-in-Ok : goal.returns-in-Ok
returns-in-Ok g c =
    let read = c.in-Ok.ensures in
    let parts = c.into_parts-models in
    record {
      text = read.text;
      came = read.came;
      answer = record {
        came = read.answer.came;
        reading = read_as c.args.vars read.text c.new-lines.result c.read_lines.new.reader parts.result.0 parts.result.1.items
            c.new-lines.ensures read.answer.reading parts.ensures.models parts.ensures.drops;
      };
    }
