use Rattle.std.proofs.Common.{List, ℕ, ap, ◌∙◌}
use Rattle.lrat_log.specs.Entries.{entry_at}
use Rattle.lrat_log.specs.Packed.{entry_before, id_at, entry_numbers}
use Rattle.lrat_log.specs.Steps.Unpacked.{values, first, kind_of_number}
use Rattle.lrat_log.proofs.Reading.{word_of}
use Rattle.lrat_log.proofs.Unpacking.{kind_back}
use Rattle.lrat_log.proofs.log.Log.kind.Goals as goal

pub number_at-requires : goal.number_at-requires
number_at-requires c =
    let L = c.args.self.now in
    let id = id_at L c.args.i in
    let before = entry_before L c.args.i in
    let e = entry_at L c.args.i in
    let ns = entry_numbers id before e in
    let vs = values c.packed.result.now in
    word_of vs ns 0 c.packed.ensures.numbers c.packed.ensures.packable.words

pub returns : goal.returns
returns c =
    let L = c.args.self.now in
    let id = id_at L c.args.i in
    let e = entry_at L c.args.i in
    c.kind_of.ensures
    ∙ ap kind_of_number (c.number_at.ensures.value ∙ ap (λ (ns : List ℕ). first ns) c.packed.ensures.numbers)
    ∙ kind_back e.kind
