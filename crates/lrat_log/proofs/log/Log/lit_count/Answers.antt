use Rattle.std.proofs.Common.{List, ℕ, drop, ap, ◌∙◌}
use Rattle.lrat_log.specs.Entries.{entry_at}
use Rattle.lrat_log.specs.Packed.{entry_before, id_at, entry_numbers}
use Rattle.lrat_log.specs.Steps.Unpacked.{values, first}
use Rattle.lrat_log.proofs.Reading.{word_of, lists_left, literals_counted}
use Rattle.lrat_log.proofs.log.Log.lit_count.Goals as goal

pub skip-requires : goal.skip-requires
skip-requires c k below =
    let L = c.args.self.now in
    let id = id_at L c.args.i in
    let before = entry_before L c.args.i in
    let e = entry_at L c.args.i in
    let ns = entry_numbers id before e in
    let vs = values c.packed-bytes.result.now in
    word_of vs ns k c.packed-bytes.ensures.numbers c.packed-bytes.ensures.packable.words

pub number_at-requires : goal.number_at-requires
number_at-requires c =
    let L = c.args.self.now in
    let id = id_at L c.args.i in
    let before = entry_before L c.args.i in
    let e = entry_at L c.args.i in
    let ws = values (drop c.skip.result c.packed-bytes.result.now) in
    let vs = values c.packed-bytes.result.now in
    let left = lists_left id before e vs
    ws c.packed-bytes.ensures.numbers c.skip.ensures in
    (literals_counted id before e ws c.packed-bytes.ensures.packable left).count

pub returns : goal.returns
returns c =
    let L = c.args.self.now in
    let id = id_at L c.args.i in
    let before = entry_before L c.args.i in
    let e = entry_at L c.args.i in
    let left = values (drop c.skip.result c.packed-bytes.result.now) in
    let vs = values c.packed-bytes.result.now in
    c.number_at.ensures.value
    ∙ ap (λ (ns : List ℕ). first ns)
    (lists_left id before e vs left
    c.packed-bytes.ensures.numbers c.skip.ensures)
