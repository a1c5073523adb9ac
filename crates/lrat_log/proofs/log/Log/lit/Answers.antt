use Rattle.std.proofs.Common.{◌++◌, drop, map, ap, ◌∙◌, arith}
use Rattle.std.proofs.lemmas.List.Elements.{All-drop}
use Rattle.cnf_core.specs.Literals.{code_of, literal_of_code}
use Rattle.lrat_log.specs.Entries.{entry_at, no_literal, literal_of}
use Rattle.lrat_log.specs.Packed.{hint_numbers, entry_before, id_at, entry_numbers}
use Rattle.lrat_log.specs.Steps.Unpacked.{values, IsWord}
use Rattle.lrat_log.proofs.Reading.{word_of, literals_left, code_is}
use Rattle.lrat_log.proofs.Unpacking.{literal_back}
use Rattle.lrat_log.proofs.log.Log.lit.Goals as goal

pub skip-first-requires : goal.skip-first-requires
skip-first-requires c k below =
    let L = c.args.self.now in
    let id = id_at L c.args.i in
    let before = entry_before L c.args.i in
    let e = entry_at L c.args.i in
    let ns = entry_numbers id before e in
    let vs = values c.packed-bytes.result.now in
    word_of vs ns k c.packed-bytes.ensures.numbers c.packed-bytes.ensures.packable.words

pub skip-place-requires : goal.skip-place-requires
skip-place-requires c k below =
    let L = c.args.self.now in
    let id = id_at L c.args.i in
    let before = entry_before L c.args.i in
    let e = entry_at L c.args.i in
    let ns = entry_numbers id before e in
    let first = values (drop c.skip-first.result c.packed-bytes.result.now) in
    let vs = values c.packed-bytes.result.now in
    word_of first
    (map code_of e.literals ++ hint_numbers id e.hints) k
    (literals_left id before e vs first
    c.packed-bytes.ensures.numbers c.skip-first.ensures)
    (All-drop IsWord 4 ns c.packed-bytes.ensures.packable.words)

pub number_at-requires : goal.number_at-requires
number_at-requires c =
    let L = c.args.self.now in
    let id = id_at L c.args.i in
    let before = entry_before L c.args.i in
    let e = entry_at L c.args.i in
    let first = values (drop c.skip-first.result c.packed-bytes.result.now) in
    let place = values (drop c.skip-place.result c.packed-bytes.result.now) in
    let vs = values c.packed-bytes.result.now in
    let code = code_is id e first
    place c.args.k c.requires.within
    (literals_left id before e vs first
    c.packed-bytes.ensures.numbers c.skip-first.ensures)
    c.skip-place.ensures in
    let range = c.packed-bytes.ensures.packable.codes c.args.k no_literal c.requires.within in
    omega (arith, range.high)

pub overflow_cast-number_at : goal.overflow_cast-number_at
overflow_cast-number_at c =
    let L = c.args.self.now in
    let id = id_at L c.args.i in
    let before = entry_before L c.args.i in
    let e = entry_at L c.args.i in
    let first = values (drop c.skip-first.result c.packed-bytes.result.now) in
    let place = values (drop c.skip-place.result c.packed-bytes.result.now) in
    let vs = values c.packed-bytes.result.now in
    let code = code_is id e first
    place c.args.k c.requires.within
    (literals_left id before e vs first
    c.packed-bytes.ensures.numbers c.skip-first.ensures)
    c.skip-place.ensures in
    let range = c.packed-bytes.ensures.packable.codes c.args.k no_literal c.requires.within in
    omega (arith, range.high, c.number_at.ensures.value)

pub from_code-requires : goal.from_code-requires
from_code-requires c =
    let L = c.args.self.now in
    let id = id_at L c.args.i in
    let before = entry_before L c.args.i in
    let e = entry_at L c.args.i in
    let first = values (drop c.skip-first.result c.packed-bytes.result.now) in
    let place = values (drop c.skip-place.result c.packed-bytes.result.now) in
    let vs = values c.packed-bytes.result.now in
    let code = code_is id e first
    place c.args.k c.requires.within
    (literals_left id before e vs first
    c.packed-bytes.ensures.numbers c.skip-first.ensures)
    c.skip-place.ensures in
    let range = c.packed-bytes.ensures.packable.codes c.args.k no_literal c.requires.within in
    (omega (arith, range.low, c.number_at.ensures.value), omega (arith, range.high, c.number_at.ensures.value))

pub returns : goal.returns
returns c =
    let L = c.args.self.now in
    let id = id_at L c.args.i in
    let before = entry_before L c.args.i in
    let e = entry_at L c.args.i in
    let first = values (drop c.skip-first.result c.packed-bytes.result.now) in
    let place = values (drop c.skip-place.result c.packed-bytes.result.now) in
    let vs = values c.packed-bytes.result.now in
    let code = code_is id e first
    place c.args.k c.requires.within
    (literals_left id before e vs first
    c.packed-bytes.ensures.numbers c.skip-first.ensures)
    c.skip-place.ensures in
    c.from_code.ensures.value
    ∙ ap literal_of_code (c.number_at.ensures.value ∙ code)
    ∙ literal_back (literal_of c.args.self.now c.args.i c.args.k)
