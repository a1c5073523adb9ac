use Rattle.std.proofs.Common.{◌-◌, ℕ, List, drop, map, ap, ◌∙◌, arith}
use Rattle.std.proofs.lemmas.List.Elements.{All-drop}
use Rattle.lrat_log.specs.Entries.{entry_at}
use Rattle.lrat_log.specs.Packed.{hint_numbers, entry_before, id_at}
use Rattle.lrat_log.specs.Steps.Unpacked.{values, IsWord}
use Rattle.lrat_log.proofs.Reading.{word_of, below_is}
use Rattle.lrat_log.proofs.Unpacking.{hint_words}
use Rattle.lrat_log.proofs.log.Log.hint.Goals as goal

pub skip-first-requires : goal.skip-first-requires
skip-first-requires c k below =
    let L = c.args.self.now in
    let id = id_at L c.args.i in
    let before = entry_before L c.args.i in
    let e = entry_at L c.args.i in
    let left = values (drop c.hints_at.result c.packed-bytes.result.now) in
    word_of left (hint_numbers id e.hints) k
    (ap (λ (bytes : List ℕ). values (drop c.hints_at.result bytes)) c.packed-bytes.ensures.bytes ∙ c.hints_at.ensures)
    (hint_words id before e c.packed-bytes.ensures.packable)

pub skip-place-requires : goal.skip-place-requires
skip-place-requires c k below =
    let L = c.args.self.now in
    let id = id_at L c.args.i in
    let before = entry_before L c.args.i in
    let e = entry_at L c.args.i in
    let first = values (drop c.skip-first.result c.packed-bytes.result.now) in
    word_of first (map (λ (h : ℕ). id - h) e.hints) k
    (c.skip-first.ensures ∙ ap (drop 1) (ap (λ (bytes : List ℕ). values (drop c.hints_at.result bytes)) c.packed-bytes.ensures.bytes
    ∙ c.hints_at.ensures))
    (All-drop IsWord 1 (hint_numbers id e.hints) (hint_words id before e c.packed-bytes.ensures.packable))

pub number_at-requires : goal.number_at-requires
number_at-requires c =
    let L = c.args.self.now in
    let id = id_at L c.args.i in
    let e = entry_at L c.args.i in
    let first = values (drop c.skip-first.result c.packed-bytes.result.now) in
    let place = values (drop c.skip-place.result c.packed-bytes.result.now) in
    let hint = below_is id e.hints first
    place c.args.k c.requires.within
    (c.skip-first.ensures ∙ ap (drop 1) (ap (λ (bytes : List ℕ). values (drop c.hints_at.result bytes)) c.packed-bytes.ensures.bytes
    ∙ c.hints_at.ensures))
    c.skip-place.ensures in
    omega (arith, c.id_of.ensures, c.id_of.type_inv)

pub overflow_sub-result : goal.overflow_sub-result
overflow_sub-result c =
    let L = c.args.self.now in
    let id = id_at L c.args.i in
    let e = entry_at L c.args.i in
    let first = values (drop c.skip-first.result c.packed-bytes.result.now) in
    let place = values (drop c.skip-place.result c.packed-bytes.result.now) in
    let hint = below_is id e.hints first
    place c.args.k c.requires.within
    (c.skip-first.ensures ∙ ap (drop 1) (ap (λ (bytes : List ℕ). values (drop c.hints_at.result bytes)) c.packed-bytes.ensures.bytes
    ∙ c.hints_at.ensures))
    c.skip-place.ensures in
    omega (arith, c.id_of.ensures, c.number_at.ensures.value)

pub returns : goal.returns
returns c =
    let L = c.args.self.now in
    let id = id_at L c.args.i in
    let e = entry_at L c.args.i in
    let first = values (drop c.skip-first.result c.packed-bytes.result.now) in
    let place = values (drop c.skip-place.result c.packed-bytes.result.now) in
    let hint = below_is id e.hints first
    place c.args.k c.requires.within
    (c.skip-first.ensures ∙ ap (drop 1) (ap (λ (bytes : List ℕ). values (drop c.hints_at.result bytes)) c.packed-bytes.ensures.bytes
    ∙ c.hints_at.ensures))
    c.skip-place.ensures in
    let low = c.packed-bytes.ensures.packable.hints c.args.k 0 c.requires.within in
    omega (arith, c.id_of.ensures, c.number_at.ensures.value)
