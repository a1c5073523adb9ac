use Rattle.std.proofs.Common.{List, ℕ, drop, ap, ◌∙◌}
use Rattle.lrat_log.specs.Entries.{entry_at}
use Rattle.lrat_log.specs.Packed.{hint_numbers, entry_before, id_at}
use Rattle.lrat_log.specs.Steps.Unpacked.{values, first}
use Rattle.lrat_log.proofs.Reading.{word_of}
use Rattle.lrat_log.proofs.Unpacking.{hint_words}
use Rattle.lrat_log.proofs.log.Log.hint_count.Goals as goal

pub number_at-requires : goal.number_at-requires
number_at-requires c =
    let L = c.args.self.now in
    let id = id_at L c.args.i in
    let before = entry_before L c.args.i in
    let e = entry_at L c.args.i in
    let left = values (drop c.hints_at.result c.packed.result.now) in
    word_of left (hint_numbers id e.hints) 0
    (ap (λ (bytes : List ℕ). values (drop c.hints_at.result bytes)) c.packed.ensures.bytes ∙ c.hints_at.ensures)
    (hint_words id before e c.packed.ensures.packable)

pub returns : goal.returns
returns c =
    c.number_at.ensures.value
    ∙ ap (λ (ns : List ℕ). first ns)
    (ap (λ (bytes : List ℕ). values (drop c.hints_at.result bytes)) c.packed.ensures.bytes ∙ c.hints_at.ensures)
