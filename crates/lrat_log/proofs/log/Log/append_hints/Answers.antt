use Rattle.std.proofs.Common.{◌≤◌, ◌++◌, List, ℕ, drop, sym, ap, ◌∙◌, subst}
use Rattle.std.proofs.lemmas.Result.{on_ok_weaker}
use Rattle.lrat_log.specs.Entries.{entry_at}
use Rattle.lrat_log.specs.Packed.{hint_numbers, entry_before, id_at}
use Rattle.lrat_log.specs.Steps.Unpacked.{values, hints_in, IsCountedList}
use Rattle.lrat_log.proofs.Reading.{word_at, hints_counted}
use Rattle.lrat_log.proofs.Unpacking.{hint_words, hints_are}
use Rattle.lrat_log.proofs.log.Log.append_hints.Goals as goal

pub append_hints-requires : goal.append_hints-requires
append_hints-requires c =
    let L = c.args.self.now in
    let id = id_at L c.args.i in
    let before = entry_before L c.args.i in
    let e = entry_at L c.args.i in
    let left = values (drop c.hints_at.result c.packed.result.now) in
    subst (λ (id : ℕ). IsCountedList (λ d. d ≤ id) left) (sym c.id_of.ensures)
    (hints_counted id e.hints left
    (word_at (hint_numbers id e.hints) 0 (hint_words id before e c.packed.ensures.packable))
    (ap (λ (bytes : List ℕ). values (drop c.hints_at.result bytes)) c.packed.ensures.bytes ∙ c.hints_at.ensures))

pub returns-clause-ok : goal.returns-clause-ok
returns-clause-ok c =
    let L = c.args.self.now in
    let id = id_at L c.args.i in
    let e = entry_at L c.args.i in
    let left = values (drop c.hints_at.result c.packed.result.now) in
    on_ok_weaker c.append_hints.result
    (λ more. more
    ∙ ap (λ (id : ℕ). c.args.hints.now.items ++ hints_in id left) c.id_of.ensures
    ∙ ap (λ (ns : List ℕ). c.args.hints.now.items ++ hints_in id ns)
    (ap (λ (bytes : List ℕ). values (drop c.hints_at.result bytes)) c.packed.ensures.bytes ∙ c.hints_at.ensures)
    ∙ ap (λ (hs : List ℕ). c.args.hints.now.items ++ hs) (hints_are id e.hints c.packed.ensures.packable.hints))
    c.append_hints.ensures.ok
