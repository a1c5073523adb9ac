use Rattle.std.proofs.Common.{List, ℕ, drop, ◌++◌, map, ap, ◌∙◌}
use Rattle.std.proofs.lemmas.Result.{on_ok_weaker}
use Rattle.cnf_core.specs.Literals.{Literals, literal_of_code}
use Rattle.lrat_log.specs.Entries.{entry_at}
use Rattle.lrat_log.specs.Packed.{entry_before, id_at, entry_numbers}
use Rattle.lrat_log.specs.Steps.Unpacked.{values, counted_list, literals_in}
use Rattle.lrat_log.proofs.Reading.{word_of, lists_left, literals_counted}
use Rattle.lrat_log.proofs.Unpacking.{literals_are}
use Rattle.lrat_log.proofs.log.Log.append_lits.Goals as goal

pub skip-requires : goal.skip-requires
skip-requires c k below =
    let L = c.args.self.now in
    let id = id_at L c.args.i in
    let before = entry_before L c.args.i in
    let e = entry_at L c.args.i in
    let ns = entry_numbers id before e in
    let vs = values c.packed-bytes.result.now in
    word_of vs ns k c.packed-bytes.ensures.numbers c.packed-bytes.ensures.packable.words

pub append_lits-requires : goal.append_lits-requires
append_lits-requires c =
    let L = c.args.self.now in
    let id = id_at L c.args.i in
    let before = entry_before L c.args.i in
    let e = entry_at L c.args.i in
    let left = values (drop c.skip.result c.packed-bytes.result.now) in
    let vs = values c.packed-bytes.result.now in
    literals_counted id before e left c.packed-bytes.ensures.packable
    (lists_left id before e vs left
    c.packed-bytes.ensures.numbers c.skip.ensures)

pub returns-clause-ok : goal.returns-clause-ok
returns-clause-ok c =
    let L = c.args.self.now in
    let id = id_at L c.args.i in
    let before = entry_before L c.args.i in
    let e = entry_at L c.args.i in
    on_ok_weaker c.append_lits.result
    (λ more. more ∙ ap (λ (ns : List ℕ). c.args.lits.now.items ++ map literal_of_code (counted_list ns)) c.skip.ensures
    ∙ ap (λ (ns : List ℕ). c.args.lits.now.items ++ literals_in ns) c.packed-bytes.ensures.numbers
    ∙ ap (λ (lits : Literals). c.args.lits.now.items ++ lits) (literals_are id before e))
    c.append_lits.ensures.ok
