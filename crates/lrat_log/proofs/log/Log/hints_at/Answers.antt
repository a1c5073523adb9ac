use Rattle.std.proofs.Common.{ap, ◌∙◌, drop, ℕ}
use Rattle.lrat_log.specs.Entries.{entry_at}
use Rattle.lrat_log.specs.Packed.{entry_before, id_at, entry_bytes}
use Rattle.lrat_log.specs.Steps.Paged.{Stored}
use Rattle.lrat_log.specs.Steps.Unpacked.{values, unpacked_log}
use Rattle.lrat_log.proofs.StoredEntries.{keeps_of, place_stored, entry_stored, packable_stored}
use Rattle.lrat_log.proofs.Unpacking.{hint_numbers_are}
use Rattle.lrat_log.proofs.log.Log.hints_at.Goals as goal

pub hints_at-requires : goal.hints_at-requires
hints_at-requires c =
    let keeps = keeps_of c.args.self.now
    (unpacked_log c.self.inside.formula.now c.self.inside.store c.self.inside.query c.self.inside.clock)
    c.self.inside.store c.self.inside.query_used c.self.inside.learnt c.self.inside.last_query c.self.view_is c.self.invariant in
    place_stored c.args.self.now c.self.inside.store c.args.i keeps c.requires

pub returns : goal.returns
returns c =
    let keeps = keeps_of c.args.self.now
    (unpacked_log c.self.inside.formula.now c.self.inside.store c.self.inside.query c.self.inside.clock)
    c.self.inside.store c.self.inside.query_used c.self.inside.learnt c.self.inside.last_query c.self.view_is c.self.invariant in
    let L = c.args.self.now in
    ap (λ (n : ℕ). values (drop n (entry_bytes L c.args.i)))
    (c.hints_at.ensures ∙ ap (λ (s : Stored). s.hints) (entry_stored L c.self.inside.store c.args.i keeps c.requires))
    ∙ hint_numbers_are (id_at L c.args.i) (entry_before L c.args.i) (entry_at L c.args.i)
    (packable_stored L c.self.inside.store c.args.i keeps c.requires)
