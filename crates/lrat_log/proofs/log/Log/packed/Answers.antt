-- The bytes at a place are those of the entry there.
use Rattle.std.proofs.Common.{ap, ◌∙◌}
use Rattle.lrat_log.specs.Entries.{entry_at}
use Rattle.lrat_log.specs.Packed.{entry_before, id_at}
use Rattle.lrat_log.specs.Steps.Paged.{Stored}
use Rattle.lrat_log.specs.Steps.Unpacked.{values, unpacked_log}
use Rattle.lrat_log.proofs.StoredEntries.{keeps_of, place_stored, entry_stored, packable_stored}
use Rattle.lrat_log.proofs.Unpacking.{numbers_are}
use Rattle.lrat_log.proofs.log.Log.packed.Goals as goal

pub bytes-requires : goal.bytes-requires
bytes-requires c =
    let keeps = keeps_of c.args.self.now
    (unpacked_log c.self.inside.formula.now c.self.inside.store c.self.inside.query c.self.inside.clock)
    c.self.inside.store c.self.inside.query_used c.self.inside.learnt c.self.inside.last_query c.self.view_is c.self.invariant in
    place_stored c.args.self.now c.self.inside.store c.args.i keeps c.requires

pub returns-clause-bytes : goal.returns-clause-bytes
returns-clause-bytes c =
    let keeps = keeps_of c.args.self.now
    (unpacked_log c.self.inside.formula.now c.self.inside.store c.self.inside.query c.self.inside.clock)
    c.self.inside.store c.self.inside.query_used c.self.inside.learnt c.self.inside.last_query c.self.view_is c.self.invariant in
    c.bytes.ensures ∙ ap (λ (s : Stored). s.bytes) (entry_stored c.args.self.now c.self.inside.store c.args.i keeps c.requires)

pub returns-clause-numbers : goal.returns-clause-numbers
returns-clause-numbers c =
    let keeps = keeps_of c.args.self.now
    (unpacked_log c.self.inside.formula.now c.self.inside.store c.self.inside.query c.self.inside.clock)
    c.self.inside.store c.self.inside.query_used c.self.inside.learnt c.self.inside.last_query c.self.view_is c.self.invariant in
    let L = c.args.self.now in
    ap values (c.bytes.ensures ∙ ap (λ (s : Stored). s.bytes) (entry_stored L c.self.inside.store c.args.i keeps c.requires))
    ∙ numbers_are (id_at L c.args.i) (entry_before L c.args.i) (entry_at L c.args.i)
    (packable_stored L c.self.inside.store c.args.i keeps c.requires)

pub returns-clause-packable : goal.returns-clause-packable
returns-clause-packable c =
    let keeps = keeps_of c.args.self.now
    (unpacked_log c.self.inside.formula.now c.self.inside.store c.self.inside.query c.self.inside.clock)
    c.self.inside.store c.self.inside.query_used c.self.inside.learnt c.self.inside.last_query c.self.view_is c.self.invariant in
    packable_stored c.args.self.now c.self.inside.store c.args.i keeps c.requires
