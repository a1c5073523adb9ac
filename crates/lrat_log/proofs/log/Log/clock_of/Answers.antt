use Rattle.std.proofs.Common.{ap, ◌∙◌}
use Rattle.lrat_log.specs.Steps.Paged.{Stored}
use Rattle.lrat_log.specs.Steps.Unpacked.{unpacked_log}
use Rattle.lrat_log.proofs.StoredEntries.{keeps_of, place_stored, entry_stored}
use Rattle.lrat_log.proofs.log.Log.clock_of.Goals as goal

pub clock-requires : goal.clock-requires
clock-requires c =
    let keeps = keeps_of c.args.self.now
    (unpacked_log c.self.inside.formula.now c.self.inside.store c.self.inside.query c.self.inside.clock)
    c.self.inside.store c.self.inside.query_used c.self.inside.learnt c.self.inside.last_query c.self.view_is c.self.invariant in
    place_stored c.args.self.now c.self.inside.store c.args.i keeps c.requires

pub returns : goal.returns
returns c =
    let keeps = keeps_of c.args.self.now
    (unpacked_log c.self.inside.formula.now c.self.inside.store c.self.inside.query c.self.inside.clock)
    c.self.inside.store c.self.inside.query_used c.self.inside.learnt c.self.inside.last_query c.self.view_is c.self.invariant in
    c.clock.ensures ∙ ap (λ (s : Stored). s.clock) (entry_stored c.args.self.now c.self.inside.store c.args.i keeps c.requires)
