use Rattle.std.proofs.Common.{length, ap, ◌∙◌}
use Rattle.lrat_log.specs.Entries.{Recorded}
use Rattle.lrat_log.proofs.PackedLogs.{count_kept}
use Rattle.lrat_log.proofs.log.Log.len.Goals as goal

pub returns-clause-value : goal.returns-clause-value
returns-clause-value c =
    c.len.ensures.value
    ∙ count_kept c.self.inside.formula.now c.self.inside.store c.self.inside.query c.self.inside.clock c.self.inside.query_used
    c.self.inside.learnt c.self.inside.last_query c.self.invariant
    ∙ ap (λ (L : Recorded). length L.entries) c.self.view_is
