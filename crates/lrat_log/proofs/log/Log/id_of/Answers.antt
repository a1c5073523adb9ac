use Rattle.std.proofs.Common.{length, ap, arith}
use Rattle.lrat_log.specs.Entries.{Recorded}
use Rattle.lrat_log.proofs.PackedLogs.{count_kept}
use Rattle.lrat_log.proofs.log.Log.id_of.Goals as goal

pub overflow_add-result-2 : goal.overflow_add-result-2
overflow_add-result-2 c =
    omega (
      arith,
      c.requires,
      c.len-entries.ensures.value,
      c.len-entries.ensures.bound,
      ap (λ (L : Recorded). length L.entries) c.self.view_is,
      count_kept c.self.inside.formula.now c.self.inside.store c.self.inside.query c.self.inside.clock c.self.inside.query_used
          c.self.inside.learnt c.self.inside.last_query c.self.invariant,
    )
