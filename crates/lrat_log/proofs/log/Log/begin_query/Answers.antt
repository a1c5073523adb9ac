use Rattle.std.proofs.Common.{arith}
use Rattle.lrat_log.proofs.PackedLogs.{kept_next, count_kept}
use Rattle.lrat_log.proofs.log.Log.begin_query.Goals as goal

pub overflow_add-self : goal.overflow_add-self
overflow_add-self c =
    omega (
      arith,
      c.len-entries.ensures.value,
      c.len-entries.ensures.bound,
      c.self.invariant.counted.log.few_queries,
      count_kept c.self.inside.formula.now c.self.inside.store c.self.inside.query c.self.inside.clock c.self.inside.query_used
          c.self.inside.learnt c.self.inside.last_query c.self.invariant,
    )

pub invariant_of-self : goal.invariant_of-self
invariant_of-self c =
    kept_next c.self.inside.formula.now c.self.inside.store c.self.inside.query c.self.inside.clock c.self.inside.learnt
    c.self.inside.last_query (rw c.if-self.true at c.self.invariant)
