use Rattle.std.proofs.Common.{◌≡◌, ◌∙◌, ap, arith}
use Rattle.lrat_log.specs.Entries.{Recorded, learnt_count}
use Rattle.worker_loop.proofs.Blocks.{open_most}
use Rattle.worker_loop.proofs.Queries.{queries_learnt}
use Rattle.worker_loop.proofs.post.Post.easy_conflicts.Goals as goal

pub returns-then-count_learnt-closed : goal.returns-then-count_learnt-closed
returns-then-count_learnt-closed c =
    let p = c.args.self.now in
    let learnt : c.count_learnt.result ≡ learnt_count p.solver.log.entries =
    c.count_learnt.ensures ∙ ap (λ (L : Recorded). learnt_count L.entries) c.log.ensures in
    omega (
      arith,
      queries_learnt p.solver.log.entries,
      learnt,
      c.if-count_learnt-closed.true,
      c.saturating_sub-closed.ensures,
      c.from.ensures,
      c.len-open.ensures,
      c.in_ok-open_block.ensures.count,
      c.vars-vars.ensures.value,
      open_most p.loaded.items p.question.now.formula.vars,
    )
