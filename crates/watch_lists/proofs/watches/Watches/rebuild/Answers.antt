use Rattle.std.proofs.Common.{ℕ, ◌∙◌, sym, subst, arith}
use Rattle.clause_arena.specs.Entries.{entry_at}
use Rattle.watch_lists.specs.Clauses.{IsClean}
use Rattle.watch_lists.specs.Lists.{empty_lists}
use Rattle.watch_lists.proofs.Rebuilt.{IsNext, next_lists, next_vars, next_filled}
use Rattle.watch_lists.proofs.watches.Watches.rebuild.Goals as goal

pub loop-place-preserved : goal.loop-place-preserved
loop-place-preserved c =
    let h = c.loop-place.invariant in
    let next : IsNext c.args.arena.now c.loop-place.self c.attach_long.new.self c.loop-place.place c.at.result = record {
      here = c.at.ensures;
      within = omega (arith, c.len-place-end.ensures);
      long = c.in-Ok.ensures.long;
      short = c.in-Ok.ensures.short;
    } in record {
      lists = next_lists (empty_lists c.args.self.now.vars) c.args.arena.now c.loop-place.self c.attach_long.new.self c.loop-place.place
          c.at.result next h.lists;
      filled = next_filled c.args.arena.now c.loop-place.self c.attach_long.new.self c.loop-place.place c.at.result next
          (λ long. subst (λ (n : ℕ). IsClean n (entry_at c.args.arena.now c.at.result).lits) (sym h.vars)
          (c.requires c.at.result long)) h.filled;
      vars = next_vars c.args.arena.now c.loop-place.self c.attach_long.new.self c.loop-place.place c.at.result next ∙ h.vars;
    }
