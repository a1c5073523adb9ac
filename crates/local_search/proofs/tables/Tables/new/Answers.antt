-- The sums of the counts are the ends of the lists, which are then filled.
use Rattle.std.proofs.Common.{◌≡◌, ◌+◌, ◌*◌, ℕ, replicate, rules, sym, ap, ◌∙◌, subst}
use Rattle.local_search.specs.Steps.Listed.{IsFilled, IsIndex}
use Rattle.local_search.proofs.Filled.{filled-start, index_filled, counted_all}
use Rattle.local_search.proofs.tables.Tables.new.Goals as goal

pub fill-requires-clause-filled : goal.fill-requires-clause-filled
fill-requires-clause-filled c =
    let cs = c.in_ok-clauses.clauses in
    let ends = c.sum_up-literals.new.counts.items in
    let counted = c.in_ok-starts.ensures.counted in
    let zeros : c.in_ok-places.places.items ≡ replicate c.sum_up-literals.result 0 = search rules in
    rw zeros
    (subst (λ (n : ℕ). IsFilled n cs 0 0 ends (replicate c.sum_up-literals.result 0))
    (sym (c.sum_up-literals.ensures.each ∙ counted.each))
    (filled-start _ cs c.in_ok-starts.starts.items ends c.sum_up-literals.result counted c.sum_up-literals.ensures))

pub invariant_of-result : goal.invariant_of-result
invariant_of-result c =
    let cs = c.in_ok-clauses.clauses in
    let counted = c.in_ok-starts.ensures.counted in
    record {
      limits = c.vars.ensures.limits;
      cleaned = c.in_ok-clauses.ensures;
      index = subst (λ (n : ℕ). IsIndex n cs c.fill.new.starts.items c.fill.new.places.items)
          (c.sum_up-literals.ensures.each ∙ counted.each ∙ ap (λ (n : ℕ). 2 * n + 3) c.vars.ensures.value)
          (index_filled _ cs c.fill.new.starts.items c.fill.new.places.items c.fill.ensures);
      total = c.sum_up-literals.ensures.all ∙ counted_all _ cs c.in_ok-starts.starts.items counted;
    }
