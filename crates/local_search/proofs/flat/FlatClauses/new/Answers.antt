-- The clause at the place is laid, or is always true.
use Rattle.std.proofs.Common.{◌+◌, ◌<◌, List, length, subst}
use Rattle.cnf_core.specs.Literals.{Literals}
use Rattle.local_search.specs.Steps.Kept.{AreStamps, HasSame, IsCleanOf}
use Rattle.local_search.specs.Steps.Flat.{IsLaid}
use Rattle.local_search.proofs.Laid.{clause_read, laid-more, laid-skip}
use Rattle.local_search.proofs.flat.FlatClauses.new.Goals as goal
use Rattle.local_search.proofs.flat.FlatClauses.new.Goals.{then-branch+in_ok-lay, else-branch}

pub loop-place-preserved : goal.loop-place-preserved
loop-place-preserved c =
    let F = c.args.formula.now in
    let place = c.loop-place.place in
    let clause = c.as_slice-clause.result.now in
    let below : place < length F.clauses =
    subst (λ (cs : List Literals). place < length cs) c.clauses-place-end.ensures.value c.loop-place-test.true in
    let is = clause_read F c.clauses.result.now place c.index-clauses-place.result clause c.clauses.ensures.value below
    c.index-clauses-place.is c.as_slice-clause.ensures in
    elim c.if-branch.branch [
      | then-branch+in_ok-lay w ↦
          let kept : HasSame clause c.clean.new.kept.items =
          subst (IsCleanOf clause c.clean.new.kept.items) w.if-branch.true c.in_ok-clean.ensures.clean in
          let laid : IsLaid c.clean.new.kept.items c.loop-place.lits.items c.loop-place.spans.items w.lay.new.lits.items w.lay.new.spans.items =
          subst (λ (k : Literals). IsLaid k c.loop-place.lits.items c.loop-place.spans.items w.lay.new.lits.items w.lay.new.spans.items)
          w.deref.ensures.value w.in_ok-lay.ensures in
          rw (w.lits-is, w.spans-is)
          (record {
            laid = laid-more F place clause c.loop-place.lits.items c.loop-place.spans.items c.clean.new.kept.items w.lay.new.lits.items
                w.lay.new.spans.items c.clauses.ensures.limits below is c.loop-place.invariant.laid kept laid;
            stamps = subst (λ n. AreStamps (place + 1 + 1) n c.clean.new.seen.items) c.loop-place.invariant.stamps.each
                c.in_ok-clean.ensures.stamps;
          })
      | else-branch w ↦
          rw (w.lits-is, w.spans-is)
          (record {
            laid = laid-skip F place clause c.loop-place.lits.items c.loop-place.spans.items below is c.loop-place.invariant.laid
                (subst (IsCleanOf clause c.clean.new.kept.items) w.if-branch.false c.in_ok-clean.ensures.clean);
            stamps = subst (λ n. AreStamps (place + 1 + 1) n c.clean.new.seen.items) c.loop-place.invariant.stamps.each
                c.in_ok-clean.ensures.stamps;
          })
    ]
