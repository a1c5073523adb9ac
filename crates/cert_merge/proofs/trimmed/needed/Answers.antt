use Rattle.std.proofs.Common.{◌-◌, Bool, List, length, false, sym, ap, ◌∙◌, subst, arith}
use Rattle.std.proofs.lemmas.List.{get_or_read}
use Rattle.cert_merge.specs.Steps.Marking.{AreNeededFrom}
use Rattle.cert_merge.proofs.Picking.{needed_step, needed_past, whole_written}
use Rattle.cert_merge.proofs.trimmed.needed.Goals as goal

pub loop-left-preserved-then-index : goal.loop-left-preserved-then-index
loop-left-preserved-then-index c = record {
  needed = subst (λ (ms : List Bool). AreNeededFrom c.args.formula.now c.args.lines.now c.args.keep.now (c.loop-left.left - 1) ms)
      (sym (whole_written c.mark_hints.new.marks c.loop-left.marks.items c.loop-left.marks.len c.loop-left.marks.ok.0
      (c.mark_hints.ensures.count ∙ ap length c.deref_mut.ensures.value)))
      (needed_step c.args.formula.now c.args.lines.now c.args.keep.now c.loop-left.marks.items c.deref_mut.result.now c.mark_hints.new.marks
      c.hints.result.now c.index-lines-left.result c.loop-left.left (length c.clauses.result.now)
      (omega arith) c.loop-left.invariant.low c.requires.hints c.loop-left.invariant.needed
      (sym (get_or_read c.loop-left.marks.items (c.loop-left.left - 1) c.index.result.now (omega (arith, c.loop-left.invariant.needed.count)) c.index.ensures false) ∙ c.if-index.true)
      c.deref_mut.ensures.value (ap length c.clauses.ensures.value) c.hints.ensures c.index-lines-left.is c.mark_hints.ensures);
  low = omega (arith, c.loop-left.invariant.low);
}

pub loop-left-preserved : goal.loop-left-preserved
loop-left-preserved c = record {
  needed = needed_past c.args.formula.now c.args.lines.now c.args.keep.now c.loop-left.marks.items c.loop-left.left (omega arith)
      c.loop-left.invariant.low c.loop-left.invariant.needed
      (sym (get_or_read c.loop-left.marks.items (c.loop-left.left - 1) c.index.result.now (omega (arith, c.loop-left.invariant.needed.count, c.loop-left.invariant.low)) c.index.ensures false) ∙ c.if-index.false);
  low = omega (arith, c.loop-left.invariant.low);
}
