use Rattle.std.proofs.Common.{◌≡◌, ◌-◌, ◌<◌, Bool, List, length, false, sym, ap, ◌∙◌, subst, arith}
use Rattle.std.proofs.lemmas.List.{get_or_read, length-map}
use Rattle.cert_merge.specs.declared.place.Place.{Place}
use Rattle.cert_merge.specs.Merging.{line_of}
use Rattle.cert_merge.specs.Steps.Taking.{id_in}
use Rattle.cert_merge.specs.Steps.Marking.{AreNeededFrom}
use Rattle.cert_merge.specs.Steps.Ordered.{lines_of}
use Rattle.cert_merge.proofs.Numbers.{first_start, places_count}
use Rattle.cert_merge.proofs.Picking.{needed_step, needed_past, whole_written, hints_below}
use Rattle.cert_merge.proofs.OrderedLines.{ordered_lines, line_of_place, hints_low, lines_count}
use Rattle.cert_merge.specs.Steps.Numbered.{places_of}
use Rattle.cert_merge.proofs.order.MergedOrder.needed.Goals as goal

pub mark_hints-requires : goal.mark_hints-requires
mark_hints-requires c =
    hints_low c.args.formula.now c.args.logs.now c.args.self.now.ids.items (places_of c.args.logs.now c.args.self.now.numbers.items) (c.loop-left.left - 1)
    c.place_at.result c.deref.result.now (length c.clauses.result.now) (length c.deref_mut.result.now)
    c.requires.ordered (omega (arith, c.loop-left.invariant.low)) (c.place_at.ensures c.args.logs.now c.requires.starts)
    (c.deref.ensures.value ∙ c.in_ok-read_hints.ensures) (ap length c.clauses.ensures.value)
    (ap length c.deref_mut.ensures.value ∙ c.loop-left.invariant.needed.count
    ∙ lines_count c.args.formula.now c.args.logs.now c.args.self.now.ids.items (places_of c.args.logs.now c.args.self.now.numbers.items))

pub loop-left-preserved-then-index : goal.loop-left-preserved-then-index
loop-left-preserved-then-index c =
    let F = c.args.formula.now in
    let logs = c.args.logs.now in
    let ids = c.args.self.now.ids.items in
    let order = (places_of c.args.logs.now c.args.self.now.numbers.items) in
    let left = c.loop-left.left in
    let p : Place = c.place_at.result in
    let size : length (lines_of F logs ids order) ≡ length order = lines_count F logs ids order in
    let within : left - 1 < length order = omega (arith, c.loop-left.invariant.low) in
    record {
      needed = subst (λ (ms : List Bool). AreNeededFrom F (lines_of F logs ids order) c.args.keep.now (left - 1) ms)
          (sym (whole_written c.mark_hints.new.marks c.loop-left.marks.items c.loop-left.marks.len c.loop-left.marks.ok.0
          (c.mark_hints.ensures.count ∙ ap length c.deref_mut.ensures.value)))
          (needed_step F (lines_of F logs ids order) c.args.keep.now c.loop-left.marks.items c.deref_mut.result.now c.mark_hints.new.marks
          c.deref.result.now (line_of F logs (id_in ids) p) left (length c.clauses.result.now)
          (omega arith) (omega (arith, c.loop-left.invariant.low)) (hints_below F (lines_of F logs ids order) (ordered_lines F logs ids order c.requires.ordered))
          c.loop-left.invariant.needed
          (sym (get_or_read c.loop-left.marks.items (left - 1) c.index.result.now (omega (arith, c.loop-left.invariant.needed.count)) c.index.ensures false)
          ∙ c.if-index.true)
          c.deref_mut.ensures.value (ap length c.clauses.ensures.value) (c.deref.ensures.value ∙ c.in_ok-read_hints.ensures)
          (line_of_place F logs ids order (left - 1) p within (c.place_at.ensures c.args.logs.now c.requires.starts)) c.mark_hints.ensures);
      low = omega (arith, c.loop-left.invariant.low);
    }

pub loop-left-preserved : goal.loop-left-preserved
loop-left-preserved c =
    let size : length (lines_of c.args.formula.now c.args.logs.now c.args.self.now.ids.items (places_of c.args.logs.now c.args.self.now.numbers.items))
    ≡ length (places_of c.args.logs.now c.args.self.now.numbers.items) =
    length-map (places_of c.args.logs.now c.args.self.now.numbers.items) (line_of c.args.formula.now c.args.logs.now (id_in c.args.self.now.ids.items)) in
    record {
      needed = needed_past c.args.formula.now
          (lines_of c.args.formula.now c.args.logs.now c.args.self.now.ids.items (places_of c.args.logs.now c.args.self.now.numbers.items)) c.args.keep.now
          c.loop-left.marks.items c.loop-left.left (omega arith)
          (omega (arith, c.loop-left.invariant.low)) c.loop-left.invariant.needed
          (sym (get_or_read c.loop-left.marks.items (c.loop-left.left - 1) c.index.result.now
          (omega (arith, c.loop-left.invariant.needed.count, c.loop-left.invariant.low)) c.index.ensures false) ∙ c.if-index.false);
      low = omega (arith, c.loop-left.invariant.low);
    }

pub place_at-requires-clause-first : goal.place_at-requires-clause-first
place_at-requires-clause-first c = first_start c.args.logs.now c.args.self.now.starts.items c.requires.starts
