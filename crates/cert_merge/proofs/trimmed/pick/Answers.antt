use Rattle.std.proofs.Common.{List, subst}
use Rattle.lrat_lines.specs.declared.line.Line.{Line}
use Rattle.lrat_lines.specs.Renumbering.{renumbered}
use Rattle.cert_merge.specs.Steps.Taking.{listed_id}
use Rattle.cert_merge.proofs.Picking.{IsPicking, picking_more}
use Rattle.cert_merge.proofs.trimmed.pick.Goals as goal

pub loop-line-preserved : goal.loop-line-preserved
loop-line-preserved c =
    let f = renumbered (listed_id c.args.inputs c.args.ids.now) in
    picking_more f c.args.marks.now c.args.lines.items c.loop-line.place c.in-Some.line c.loop-line.kept.items c.push_if.new.kept.items
    c.next.new.self.rest.items c.requires.count
    (subst (λ (ls : List Line). IsPicking f c.args.marks.now c.args.lines.items c.loop-line.place c.loop-line.kept.items ls)
    c.in-Some.ensures.steps.0 c.loop-line.invariant)
    c.in_ok-push_if.ensures
