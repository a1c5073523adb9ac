use Rattle.lrat_lines.specs.Renumbering.{renumbered}
use Rattle.cert_merge.specs.Steps.Taking.{listed_id}
use Rattle.cert_merge.proofs.Picking.{IsPicking}
use Rattle.cert_merge.proofs.trimmed.pick.Given as goal

abbrev pub invariant-loop-line : goal.invariant-loop-line
invariant-loop-line l =
    IsPicking (renumbered (listed_id l.inputs l.ids)) l.marks l.fn.lines.items l.place l.kept.items l.line-iterator.rest.items
