use Rattle.std.proofs.Common.{◌≡◌, length, map, take}
use Rattle.lrat_lines.specs.Renumbering.{renumbered}
use Rattle.cert_merge.specs.Trimming.{picked}
use Rattle.cert_merge.specs.Steps.Taking.{listed_id}
use Rattle.cert_merge.specs.Steps.Ordered.{lines_of}
use Rattle.cert_merge.specs.Steps.Numbered.{places_of}
use Rattle.cert_merge.proofs.order.MergedOrder.needed_proof.Given as goal

abbrev pub invariant-loop-k : goal.invariant-loop-k
invariant-loop-k l =
    l.lines.items ≡ map (renumbered (listed_id (length l.formula.clauses) l.ids.items))
    (picked (take l.k l.marks.items) (lines_of l.formula l.logs l.self.ids.items (take l.k (places_of l.logs l.self.numbers.items))))
