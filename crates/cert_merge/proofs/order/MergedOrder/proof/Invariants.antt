use Rattle.std.proofs.Common.{◌≡◌, map, take}
use Rattle.cert_merge.specs.Merging.{line_of}
use Rattle.cert_merge.specs.Steps.Taking.{id_in}
use Rattle.cert_merge.specs.Steps.Numbered.{places_of}
use Rattle.cert_merge.proofs.order.MergedOrder.proof.Given as goal

abbrev pub invariant-loop-k : goal.invariant-loop-k
invariant-loop-k l =
    l.lines.items ≡ map (line_of l.formula l.logs (id_in l.self.ids.items)) (take l.k (places_of l.logs l.self.numbers.items))
