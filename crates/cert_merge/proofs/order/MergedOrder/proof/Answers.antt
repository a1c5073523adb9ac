use Rattle.std.proofs.Common.{◌≡◌, ◌+◌, ◌<◌, List, [], ◌∷◌, ◌++◌, length, take, ap, ◌∙◌, arith}
use Rattle.lrat_lines.specs.declared.line.Line.{Line}
use Rattle.cert_merge.specs.Steps.Numbered.{places_of}
use Rattle.cert_merge.specs.Steps.Ordered.{lines_of}
use Rattle.cert_merge.proofs.Numbers.{first_start, places_count}
use Rattle.cert_merge.proofs.OrderedLines.{lines_more}
use Rattle.cert_merge.proofs.order.MergedOrder.proof.Goals as goal

pub place_at-requires-clause-first : goal.place_at-requires-clause-first
place_at-requires-clause-first c = first_start c.args.logs.now c.args.self.now.starts.items c.requires.starts

pub loop-k-preserved : goal.loop-k-preserved
loop-k-preserved c =
    let order = places_of c.args.logs.now c.args.self.now.numbers.items in
    let within : c.loop-k.k < length order = omega (arith, places_count c.args.logs.now c.args.self.now.numbers.items) in
    c.in_ok-push.ensures.items
    ∙ ap (λ (ls : List Line). ls ++ c.in_ok-line.field-0 ∷ []) c.loop-k.invariant
    ∙ ap (λ (l : Line). lines_of c.args.formula.now c.args.logs.now c.args.self.now.ids.items (take c.loop-k.k order) ++ l ∷ [])
    c.in_ok-line.ensures
    ∙ lines_more c.args.formula.now c.args.logs.now c.args.self.now.ids.items order c.loop-k.k c.place_at.result within
    (c.place_at.ensures c.args.logs.now c.requires.starts)
