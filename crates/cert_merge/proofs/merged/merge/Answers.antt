use Rattle.std.proofs.Common.{◌≡◌, List, map}
use Rattle.lrat_lines.specs.declared.line.Line.{Line}
use Rattle.lrat_lines.specs.Proofs.{Proves}
use Rattle.lrat_lines.specs.Tidy.{IsTidy}
use Rattle.lrat_lines.proofs.Accepted.{proves_by_lines}
use Rattle.cert_merge.specs.Merging.{line_of, IsMerged, HasLines, ReachesAll}
use Rattle.cert_merge.specs.Steps.Taking.{id_in}
use Rattle.cert_merge.proofs.Places.{if_ok}
use Rattle.cert_merge.proofs.MergedLines.{merged_lines, merged_has_lines, merged_reaches}
use Rattle.cert_merge.specs.Steps.Numbered.{places_of}
use Rattle.cert_merge.proofs.merged.merge.Goals as goal

abbrev IsIt : goal.After-drop-order-3 → List Line → Type 0
IsIt c proof = proof ≡ map (line_of c.args.formula.now c.args.logs.now (id_in c.in_ok-order.order.ids.items)) (places_of c.args.logs.now c.in_ok-order.order.numbers.items)

merged : (c : goal.After-drop-order-3) (proof : List Line) → IsIt c proof → IsMerged c.args.formula.now c.args.logs.now proof
merged c proof is = record {
  order = (places_of c.args.logs.now c.in_ok-order.order.numbers.items);
  id_of = id_in c.in_ok-order.order.ids.items;
  is_order = c.in_ok-order.ensures.order;
  are_ids = c.in_ok-order.ensures.ids;
  lines_are = is;
}

pub returns-clause-tidy : goal.returns-clause-tidy
returns-clause-tidy c = if_ok c.proof.result (IsIt c) (IsTidy c.args.formula.now)
    (λ proof is k d below.
    (merged_lines c.args.formula.now c.args.logs.now proof c.in_ok-order.ensures.logs c.requires.formulas c.requires.imports (merged c proof is)
    k d below).tidy)
    c.proof.ensures

pub returns-clause-accepted : goal.returns-clause-accepted
returns-clause-accepted c = if_ok c.proof.result (IsIt c) (Proves c.args.formula.now)
    (λ proof is. proves_by_lines c.args.formula.now proof
    (merged_lines c.args.formula.now c.args.logs.now proof c.in_ok-order.ensures.logs c.requires.formulas c.requires.imports (merged c proof is)))
    c.proof.ensures

pub returns-clause-added : goal.returns-clause-added
returns-clause-added c = if_ok c.proof.result (IsIt c) (HasLines c.args.logs.now)
    (λ proof is. merged_has_lines c.args.formula.now c.args.logs.now proof (merged c proof is))
    c.proof.ensures

pub returns-clause-reached : goal.returns-clause-reached
returns-clause-reached c = if_ok c.proof.result (IsIt c) (ReachesAll c.args.formula.now c.args.logs.now)
    (λ proof is. merged_reaches c.args.formula.now c.args.logs.now proof c.in_ok-order.ensures.logs c.requires.formulas c.requires.imports
    (merged c proof is))
    c.proof.ensures
