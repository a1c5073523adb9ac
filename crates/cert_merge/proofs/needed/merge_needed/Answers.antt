use Rattle.std.proofs.Common.{List}
use Rattle.std.specs.Prelude.{IsTrue}
use Rattle.lrat_lines.specs.declared.line.Line.{Line}
use Rattle.lrat_lines.specs.Proofs.{Proves}
use Rattle.lrat_lines.specs.Tidy.{IsTidy}
use Rattle.lrat_lines.proofs.Accepted.{proves_by_lines}
use Rattle.cert_merge.specs.Trimming.{HasUnits, have_empty, IsTrimmed}
use Rattle.cert_merge.specs.MergedNeeds.{HasEmptyEntry}
use Rattle.cert_merge.specs.Steps.Ordered.{IsOrdered, lines_of}
use Rattle.cert_merge.proofs.Places.{if_ok}
use Rattle.cert_merge.proofs.MergedLines.{merged_has_lines}
use Rattle.cert_merge.proofs.TrimmedLines.{kept_lines, kept_units, kept_empty}
use Rattle.cert_merge.proofs.OrderedLines.{ordered_lines, ordered_merged, ordered_units, empty_of_entry}
use Rattle.cert_merge.specs.Steps.Numbered.{places_of}
use Rattle.cert_merge.proofs.needed.merge_needed.Goals as goal

ordered : (c : goal.After-drop-order-3)
    → IsOrdered c.args.formula.now c.args.logs.now c.in_ok-order.order.ids.items (places_of c.args.logs.now c.in_ok-order.order.numbers.items)
ordered c = record {
  are_logs = c.in_ok-order.ensures.logs;
  of = c.requires.formulas;
  shown = c.requires.imports;
  is_order = c.in_ok-order.ensures.order;
  are_ids = c.in_ok-order.ensures.ids;
  all = c.in_ok-order.ensures.lists;
}

-- the merged proof, which isn't made
abbrev merged : goal.After-drop-order-3 → List Line
merged c = lines_of c.args.formula.now c.args.logs.now c.in_ok-order.order.ids.items (places_of c.args.logs.now c.in_ok-order.order.numbers.items)

abbrev IsIt : goal.After-drop-order-3 → List Line → Type 0
IsIt c kept = IsTrimmed c.args.formula.now (merged c) c.args.keep.now kept

pub returns-clause-tidy : goal.returns-clause-tidy
returns-clause-tidy c = if_ok c.needed_proof.result (IsIt c) (IsTidy c.args.formula.now)
    (λ kept is k d below. (kept_lines c.args.formula.now (merged c) c.args.keep.now kept
    (ordered_lines c.args.formula.now c.args.logs.now c.in_ok-order.order.ids.items (places_of c.args.logs.now c.in_ok-order.order.numbers.items) (ordered c)) is k d below).tidy)
    c.needed_proof.ensures

pub returns-clause-accepted : goal.returns-clause-accepted
returns-clause-accepted c = if_ok c.needed_proof.result (IsIt c) (Proves c.args.formula.now)
    (λ kept is. proves_by_lines c.args.formula.now kept (kept_lines c.args.formula.now (merged c) c.args.keep.now kept
    (ordered_lines c.args.formula.now c.args.logs.now c.in_ok-order.order.ids.items (places_of c.args.logs.now c.in_ok-order.order.numbers.items) (ordered c)) is))
    c.needed_proof.ensures

pub returns-clause-keep : goal.returns-clause-keep
returns-clause-keep c = if_ok c.needed_proof.result (IsIt c) (λ kept. HasUnits kept c.args.keep.now)
    (λ kept is. kept_units c.args.formula.now (merged c) c.args.keep.now kept
    (ordered_lines c.args.formula.now c.args.logs.now c.in_ok-order.order.ids.items (places_of c.args.logs.now c.in_ok-order.order.numbers.items) (ordered c)) is
    (ordered_units c.args.formula.now c.args.logs.now c.in_ok-order.order.ids.items (places_of c.args.logs.now c.in_ok-order.order.numbers.items) c.args.keep.now (ordered c)
    c.requires.keep))
    c.needed_proof.ensures

pub returns-clause-empty : goal.returns-clause-empty
returns-clause-empty c = if_ok c.needed_proof.result (IsIt c) (λ kept. HasEmptyEntry c.args.logs.now → IsTrue (have_empty kept))
    (λ kept is entry. kept_empty c.args.formula.now (merged c) c.args.keep.now kept
    (ordered_lines c.args.formula.now c.args.logs.now c.in_ok-order.order.ids.items (places_of c.args.logs.now c.in_ok-order.order.numbers.items) (ordered c)) is
    (empty_of_entry c.args.logs.now (merged c) (merged_has_lines c.args.formula.now c.args.logs.now (merged c)
    (ordered_merged c.args.formula.now c.args.logs.now c.in_ok-order.order.ids.items (places_of c.args.logs.now c.in_ok-order.order.numbers.items) (ordered c))) entry))
    c.needed_proof.ensures
