use Rattle.std.proofs.Common.{ℕ, ◌+◌, ◌<◌, Bool, List, [], ◌∷◌, ◌++◌, length, map, take, false, if◌then◌else◌, ap, ◌∙◌, subst, arith}
use Rattle.std.proofs.lemmas.List.{get_or_read, take_all, length-map, length-take-le}
use Rattle.lrat_lines.specs.declared.line.Line.{Line}
use Rattle.lrat_lines.specs.Renumbering.{renumbered}
use Rattle.cert_merge.specs.declared.place.Place.{Place}
use Rattle.cert_merge.specs.Merging.{line_of}
use Rattle.cert_merge.specs.Trimming.{picked}
use Rattle.cert_merge.specs.Steps.Taking.{id_in, listed_id}
use Rattle.cert_merge.specs.Steps.Marking.{AreNewIds}
use Rattle.cert_merge.specs.Steps.Ordered.{lines_of}
use Rattle.cert_merge.proofs.Numbers.{first_start, places_count}
use Rattle.cert_merge.proofs.Picking.{picked_trimmed}
use Rattle.cert_merge.proofs.OrderedLines.{ordered_lines, lines_count, ids_low, lines_more, picked_more}
use Rattle.cert_merge.specs.Steps.Numbered.{places_of}
use Rattle.cert_merge.proofs.order.MergedOrder.needed_proof.Goals as goal

pub push_if-requires-clause-ids : goal.push_if-requires-clause-ids
push_if-requires-clause-ids c =
    ids_low c.args.formula.now c.args.logs.now c.args.self.now.ids.items (places_of c.args.logs.now c.args.self.now.numbers.items) c.loop-k.k c.place_at.result
    (length c.deref-in-loop-k.result.now) c.requires.ordered
    (omega (arith, places_count c.args.logs.now c.args.self.now.numbers.items)) (c.place_at.ensures c.args.logs.now c.requires.starts)
    (ap length c.deref-in-loop-k.ensures.value ∙ c.in_ok-ids.ensures.count ∙ ap length c.deref.ensures.value ∙ c.in_ok-marks.ensures.count
    ∙ lines_count c.args.formula.now c.args.logs.now c.args.self.now.ids.items (places_of c.args.logs.now c.args.self.now.numbers.items))

pub loop-k-preserved : goal.loop-k-preserved
loop-k-preserved c =
    let F = c.args.formula.now in
    let logs = c.args.logs.now in
    let ids = c.args.self.now.ids.items in
    let order = (places_of c.args.logs.now c.args.self.now.numbers.items) in
    let k = c.loop-k.k in
    let marks = c.in_ok-marks.marks.items in
    let p : Place = c.place_at.result in
    let within : k < length order = omega (arith, places_count c.args.logs.now c.args.self.now.numbers.items) in
    let room : k < length marks = omega (arith, places_count c.args.logs.now c.args.self.now.numbers.items, c.in_ok-marks.ensures.count, lines_count F logs ids order) in
    let f : Line → Line = renumbered (listed_id (length F.clauses) c.in_ok-ids.ids.items) in
    let line : Line = line_of F logs (id_in ids) p in
    picked_more f marks (lines_of F logs ids (take k order)) (lines_of F logs ids (take (k + 1) order)) k line c.loop-k.lines.items
    c.push_if.new.lines.items room
    (length-map (take k order) (line_of F logs (id_in ids)) ∙ length-take-le k order (omega (arith, within)))
    (lines_more F logs ids order k p within (c.place_at.ensures c.args.logs.now c.requires.starts)) c.loop-k.invariant
    (c.in_ok-push_if.ensures
    ∙ ap (λ (is : List ℕ). c.loop-k.lines.items ++ (if c.index.result.now then renumbered (listed_id (length F.clauses) is) line ∷ [] else []))
    c.deref-in-loop-k.ensures.value
    ∙ ap (λ (m : Bool). c.loop-k.lines.items ++ (if m then f line ∷ [] else []))
    (get_or_read marks k c.index.result.now room c.index.ensures false))

pub returns : goal.returns
returns c =
    let F = c.args.formula.now in
    let logs = c.args.logs.now in
    let ids = c.args.self.now.ids.items in
    let order = (places_of c.args.logs.now c.args.self.now.numbers.items) in
    let marks = c.in_ok-marks.marks.items in
    let f : Line → Line = renumbered (listed_id (length F.clauses) c.in_ok-ids.ids.items) in
    let new : AreNewIds (length F.clauses) marks c.in_ok-ids.ids.items =
    subst (λ (n : ℕ). AreNewIds n marks c.in_ok-ids.ids.items) (ap length c.clauses.ensures.value)
    (subst (λ (ms : List Bool). AreNewIds (length c.clauses.result.now) ms c.in_ok-ids.ids.items) c.deref.ensures.value c.in_ok-ids.ensures) in
    record {
      marks = marks;
      are_needed = c.in_ok-marks.ensures;
      lines_are = c.loop-k.invariant
          ∙ ap (λ (ms : List Bool). map f (picked ms (lines_of F logs ids (take c.loop-k.k order))))
          (take_all c.loop-k.k marks (omega (arith, c.in_ok-marks.ensures.count, lines_count F logs ids order, places_count c.args.logs.now c.args.self.now.numbers.items)))
          ∙ ap (λ (ps : List Place). map f (picked marks (lines_of F logs ids ps))) (take_all c.loop-k.k order (omega (arith, places_count c.args.logs.now c.args.self.now.numbers.items)))
          ∙ picked_trimmed F (lines_of F logs ids order) marks c.in_ok-ids.ids.items (ordered_lines F logs ids order c.requires.ordered)
          c.in_ok-marks.ensures.count new;
    }

pub place_at-requires-clause-first : goal.place_at-requires-clause-first
place_at-requires-clause-first c = first_start c.args.logs.now c.args.self.now.starts.items c.requires.starts
