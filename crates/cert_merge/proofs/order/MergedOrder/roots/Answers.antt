use Rattle.std.proofs.Common.{◌≡◌, ℕ, ◌+◌, ◌*◌, ◌<◌, Bool, List, [], ◌∷◌, ◌++◌, length, take, All, sym, ap, ◌∙◌, subst, arith}
use Rattle.lrat_lines.specs.declared.line.Line.{Line}
use Rattle.cert_merge.specs.declared.place.Place.{Place}
use Rattle.cert_merge.specs.Merging.{entry_in, line_of}
use Rattle.cert_merge.specs.Trimming.{is_root}
use Rattle.cert_merge.specs.Steps.Taking.{id_in}
use Rattle.cert_merge.specs.Steps.Marking.{HasPlace, AreRoots, IsLookingFor}
use Rattle.cert_merge.specs.Steps.Ordered.{lines_of}
use Rattle.cert_merge.proofs.Numbers.{first_start, places_count}
use Rattle.cert_merge.proofs.Marking.{roots_more}
use Rattle.cert_merge.proofs.OrderedLines.{ordered_keep, literals_places, lines_more, literals_read, place_at}
use Rattle.cert_merge.specs.Steps.Numbered.{places_of}
use Rattle.cert_merge.proofs.order.MergedOrder.roots.Goals as goal

pub new-requires : goal.new-requires
new-requires c =
    ordered_keep c.args.formula.now c.args.logs.now c.args.self.now.ids.items (places_of c.args.logs.now c.args.self.now.numbers.items) c.args.keep.now c.requires.ordered
    c.requires.keep

pub take-requires : goal.take-requires
take-requires c =
    let F = c.args.formula.now in
    let logs = c.args.logs.now in
    let ids = c.args.self.now.ids.items in
    let order = (places_of c.args.logs.now c.args.self.now.numbers.items) in
    let i = c.loop-k.k in
    let within : i < length order = omega (arith, places_count c.args.logs.now c.args.self.now.numbers.items) in
    let p : Place = c.place_at-place.result in
    let lits : c.deref.result.now ≡ (entry_in logs p).literals =
    c.deref.ensures.value
    ∙ literals_read logs p c.index-logs-place.result c.clear.new.self.items c.append_lits.new.lits.items
    (place_at F logs ids order i p c.requires.ordered within (c.place_at-place.ensures c.args.logs.now c.requires.starts)) c.index-logs-place.is c.clear.ensures.items
    c.in_ok-append_lits.ensures.ok in
    subst (λ (n : ℕ). All (HasPlace n) c.deref.result.now) (sym c.loop-k.invariant.places)
    (subst (All (HasPlace (2 * F.vars + 2))) (sym lits)
    (literals_places F logs ids order i p c.requires.ordered within (c.place_at-place.ensures c.args.logs.now c.requires.starts)))

pub loop-k-preserved : goal.loop-k-preserved
loop-k-preserved c =
    let F = c.args.formula.now in
    let logs = c.args.logs.now in
    let ids = c.args.self.now.ids.items in
    let order = (places_of c.args.logs.now c.args.self.now.numbers.items) in
    let keep = c.args.keep.now in
    let i = c.loop-k.k in
    let within : i < length order = omega (arith, places_count c.args.logs.now c.args.self.now.numbers.items) in
    let p : Place = c.place_at-place.result in
    let lits : c.deref.result.now ≡ (entry_in logs p).literals =
    c.deref.ensures.value
    ∙ literals_read logs p c.index-logs-place.result c.clear.new.self.items c.append_lits.new.lits.items
    (place_at F logs ids order i p c.requires.ordered within (c.place_at-place.ensures c.args.logs.now c.requires.starts)) c.index-logs-place.is c.clear.ensures.items
    c.in_ok-append_lits.ensures.ok in
    let before : List Line = lines_of F logs ids (take i order) in
    let line : Line = line_of F logs (id_in ids) p in
    let more : before ++ line ∷ [] ≡ lines_of F logs ids (take (i + 1) order) =
    lines_more F logs ids order i p within (c.place_at-place.ensures c.args.logs.now c.requires.starts) in
    let root : c.take.result ≡ is_root keep before (entry_in logs p).literals =
    c.take.ensures.root keep before c.loop-k.invariant.looks ∙ ap (is_root keep before) lits in
    record {
      roots = subst (λ (xs : List Line). AreRoots keep xs c.push.new.self.items) more
          (subst (λ (ms : List Bool). AreRoots keep (before ++ line ∷ []) ms) (sym c.in_ok-push.ensures.items)
          (roots_more keep before line c.loop-k.marks.items c.take.result c.loop-k.invariant.roots root));
      looks = subst (λ (xs : List Line). IsLookingFor keep xs c.take.new.self.units.items c.take.new.self.empty) more
          (c.take.ensures.looks keep before line (sym lits) c.loop-k.invariant.looks);
      places = c.take.ensures.places ∙ c.loop-k.invariant.places;
    }

pub place_at-place-requires-clause-first : goal.place_at-place-requires-clause-first
place_at-place-requires-clause-first c = first_start c.args.logs.now c.args.self.now.starts.items c.requires.starts
