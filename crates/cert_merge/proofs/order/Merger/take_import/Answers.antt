use Rattle.std.proofs.Common.{◌≡◌, ap, ◌∙◌, get_or, arith}
use Rattle.std.proofs.lemmas.List.{get_or_read}
use Rattle.cnf_core.specs.Literals.{code_of}
use Rattle.lrat_log.specs.Entries.{Recorded, literal_of}
use Rattle.cert_merge.specs.Merging.{literal_in}
use Rattle.cert_merge.proofs.Places.{on_ok, log_read}
use Rattle.cert_merge.proofs.Taken.{import_taken, import_within}
use Rattle.cert_merge.specs.Steps.Numbered.{places_of}
use Rattle.cert_merge.proofs.order.Merger.take_import.Goals as goal

lit_is : (c : goal.After-push_id) → c.lit-lit.result ≡ literal_in c.args.logs.now c.args.place
lit_is c =
    c.lit-lit.ensures ∙ ap (λ (L : Recorded). literal_of L c.args.place.entry 0)
    (log_read c.args.logs.now c.args.place.log c.index-logs-place.result c.requires.next.is_left.place.log_within c.index-logs-place.is)

pub returns-clause-taking : goal.returns-clause-taking
returns-clause-taking c =
    let code : c.code.result ≡ code_of (literal_in c.args.logs.now c.args.place) = c.code.ensures.value ∙ ap code_of (lit_is c) in
    let room = import_within c.args.formula.now c.args.logs.now c.args.self.now.ids.items c.args.self.now.units.items (places_of c.args.logs.now c.args.self.now.numbers.items)
    c.args.place c.requires.taking c.requires.imports c.requires.next.is_left.place c.requires.kind in
    on_ok c.push_id.result _ _ (λ pushed.
    import_taken c.args.formula.now c.args.logs.now c.args.self.now.ids.items c.args.self.now.units.items (places_of c.args.logs.now c.args.self.now.numbers.items)
    c.push_id.new.self.ids.items c.push_id.new.self.units.items (places_of c.args.logs.now c.push_id.new.self.numbers.items) c.args.place c.index-id.result.now
    c.requires.taking c.requires.next pushed (ap (places_of c.args.logs.now) c.push_id.ensures.numbers) c.push_id.ensures.units c.requires.imports c.requires.kind
    (get_or_read c.args.self.now.units.items c.code.result c.index-id.result.now (omega arith) c.index-id.ensures 0
    ∙ ap (λ i. get_or c.args.self.now.units.items i 0) code))
    c.push_id.ensures.ids
