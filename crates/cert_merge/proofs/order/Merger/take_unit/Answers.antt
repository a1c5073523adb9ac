use Rattle.std.proofs.Common.{◌≡◌, ◌+◌, ap, ◌∙◌, arith, List, ℕ, get_or, length}
use Rattle.cnf_core.specs.Literals.{Literal}
use Rattle.lrat_log.specs.Entries.{Recorded, literal_of}
use Rattle.cert_merge.specs.Steps.Taking.{noted}
use Rattle.cert_merge.proofs.Places.{log_read}
use Rattle.cert_merge.proofs.Numbers.{places_count}
use Rattle.cert_merge.proofs.Taken.{unit_taken}
use Rattle.cert_merge.specs.Steps.Numbered.{places_of}
use Rattle.cert_merge.proofs.order.Merger.take_unit.Goals as goal

pub returns-clause-taking : goal.returns-clause-taking
returns-clause-taking c =
    let lit : c.lit-lit.result ≡ literal_of (get_or c.args.logs.now c.args.place.log _) c.args.place.entry 0 =
    c.lit-lit.ensures ∙ ap (λ (L : Recorded). literal_of L c.args.place.entry 0)
    (log_read c.args.logs.now c.args.place.log c.index-logs-place.result c.requires.next.is_left.place.log_within c.index-logs-place.is) in
    unit_taken c.args.formula.now c.args.logs.now c.args.self.now.ids.items c.args.self.now.units.items (places_of c.args.logs.now c.args.self.now.numbers.items)
    c.note_unit.new.self.ids.items c.note_unit.new.self.units.items (places_of c.args.logs.now c.note_unit.new.self.numbers.items) c.args.place _
    c.requires.taking c.requires.next
    (c.note_unit.ensures.ids ∙ c.in_ok-push_line.ensures.ids)
    (ap (places_of c.args.logs.now) c.note_unit.ensures.numbers ∙ c.in_ok-push_line.ensures.places)
    (c.note_unit.ensures.units ∙ ap (λ (us : List ℕ). noted us c.lit-lit.result (length c.clauses.result.now + 1 + c.len.result)) c.in_ok-push_line.ensures.units
    ∙ ap (λ (l : Literal). noted c.args.self.now.units.items l (length c.clauses.result.now + 1 + c.len.result)) lit)
    (omega (arith, ap length c.clauses.ensures.value, places_count c.args.logs.now c.args.self.now.numbers.items)) c.requires.kind
