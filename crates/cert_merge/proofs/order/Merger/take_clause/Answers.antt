use Rattle.std.proofs.Common.{ap, length, arith}
use Rattle.cert_merge.proofs.Places.{on_ok, with_ok}
use Rattle.cert_merge.proofs.Numbers.{places_count}
use Rattle.cert_merge.proofs.Taken.{clause_taken}
use Rattle.cert_merge.specs.Steps.Numbered.{places_of}
use Rattle.cert_merge.proofs.order.Merger.take_clause.Goals as goal

pub returns-clause-taking : goal.returns-clause-taking
returns-clause-taking c =
    on_ok c.push_line.result _ _ (λ both.
    clause_taken c.args.formula.now c.args.logs.now c.args.self.now.ids.items c.args.self.now.units.items (places_of c.args.logs.now c.args.self.now.numbers.items)
    c.push_line.new.self.ids.items c.push_line.new.self.units.items (places_of c.args.logs.now c.push_line.new.self.numbers.items) c.args.place _ c.requires.taking
    c.requires.next both.0 both.1 c.push_line.ensures.units
    (omega (arith, ap length c.clauses.ensures.value, places_count c.args.logs.now c.args.self.now.numbers.items)) c.requires.line c.requires.kind)
    (with_ok c.push_line.result _ _ c.push_line.ensures.ids c.push_line.ensures.places)
