use Rattle.std.proofs.Common.{◌≡◌, ◌∷◌, [], false, sym, subst}
use Rattle.std.specs.Prelude.{All}
use Rattle.lrat_log.specs.Entries.{Entry, Recorded, is_import}
use Rattle.lrat_log.specs.Kept.{IsLog}
use Rattle.cert_merge.specs.MergedNeeds.{HasEmptyEntry}
use Rattle.run_core.specs.Outcomes.{IsSpent}
use Rattle.run_core.proofs.Searches.{search_shown, first_searched, search_spent, empty_entry, no_core}
use Rattle.run_core.proofs.first.search.Goals as goal

pub lone_model-requires-clause-shown : goal.lone_model-requires-clause-shown
lone_model-requires-clause-shown g c =
    subst (λ (L : Recorded). All (λ (e : Entry). is_import e.kind ≡ false) L.entries) (sym c.into_log.ensures)
    (search_shown c.in_ok-solver.solver.log c.solve.new.self.log c.in_ok-solver.ensures.none_imported c.solve.ensures.log)

pub returns-in-Model-clause-solver : goal.returns-in-Model-clause-solver
returns-in-Model-clause-solver g c =
    first_searched c.args.formula.now c.in-Model.model c.args.settings.budget c.in_ok-solver.solver c.solve.new.self c.in_ok-solver.ensures
    c.solve.ensures.log c.solve.ensures.most

pub refutation-requires-clause-shown : goal.refutation-requires-clause-shown
refutation-requires-clause-shown g c =
    subst (λ (L : Recorded). All (λ (e : Entry). is_import e.kind ≡ false) L.entries) (sym c.into_log-in-Unsat.ensures)
    (search_shown c.in_ok-solver.solver.log c.solve.new.self.log c.in_ok-solver.ensures.none_imported c.solve.ensures.log)

pub refutation-requires-clause-empty : goal.refutation-requires-clause-empty
refutation-requires-clause-empty g c =
    subst (λ (L : Recorded). HasEmptyEntry (L ∷ [])) (sym c.into_log-in-Unsat.ensures)
    (empty_entry c.solve.new.self.log c.in-Unsat.entry c.in-Unsat.ensures.found.0)

pub returns-in-Spent-clause-ended : goal.returns-in-Spent-clause-ended
returns-in-Spent-clause-ended g c =
    subst (λ (L : Recorded). IsSpent c.args.formula.now c.args.settings.budget L) (sym c.into_log-log.ensures)
    (search_spent c.args.formula.now c.args.settings.budget c.in_ok-solver.solver c.solve.new.self.log c.in_ok-solver.ensures c.solve.ensures.log
    (subst IsLog c.into_log-log.ensures c.prove_log.ensures) c.in-Spent.ensures.found)

pub unreachable-requires-in-Core : goal.unreachable-requires-in-Core
unreachable-requires-in-Core g c = no_core c.solve.new.self.log c.in-Core.lits.items c.in-Core.entry c.in-Core.ensures.found
