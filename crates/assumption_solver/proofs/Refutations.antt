-- A log with the empty clause is one of a formula without models.
use Rattle.std.proofs.Common.{◌≡◌, ℕ, [], subst}
use Rattle.std.proofs.lemmas.Bool.{false≢true}
use Rattle.cnf_core.specs.Formulas.{EntailsClause, models}
use Rattle.cnf_core.proofs.Models.{models-nil, entails_clause_at}
use Rattle.lrat_log.specs.Entries.{Recorded, entry_at, no_entry}
use Rattle.lrat_log.specs.Kept.{IsLog}
use Rattle.lrat_log.specs.Laws.{LoggedIsEntailed}
use Rattle.assumption_solver.specs.Answers.{IsEmptyAt}

pub no_models : (L : Recorded) (id : ℕ) → LoggedIsEntailed → IsLog L → IsEmptyAt L id → models L.formula ≡ []
no_models L id law log at =
    let e = entry_at L at.place in
    let holds : EntailsClause L.formula [] = subst (EntailsClause L.formula) at.literals
    (law L.formula L.entries log.each_next at.place no_entry at.within) in
    models-nil L.formula (λ a model. absurd (false≢true (entails_clause_at L.formula [] a holds model)))
