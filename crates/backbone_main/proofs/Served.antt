-- A budget that is enough is never spent.
use Rattle.std.proofs.Common.{ℕ, ◌≤◌, arith}
use Rattle.std.proofs.lemmas.List.Elements.{All-get_or}
use Rattle.cnf_core.specs.Formulas.{Cnf, empty_formula}
use Rattle.lrat_log.specs.Entries.{empty_log}
use Rattle.lrat_log.specs.Laws.{enough, NoLogIsFull}
use Rattle.run_core.specs.Outcomes.{IsSpent}
use Rattle.backbone_main.specs.Texts.{AreSpent}

pub never_spent : NoLogIsFull → (F : Cnf) (count budget : ℕ) → enough F.vars ≤ budget → AreSpent F count budget → ⊥
never_spent law F count budget is_enough are =
    let first = All-get_or (IsSpent F budget) are.logs 0 (empty_log (empty_formula 0)) (omega (arith, are.each, are.some)) are.spent in
    law F budget _ is_enough first.full
