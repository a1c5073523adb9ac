-- One step of the definition, by the line's kind.
use Rattle.std.proofs.Common.{◌≡◌, ℕ, List, ap, ◌∙◌, sym, subst}
use Rattle.cnf_core.specs.Literals.{Literals}
use Rattle.lrat_lines.specs.declared.line.Line.{Line}
use Rattle.lrat_lines.specs.declared.line.Line.TheVariants.{Add, Delete}
use Rattle.lrat_checker.specs.Checking.{Answers}
use Rattle.lrat_checker.proofs.Standing.{answers_add, answers_delete}
use Rattle.lrat_checker.proofs.checker.Checker.line.Goals as goal

pub returns-in-Add-clause-step : goal.returns-in-Add-clause-step
returns-in-Add-clause-step c F lines stands =
    let id = c.in-Add.id in
    let lits = c.as_slice.result.now in
    let hints = c.as_slice-in-Add.result.now in
    let same : lits ≡ c.in-Add.lits = c.as_slice.ensures in
    let same_hints : hints ≡ c.in-Add.hints = c.as_slice-in-Add.ensures in
    let is_line : Add id lits hints ≡ c.args.line.now =
    ap (λ (d : Literals). Add id d hints) same ∙ ap (λ (hs : List ℕ). Add id c.in-Add.lits hs) same_hints ∙ sym c.in-Add.is in
    subst (λ (line : Line). Answers F lines line c.add.new.self c.add.result) is_line
    (answers_add c.args.self.now c.add.new.self F lines id lits hints c.add.result stands c.add.ensures.ok c.add.ensures.refused)

pub returns-in-Delete-clause-step : goal.returns-in-Delete-clause-step
returns-in-Delete-clause-step c F lines stands =
    let id = c.in-Delete.id in
    let ids = c.as_slice-in-Delete.result.now in
    let same : ids ≡ c.in-Delete.ids = c.as_slice-in-Delete.ensures in
    let is_line : Delete id ids ≡ c.args.line.now = ap (λ (is : List ℕ). Delete id is) same ∙ sym c.in-Delete.is in
    subst (λ (line : Line). Answers F lines line c.delete.new.self c.delete.result) is_line
    (answers_delete c.args.self.now c.delete.new.self F lines id ids c.delete.result stands c.delete.ensures.ok c.delete.ensures.refused)
