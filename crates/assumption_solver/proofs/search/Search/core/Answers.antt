use Rattle.std.proofs.Common.{◌≡◌, ◌∙◌, ◌∷◌, [], List, ℕ, length, get_or, sym, ap, subst}
use Rattle.cnf_core.specs.Literals.{Literals}
use Rattle.lrat_log.specs.declared.kind.Kind.TheVariants.{Unit as UnitKind, Core as CoreKind}
use Rattle.lrat_log.specs.Kept.{IsShown}
use Rattle.assumption_solver.specs.Logs.{IsEntryAt}
use Rattle.assumption_solver.specs.Answers.{IsCoreFor}
use Rattle.assumption_solver.proofs.Back.{solving_again}
use Rattle.assumption_solver.proofs.Learnt.{single}
use Rattle.assumption_solver.proofs.Refuting.{core_is_shown, core_for, core_of_unit, core_of_core}
use Rattle.assumption_solver.proofs.search.Search.core.Goals as goal

pub unit-requires : goal.unit-requires
unit-requires c =
    let s = c.args.self.now in
    let l = c.in_ok-lits.field-0 in
    let items : c.lits.inside.lits.items ≡ l.lits = c.lits.view_is in
    let read : c.index.result.now ≡ get_or l.lits 0 c.index.result.now =
    c.index.ensures ∙ ap (λ (d : Literals). get_or d 0 c.index.result.now) items in
    let one : l.lits ≡ c.index.result.now ∷ [] = single l.lits c.index.result.now read (sym c.len.ensures ∙ c.if-len-eq1.true) in
    subst (λ (hs : List ℕ). IsShown s.journal.formula s.journal.entries hs (c.index.result.now ∷ [])) (sym c.as_slice.ensures)
    (subst (λ (d : Literals). IsShown s.journal.formula s.journal.entries l.hints d) one
    (core_is_shown s.analyser s.settled s.arena s.watches s.trail s.journal s.epochs c.args.query.now.assume.now c.args.query.now.chunk.now
    c.args.lit l.lits l.hints c.requires.solves c.requires.trail c.requires.failed c.in_ok-lits.ensures.core))

pub core-requires : goal.core-requires
core-requires c =
    let s = c.args.self.now in
    let l = c.in_ok-lits.field-0 in
    subst (λ (hs : List ℕ). IsShown s.journal.formula s.journal.entries hs c.as_slice-2.result.now) (sym c.as_slice-3.ensures)
    (subst (λ (d : Literals). IsShown s.journal.formula s.journal.entries l.hints d) (sym c.as_slice-2.ensures)
    (core_is_shown s.analyser s.settled s.arena s.watches s.trail s.journal s.epochs c.args.query.now.assume.now c.args.query.now.chunk.now
    c.args.lit l.lits l.hints c.requires.solves c.requires.trail c.requires.failed c.in_ok-lits.ensures.core))

pub returns-then-len-eq1-clause-solves : goal.returns-then-len-eq1-clause-solves
returns-then-len-eq1-clause-solves c =
    let s = c.args.self.now in
    solving_again s.analyser c.final_core.new.self s.settled s.arena s.watches s.trail s.journal c.unit.new.self s.epochs c.requires.solves
    c.final_core.ensures.same c.unit.ensures.noted

pub returns-then-len-eq1-clause-found : goal.returns-then-len-eq1-clause-found
returns-then-len-eq1-clause-found c = λ budget.
    let s = c.args.self.now in
    let l = c.in_ok-lits.field-0 in
    let items : c.lits.inside.lits.items ≡ l.lits = c.lits.view_is in
    let read : c.index.result.now ≡ get_or l.lits 0 c.index.result.now =
    c.index.ensures ∙ ap (λ (d : Literals). get_or d 0 c.index.result.now) items in
    let size : length l.lits ≡ 1 = sym c.len.ensures ∙ c.if-len-eq1.true in
    let one : l.lits ≡ c.index.result.now ∷ [] = single l.lits c.index.result.now read size in
    subst (λ (d : Literals). IsCoreFor c.unit.new.self c.args.query.now.assume.now d c.in_ok-entry.entry) (sym items)
    (core_for c.unit.new.self c.in_ok-entry.entry c.args.query.now.assume.now c.args.query.now.chunk.now s.arena s.trail c.args.lit l.lits l.hints
    c.requires.trail c.requires.guided c.requires.failed c.in_ok-lits.ensures.core
    (core_of_unit c.unit.new.self c.in_ok-entry.entry l.lits size
    (subst (λ (d : Literals). IsEntryAt c.unit.new.self c.in_ok-entry.entry UnitKind d) (sym one) c.in_ok-entry.ensures.unit)))

pub returns-clause-solves : goal.returns-clause-solves
returns-clause-solves c =
    let s = c.args.self.now in
    solving_again s.analyser c.final_core.new.self s.settled s.arena s.watches s.trail s.journal c.core.new.self s.epochs c.requires.solves
    c.final_core.ensures.same c.core.ensures.noted

pub returns-clause-found : goal.returns-clause-found
returns-clause-found c = λ budget.
    let s = c.args.self.now in
    let l = c.in_ok-lits.field-0 in
    let items : c.lits.inside.lits.items ≡ l.lits = c.lits.view_is in
    subst (λ (d : Literals). IsCoreFor c.core.new.self c.args.query.now.assume.now d c.in_ok-entry-2.entry) (sym items)
    (core_for c.core.new.self c.in_ok-entry-2.entry c.args.query.now.assume.now c.args.query.now.chunk.now s.arena s.trail c.args.lit l.lits l.hints
    c.requires.trail c.requires.guided c.requires.failed c.in_ok-lits.ensures.core
    (core_of_core c.core.new.self c.in_ok-entry-2.entry l.lits (λ one. c.if-len-eq1.false (c.len.ensures ∙ one))
    (subst (λ (d : Literals). IsEntryAt c.core.new.self c.in_ok-entry-2.entry CoreKind d) c.as_slice-2.ensures c.in_ok-entry-2.ensures.core)))
