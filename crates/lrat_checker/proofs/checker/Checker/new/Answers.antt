-- The formula's clauses, one after another.
use Rattle.std.proofs.Common.{◌≡◌, ℕ, ◌+◌, ◌<◌, List, [], ◌∷◌, ◌++◌, length, take, get_or, ap, ◌∙◌, sym, subst, arith, length-take}
use Rattle.std.proofs.lemmas.List.{take_more}
use Rattle.cnf_core.specs.Literals.{Literals}
use Rattle.cnf_core.specs.Formulas.{Cnf}
use Rattle.lrat_checker.specs.Checking.{StandsFor}
use Rattle.lrat_checker.specs.Steps.Taking.{Admits, IsFresh}
use Rattle.lrat_checker.proofs.Standing.{stands_clause, stands_fresh}
use Rattle.lrat_checker.proofs.checker.Checker.new.Goals as goal

pub loop-i-init : goal.loop-i-init
loop-i-init c =
    stands_fresh c.in_ok-checker.checker c.args.formula.now
    (subst (λ (vars : ℕ). IsFresh vars c.in_ok-checker.checker) c.vars.ensures.value c.in_ok-checker.ensures)

pub loop-i-preserved : goal.loop-i-preserved
loop-i-preserved c =
    let clauses = c.args.formula.now.clauses in
    let i = c.loop-i.i in
    let items_are = c.clauses-clause-items.ensures.value in
    let F : Cnf = record (c.args.formula.now) { clauses = take i clauses } in
    let lits = c.as_slice.result.now in
    let same : lits ≡ c.clause-item.result = c.as_slice.ensures in
    let lt : i < length clauses = omega (arith, ap length items_are, c.loop-i-test.true) in
    let item = c.clause-item.result in
    let is : item ≡ get_or clauses i item =
    c.clause-item.is ∙ ap (λ (cs : List Literals). get_or cs i item) items_are in
    let count : i + 1 ≡ length (take i clauses) + 1 = omega (arith, length-take i clauses, ap length items_are) in
    let admits = subst (λ (id : ℕ). Admits c.loop-i.checker c.admit.new.self id lits) count c.in_ok-admit.ensures.ok in
    let all : take i clauses ++ lits ∷ [] ≡ take (i + 1) clauses =
    ap (λ (d : Literals). take i clauses ++ d ∷ []) (same ∙ is)
    ∙ sym (take_more clauses i item lt) in
    subst (λ (cs : List Literals). StandsFor c.admit.new.self (record (c.args.formula.now) { clauses = cs }) []) all
    (stands_clause c.loop-i.checker c.admit.new.self F lits c.loop-i.invariant admits)
