use Rattle.std.proofs.Common.{◌≡◌, List, Option, false, [], length, get_or, take, inl, inr, sym, ap, ◌∙◌, subst, arith, ℕ}
use Rattle.std.specs.Prelude.{IfSome, IfNone}
use Rattle.cnf_core.specs.Literals.{Literals}
use Rattle.assumption_solver.specs.Answers.{IsEmptyAt}
use Rattle.assumption_solver.specs.Steps.Standing.{Stands, KeepsInputs}
use Rattle.assumption_solver.proofs.Tables.{noted_trans}
use Rattle.assumption_solver.proofs.Refutations.{no_models}
use Rattle.assumption_solver.proofs.Loads.{read_clause, known_input, within_input, keeps_one_more, stands_same, all_taken, solving_loaded}
use Rattle.assumption_solver.proofs.search.Search.load.Goals as goal

pub loop-i-preserved-then-not-make_plain : goal.loop-i-preserved-then-not-make_plain
loop-i-preserved-then-not-make_plain c =
    let d = c.extend_from_slice.new.self.items in
    let at : get_or c.clauses-clauses.result.now c.loop-i.i [] ≡ d =
    read_clause c.clauses-clauses.result.now c.loop-i.i c.index-clauses-i.result c.clear.new.self.items c.deref.result.now d
    c.loop-i-test.true
    c.index-clauses-i.is (c.deref.ensures.value ∙ c.clause.view_is) c.clear.ensures.items c.in_ok-extend_from_slice.ensures.items in
    record {
      loading = c.loop-i.invariant.loading;
      noted = c.loop-i.invariant.noted;
      inputs = keeps_one_more c.loop-i.self.arena c.loop-i.self.trail.entries c.clauses-clauses.result.now c.loop-i.i d c.loop-i-test.true
          at
          c.loop-i.invariant.inputs (inl c.if-not-make_plain.ensures);
    }

pub loop-i-preserved : goal.loop-i-preserved
loop-i-preserved c =
    let d = c.extend_from_slice.new.self.items in
    let a = c.take_plain.new.self.arena in
    let es = c.take_plain.new.self.trail.entries in
    let at : get_or c.clauses-clauses.result.now c.loop-i.i [] ≡ d =
    read_clause c.clauses-clauses.result.now c.loop-i.i c.index-clauses-i.result c.clear.new.self.items c.deref.result.now d
    c.loop-i-test.true
    c.index-clauses-i.is (c.deref.ensures.value ∙ c.clause.view_is) c.clear.ensures.items c.in_ok-extend_from_slice.ensures.items in
    let stands : Stands a es false c.deref-in-loop-i.result.now =
    subst (λ (o : Option ℕ). IfNone o (Stands a es false c.deref-in-loop-i.result.now)) c.in_default.is c.in_ok-id.ensures.stands in
    record {
      loading = c.take_plain.ensures.loading;
      noted = noted_trans c.args.self.now.journal c.loop-i.self.journal c.take_plain.new.self.journal c.loop-i.invariant.noted
          c.take_plain.ensures.noted;
      inputs = keeps_one_more a es c.clauses-clauses.result.now c.loop-i.i d c.loop-i-test.true at
          (c.take_plain.ensures.taken (take c.loop-i.i c.clauses-clauses.result.now) c.loop-i.invariant.inputs)
          (inr (stands_same a es d c.make_plain.new.lits.items c.deref-in-loop-i.result.now c.if-not-make_plain.ensures.0
          c.deref-in-loop-i.ensures.value stands));
    }

pub take_plain-requires-clause-within : goal.take_plain-requires-clause-within
take_plain-requires-clause-within c =
    let d = c.extend_from_slice.new.self.items in
    let cs = c.clauses-clauses.result.now in
    let is = c.clauses-clauses.ensures.value in
    let at : get_or c.args.formula.now.clauses c.loop-i.i [] ≡ d =
    ap (λ (xs : List Literals). get_or xs c.loop-i.i []) (sym is)
    ∙ read_clause cs c.loop-i.i c.index-clauses-i.result c.clear.new.self.items c.deref.result.now d c.loop-i-test.true
    c.index-clauses-i.is (c.deref.ensures.value ∙ c.clause.view_is) c.clear.ensures.items c.in_ok-extend_from_slice.ensures.items in
    within_input c.loop-i.self.journal c.args.formula.now c.loop-i.i d c.make_plain.new.lits.items c.deref-in-loop-i.result.now
    (c.loop-i.invariant.noted.continued.formula ∙ c.requires.formula) c.clauses-clauses.ensures.limits
    (omega (arith, c.loop-i-test.true, ap (λ (xs : List Literals). length xs) is)) at c.if-not-make_plain.ensures.0
    c.deref-in-loop-i.ensures.value

pub take_plain-requires-clause-known : goal.take_plain-requires-clause-known
take_plain-requires-clause-known c =
    let d = c.extend_from_slice.new.self.items in
    let cs = c.clauses-clauses.result.now in
    let is = c.clauses-clauses.ensures.value in
    let at : get_or c.args.formula.now.clauses c.loop-i.i [] ≡ d =
    ap (λ (xs : List Literals). get_or xs c.loop-i.i []) (sym is)
    ∙ read_clause cs c.loop-i.i c.index-clauses-i.result c.clear.new.self.items c.deref.result.now d c.loop-i-test.true
    c.index-clauses-i.is (c.deref.ensures.value ∙ c.clause.view_is) c.clear.ensures.items c.in_ok-extend_from_slice.ensures.items in
    known_input c.loop-i.self.journal c.args.formula.now c.loop-i.i d c.make_plain.new.lits.items c.deref-in-loop-i.result.now
    (c.loop-i.invariant.noted.continued.formula ∙ c.requires.formula)
    (omega (arith, c.loop-i-test.true, ap (λ (xs : List Literals). length xs) is)) at c.if-not-make_plain.ensures.0
    c.deref-in-loop-i.ensures.value

pub returns-in_err-id-clause-noted : goal.returns-in_err-id-clause-noted
returns-in_err-id-clause-noted c =
    noted_trans c.args.self.now.journal c.loop-i.self.journal c.take_plain.new.self.journal c.loop-i.invariant.noted
    c.take_plain.ensures.noted

pub returns-in-Some-clause-noted : goal.returns-in-Some-clause-noted
returns-in-Some-clause-noted c =
    noted_trans c.args.self.now.journal c.loop-i.self.journal c.take_plain.new.self.journal c.loop-i.invariant.noted
    c.take_plain.ensures.noted

pub returns-in-Some-clause-empty : goal.returns-in-Some-clause-empty
returns-in-Some-clause-empty c =
    let L = c.take_plain.new.self.journal in
    let empty : IsEmptyAt L c.in-Some.id = subst (λ (o : Option ℕ). IfSome o (IsEmptyAt L)) c.in-Some.is c.in_ok-id.ensures.empty in
    (empty, no_models L c.in-Some.id c.logged_clause_is_entailed.ensures c.prove_log.ensures empty)

pub returns-clause-solves : goal.returns-clause-solves
returns-clause-solves c =
    solving_loaded c.loop-i.self c.rebuild.new.self c.loop-i.invariant.loading c.in_ok-rebuild.ensures.attached c.rebuild.ensures.vars
    (all_taken c.loop-i.self.arena c.loop-i.self.trail.entries c.args.formula.now c.loop-i.self.journal.formula c.loop-i.i
    (c.loop-i.invariant.noted.continued.formula ∙ c.requires.formula)
    (omega (arith, c.loop-i-test.false, ap (λ (xs : List Literals). length xs) c.clauses-clauses.ensures.value))
    (subst (λ (cs : List Literals). KeepsInputs c.loop-i.self.arena c.loop-i.self.trail.entries (take c.loop-i.i cs))
    c.clauses-clauses.ensures.value
    c.loop-i.invariant.inputs))
