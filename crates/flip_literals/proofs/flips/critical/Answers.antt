-- Each clause adds the mark of the literal that it rests on, or none.
use Rattle.std.proofs.Common.{◌≡◌, ◌+◌, ◌∷◌, ◌++◌, [], List, Contains, take, length, sym, ap, ◌∙◌, subst}
use Rattle.std.proofs.lemmas.List.Elements.{All-contains}
use Rattle.std.proofs.lemmas.List.{take_more, take_all}
use Rattle.cnf_core.specs.Literals.{Literals, IsWithin, AreWithin}
use Rattle.flip_literals.specs.Steps.Supports.{RestsOn, IsSupport}
use Rattle.flip_literals.proofs.Marked.{marked-none, marked-some, critical_marked}
use Rattle.flip_literals.proofs.flips.critical.Goals as goal
use Rattle.flip_literals.proofs.flips.critical.Goals.{in-Some, in_default}

pub loop-clause-preserved : goal.loop-clause-preserved
loop-clause-preserved c =
    let a = c.args.model.now in
    let clauses = c.clauses-clause-items.result.now in
    let i = c.loop-clause.clause-index in
    let clause = c.clause-item.result in
    let more : take (i + 1) clauses ≡ take i clauses ++ clause ∷ [] =
    take_more clauses i clause c.loop-clause-test.true ∙ ap (λ (d : Literals). take i clauses ++ d ∷ []) (sym c.clause-item.is) in
    let is : c.deref.result.now ≡ clause = c.deref.ensures.value ∙ c.clause.view_is in
    let support : IsSupport a clause c.support.result = subst (λ d. IsSupport a d c.support.result) is c.support.ensures in
    let here : Contains c.args.formula.now.clauses clause =
    subst (λ (ds : List Literals). Contains ds clause) c.clauses-clause-items.ensures.value
    (i, c.loop-clause-test.true, sym c.clause-item.is) in
    let within : AreWithin (length a) clause =
    rw c.requires.model.values
    (All-contains (AreWithin c.args.formula.now.vars) c.args.formula.now.clauses clause
    c.clauses-clause-items.ensures.limits.within here) in
    rw more
    (elim c.match-support.branch [
      | in-Some w ↦
          let lit = w.in-Some.lit in
          let rests : RestsOn a clause lit = subst (IsSupport a clause) w.in-Some.is support in
          let lit_within : IsWithin (length a) lit = All-contains (IsWithin (length a)) clause lit within rests.critical.present in
          rw (w.marks-is, w.mark.ensures, w.var.ensures.value)
          (marked-some (length a) a (take i clauses) clause c.loop-clause.marks lit c.loop-clause.invariant rests lit_within.low lit_within.high)
      | in_default w ↦
          rw w.marks-is
          (marked-none (length a) a (take i clauses) clause c.loop-clause.marks c.loop-clause.invariant
          (subst (IsSupport a clause) w.in_default.is support))
    ])

pub returns : goal.returns
returns c =
    let clauses = c.clauses-clause-items.result.now in
    let all : take c.loop-clause.clause-index clauses ≡ c.args.formula.now.clauses =
    take_all c.loop-clause.clause-index clauses c.loop-clause-test.false ∙ c.clauses-clause-items.ensures.value in
    critical_marked c.args.formula.now c.args.model.now c.loop-clause.marks c.clauses-clause-items.ensures.limits.within c.requires.model
    (rw (c.requires.model.values, all) at c.loop-clause.invariant)
