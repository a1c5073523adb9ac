-- Each literal is false, the first true one, or the same again; the clause's negation of it is the last test.
use Rattle.std.proofs.Common.{◌≡◌, ◌+◌, ◌∷◌, ◌++◌, [], IsTrue, Option, Some, Contains, take, sym, ap, ◌∙◌, subst, rules}
use Rattle.std.proofs.lemmas.List.{take_more, take_all}
use Rattle.cnf_core.specs.Literals.{Literal, negated, is_true}
use Rattle.flip_literals.proofs.Supports.{IsFound, IsOnlyTrue, HasNoTrue, found-false, found-first, found-again, no_support-negated}
use Rattle.flip_literals.proofs.flips.support.Goals as goal
use Rattle.flip_literals.proofs.flips.support.Goals.{then-is_true+in_default, in_default-via-in-Some+else-ne, in_default-via-in_default, else-is_true}

pub loop-lit-preserved : goal.loop-lit-preserved
loop-lit-preserved c =
    let a = c.args.values.now in
    let lits = c.args.lits.now in
    let i = c.loop-lit.lit-index in
    let lit = c.lit-item.result in
    let more : take (i + 1) lits ≡ take i lits ++ lit ∷ [] =
    take_more lits i lit c.loop-lit-test.true ∙ ap (λ (l : Literal). take i lits ++ l ∷ []) (sym c.lit-item.is) in
    let found_is : (found : Option Literal) → c.if-is_true.found ≡ found → IsFound a (take i lits ++ lit ∷ []) found
    → IsFound a (take (i + 1) lits) c.if-is_true.found =
    λ found is there. rw (more, is) there
    in
    elim c.if-is_true.branch [
      | then-is_true+in_default w ↦
          let holds : IsTrue (is_true a lit) = sym c.is_true.ensures ∙ w.if-is_true.true in
          elim w.in_default.branch [
            | in_default-via-in-Some+else-ne u ↦
                let same : u.in-Some.first ≡ lit = search rules in
                let only : IsOnlyTrue a (take i lits) u.in-Some.first = subst (IsFound a (take i lits)) u.in-Some.is c.loop-lit.invariant in
                found_is (Some lit) w.found-is (found-again a (take i lits) u.in-Some.first lit only same)
            | in_default-via-in_default u ↦
                let none : HasNoTrue a (take i lits) = subst (IsFound a (take i lits)) u.in_default.is c.loop-lit.invariant in
                found_is (Some lit) w.found-is (found-first a (take i lits) lit none holds)
          ]
      | else-is_true w ↦
          let fails = sym c.is_true.ensures ∙ w.if-is_true.false in
          found_is c.loop-lit.found w.found-is (found-false a (take i lits) c.loop-lit.found lit c.loop-lit.invariant fails)
    ]

pub returns-in-Some-found : goal.returns-in-Some-found
returns-in-Some-found c =
    let a = c.args.values.now in
    let lits = c.args.lits.now in
    let i = c.loop-lit.lit-index in
    let first = c.in-Some-found.first in
    let only : IsOnlyTrue a (take i lits) first = subst (IsFound a (take i lits)) c.in-Some-found.is c.loop-lit.invariant in
    let whole : take i lits ≡ lits = take_all i lits c.loop-lit-test.false in
    let there : Contains lits (negated first) = search rules in
    no_support-negated a lits first (subst (λ c. IsOnlyTrue a c first) whole only) there
