use Rattle.std.proofs.Common.{subst, ◌≡◌, ◌≢◌, ◌<◌, ◌-◌, ℕ, pos, get_or, length, arith, Option}
use Rattle.cnf_core.specs.Numbers.{Writes}
use Rattle.cnf_core.specs.Literals.{Literal}
use Rattle.cnf_core.proofs.Gathering.{IsGathering, gathering_begun, gathering_literal, gathering_clause, gathering_has_room, gathering_done}
use Rattle.cnf_core.proofs.formula.Formula.of_numbers.Goals as goal
use Rattle.cnf_core.proofs.formula.Formula.of_numbers.Goals.{in-Some+in_ok-push-in-Some, in-None+in_ok-push-in-None}

pub loop-place-init : goal.loop-place-init
loop-place-init c =
    rw (c.new-formula.ensures, c.new-lits.ensures.items) (gathering_begun c.args.vars c.args.numbers.now)

pub push-requires-in-None : goal.push-requires-in-None
push-requires-in-None c =
    gathering_has_room c.args.vars c.args.numbers.now c.loop-place.place c.loop-place.formula c.loop-place.lits.items
    c.loop-place.invariant c.loop-place-test.true c.if-numbers-gt-MAX_CLAUSES.false

pub loop-place-preserved : goal.loop-place-preserved
loop-place-preserved c =
    let vars = c.args.vars in
    let numbers = c.args.numbers.now in
    let place = c.loop-place.place in
    let formula = c.loop-place.formula in
    let lits = c.loop-place.lits.items in
    let so_far = c.loop-place.invariant in
    let here = c.loop-place-test.true in
    elim c.match-branch-2.branch [
      | in-Some+in_ok-push-in-Some w ↦
          let Says : Option Literal → Type 0 = λ found. Writes found vars (get_or numbers place (pos 0)) in
          let writes = subst Says w.in-Some.is c.in_ok-lit.ensures in
          rw (w.formula-is, w.lits-is, w.in_ok-push-in-Some.ensures.items)
          (gathering_literal vars numbers place formula lits w.in-Some.lit so_far here writes.0 writes.1)
      | in-None+in_ok-push-in-None w ↦
          rw (w.formula-is, w.lits-is, w.in_ok-push-in-None.ensures.ok, w.new-lits-in-None.ensures.items)
          (gathering_clause vars numbers place formula lits so_far here
          (subst (λ (found : Option Literal). Writes found vars (get_or numbers place (pos 0))) w.in-None.is c.in_ok-lit.ensures))
    ]

pub returns-then-is_empty-clause-ok : goal.returns-then-is_empty-clause-ok
returns-then-is_empty-clause-ok c =
    let place_is : c.loop-place.place ≡ length c.args.numbers.now = omega arith in
    gathering_done c.args.vars c.args.numbers.now c.loop-place.formula c.loop-place.lits.items
    (subst (λ (place : ℕ). IsGathering c.args.vars c.args.numbers.now place c.loop-place.formula c.loop-place.lits.items)
    place_is c.loop-place.invariant)
    (grind arith)

pub returns-else-is_empty-clause-err : goal.returns-else-is_empty-clause-err
returns-else-is_empty-clause-err c =
    let place_is : c.loop-place.place ≡ length c.args.numbers.now = omega arith in
    subst (λ (place : ℕ). (0 < place) × (get_or c.args.numbers.now (place - 1) (pos 0) ≢ pos 0)) place_is
    (c.loop-place.invariant.open_end (grind arith))
