use Rattle.std.proofs.Common.{◌≡◌, ◌++◌, ◌∷◌, [], ap, ◌∙◌, sym, map, take}
use Rattle.cnf_core.specs.Literals.{Literal, Literals, negated}
use Rattle.lrat_lines.specs.Sets.{has}
use Rattle.lrat_checker.specs.Steps.Assigned.{Assigned}
use Rattle.lrat_checker.proofs.HintLemmas.{complement_found, no_complement_more, assumed_more}
use Rattle.lrat_checker.proofs.hints.assume_false.Goals as goal

pub returns-then-is_false-clause-assumes : goal.returns-then-is_false-clause-assumes
returns-then-is_false-clause-assumes c =
    let lit = c.lit-item.result in
    complement_found c.args.lits.now c.loop-lit.lit-index lit c.loop-lit-test.true c.lit-item.is
    (ap (λ (trues : Literals). has trues (negated (negated lit))) (sym c.loop-lit.invariant.trues)
    ∙ ap (λ (k : Literal). has c.loop-lit.assignment.trues (negated k)) (sym c.negated.ensures)
    ∙ sym c.if-is_false.ensures)

pub loop-lit-preserved : goal.loop-lit-preserved
loop-lit-preserved c =
    let lit = c.lit-item.result in
    record {
      trues = ap (λ (a : Assigned). a.trues) c.in_ok-make_true.ensures.ok
          ∙ ap (λ (k : Literal). c.loop-lit.assignment.trues ++ k ∷ []) c.negated-in-loop-lit.ensures
          ∙ ap (λ (trues : Literals). trues ++ negated lit ∷ []) c.loop-lit.invariant.trues
          ∙ assumed_more c.args.lits.now c.loop-lit.lit-index lit c.loop-lit-test.true c.lit-item.is;
      plain = no_complement_more c.args.lits.now c.loop-lit.lit-index lit c.loop-lit-test.true c.lit-item.is c.loop-lit.invariant.plain
          (ap (λ (trues : Literals). has trues (negated (negated lit))) (sym c.loop-lit.invariant.trues)
          ∙ ap (λ (k : Literal). has c.loop-lit.assignment.trues (negated k)) (sym c.negated.ensures)
          ∙ sym c.if-is_false.ensures);
      codes = c.make_true.ensures.codes ∙ c.loop-lit.invariant.codes;
    }
