use Rattle.std.proofs.Common.{◌≡◌, ◌^◌, length, refl, subst, sym, ap, ◌∙◌, true, false, add-one, arith}
use Rattle.std.proofs.lemmas.Bool.{false_from_ne_true, false≢true}
use Rattle.cnf_core.specs.Literals.{AreWithin, all_true}
use Rattle.cnf_core.specs.Formulas.{IsModel}
use Rattle.backbone_main.specs.Steps.Numbered.{assignment_at}
use Rattle.backbone_main.proofs.Narrowing.{holds_at, is_model_at, IsKnownBelow, IsNarrowed, IsKnownBelow-skip, IsKnownBelow-model}
use Rattle.backbone_main.proofs.Narrowing.{within_of_IsKnownBelow, unsatisfiable_of_IsKnownBelow, backbone_of_IsKnownBelow}
use Rattle.backbone_main.proofs.enumeration.common_literals.Goals as goal
use Rattle.backbone_main.proofs.enumeration.common_literals.Goals.{then-is_model+in_ok-narrowed, else-is_model}

pub narrowed-requires-clause-within : goal.narrowed-requires-clause-within
narrowed-requires-clause-within c = λ lits is.
    let long : length c.write_assignment.new.values ≡ c.args.formula.now.vars =
    c.write_assignment.ensures.len ∙ c.loop-number.invariant.long in
    subst (λ n. AreWithin n lits.items) (sym long)
    (within_of_IsKnownBelow c.args.formula.now c.loop-number.number c.loop-number.common lits c.loop-number.invariant.known is)

pub loop-number-preserved : goal.loop-number-preserved
loop-number-preserved c =
    let F = c.args.formula.now in
    let k = c.loop-number.number in
    let values = c.write_assignment.new.values in
    let known = c.loop-number.invariant.known in
    let long : length values ≡ F.vars = c.write_assignment.ensures.len ∙ c.loop-number.invariant.long in
    let is : values ≡ assignment_at F.vars k =
    c.write_assignment.ensures.value ∙ ap (λ n. assignment_at n k) c.loop-number.invariant.long in
    record {
      long = long;
      known = elim c.if-is_model.branch [
        | then-is_model+in_ok-narrowed w ↦
            let lits = w.in_ok-narrowed.field-0 in
            let model : IsModel F values = w.if-is_model.ensures.model.0 refl in
            let holds : holds_at F k ≡ true = subst (λ a. all_true a F.clauses ≡ true) is model.satisfied in
            let narrowed : IsNarrowed (assignment_at F.vars k) F.vars c.loop-number.common lits.items =
            subst (λ a. IsNarrowed a F.vars c.loop-number.common lits.items) is
            (subst (λ n. IsNarrowed values n c.loop-number.common lits.items) long w.in_ok-narrowed.ensures) in
            rw (w.common-is, add-one) (IsKnownBelow-model F k c.loop-number.common lits holds known narrowed)
        | else-is_model w ↦
            let fails : holds_at F k ≡ false =
            false_from_ne_true (holds_at F k)
            (λ holds. false≢true (w.if-is_model.ensures.model.1 (subst (λ a. IsModel F a) (sym is) (is_model_at F k holds)))) in
            rw (w.common-is, add-one) (IsKnownBelow-skip F k c.loop-number.common fails known)
      ];
    }

pub returns-clause-unsatisfiable : goal.returns-clause-unsatisfiable
returns-clause-unsatisfiable c =
    let F = c.args.formula.now in
    let end : c.loop-number.number ≡ c.assignment_count-number-end.result = omega arith in
    let all : c.loop-number.number ≡ 2 ^ F.vars =
    end ∙ c.assignment_count-number-end.ensures ∙ ap (λ n. 2 ^ n) c.vars.ensures.value in
    unsatisfiable_of_IsKnownBelow F c.loop-number.common
    (subst (λ k. IsKnownBelow F k c.loop-number.common) all c.loop-number.invariant.known)

pub returns-clause-backbone : goal.returns-clause-backbone
returns-clause-backbone c =
    let F = c.args.formula.now in
    let end : c.loop-number.number ≡ c.assignment_count-number-end.result = omega arith in
    let all : c.loop-number.number ≡ 2 ^ F.vars =
    end ∙ c.assignment_count-number-end.ensures ∙ ap (λ n. 2 ^ n) c.vars.ensures.value in
    backbone_of_IsKnownBelow F c.loop-number.common
    (subst (λ k. IsKnownBelow F k c.loop-number.common) all c.loop-number.invariant.known)
