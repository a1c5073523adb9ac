use Rattle.std.proofs.Common.{◌≡◌, ◌+◌, Bool, [], ◌∷◌, ◌++◌, sym, ap, ◌∙◌, subst, Vec, Global}
use Rattle.cnf_core.specs.Literals.{Literal, Literals}
use Rattle.cnf_core.specs.Formulas.{true_literal}
use Rattle.board_core.specs.Laws.{fixed_literals}
use Rattle.model_store.specs.Stores.{model_at}
use Rattle.run_core.proofs.Closing.{fixed_none, fixed_more, fixed_same}
use Rattle.run_core.proofs.report.fixed_literals.Goals.{then-is_fixed+in_ok-push, else-is_fixed}
use Rattle.run_core.proofs.report.fixed_literals.Goals as goal

pub loop-place-init : goal.loop-place-init
loop-place-init c = c.new-fixes.ensures.items ∙ sym (fixed_none (model_at c.args.models.now 0) c.args.words.now)

pub loop-place-preserved : goal.loop-place-preserved
loop-place-preserved c =
    let a = model_at c.args.models.now 0 in
    let ws = c.args.words.now in
    let n = c.loop-place.place in
    elim c.if-is_fixed.branch [
      | then-is_fixed+in_ok-push w ↦
          let lit : w.new.result ≡ true_literal a (n + 1) =
          w.new.ensures ∙ ap (λ (b : Bool). record { var = n + 1; positive = b }) w.value.ensures.value in
          subst (λ (v : Vec Literal Global). v.items ≡ fixed_literals a ws (n + 1)) (sym w.fixes-is)
          (w.in_ok-push.ensures.items ∙ ap (λ (xs : Literals). xs ++ w.new.result ∷ []) c.loop-place.invariant
          ∙ ap (λ (l : Literal). fixed_literals a ws n ++ l ∷ []) lit
          ∙ sym (fixed_more a ws n (sym c.is_fixed.ensures ∙ w.if-is_fixed.true)))
      | else-is_fixed w ↦
          subst (λ (v : Vec Literal Global). v.items ≡ fixed_literals a ws (n + 1)) (sym w.fixes-is)
          (c.loop-place.invariant ∙ sym (fixed_same a ws n (sym c.is_fixed.ensures ∙ w.if-is_fixed.false)))
    ]
