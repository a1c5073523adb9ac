use Rattle.std.proofs.Common.{ℕ, Bool, List, take, get_or, sym, subst, [], ◌∷◌, ◌++◌, arith}
use Rattle.std.proofs.lemmas.List.{take_more}
use Rattle.cert_merge.specs.Steps.Marking.{AreHintsMarked}
use Rattle.cert_merge.proofs.Marking.{hints_more, hints_skip}
use Rattle.cert_merge.proofs.marks.mark_hints.Goals as goal
use Rattle.cert_merge.proofs.marks.mark_hints.Goals.{then-hint-inputs, else-hint-inputs}

pub loop-hint-preserved : goal.loop-hint-preserved
loop-hint-preserved c =
    let i = c.loop-hint.hint-index in
    let hints = c.args.hints.now in
    let h = get_or hints i 0 in
    subst (λ (hs : List ℕ). AreHintsMarked c.args.inputs hs c.args.marks.now c.if-hint-inputs.marks) (sym (take_more hints i 0 (omega arith)))
    (elim c.if-hint-inputs.branch [
      | then-hint-inputs w ↦
          subst (λ (ms : List Bool). AreHintsMarked c.args.inputs (take i hints ++ h ∷ []) c.args.marks.now ms) (sym w.marks-is)
          (hints_more c.args.inputs (take i hints) c.args.marks.now c.loop-hint.marks h c.loop-hint.invariant (omega arith)
          (c.requires i 0 (omega arith)))
      | else-hint-inputs w ↦
          subst (λ (ms : List Bool). AreHintsMarked c.args.inputs (take i hints ++ h ∷ []) c.args.marks.now ms) (sym w.marks-is)
          (hints_skip c.args.inputs (take i hints) c.args.marks.now c.loop-hint.marks h c.loop-hint.invariant (omega arith))
    ])
