use Rattle.std.proofs.Common.{take}
use Rattle.cert_merge.specs.Steps.Marking.{AreHintsMarked}
use Rattle.cert_merge.proofs.marks.mark_hints.Given as goal

abbrev pub invariant-loop-hint : goal.invariant-loop-hint
invariant-loop-hint l = AreHintsMarked l.inputs (take l.hint-index l.hints) l.initial.marks l.marks
