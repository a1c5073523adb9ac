-- The lines of the drops so far are on their way.
use Rattle.std.proofs.Common.{take}
use Rattle.bone_desk.specs.Gives.{Pushed}
use Rattle.witness_text.specs.WitnessText.{drop_lines, named_drops}
use Rattle.witness_text.proofs.write.push_drops.Given as goal

abbrev pub invariant-loop-witness : goal.invariant-loop-witness
invariant-loop-witness g l =
    Pushed (drop_lines (take l.witness-index (named_drops l.models l.drops))) l.fn.buffer l.buffer
    (g.D.Desk.told l.fn.desk) (g.D.Desk.told l.desk)
