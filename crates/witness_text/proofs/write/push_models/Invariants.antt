-- The lines of the models so far are on their way.
use Rattle.std.proofs.Common.{take}
use Rattle.bone_desk.specs.Gives.{Pushed}
use Rattle.witness_text.specs.WitnessText.{model_lines}
use Rattle.witness_text.proofs.write.push_models.Given as goal

abbrev pub invariant-loop-model : goal.invariant-loop-model
invariant-loop-model g l =
    Pushed (model_lines (take l.model l.models.models)) l.fn.buffer l.buffer (g.D.Desk.told l.fn.desk) (g.D.Desk.told l.desk)
