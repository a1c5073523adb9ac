-- The digits of the chunks so far are on their way.
use Rattle.std.proofs.Common.{◌*◌, map, take}
use Rattle.bone_desk.specs.Gives.{Pushed}
use Rattle.model_store.specs.Stores.{model_at}
use Rattle.witness_text.specs.WitnessText.{digit_of}
use Rattle.witness_text.proofs.write.push_values.Given as goal

abbrev pub invariant-loop-chunk : goal.invariant-loop-chunk
invariant-loop-chunk g l =
    Pushed (map digit_of (take (l.chunk * 64) (model_at l.models l.model))) l.fn.buffer l.buffer
    (g.D.Desk.told l.fn.desk) (g.D.Desk.told l.desk)
