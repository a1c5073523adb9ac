use Rattle.std.proofs.lemmas.List.{take_rest}
use Rattle.bone_desk.proofs.Steps.{owes_less, writes_more}
use Rattle.bone_desk.proofs.write.write_all.Goals as goal

pub loop-rest-preserved : goal.loop-rest-preserved
loop-rest-preserved g c = record {
  owes = rw (take_rest c.loop-rest.rest.now c.in_ok-moved.moved)
      (owes_less c.in_ok-moved.moved _ c.loop-rest.invariant.owes c.in_ok-moved.ensures.gave);
  only = writes_more c.loop-rest.invariant.only c.write.ensures.only;
}
