use Rattle.std.proofs.Common.{arith}
use Rattle.clause_arena.proofs.Sinking.{sunk_start, sunk_removed, sunk_live}
use Rattle.clause_arena.proofs.arena.sink_live.Goals as goal

pub loop-place-init : goal.loop-place-init
loop-place-init c = record {
  sunk = sunk_start c.args.lits.now.items c.args.starts.now.items c.args.marks.now.items c.args.first c.args.to.now.items
      c.requires.laid (omega (arith, c.requires.some)) c.requires.live (omega (arith, c.requires.room.0));
  room = c.requires.room.1;
}

pub loop-place-preserved-then-not-index : goal.loop-place-preserved-then-not-index
loop-place-preserved-then-not-index c = record {
  sunk = sunk_removed c.args.lits.now.items c.args.starts.now.items c.args.marks.now.items c.args.first c.loop-place.place
      c.loop-place.kept c.loop-place.to.items c.push_reserved.new.self.items c.loop-place.lits.items c.loop-place.starts.items
      c.loop-place.marks.items c.index.result.now c.requires.laid (omega (arith, c.len-place-end.ensures))
      c.loop-place.invariant.sunk c.index.ensures c.if-not-index.true c.push_reserved.ensures.items;
  room = omega (arith, c.loop-place.invariant.room, c.push_reserved.ensures.capacity);
}

pub loop-place-preserved : goal.loop-place-preserved
loop-place-preserved c = record {
  sunk = sunk_live c.args.lits.now.items c.args.starts.now.items c.args.marks.now.items c.args.first c.loop-place.place
      c.loop-place.kept c.at.result c.loop-place.to.items c.push_reserved-in-loop-place.new.self.items c.loop-place.lits.items
      c.loop-place.starts.items c.loop-place.marks.items c.sink.new.lits.items c.sink.new.starts.items c.sink.new.marks.items
      c.index.result.now c.requires.laid (omega (arith, c.len-place-end.ensures)) c.loop-place.invariant.sunk
      c.index.ensures c.if-not-index.false c.sink.ensures c.at.ensures c.push_reserved-in-loop-place.ensures.items;
  room = omega (arith, c.loop-place.invariant.room, c.push_reserved-in-loop-place.ensures.capacity);
}
