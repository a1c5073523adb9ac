use Rattle.std.proofs.Common.{◌+◌, ◌<◌, ◌≤◌, Vec, Global, length, ap, ◌∙◌, arith}
use Rattle.std.specs.Vec.{vec_capacity}
use Rattle.model_store.specs.declared.witness.Witness.{Witness}
use Rattle.board_core.specs.Words.{vars_of}
use Rattle.worker_loop.specs.Steps.Dropping.{witness_of}
use Rattle.worker_loop.proofs.Recording.{recorded_none, recorded_on, recorded_off, recorded_all, room_left}
use Rattle.worker_loop.proofs.dropping.record_drops.Goals.{then-has_bit, else-has_bit}
use Rattle.worker_loop.proofs.dropping.record_drops.Goals as goal

abbrev Drops : Type 0
Drops = Vec Witness Global

pub loop-bit-init : goal.loop-bit-init
loop-bit-init c = record {
  items = recorded_none (witness_of c.args.source) c.args.group c.args.won c.args.drops.now.items;
  room = omega arith;
}

pub push_reserved-requires : goal.push_reserved-requires
push_reserved-requires c =
    let fits : length c.args.drops.now.items + length (vars_of c.args.group c.args.won) ≤ vec_capacity c.args.drops.now =
    omega (arith, c.requires.room) in
    let room : length c.loop-bit.drops.items < vec_capacity c.args.drops.now =
    room_left (witness_of c.args.source) c.args.group c.args.won c.loop-bit.bit (vec_capacity c.args.drops.now) c.has_bit.result
    c.args.drops.now.items c.loop-bit.drops.items
    c.loop-bit-test.true c.has_bit.ensures c.if-has_bit.true c.loop-bit.invariant.items fits in
    omega (arith, room, c.loop-bit.invariant.room)

pub loop-bit-preserved : goal.loop-bit-preserved
loop-bit-preserved c =
    elim c.if-has_bit.branch [
      | then-has_bit w ↦ record {
        items = recorded_on (witness_of c.args.source) c.args.group c.args.won c.loop-bit.bit c.has_bit.result c.args.drops.now.items
            c.loop-bit.drops.items
            c.if-has_bit.drops.items c.has_bit.ensures w.if-has_bit.true c.loop-bit.invariant.items
            (ap (λ (d : Drops). d.items) w.drops-is ∙ w.push_reserved.ensures.items);
        room = omega (arith, ap (λ (d : Drops). vec_capacity d) w.drops-is, w.push_reserved.ensures.capacity, c.loop-bit.invariant.room);
      }
      | else-has_bit w ↦ record {
        items = recorded_off (witness_of c.args.source) c.args.group c.args.won c.loop-bit.bit c.has_bit.result c.args.drops.now.items
            c.loop-bit.drops.items
            c.if-has_bit.drops.items c.has_bit.ensures w.if-has_bit.false c.loop-bit.invariant.items
            (ap (λ (d : Drops). d.items) w.drops-is);
        room = omega (arith, ap (λ (d : Drops). vec_capacity d) w.drops-is, c.loop-bit.invariant.room);
      }
    ]

pub returns-clause-items : goal.returns-clause-items
returns-clause-items c =
    recorded_all (witness_of c.args.source) c.args.group c.args.won c.loop-bit.bit c.args.drops.now.items c.loop-bit.drops.items
    (omega arith) c.loop-bit.invariant.items

pub returns-clause-room : goal.returns-clause-room
returns-clause-room c = c.loop-bit.invariant.room
