use Rattle.std.proofs.Common.{ap, ◌∙◌, arith}
use Rattle.trail_core.specs.Trails.{TrailState, with_entry}
use Rattle.trail_core.proofs.Literals.{sign_written}
use Rattle.trail_core.proofs.Pushed.{can_put, room_to_put, held_put}
use Rattle.trail_core.proofs.trail.Trail.put.Goals as goal

pub open-requires : goal.open-requires
open-requires c closed =
    omega (
      arith,
      (room_to_put _ _ _ _ _ _ _ _ _ _ c.args.lit c.args.level c.self.invariant
          (can_put _ _ _ _ c.args.lit c.args.level _ c.self.view_is c.requires.within c.requires.free c.requires.level)).1,
    )

pub push_reserved-requires : goal.push_reserved-requires
push_reserved-requires c =
    omega (
      arith,
      (room_to_put _ _ _ _ _ _ _ _ _ _ c.args.lit c.args.level c.self.invariant
          (can_put _ _ _ _ c.args.lit c.args.level _ c.self.view_is c.requires.within c.requires.free c.requires.level)).0,
    )

pub invariant_of-self : goal.invariant_of-self
invariant_of-self c =
    (held_put _ _ _ _ _ _ _ _ _ _ c.args.lit (record { level = c.args.level; place = c.len-place.result; reason = c.args.reason })
    c.var-var.result c.code.result _ _ _ _ _ c.self.invariant
    (can_put _ _ _ _ c.args.lit c.args.level _ c.self.view_is c.requires.within c.requires.free c.requires.level)
    (omega (arith, c.len-place.ensures)) c.push_reserved.ensures.items c.open.ensures.items c.var-var.ensures.value
    c.code.ensures.value (sign_written c.sign.result c.args.lit c.sign.ensures) c.push_reserved.ensures.capacity c.open.ensures.room).0

pub returns : goal.returns
returns c =
    (held_put _ _ _ _ _ _ _ _ _ _ c.args.lit (record { level = c.args.level; place = c.len-place.result; reason = c.args.reason })
    c.var-var.result c.code.result _ _ _ _ _ c.self.invariant
    (can_put _ _ _ _ c.args.lit c.args.level _ c.self.view_is c.requires.within c.requires.free c.requires.level)
    (omega (arith, c.len-place.ensures)) c.push_reserved.ensures.items c.open.ensures.items c.var-var.ensures.value
    c.code.ensures.value (sign_written c.sign.result c.args.lit c.sign.ensures) c.push_reserved.ensures.capacity c.open.ensures.room).1
    ∙ ap (λ (t : TrailState). with_entry t c.args.lit c.args.level c.args.reason) c.self.view_is
