use Rattle.std.proofs.Common.{◌-◌, arith}
use Rattle.worker_loop.proofs.Slices.{part_refl, part_next, going_helped}
use Rattle.worker_loop.proofs.post.Post.go_on_for.Goals as goal

pub loop-slice-init : goal.loop-slice-init
loop-slice-init g c = record {
  post = c.requires.post;
  part = part_refl c.args.self.now;
  most = omega arith;
  some = omega arith;
  short = omega arith;
}

pub returns-in-Found-clause-part : goal.returns-in-Found-clause-part
returns-in-Found-clause-part g c =
    part_next c.args.self.now c.loop-slice.self c.slice.new.self c.loop-slice.invariant.part c.slice.ensures.seat c.slice.ensures.onward
    c.slice.ensures.models c.slice.ensures.log

pub returns-then-left-eq0-clause-part : goal.returns-then-left-eq0-clause-part
returns-then-left-eq0-clause-part g c =
    part_next c.args.self.now c.loop-slice.self c.slice.new.self c.loop-slice.invariant.part c.slice.ensures.seat c.slice.ensures.onward
    c.slice.ensures.models c.slice.ensures.log

pub loop-slice-preserved : goal.loop-slice-preserved
loop-slice-preserved g c =
    going_helped c.args.self.now c.slice.new.self c.help.new.self c.args.conflicts (c.loop-slice.left - c.min-now.result) c.min-slice.result
    (part_next c.args.self.now c.loop-slice.self c.slice.new.self c.loop-slice.invariant.part c.slice.ensures.seat c.slice.ensures.onward
    c.slice.ensures.models c.slice.ensures.log)
    c.help.ensures.post c.help.ensures.same (omega (arith, c.loop-slice.invariant.most, c.slice.ensures.most, c.min-now.ensures))
    (omega (arith, c.min-slice.ensures, c.loop-slice.invariant.some)) (omega (arith, c.min-slice.ensures))
