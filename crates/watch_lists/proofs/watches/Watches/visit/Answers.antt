use Rattle.std.proofs.Common.{arith}
use Rattle.watch_lists.proofs.Visited.{advanced_trans, reach_kept}
use Rattle.watch_lists.proofs.watches.Watches.visit.Goals as goal

pub loop-at-preserved-in-Keep : goal.loop-at-preserved-in-Keep
loop-at-preserved-in-Keep c =
    let h = c.loop-at.invariant in
    let f = c.in-Keep.ensures.fate in
    let a = c.in-Keep.ensures.advanced in record {
      visiting = f.1;
      advanced = advanced_trans c.args.arena.now c.loop-at.arena c.look.new.arena c.args.trail.now c.loop-at.trail c.look.new.trail
          h.advanced a;
      reach = reach_kept c.loop-at.self c.look.new.self c.loop-at.trail c.look.new.trail c.args.lit h.reach h.visiting.ready.vars
          a.trail.vars f.1.ready.vars;
      inside = omega (arith, f.0, c.loop-at-test.true, c.count.ensures.value);
    }

pub loop-at-preserved : goal.loop-at-preserved
loop-at-preserved c =
    let h = c.loop-at.invariant in
    let f = c.in-Move.ensures.fate in
    let a = c.in-Move.ensures.advanced in record {
      visiting = f.1;
      advanced = advanced_trans c.args.arena.now c.loop-at.arena c.look.new.arena c.args.trail.now c.loop-at.trail c.look.new.trail
          h.advanced a;
      reach = reach_kept c.loop-at.self c.look.new.self c.loop-at.trail c.look.new.trail c.args.lit h.reach h.visiting.ready.vars
          a.trail.vars f.1.ready.vars;
      inside = omega (arith, f.0, c.loop-at-test.true, c.count.ensures.value);
    }

pub returns-in-Falsified-clause-advanced : goal.returns-in-Falsified-clause-advanced
returns-in-Falsified-clause-advanced c =
    advanced_trans c.args.arena.now c.loop-at.arena c.look.new.arena c.args.trail.now c.loop-at.trail c.look.new.trail
    c.loop-at.invariant.advanced c.in-Falsified.ensures.advanced

pub returns-in-NoRoom-clause-advanced : goal.returns-in-NoRoom-clause-advanced
returns-in-NoRoom-clause-advanced c =
    advanced_trans c.args.arena.now c.loop-at.arena c.look.new.arena c.args.trail.now c.loop-at.trail c.look.new.trail
    c.loop-at.invariant.advanced c.in-NoRoom.ensures.advanced
