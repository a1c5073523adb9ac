use Rattle.std.proofs.Common.{◌∙◌, sym, arith}
use Rattle.conflict_analysis.proofs.Marking.{some_left, counted_down_to}
use Rattle.conflict_analysis.proofs.Traces.{traced_on, traced_to_end}
use Rattle.conflict_analysis.proofs.walk.Walk.trace.Goals as goal

pub last_seen-end-requires-clause-some : goal.last_seen-end-requires-clause-some
last_seen-end-requires-clause-some c =
    some_left c.args.trail.now.entries c.loop-self.end c.loop-self.self c.loop-self.invariant.counted
    (omega (arith, c.loop-self-test.true, c.count.ensures))

pub visit-requires : goal.visit-requires
visit-requires c =
    let last = c.last_seen-end.ensures in record {
      can_trace = record {
        trail = c.requires.can_trace.trail;
        size = c.loop-self.invariant.size ∙ c.requires.can_trace.size;
        reasons = c.requires.can_trace.reasons;
      };
      within = omega (arith, last.before, c.loop-self.invariant.within, c.requires.within);
      met = last.met;
      counted = counted_down_to c.args.trail.now.entries c.loop-self.end c.last_seen-end.result c.loop-self.self
          c.loop-self.invariant.counted last;
    }

pub loop-self-preserved : goal.loop-self-preserved
loop-self-preserved c =
    let last = c.last_seen-end.ensures in record {
      size = c.in_ok-visit.ensures.size ∙ c.loop-self.invariant.size;
      within = omega (arith, last.before, c.loop-self.invariant.within);
      counted = c.in_ok-visit.ensures.counted;
      traced = λ bound own h.
          traced_on c.args.arena.now c.args.trail.now c.args.top bound own c.loop-self.end c.last_seen-end.result c.loop-self.self
          c.visit.new.self c.requires.within last c.in_ok-visit.ensures.visited (c.loop-self.invariant.traced bound own h);
    }

pub returns-clause-traced : goal.returns-clause-traced
returns-clause-traced c = λ bound own h.
    traced_to_end c.args.arena.now c.args.trail.now.entries c.args.top bound own c.loop-self.end c.loop-self.self
    c.loop-self.invariant.counted (omega (arith, c.loop-self-test.false, c.count.ensures)) (c.loop-self.invariant.traced bound own h)
