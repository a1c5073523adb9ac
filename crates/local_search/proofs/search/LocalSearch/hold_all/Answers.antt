-- One literal more is held.
use Rattle.std.proofs.Common.{◌∙◌, length}
use Rattle.local_search.proofs.Found.{held_more}
use Rattle.local_search.proofs.search.LocalSearch.hold_all.Goals as goal

pub loop-lit-preserved : goal.loop-lit-preserved
loop-lit-preserved c = record {
  counts = c.hold.ensures.counts ∙ c.loop-lit.invariant.counts;
  held = held_more (length c.args.self.now.values) c.args.self.now.values c.args.self.now.held c.args.lits.now c.loop-lit.lit-index
      c.lit-item.result c.loop-lit.self.held c.loop-lit.self.values c.hold.new.self.held c.hold.new.self.values c.requires.within
      c.loop-lit.invariant.held c.loop-lit-test.true c.lit-item.is (c.hold.ensures.held c.if-not-hold.false) c.hold.ensures.sizes.0
      c.hold.ensures.sizes.1;
}
