use Rattle.watch_lists.proofs.Compacted.{cleared_same, cleared_trans}
use Rattle.assumption_solver.proofs.Thinned.{thinned_same, thinned_trans, thinned_compacted}
use Rattle.assumption_solver.proofs.search.thin.Goals as goal

pub loop-r-init : goal.loop-r-init
loop-r-init c = record { thinned = thinned_same c.args.arena.now; cleared = cleared_same c.args.arena.now }

pub loop-r-preserved : goal.loop-r-preserved
loop-r-preserved c = record {
  thinned = thinned_trans c.args.arena.now c.loop-r.arena c.remove_learnt.new.arena c.loop-r.invariant.thinned c.remove_learnt.ensures.thinned;
  cleared = cleared_trans c.args.arena.now c.loop-r.arena c.remove_learnt.new.arena c.loop-r.invariant.cleared c.remove_learnt.ensures.cleared;
}

pub returns-clause-thinned : goal.returns-clause-thinned
returns-clause-thinned c =
    thinned_trans c.args.arena.now c.loop-r.arena c.compact.new.self c.loop-r.invariant.thinned
    (thinned_compacted c.loop-r.arena c.compact.new.self c.in_ok-moves.ensures.kept)

pub returns-clause-compacted : goal.returns-clause-compacted
returns-clause-compacted c = record {
  cleared = c.loop-r.arena;
  is_cleared = c.loop-r.invariant.cleared;
  kept = c.in_ok-moves.ensures.kept;
  went = c.in_ok-moves.ensures.moves;
}
