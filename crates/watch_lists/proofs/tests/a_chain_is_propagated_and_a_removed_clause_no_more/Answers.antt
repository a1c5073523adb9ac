use Rattle.std.proofs.Common.{◌≡◌, ℕ, ap, ◌∙◌, subst, arith}
use Rattle.trail_core.specs.Trails.{TrailState}
use Rattle.watch_lists.specs.Clauses.{AreClean}
use Rattle.watch_lists.specs.Steps.Compacting.{IsCompacted}
use Rattle.watch_lists.proofs.Kept.{ready_backtracked}
use Rattle.watch_lists.proofs.Compacted.{goes_down, ready_compacted}
use Rattle.watch_lists.proofs.tests.a_chain_is_propagated_and_a_removed_clause_no_more.Goals as goal

pub remove-requires : goal.remove-requires
remove-requires g c =
    let h = c.in_ok-step.ensures in
    let three : c.decide.new.watches.vars ≡ 3 = h.ready.vars ∙ h.vars ∙ ap (λ (t : TrailState). t.vars) c.in_ok-trail.ensures in
    subst (λ (n : ℕ). AreClean n c.decide.new.arena) three h.ready.attached.clean

pub follow-requires : goal.follow-requires
follow-requires g c =
    goes_down c.decide.new.arena c.compact.new.self c.in_ok-moves.moves (record {
      cleared = c.remove.new.arena;
      is_cleared = c.remove.ensures.cleared;
      kept = c.in_ok-moves.ensures.kept;
      went = c.in_ok-moves.ensures.moves;
    })

pub decide-requires-2 : goal.decide-requires-2
decide-requires-2 g c =
    let compacted : IsCompacted c.decide.new.arena c.compact.new.self c.in_ok-moves.moves = record {
      cleared = c.remove.new.arena;
      is_cleared = c.remove.ensures.cleared;
      kept = c.in_ok-moves.ensures.kept;
      went = c.in_ok-moves.ensures.moves;
    } in
    ready_compacted c.decide.new.arena c.compact.new.self c.in_ok-moves.moves c.decide.new.watches c.follow.new.self c.backtrack.new.self
    (ready_backtracked c.decide.new.arena c.decide.new.watches c.decide.new.trail c.backtrack.new.self 0 c.in_ok-step.ensures.ready
    (omega arith) c.backtrack.ensures)
    compacted c.follow.ensures
