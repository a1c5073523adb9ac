use Rattle.std.proofs.Common.{◌≡◌, ◌<◌, length, ⊎_elim, arith}
use Rattle.watch_lists.proofs.Kept.{ready_backtracked, quiet_backtracked}
use Rattle.propagation_bench.proofs.rounds.run.Goals as goal

pub loop-round-preserved : goal.loop-round-preserved
loop-round-preserved c =
    let h = c.in_ok-descend.ensures in
    let b = c.backtrack.ensures in record {
      ready = ready_backtracked c.descend.new.arena c.descend.new.watches c.descend.new.trail c.backtrack.new.self 0 h.ready
          (omega arith) b;
      quiet = ⊎_elim
          (λ (up : 0 < c.descend.new.trail.level).
          quiet_backtracked c.descend.new.arena c.descend.new.watches c.descend.new.trail c.backtrack.new.self 0 h.ready up b)
          (λ (quiet : c.descend.new.trail.gone ≡ length c.descend.new.trail.entries). omega (arith, quiet, b.gone, b.fits))
          h.quiet;
    }
