use Rattle.std.proofs.Common.{◌≡◌, ◌≤◌, ◌^◌, ◌<◌}
use Rattle.search_policy.specs.Luby.{luby_upto, luby_term}
use Rattle.search_policy.proofs.restarts.luby.Given as goal

abbrev pub invariant-loop-rounds : goal.invariant-loop-rounds
invariant-loop-rounds l = (luby_upto l.rounds l.place ≡ luby_term l.initial.i) × (l.size ≡ 2 ^ l.rounds) × (1 ≤ l.place)
    × (l.place < l.size) × (l.rounds ≤ 41)

abbrev pub decreases-loop-rounds : goal.decreases-loop-rounds
decreases-loop-rounds l = l.rounds
