use Rattle.std.proofs.Common.{◌≡◌, ◌+◌, ◌≤◌}
use Rattle.std.specs.Vec.Iter.{into_iter_len}
use Rattle.run_core.specs.Steps.Crews.{IsHiring}
use Rattle.run_core.proofs.crew.Crew.call_others.Given as goal

abbrev pub invariant-loop-number : goal.invariant-loop-number
invariant-loop-number g l =
    (l.self.settings ≡ l.fn.self.settings) × (l.self.words ≡ l.fn.self.words)
    × (l.fn.self.settings.workers ≤ l.number + into_iter_len l.others)
    × IsHiring l.fn.self.words l.fn.self.settings.workers l.fn.self.settings.budget l.number l.self.slots.items
