use Rattle.std.proofs.Common.{◌≡◌, ℕ, take}
use Rattle.lrat_lines.specs.Proofs.{without}
use Rattle.lrat_checker.specs.Checking.{known_of}
use Rattle.lrat_checker.proofs.checker.forget.Given as goal

abbrev pub invariant-loop-id : goal.invariant-loop-id
invariant-loop-id l = (q : ℕ) → known_of l.known q ≡ without (known_of l.fn.known) (take l.id-index l.ids) q
