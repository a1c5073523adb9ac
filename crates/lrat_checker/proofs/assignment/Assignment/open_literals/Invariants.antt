use Rattle.std.proofs.Common.{◌≡◌, take}
use Rattle.lrat_lines.specs.Propagation.{open_literals}
use Rattle.lrat_checker.specs.Steps.Assigned.{open_of}
use Rattle.lrat_checker.proofs.assignment.Assignment.open_literals.Given as goal

-- the literals so far
abbrev pub invariant-loop-lit : goal.invariant-loop-lit
invariant-loop-lit l = l.found ≡ open_of (open_literals l.self.trues (take l.lit-index l.lits))
