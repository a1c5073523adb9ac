use Rattle.std.proofs.Common.{◌≡◌, map, take}
use Rattle.search_policy.specs.declared.removals.Candidate.{Candidate}
use Rattle.search_policy.proofs.removals.clauses.Given as goal

abbrev pub invariant-loop-i : goal.invariant-loop-i
invariant-loop-i l = l.found.items ≡ map (λ (c : Candidate). c.clause) (take l.i l.candidates)
