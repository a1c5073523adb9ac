-- The clauses looked at so far don't rest on the variable.
use Rattle.std.proofs.Common.{ℕ, IsTrue, length, get_or}
use Rattle.cnf_core.specs.Literals.{clause_true}
use Rattle.model_check.specs.Flips.{flipped}
use Rattle.flip_literals.specs.Listings.{clause_at}
use Rattle.flip_literals.proofs.Held.{HasCome}
use Rattle.flip_literals.proofs.occurrences.Occurrences.holder.Given as goal

abbrev pub invariant-loop-step : goal.invariant-loop-step
invariant-loop-step l = (k : ℕ) → HasCome l.from l.step (length l.places) k
    → IsTrue (clause_true (flipped l.model l.var) (clause_at l.self.formula (get_or l.places k 0)))
