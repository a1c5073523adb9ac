use Rattle.std.proofs.Common.{sym, ap, arith, ◌*◌, ℕ}
use Rattle.search_policy.proofs.LubyTurns.{luby_one}
use Rattle.search_policy.proofs.restarts.Restarts.new.Goals as goal

-- src/restarts.rt:54:5
pub invariant_of-result : goal.invariant_of-result
invariant_of-result c =
    (sym (ap (λ (term : ℕ). 100 * term) luby_one), omega arith, omega arith, omega arith, omega arith)
