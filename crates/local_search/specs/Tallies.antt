-- What a search keeps of each clause, and of each variable.
use Rattle.std.specs.Prelude.{◌≡◌, ◌≢◌, ℕ, ◌<◌, ◌==◌, ◌&&◌, if◌then◌else◌, List, length, replicate, All, AllPairs, Contains, slice_index_or, slice_set}
use Rattle.std.specs.List.{sum_by}
use Rattle.cnf_core.specs.Literals.{Literals, Assignment, is_true}
use Rattle.local_search.specs.Cleaned.{clause_at}
use Rattle.local_search.specs.declared.counts.Tally.{Tally}

-- how many literals of a clause are true, and the sum of their variables
abbrev pub true_count : Assignment → Literals → ℕ
true_count a c = sum_by (λ l. if is_true a l then 1 else 0) c

abbrev pub true_sum : Assignment → Literals → ℕ
true_sum a c = sum_by (λ l. if is_true a l then l.var else 0) c

-- no tally
abbrev pub no_tally : Tally
no_tally = record { count = 2; sum = 0 }

abbrev pub tally_at : List Tally → ℕ → Tally
tally_at tallies place = slice_index_or tallies place no_tally

-- each clause has the tally of its true literals
pub record AreTallies (cs : List Literals) (a : Assignment) (tallies : List Tally) : Type 0 where
  pub each : length tallies ≡ length cs
  pub count : (p : ℕ) → p < length cs → (tally_at tallies p).count ≡ true_count a (clause_at cs p)
  pub sum : (p : ℕ) → p < length cs → (tally_at tallies p).sum ≡ true_sum a (clause_at cs p)

-- 1 for a clause that rests on a variable alone
abbrev pub rests_on : ℕ → Tally → ℕ
rests_on v t = if t.count == 1 && t.sum == v then 1 else 0

-- how many clauses rest on it alone
abbrev pub breaks_of : List Tally → ℕ → ℕ
breaks_of tallies v = sum_by (rests_on v) tallies

-- the list has just the places of the clauses without a true literal, each once
pub record ListsBroken (tallies : List Tally) (broken : List ℕ) : Type 0 where
  pub sound : All (λ p. (p < length tallies) × ((tally_at tallies p).count ≡ 0)) broken
  pub whole : (p : ℕ) → p < length tallies → (tally_at tallies p).count ≡ 0 → Contains broken p
  pub once : AllPairs (λ p q. p ≢ q) broken

-- the tallies of clauses over the variables 1 to vars
pub record Tallied : Type 0 where
  pub vars : ℕ
  pub tallies : List Tally

abbrev pub untouched : (clauses vars : ℕ) → Tallied
untouched clauses vars = record { vars = vars; tallies = replicate clauses no_tally }

abbrev pub with_tally : Tallied → ℕ → Tally → Tallied
with_tally c place t = record c { tallies = slice_set c.tallies place t }
