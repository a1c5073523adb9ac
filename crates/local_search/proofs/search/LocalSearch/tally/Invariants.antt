-- The clauses tallied so far.
use Rattle.std.proofs.Common.{◌≡◌, ℕ, ◌<◌}
use Rattle.local_search.specs.Cleaned.{clause_at}
use Rattle.local_search.specs.Tallies.{tally_at, true_count, true_sum}
use Rattle.local_search.specs.Searches.{IsSearchOf}
use Rattle.local_search.proofs.search.LocalSearch.tally.Given as goal

abbrev pub invariant-loop-place : goal.invariant-loop-place
invariant-loop-place l = record {
  sizes : IsSearchOf l.tables l.self;
  values : l.self.values ≡ l.fn.self.values;
  held : l.self.held ≡ l.fn.self.held;
  count : (p : ℕ) → p < l.place → (tally_at l.self.counts.tallies p).count ≡ true_count l.self.values (clause_at l.tables.clauses p);
  sum : (p : ℕ) → p < l.place → (tally_at l.self.counts.tallies p).sum ≡ true_sum l.self.values (clause_at l.tables.clauses p);
}
