-- The clauses raised so far.
use Rattle.std.proofs.Common.{◌≡◌, take}
use Rattle.local_search.specs.Steps.States.{AddsPlaces}
use Rattle.local_search.proofs.search.raise.Given as goal

abbrev pub invariant-loop-place : goal.invariant-loop-place
invariant-loop-place l = record {
  vars : l.counts.vars ≡ l.fn.counts.vars;
  raised : AddsPlaces l.var (take l.place-index l.places) l.fn.counts.tallies l.counts.tallies;
}
