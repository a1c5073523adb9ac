-- The clauses lowered so far.
use Rattle.std.proofs.Common.{◌≡◌, take}
use Rattle.local_search.specs.Steps.States.{AddsPlaces}
use Rattle.local_search.proofs.search.lower.Given as goal

abbrev pub invariant-loop-place : goal.invariant-loop-place
invariant-loop-place l = record {
  vars : l.counts.vars ≡ l.fn.counts.vars;
  lowered : AddsPlaces l.var (take l.place-index l.places) l.counts.tallies l.fn.counts.tallies;
}
