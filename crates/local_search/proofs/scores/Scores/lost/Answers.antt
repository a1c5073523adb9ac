-- A listed place is one of a clause.
use Rattle.std.proofs.Common.{◌<◌, ℕ, length, ap, arith}
use Rattle.std.proofs.lemmas.List.Elements.{All-get_or}
use Rattle.cnf_core.specs.Literals.{code_of}
use Rattle.local_search.specs.Scored.{Sizes}
use Rattle.local_search.proofs.Turned.{listed_inside}
use Rattle.local_search.proofs.scores.Scores.lost.Goals as goal

pub weight-weight-requires : goal.weight-weight-requires
weight-weight-requires c =
    let places = c.places-place-items.result.now in
    let cs = c.args.tables.now.clauses in
    let inside = All-get_or (λ (p : ℕ). p < length cs) places c.loop-place.place-index 0 c.loop-place-test.true
    (listed_inside cs (code_of c.args.lit) places c.places-place-items.ensures.places) in
    omega (arith, inside, c.requires.scored.clauses, ap (λ (s : Sizes). s.clauses) c.loop-place.invariant)

pub tally-tally-requires : goal.tally-tally-requires
tally-tally-requires c =
    let places = c.places-place-items.result.now in
    let cs = c.args.tables.now.clauses in
    let inside = All-get_or (λ (p : ℕ). p < length cs) places c.loop-place.place-index 0 c.loop-place-test.true
    (listed_inside cs (code_of c.args.lit) places c.places-place-items.ensures.places) in
    omega (arith, inside, c.requires.counts)
