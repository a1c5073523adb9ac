-- A literal has room, and the place goes before the start of its list.
use Rattle.std.proofs.Common.{◌≤◌, ◌-◌, length, ap, subst, arith}
use Rattle.cnf_core.specs.Literals.{Literals}
use Rattle.local_search.proofs.Filled.{literal_read, start_read, filled-more, filled-clause}
use Rattle.local_search.proofs.listing.fill_clause.Goals as goal

pub overflow_sub-start : goal.overflow_sub-start
overflow_sub-start c =
    let m = length c.args.starts.now.items in
    let at = literal_read m c.args.clauses.now c.args.place c.loop-lit.lit-index c.get-lit-items.result.now c.lit-item.result c.code-code.result
    c.requires.clauses c.get-lit-items.ensures c.requires.place c.loop-lit-test.true c.lit-item.is c.code-code.ensures.value
    c.code-code.ensures.range.0 in
    let start = start_read m c.args.clauses.now c.args.place c.loop-lit.lit-index c.loop-lit.starts.items c.loop-lit.places.items
    c.loop-lit.invariant c.lit-item.result c.code-code.result c.index.result.now at c.index.ensures in
    start.some

pub index_mut-requires-in-loop-lit : goal.index_mut-requires-in-loop-lit
index_mut-requires-in-loop-lit c =
    let m = length c.args.starts.now.items in
    let at = literal_read m c.args.clauses.now c.args.place c.loop-lit.lit-index c.get-lit-items.result.now c.lit-item.result c.code-code.result
    c.requires.clauses c.get-lit-items.ensures c.requires.place c.loop-lit-test.true c.lit-item.is c.code-code.ensures.value
    c.code-code.ensures.range.0 in
    let start = start_read m c.args.clauses.now c.args.place c.loop-lit.lit-index c.loop-lit.starts.items c.loop-lit.places.items
    c.loop-lit.invariant c.lit-item.result c.code-code.result c.index.result.now at c.index.ensures in
    let inside = start.inside in
    omega arith

pub loop-lit-preserved : goal.loop-lit-preserved
loop-lit-preserved c =
    let m = length c.args.starts.now.items in
    let at = literal_read m c.args.clauses.now c.args.place c.loop-lit.lit-index c.get-lit-items.result.now c.lit-item.result c.code-code.result
    c.requires.clauses c.get-lit-items.ensures c.requires.place c.loop-lit-test.true c.lit-item.is c.code-code.ensures.value
    c.code-code.ensures.range.0 in
    let start = start_read m c.args.clauses.now c.args.place c.loop-lit.lit-index c.loop-lit.starts.items c.loop-lit.places.items
    c.loop-lit.invariant c.lit-item.result c.code-code.result c.index.result.now at c.index.ensures in
    filled-more m c.args.clauses.now c.args.place c.loop-lit.lit-index c.loop-lit.starts.items c.loop-lit.places.items c.lit-item.result
    c.code-code.result (c.index.result.now - 1) c.loop-lit.invariant at (ap (λ n. n - 1) start.is)

pub returns : goal.returns
returns c =
    filled-clause (length c.args.starts.now.items) c.args.clauses.now c.args.place c.loop-lit.lit-index c.loop-lit.starts.items
    c.loop-lit.places.items c.loop-lit.invariant c.requires.place
    (subst (λ (d : Literals). length d ≤ c.loop-lit.lit-index) c.get-lit-items.ensures c.loop-lit-test.false)
