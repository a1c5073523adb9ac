-- A true literal has room, and its place goes before the start of its variable's list.
use Rattle.std.proofs.Common.{◌≤◌, ◌-◌, length, IsTrue, sym, ap, ◌∙◌, subst, arith}
use Rattle.cnf_core.specs.Literals.{Literals, is_true}
use Rattle.flip_literals.proofs.Filled.{clause_read, literal_read, literal_within, start_read, filled-miss, filled-hit, filled-clause}
use Rattle.flip_literals.proofs.listing.fill_clause.Goals as goal
use Rattle.flip_literals.proofs.listing.fill_clause.Goals.{then-is_true, else-is_true}

pub overflow_sub-start : goal.overflow_sub-start
overflow_sub-start c =
    let F = c.args.formula.now in
    let l = c.lit-item.result in
    let lits = c.as_slice-lit-items.result.now in
    let clause = clause_read F c.clauses.result.now c.args.place c.index-clauses-place.result lits c.clauses.ensures.value
    c.requires.place c.index-clauses-place.is c.as_slice-lit-items.ensures in
    let at = literal_read F c.args.place c.loop-lit.lit-index lits l clause c.requires.place c.loop-lit-test.true c.lit-item.is in
    let start = start_read F c.args.first.now c.args.place c.loop-lit.lit-index c.loop-lit.starts.items c.loop-lit.places.items
    c.loop-lit.invariant l c.var-var.result c.index.result.now at (literal_within F c.args.place c.loop-lit.lit-index l c.clauses.ensures.limits at)
    (sym c.is_true.ensures ∙ c.if-is_true.true) c.var-var.ensures.value c.index.ensures in
    start.some

pub index_mut-requires-then-is_true : goal.index_mut-requires-then-is_true
index_mut-requires-then-is_true c =
    let F = c.args.formula.now in
    let l = c.lit-item.result in
    let lits = c.as_slice-lit-items.result.now in
    let clause = clause_read F c.clauses.result.now c.args.place c.index-clauses-place.result lits c.clauses.ensures.value
    c.requires.place c.index-clauses-place.is c.as_slice-lit-items.ensures in
    let at = literal_read F c.args.place c.loop-lit.lit-index lits l clause c.requires.place c.loop-lit-test.true c.lit-item.is in
    let start = start_read F c.args.first.now c.args.place c.loop-lit.lit-index c.loop-lit.starts.items c.loop-lit.places.items
    c.loop-lit.invariant l c.var-var.result c.index.result.now at (literal_within F c.args.place c.loop-lit.lit-index l c.clauses.ensures.limits at)
    (sym c.is_true.ensures ∙ c.if-is_true.true) c.var-var.ensures.value c.index.ensures in
    let inside = start.inside in
    omega arith

pub loop-lit-preserved : goal.loop-lit-preserved
loop-lit-preserved c =
    let F = c.args.formula.now in
    let a = c.args.first.now in
    let place = c.args.place in
    let j = c.loop-lit.lit-index in
    let l = c.lit-item.result in
    let lits = c.as_slice-lit-items.result.now in
    let clause = clause_read F c.clauses.result.now place c.index-clauses-place.result lits c.clauses.ensures.value
    c.requires.place c.index-clauses-place.is c.as_slice-lit-items.ensures in
    let at = literal_read F place j lits l clause c.requires.place c.loop-lit-test.true c.lit-item.is in
    let within = literal_within F place j l c.clauses.ensures.limits at in
    elim c.if-is_true.branch [
      | then-is_true w ↦
          let holds : IsTrue (is_true a l) = sym c.is_true.ensures ∙ w.if-is_true.true in
          let start = start_read F a place j c.loop-lit.starts.items c.loop-lit.places.items c.loop-lit.invariant l
          w.var-var.result w.index.result.now at within holds w.var-var.ensures.value w.index.ensures in
          rw (w.starts-is, w.places-is, w.var-var.ensures.value)
          (filled-hit F a place j c.loop-lit.starts.items c.loop-lit.places.items l (w.index.result.now - 1)
          c.loop-lit.invariant at within holds (ap (λ n. n - 1) start.is))
      | else-is_true w ↦
          rw (w.starts-is, w.places-is)
          (filled-miss F a place j c.loop-lit.starts.items c.loop-lit.places.items l c.loop-lit.invariant at
          (sym c.is_true.ensures ∙ w.if-is_true.false))
    ]

pub returns : goal.returns
returns c =
    let F = c.args.formula.now in
    let lits = c.as_slice-lit-items.result.now in
    let clause = clause_read F c.clauses.result.now c.args.place c.index-clauses-place.result lits c.clauses.ensures.value
    c.requires.place c.index-clauses-place.is c.as_slice-lit-items.ensures in
    filled-clause F c.args.first.now c.args.place c.loop-lit.lit-index c.loop-lit.starts.items c.loop-lit.places.items
    c.loop-lit.invariant c.requires.place
    (subst (λ (d : Literals). length d ≤ c.loop-lit.lit-index) clause c.loop-lit-test.false)
