use Rattle.std.proofs.Common.{Bool, Contains, if◌then◌else◌, sym, subst, arith}
use Rattle.std.proofs.lemmas.List.Elements.{Contains-get_or}
use Rattle.cnf_core.specs.Literals.{Literal, negated}
use Rattle.trail_core.specs.Trails.{HasLiteral}
use Rattle.assumption_solver.proofs.Sweeps.{split_made, chunk_fixed}
use Rattle.assumption_solver.proofs.search.Search.split.Goals as goal

pub returns-in-Some-false : goal.returns-in-Some-false
returns-in-Some-false c = λ some.
    let t = c.args.self.now.trail in
    let chunk = c.args.query.now.chunk.now in
    let l = c.lit-item.result in
    split_made t chunk l c.requires.trail (omega (arith, c.level.ensures.value, c.if-level-gt0.false))
    (subst (λ (x : Literal). Contains chunk x) (sym c.lit-item.is) (Contains-get_or chunk c.loop-lit.lit-index l c.loop-lit-test.true))
    (subst (λ (b : Bool). HasLiteral t.entries (if b then l else negated l)) c.in-Some-false.field-0-test c.in-Some-false.ensures)

pub returns-in-None-open : goal.returns-in-None-open
returns-in-None-open c =
    chunk_fixed c.args.query.now.chunk.now c.args.self.now.trail c.loop-lit.open c.loop-lit.lit-index c.loop-lit.invariant c.in-None-open.is
    (omega arith) c.if-is_empty.ensures (omega (arith, c.level.ensures.value, c.if-level-gt0.false))
