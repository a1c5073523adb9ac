use Rattle.std.proofs.Common.{arith}
use Rattle.cnf_gen.proofs.Clauses.{clauses_none, clauses_room, clauses_more, clauses_all}
use Rattle.cnf_gen.proofs.formula.draw_formula.Goals as goal

pub loop-init : goal.loop-init
loop-init c = clauses_none c.args.values.now c.args.rng.now c.new-formula.result c.new-formula.ensures

pub push-requires : goal.push-requires
push-requires c =
    clauses_room c.args.values.now c.args.rng.now c.loop.rng c.loop.counter c.args.clauses c.loop.formula
    c.in_ok-draw_clause.field-0 c.loop.invariant (omega arith) (omega arith)
    c.in_ok-draw_clause.ensures.three c.in_ok-draw_clause.ensures.within

pub loop-preserved : goal.loop-preserved
loop-preserved c =
    clauses_more c.args.values.now c.args.rng.now c.loop.rng c.draw_clause.new.rng c.loop.counter c.loop.formula
    c.push.new.self c.in_ok-draw_clause.field-0 c.loop.invariant
    c.in_ok-draw_clause.ensures.value c.in_ok-draw_clause.ensures.rest
    c.in_ok-draw_clause.ensures.three c.in_ok-push.ensures.ok

pub returns : goal.returns
returns c =
    clauses_all c.args.values.now c.args.rng.now c.loop.rng c.loop.counter c.args.clauses c.loop.formula
    c.loop.invariant (omega arith)
