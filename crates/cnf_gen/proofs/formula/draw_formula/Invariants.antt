use Rattle.cnf_gen.specs.Steps.Drawn.{IsDrawn}
use Rattle.cnf_gen.proofs.formula.draw_formula.Given as goal

abbrev pub invariant-loop : goal.invariant-loop
invariant-loop l = IsDrawn l.values l.initial.rng l.counter l.formula l.rng
