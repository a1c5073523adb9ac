use Rattle.std.proofs.Common.{◌≡◌}
use Rattle.cnf_gen.specs.Planted.{values_drawn}
use Rattle.cnf_gen.proofs.formula.draw_values.Given as goal

abbrev pub invariant-loop : goal.invariant-loop
invariant-loop l = (l.values.items, l.rng) ≡ values_drawn l.counter l.initial.rng
