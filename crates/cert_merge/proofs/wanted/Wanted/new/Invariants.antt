use Rattle.std.proofs.Common.{◌≡◌, ◌+◌, ◌*◌, length, take, get_or, false}
use Rattle.cnf_core.specs.Literals.{Literal, code_of}
use Rattle.lrat_lines.specs.Sets.{has}
use Rattle.cert_merge.proofs.wanted.Wanted.new.Given as goal

abbrev pub invariant-loop-lit : goal.invariant-loop-lit
invariant-loop-lit l = record {
  size : length l.units.items ≡ 2 * l.formula.vars + 2;
  are : (k : Literal) → get_or l.units.items (code_of k) false ≡ has (take l.lit-index l.keep) k;
}
