-- The clauses copied so far lie one behind the other.
use Rattle.std.proofs.Common.{◌≡◌, length, take}
use Rattle.cnf_core.specs.Formulas.{literal_count}
use Rattle.flip_literals.specs.Steps.Flat.{IsFlat}
use Rattle.flip_literals.proofs.flat.FlatClauses.new.Given as goal

abbrev pub invariant-loop-clause : goal.invariant-loop-clause
invariant-loop-clause l = record {
  flat : IsFlat (take l.clause-index l.clause-items) l.starts.items l.lits.items;
  long : length l.lits.items ≡ literal_count (take l.clause-index l.clause-items);
}
