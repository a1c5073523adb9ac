use Rattle.std.proofs.Common.{◌≡◌, false, take, map}
use Rattle.cnf_core.specs.Literals.{negated}
use Rattle.lrat_lines.specs.Sets.{has_complements}
use Rattle.lrat_checker.proofs.hints.assume_false.Given as goal

-- the literals so far are taken to be false, and none is the negation of another
abbrev pub invariant-loop-lit : goal.invariant-loop-lit
invariant-loop-lit l = record {
  trues : l.assignment.trues ≡ map negated (take l.lit-index l.lits);
  plain : has_complements (take l.lit-index l.lits) ≡ false;
  codes : l.assignment.codes ≡ l.fn.assignment.codes;
}
