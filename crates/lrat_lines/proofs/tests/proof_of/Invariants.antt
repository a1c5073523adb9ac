use Rattle.std.specs.Prelude.{All}
use Rattle.lrat_lines.specs.Printed.{IsPrintable}
use Rattle.lrat_lines.proofs.tests.proof_of.Given as goal

abbrev pub invariant-loop-text : goal.invariant-loop-text
invariant-loop-text l = All IsPrintable l.lines.items
