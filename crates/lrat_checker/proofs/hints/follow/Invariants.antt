use Rattle.std.proofs.Common.{◌≡◌, drop}
use Rattle.lrat_lines.specs.Propagation.{by_hints}
use Rattle.lrat_checker.specs.Checking.{known_of}
use Rattle.lrat_checker.proofs.hints.follow.Given as goal

-- the hints that are left do from here what all hints do
abbrev pub invariant-loop-hint : goal.invariant-loop-hint
invariant-loop-hint l = record {
  rest : by_hints (known_of l.known) l.hints l.fn.assignment.trues
      ≡ by_hints (known_of l.known) (drop l.hint-index l.hints) l.assignment.trues;
  codes : l.assignment.codes ≡ l.fn.assignment.codes;
}
