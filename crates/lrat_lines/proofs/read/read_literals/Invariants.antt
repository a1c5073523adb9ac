use Rattle.std.proofs.Common.{◌≡◌, length}
use Rattle.lrat_lines.specs.Grammar.{listed, literal_item}
use Rattle.lrat_lines.specs.Steps.Reading.{ahead}
use Rattle.lrat_lines.proofs.read.read_literals.Given as goal

-- the literals so far, and what the tokens that are left give
abbrev pub invariant-loop-token : goal.invariant-loop-token
invariant-loop-token l = listed literal_item l.fn.tokens ≡ ahead l.lits.items (listed literal_item l.tokens)

abbrev pub decreases-loop-token : goal.decreases-loop-token
decreases-loop-token l = length l.tokens
