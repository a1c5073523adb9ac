use Rattle.std.proofs.Common.{◌≡◌, length}
use Rattle.lrat_lines.specs.Grammar.{listed}
use Rattle.lrat_lines.specs.Steps.Reading.{ahead, place_item}
use Rattle.lrat_lines.proofs.read.read_ids.Given as goal

-- the ids so far, and what the tokens that are left give
abbrev pub invariant-loop-token : goal.invariant-loop-token
invariant-loop-token l = listed (place_item l.place) l.fn.tokens ≡ ahead l.ids.items (listed (place_item l.place) l.tokens)

abbrev pub decreases-loop-token : goal.decreases-loop-token
decreases-loop-token l = length l.tokens
