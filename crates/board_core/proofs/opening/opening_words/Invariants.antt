use Rattle.std.proofs.Common.{◌≡◌, map}
use Rattle.std.specs.List.{range_with_len}
use Rattle.board_core.specs.Words.{opening_word}
use Rattle.board_core.proofs.opening.opening_words.Given as goal

-- the words of the groups so far
abbrev pub invariant-loop-group : goal.invariant-loop-group
invariant-loop-group l = l.words.items ≡ map (opening_word l.formula) (range_with_len 0 l.group)
