use Rattle.std.proofs.Common.{◌≡◌, ◌+◌, ◌-◌, ◌*◌}
use Rattle.board_core.specs.Words.{word_from}
use Rattle.board_core.proofs.opening.opening_word.Given as goal

-- the word has the bits of the last variables
abbrev pub invariant-loop-done : goal.invariant-loop-done
invariant-loop-done l = (l.word ≡ word_from l.formula (l.last + 1 - l.done) l.done) × (l.last ≡ 32 * l.fn.group + 32)
