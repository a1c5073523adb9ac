use Rattle.std.proofs.Common.{◌≡◌, take}
use Rattle.board_core.specs.Words.{met_words}
use Rattle.board_core.proofs.wins.met_words.Given as goal

-- the words so far
abbrev pub invariant-loop-place : goal.invariant-loop-place
invariant-loop-place l = l.words.items ≡ met_words (take l.place l.left) (take l.place l.right)
