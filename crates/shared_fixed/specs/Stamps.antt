-- What the origin of a variable tells.
use Rattle.std.specs.Prelude.{◌≡◌, ℕ, ◌+◌, ◌≤◌, Option, Some, None}
use Rattle.board_core.specs.Subjects.{About, Entailed}
use Rattle.board_core.specs.Boards.{origin_view}
use Rattle.candidate_words.specs.Seats.{Sitter, with_view}

-- the origin word that tells a stamp, or none
abbrev pub word_of : Option ℕ → ℕ
word_of None = 0
word_of (Some stamp) = stamp + 1

-- it was the event Origin, which found the word that tells the answer
abbrev pub HasAskedStamp : Sitter → ℕ → Option ℕ → Sitter → Type 0
HasAskedStamp s x answer t = t ≡ with_view s (origin_view x (word_of answer) s.view)

-- a stamp is from 1 to the number of variables, and tells that the variable's phase literal is entailed
pub record TellsStamp (a : About) (x stamp : ℕ) : Type 0 where
  pub low : 1 ≤ stamp
  pub high : stamp ≤ a.formula.vars
  pub entailed : Entailed a x
