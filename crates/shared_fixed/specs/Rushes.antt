-- What the tests know of the seats of many threads.
use Rattle.std.specs.Prelude.{◌≡◌, ℕ, ◌+◌, ◌-◌, ◌^◌, ◌<◌, ◌≤◌}
use Rattle.board_core.specs.Words.{times}
use Rattle.candidate_words.specs.Seats.{Board, Sitter, Sits, IsRoot}

-- the seat after it dropped, which is the same one
pub record IsAfterDrops (b : Board) (s t : Sitter) : Type 0 where
  pub sits : Sits b t
  pub number : t.view.number ≡ s.view.number

-- the root, which may split off so many seats, each with a number that is not out
pub record IsRushing (b : Board) (s : Sitter) (count : ℕ) : Type 0 where
  pub sits : Sits b s
  pub root : IsRoot s
  pub below : (j : ℕ) → 1 ≤ times j s.view.out → j < s.view.next
  pub room : s.view.next + count < 2 ^ 32 - 1

-- the root after it has taken in as many as it split off
pub record IsAfterRush (b : Board) (s t : Sitter) : Type 0 where
  pub sits : Sits b t
  pub root : IsRoot t
  pub out : t.view.out ≡ s.view.out
