-- A table of atomic words as a board: the words of the groups, then the origin words of the variables.
use Rattle.std.specs.Prelude.{ℕ, take, drop}
use Rattle.atomic_table.specs.Table.{State}
use Rattle.board_core.specs.Subjects.{About, groups}
use Rattle.board_core.specs.Boards.{State as BoardState}
use Rattle.board_core.specs.Rules.{IsKept}
use Rattle.board_core.specs.declared.view.View.{View}

abbrev pub board_of : About → State ℕ View → BoardState
board_of a t = record {
  words = take (groups a.formula.vars) t.words;
  origins = drop (groups a.formula.vars) t.words;
  views = t.views;
}

-- the table keeps the board's rule and that of its clocks
abbrev pub Holds : About → State ℕ View → Type 0
Holds a t = IsKept a (board_of a t)
