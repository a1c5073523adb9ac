-- A table of words and a seat at it, as contracts see them, and what each step tells its seat.
use Rattle.std.specs.Prelude.{◌≡◌, ℕ, suc, ◌+◌, ◌*◌, ◌<◌, ◌≤◌, slice_index}
use Rattle.std.specs.Int.{bit_at}
use Rattle.atomic_table.specs.Seated.{TableId}
use Rattle.board_core.specs.Subjects.{About, Entailed}
use Rattle.board_core.specs.Words.{Earlier, cleared, newly, times, named}
use Rattle.board_core.specs.Boards.{load_view, drop_view, fix_view, origin_view}
use Rattle.board_core.specs.Rules.{IsView, IsSound}
use Rattle.board_core.specs.declared.view.View.{View}

-- which table it is, and what it was opened for
pub record Board : Type 0 where
  pub table : TableId
  pub about : About

-- the table of a seat, and its view
pub record Sitter : Type 0 where
  pub table : TableId
  pub view : View

-- the seat is one of the board's and isn't spent
pub record Sits (b : Board) (s : Sitter) : Type 0 where
  pub table : s.table ≡ b.table
  pub view : IsView b.about s.view

abbrev pub with_view : Sitter → View → Sitter
with_view s v = record { table = s.table; view = v }

-- the seat of the root, and one that the root has split off
abbrev pub IsRoot : Sitter → Type 0
IsRoot s = s.view.number ≡ 0

abbrev pub IsOutOf : Sitter → Sitter → Type 0
IsOutOf root s = 1 ≤ times s.view.number root.view.out

-- the word found is no earlier than what the seat had seen of the group, and true
pub record Finds (s : Sitter) (g w : ℕ) : Type 0 where
  pub later : Earlier (slice_index s.view.seen g) w
  pub sound : IsSound s.view.about g w

-- it was the event Load, which found the answer
pub record HasLoaded (s : Sitter) (g answer : ℕ) (t : Sitter) : Type 0 where
  pub finds : Finds s g answer
  pub seat : t ≡ with_view s (load_view g answer s.view)

-- it was the event Drop, and the answer has just the bits that it cleared
pub record HasDropped (s : Sitter) (g mask answer : ℕ) (t : Sitter) : Type 0 where
  pub found : ℕ
  pub finds : Finds s g found
  pub answer_is : answer ≡ cleared found mask
  pub seat : t ≡ with_view s (drop_view g mask found s.view)

-- it was the event Drop of no variable, which found the answer
pub record HasRefreshed (s : Sitter) (g answer : ℕ) (t : Sitter) : Type 0 where
  pub finds : Finds s g answer
  pub seat : t ≡ with_view s (drop_view g 0 answer s.view)

-- it was the event Fix, and the answer has just the bits that it set, none of them of an imported variable
pub record HasFixed (s : Sitter) (g mask answer : ℕ) (t : Sitter) : Type 0 where
  pub found : ℕ
  pub finds : Finds s g found
  pub answer_is : answer ≡ newly found mask
  pub seat : t ≡ with_view s (fix_view g mask found s.view)
  pub own : (i : ℕ) → i < 32 → bit_at answer i ≡ 1 → named (suc (32 * g + i)) s.view.imports ≡ 0

-- an origin word that isn't 0 is 1 more than a stamp from 1 to the number of variables, and its variable is entailed
abbrev pub TellsOrigin : About → ℕ → ℕ → Type 0
TellsOrigin a x w = 0 < w → (2 ≤ w) × (w ≤ a.formula.vars + 1) × Entailed a x

-- it was the event Origin, which found the answer
pub record HasAsked (s : Sitter) (x answer : ℕ) (t : Sitter) : Type 0 where
  pub seat : t ≡ with_view s (origin_view x answer s.view)
  pub tells : TellsOrigin s.view.about x answer
