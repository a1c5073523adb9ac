-- A board in memory: what it shows, and which events it can count.
use Rattle.std.specs.Prelude.{ℕ, ◌-◌, ◌<◌, ◌≤◌, ◌^◌, Bool, true, false, List, [], ◌∷◌, map, slice_index}
use Rattle.board_core.specs.Subjects.{About, about_nothing}
use Rattle.board_core.specs.Boards.{State, opening, view_at, after}
use Rattle.board_core.specs.Rules.{IsKept}
use Rattle.board_core.specs.declared.board.Board.TheInside.{Inside}
use Rattle.board_core.specs.declared.stored.StoredView.{StoredView}
use Rattle.board_core.specs.declared.view.View.{View}
use Rattle.board_core.specs.declared.event.Event.{Event}
use Rattle.board_core.specs.declared.event.Event.TheVariants.{Load, Drop, Fix, Split, Join, Publish, Origin}

-- what a board was opened for, and its state
pub record Game : Type 0 where
  pub about : About
  pub state : State

abbrev pub game : About → State → Game
game a s = record { about = a; state = s }

abbrev pub opened : About → Game
opened a = game a (opening a)

-- a spent view was opened for nothing
abbrev pub about_left : Bool → About → About
about_left true a = about_nothing
about_left false a = a

-- the view of a board for a that stands in memory
abbrev pub shown : About → StoredView → View
shown a h = record {
  about = about_left h.spent a;
  number = h.number;
  spent = h.spent;
  seen = h.seen.items;
  loaded = h.loaded.items;
  loads = h.loads.items;
  drops = h.drops.items;
  fixes = h.fixes.items;
  next = h.next;
  out = h.out.items;
  published = h.published.items;
  imports = h.imports.items;
  looks = h.looks.items;
}

-- the state of a board for a whose words, origin words and views stand in memory
abbrev pub stored : About → List ℕ → List ℕ → List StoredView → State
stored a ws os hs = record { words = ws; origins = os; views = map (shown a) hs }

abbrev pub state_of : Inside → State
state_of b = stored b.about b.words.items b.origins.items b.views.items

abbrev pub game_of : Inside → Game
game_of b = game b.about (state_of b)

-- a board keeps both rules, and its formula is within the limits
pub record IsBoard (b : Inside) : Type 0 where
  pub kept : IsKept b.about (state_of b)
  pub vars : b.about.formula.vars ≤ 2 ^ 20

-- one more fits 64 bits
abbrev pub IsCountable : List ℕ → ℕ → Type 0
IsCountable counts k = slice_index counts k < 2 ^ 64 - 1

-- the loads of a group and the looks for a variable can be counted
abbrev pub CountFits : State → Event → Type 0
CountFits s (Load id g) = IsCountable (view_at s.views id).loads g
CountFits s (Drop id g mask) = Unit {0}
CountFits s (Fix id g mask) = Unit {0}
CountFits s Split = Unit {0}
CountFits s (Join id) = Unit {0}
CountFits s (Publish id x stamp) = Unit {0}
CountFits s (Origin id x) = IsCountable (view_at s.views id).looks (x - 1)

-- the same of each event in turn
abbrev pub AreCountable : State → List Event → Type 0
AreCountable s [] = Unit {0}
AreCountable s (e ∷ es) = CountFits s e × AreCountable (after s e) es
