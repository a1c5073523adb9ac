-- A small run of a board, worked by the definitions: the clauses 32 and -33 over 33 variables.
use Rattle.std.specs.Prelude.{◌≡◌, true, false, None, List, [], ◌∷◌, ◌++◌, replicate}
use Rattle.cnf_core.specs.Literals.{Literal, Assignment}
use Rattle.cnf_core.specs.Formulas.{Cnf, IsModel}
use Rattle.board_core.specs.Subjects.{About, about}
use Rattle.board_core.specs.Boards.{State, opening, AreLawful, after_all, view_at}
use Rattle.board_core.specs.Games.{AreCountable}
use Rattle.board_core.specs.declared.event.Event.{Event}
use Rattle.board_core.specs.declared.event.Event.TheVariants.{Load, Drop, Fix, Split, Join}

abbrev pub given : Literal
given = record { var = 32; positive = true }

abbrev pub denied : Literal
denied = record { var = 33; positive = false }

abbrev pub two_units : Cnf
two_units = record { vars = 33; clauses = (given ∷ []) ∷ (denied ∷ []) ∷ []; shown = None }

-- all true but 33
abbrev pub phases : Assignment
phases = replicate 32 true ++ false ∷ []

abbrev pub subject : About
subject = about two_units phases

-- the root loads, drops variable 1 and splits; the new view fixes 32 and is joined
abbrev pub events : List Event
events = Load 0 0 ∷ Drop 0 0 1 ∷ Split ∷ Fix 1 0 2147483648 ∷ Join 1 ∷ []

abbrev pub ended : State
ended = after_all (opening subject) events

pub record RunIsWorked : Type 0 where
  pub model : IsModel two_units phases
  pub lawful : AreLawful subject (opening subject) events
  pub countable : AreCountable (opening subject) events
  pub words : ended.words ≡ 9223372041149743102 ∷ 1 ∷ []
  pub drops : (view_at ended.views 0).drops ≡ 1 ∷ []
  pub fixes : (view_at ended.views 0).fixes ≡ 32 ∷ []
