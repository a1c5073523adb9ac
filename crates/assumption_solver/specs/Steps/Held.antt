-- What a solver keeps between calls.
use Rattle.std.specs.Prelude.{◌≡◌, Bool, true, false, ℕ, []}
use Rattle.cnf_core.specs.Formulas.{models}
use Rattle.assumption_solver.specs.declared.search.Search.{Search}
use Rattle.assumption_solver.specs.declared.solver.State.{State}
use Rattle.assumption_solver.specs.declared.solver.State.TheVariants.{Searching, Refuted, NoMemory}
use Rattle.assumption_solver.specs.Answers.{IsEmptyAt}
use Rattle.assumption_solver.specs.SolverStates.{SolverState}
use Rattle.assumption_solver.specs.Steps.States.{Solves}

abbrev pub is_dead : State → Bool
is_dead Searching = false
is_dead (Refuted entry) = false
is_dead NoMemory = true

abbrev pub roots_of : State → ℕ → ℕ
roots_of Searching settled = settled
roots_of (Refuted entry) settled = 0
roots_of NoMemory settled = 0

-- how a solver is seen
abbrev pub seen : Search → State → SolverState
seen s state = record { log = s.journal; dead = is_dead state; roots = roots_of state s.settled }

-- it stands at the root, or has shown that there is no model, or had no memory
abbrev pub IsHeld : Search → State → Type 0
IsHeld s Searching = Solves s × (s.trail.level ≡ 0)
IsHeld s (Refuted entry) = IsEmptyAt s.journal entry × (models s.journal.formula ≡ [])
IsHeld s NoMemory = Unit {0}
