-- The literals of a report that are still open.
use Rattle.std.specs.Prelude.{◌≡◌, ℕ, ◌<◌, ◌≤◌, ◌==◌, ◌&&◌, ◌||◌, not, Bool, List, filter, length}
use Rattle.std.specs.List.{list_any}
use Rattle.cnf_core.specs.Literals.{Literal, Literals, Assignment, value_of}
use Rattle.cnf_core.specs.Formulas.{Cnf, is_shown, true_literals}
use Rattle.model_store.specs.Stores.{model_at}
use Rattle.model_store.specs.declared.witness.Witness.{Witness}
use Rattle.run_core.specs.declared.outcome.Report.{Report}

-- whether an element of the list has the variable
abbrev pub has_var : {X : Type 0} → (X → ℕ) → List X → ℕ → Bool
has_var var xs x = list_any (λ y. var y == x) xs

-- whether the report drops the variable, and whether it fixes it
abbrev pub is_dropped : Report → ℕ → Bool
is_dropped r x = has_var (λ (w : Witness). w.var) r.drops.items x

abbrev pub is_fixed : Report → ℕ → Bool
is_fixed r x = has_var (λ (l : Literal). l.var) r.fixes.items x

-- whether the variable is shown, and neither dropped nor fixed
abbrev pub is_open : Cnf → Report → ℕ → Bool
is_open F r x = is_shown F x && not (is_dropped r x || is_fixed r x)

-- the first model's literals of those variables
abbrev pub open_literals : Cnf → Report → Literals
open_literals F r = filter (λ l. is_open F r l.var) (true_literals (model_at r.models 0) F.vars)

-- the marks are true of the variables that the elements have, and else as they were
pub record IsMarked {X : Type 0} (var : X → ℕ) (xs : List X) (old new : Assignment) : Type 0 where
  pub size : length new ≡ length old
  pub each : (x : ℕ) → 0 < x → x ≤ length old → value_of new x ≡ (value_of old x || has_var var xs x)

-- whether the literal's variable is shown and has no mark
abbrev pub is_unmarked : Cnf → Assignment → Literal → Bool
is_unmarked F closed l = is_shown F l.var && not (value_of closed l.var)
