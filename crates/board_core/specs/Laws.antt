-- What holds of every run of a board, by the definitions alone.
use Rattle.std.specs.Prelude.{◌≡◌, ℕ, ◌<◌, ◌≤◌, ◌==◌, List, ◌++◌, filter}
use Rattle.std.specs.List.{sum_by}
use Rattle.cnf_core.specs.Literals.{Literals, Assignment}
use Rattle.cnf_core.specs.Formulas.{Cnf, IsModel, shown_backbone, true_literals}
use Rattle.board_core.specs.Subjects.{About, about, groups}
use Rattle.board_core.specs.Words.{fixed, open_at, times}
use Rattle.board_core.specs.Boards.{opening, AreLawful, after_all}
use Rattle.board_core.specs.Rules.{BoardRule, ClockRule, AreEarlier}
use Rattle.board_core.specs.declared.event.Event.{Event}

-- the phase literals of the fixed variables among the first n, by variable
abbrev pub fixed_literals : Assignment → List ℕ → ℕ → Literals
fixed_literals phases ws n = filter (λ l. fixed ws l.var == 1) (true_literals phases n)

-- no candidate is open
abbrev pub NoneOpen : List ℕ → Type 0
NoneOpen ws = (x : ℕ) → open_at ws x ≡ 0

-- The run keeps both rules. No candidate returns, and no fixed one is freed: the words after a part of the
-- events are no later than those after all. No candidate is both dropped and fixed. Where none is open, the fixed
-- ones are the shown members of the backbone.
pub record IsRun (a : About) (es : List Event) : Type 0 where
  pub rule : BoardRule a (after_all (opening a) es)
  pub clocks : ClockRule a (after_all (opening a) es)
  pub later : (front back : List Event) → es ≡ front ++ back
      → AreEarlier (groups a.formula.vars) (after_all (opening a) front).words (after_all (opening a) es).words
  pub once : (x : ℕ) → 1 ≤ sum_by (λ v. times x v.drops) (after_all (opening a) es).views
      → 1 ≤ sum_by (λ v. times x v.fixes) (after_all (opening a) es).views → ⊥
  pub settled : NoneOpen (after_all (opening a) es).words
      → fixed_literals a.phases (after_all (opening a) es).words a.formula.vars ≡ shown_backbone a.formula

-- over every list of lawful events from the opening of a board for a formula and a model of it
abbrev pub EveryRun : Type 0
EveryRun = (F : Cnf) (phases : Assignment) (es : List Event) → 0 < F.vars → IsModel F phases
    → AreLawful (about F phases) (opening (about F phases)) es → IsRun (about F phases) es
