-- How a run ends, and what each end says.
use Rattle.std.specs.Prelude.{◌≡◌, ℕ, ◌<◌, ◌⊎◌, IsTrue, IfSome, List, [], map, length, All, AllPairs, Contains}
use Rattle.cnf_core.specs.Literals.{Literal, RisesByVar}
use Rattle.cnf_core.specs.Formulas.{Cnf, IsModel, is_shown, Entails, models, shown_backbone, true_literal}
use Rattle.lrat_lines.specs.declared.line.Line.{Line}
use Rattle.lrat_lines.specs.Proofs.{Proves}
use Rattle.lrat_lines.specs.Tidy.{IsTidy}
use Rattle.lrat_log.specs.Entries.{Recorded}
use Rattle.lrat_log.specs.Laws.{IsFull}
use Rattle.cert_merge.specs.Trimming.{have_empty, HasUnits}
use Rattle.model_store.specs.Stores.{Store, model_at}
use Rattle.model_store.specs.declared.witness.Witness.{Witness}
use Rattle.board_core.specs.Subjects.{About, about}
use Rattle.worker_loop.specs.Evidence.{IsWitness, IsKeeping}
use Rattle.run_core.specs.declared.outcome.Report.{Report}
use Rattle.run_core.specs.declared.outcome.Outcome.{Outcome}
use Rattle.run_core.specs.declared.outcome.Outcome.TheVariants.{Complete, Unsat, Partial, Unknown, Memory}

-- what a report is about: the formula, with the phases of its first model
abbrev pub about_first : Cnf → Store → About
about_first F s = about F (model_at s 0)

-- a shown variable, and a stored model or its flip that gives it the value opposite to the first model's
pub record IsDropped (F : Cnf) (s : Store) (w : Witness) : Type 0 where
  pub shown : IsTrue (is_shown F w.var)
  pub witness : IsWitness (about_first F s) s w

-- the first model's literal of a shown variable, which every model makes true
pub record IsFixed (F : Cnf) (s : Store) (l : Literal) : Type 0 where
  pub shown : IsTrue (is_shown F l.var)
  pub phase : l ≡ true_literal (model_at s 0) l.var
  pub entailed : Entails F l

-- the report has a witness that the variable isn't forced, and a literal of it that is
abbrev pub HasDrop : Report → ℕ → Type 0
HasDrop r x = Contains (map (λ (w : Witness). w.var) r.drops.items) x

abbrev pub HasFix : Report → ℕ → Type 0
HasFix r x = Contains (map (λ (l : Literal). l.var) r.fixes.items) x

-- models of the formula, the first of which gives the phases; drops and fixes by variable, each true; and a proof of the
-- fixed literals from the formula alone
pub record IsReport (F : Cnf) (r : Report) : Type 0 where
  pub formula : r.models.formula ≡ F
  pub some : 0 < length r.models.models
  pub models : All (IsModel F) r.models.models
  pub drops_rise : AllPairs (λ (w u : Witness). w.var < u.var) r.drops.items
  pub fixes_rise : RisesByVar r.fixes.items
  pub apart : (x : ℕ) → HasDrop r x → HasFix r x → ⊥
  pub dropped : All (IsDropped F r.models) r.drops.items
  pub fixed : All (IsFixed F r.models) r.fixes.items
  pub accepted : Proves F r.proof
  pub tidy : IsTidy F r.proof
  pub units : HasUnits r.proof r.fixes.items

-- a shown variable of which the report says nothing
pub record IsOpen (F : Cnf) (r : Report) (x : ℕ) : Type 0 where
  pub shown : IsTrue (is_shown F x)
  pub not_dropped : HasDrop r x → ⊥
  pub not_fixed : HasFix r x → ⊥

-- every shown variable is dropped or fixed, and the fixed literals are the shown members of the backbone
pub record IsComplete (F : Cnf) (r : Report) : Type 0 where
  pub report : IsReport F r
  pub backbone : r.fixes.items ≡ shown_backbone F
  pub covered : (x : ℕ) → IsTrue (is_shown F x) → HasDrop r x ⊎ HasFix r x

-- some variable is open
pub record IsUnfinished (F : Cnf) (r : Report) : Type 0 where
  pub report : IsReport F r
  pub var : ℕ
  pub is_open : IsOpen F r var

-- no stored model, nor its flip of one variable, is against an open variable
abbrev pub IsExhausted : Cnf → Report → Type 0
IsExhausted F r = (x place : ℕ) → IsOpen F r x → place < length r.models.models
    → IsKeeping (about_first F r.models) r.models x place

-- the log of a worker that spent its budget on the formula
pub record IsSpent (F : Cnf) (budget : ℕ) (L : Recorded) : Type 0 where
  pub formula : L.formula ≡ F
  pub full : IsFull F budget L.entries

-- some variable is open, though every worker's log is full
pub record IsPartial (F : Cnf) (workers budget : ℕ) (r : Report) (logs : List Recorded) : Type 0 where
  pub unfinished : IsUnfinished F r
  pub exhausted : IsExhausted F r
  pub each : length logs ≡ workers
  pub spent : All (IsSpent F budget) logs

-- a proof of the empty clause from the formula alone, which has no model
pub record IsRefuted (F : Cnf) (lines : List Line) : Type 0 where
  pub accepted : Proves F lines
  pub tidy : IsTidy F lines
  pub empty : IsTrue (have_empty lines)
  pub none : models F ≡ []

-- what the end of a run with so many workers says, where each may learn so many clauses
abbrev pub OutcomeSays : Cnf → ℕ → ℕ → Outcome → Type 0
OutcomeSays F workers budget (Complete r) = IsComplete F r
OutcomeSays F workers budget (Unsat proof) = IsRefuted F proof
OutcomeSays F workers budget (Partial r logs) = IsPartial F workers budget r logs.items
OutcomeSays F workers budget (Unknown L) = IsSpent F budget L
OutcomeSays F workers budget (Memory r) = IfSome r (IsUnfinished F)
