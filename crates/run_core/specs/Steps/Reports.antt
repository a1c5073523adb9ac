-- The report that is made of gathered findings.
use Rattle.std.specs.Prelude.{◌≡◌, ℕ, List, All}
use Rattle.std.specs.List.Sorted.{IsPermutation, IsNonDecreasingBy}
use Rattle.cnf_core.specs.Formulas.{IsModel}
use Rattle.lrat_lines.specs.Proofs.{Proves}
use Rattle.lrat_lines.specs.Tidy.{IsTidy}
use Rattle.cert_merge.specs.Trimming.{HasUnits}
use Rattle.model_store.specs.declared.witness.Witness.{Witness}
use Rattle.board_core.specs.Laws.{fixed_literals}
use Rattle.board_core.specs.Rules.{Tells}
use Rattle.candidate_words.specs.Seats.{Board}
use Rattle.run_core.specs.declared.gathered.Gathered.{Gathered}
use Rattle.run_core.specs.declared.outcome.Report.{Report}
use Rattle.run_core.specs.Steps.Gathers.{IsGathered}

-- the drops of what was gathered by variable, the fixed literals of the closed words, and a proof of these
pub record IsReportOf (b : Board) (workers budget : ℕ) (g : Gathered) (ws : List ℕ) (r : Report) : Type 0 where
  pub gathered : IsGathered b workers budget workers g
  pub tells : Tells b.about ws g.seat.view
  pub phases : IsModel b.about.formula b.about.phases
  pub each : All (IsModel b.about.formula) g.models.models
  pub models : r.models ≡ g.models
  pub moved : IsPermutation g.drops.items r.drops.items
  pub sorted : IsNonDecreasingBy (λ (w : Witness). w.var) r.drops.items
  pub fixes : r.fixes.items ≡ fixed_literals b.about.phases ws b.about.formula.vars
  pub accepted : Proves b.about.formula r.proof
  pub tidy : IsTidy b.about.formula r.proof
  pub units : HasUnits r.proof r.fixes.items
