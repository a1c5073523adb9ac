use Rattle.std.proofs.Common.{◌≡◌, ◌≤◌, ◌-◌, true, length, Some}
use Rattle.std.specs.Prelude.{slice_get}
use Rattle.witness_text.specs.declared.line.WitnessLine.{WitnessLine}
use Rattle.flip_literals.specs.Critical.{MarksCritical}
use Rattle.bone_check.specs.Steps.Dropping.{PassBefore}
use Rattle.bone_check.proofs.drops.failing_before.Given as goal

-- the lines before the place pass that take the model, and that at the place takes it
abbrev pub invariant-loop-place : goal.invariant-loop-place
invariant-loop-place l = record {
  pass : PassBefore l.formula l.models l.drops l.number l.place;
  takes : (d : WitnessLine) → slice_get l.drops l.place ≡ Some d → d.model ≡ l.number;
  fits : l.place ≤ length l.drops;
  marks : length l.marks ≡ l.formula.vars;
  marked : l.marked ≡ true → MarksCritical l.formula l.values l.marks;
}

abbrev pub decreases-loop-place : goal.decreases-loop-place
decreases-loop-place l = l.least - l.place
