use Rattle.std.proofs.Common.{◌≡◌, ◌≤◌, length}
use Rattle.bone_check.specs.Steps.Dropping.{PassBelow, FailsAt}
use Rattle.bone_check.proofs.drops.first_failing.Given as goal

-- the lines before the least one pass that take one of the models so far
abbrev pub invariant-loop-number : goal.invariant-loop-number
invariant-loop-number l = record {
  within : l.least ≤ length l.drops;
  pass : PassBelow l.formula l.models l.drops l.number l.least;
  fails : FailsAt l.formula l.models l.drops l.least;
  values : length l.values ≡ l.formula.vars;
  marks : length l.marks ≡ l.formula.vars;
}
