use Rattle.std.proofs.Common.{◌≡◌, ◌+◌, ◌*◌, length, take}
use Rattle.cert_merge.specs.Steps.Marking.{AreRoots, IsLookingFor}
use Rattle.cert_merge.proofs.trimmed.roots.Given as goal

abbrev pub invariant-loop-line : goal.invariant-loop-line
invariant-loop-line l = record {
  roots : AreRoots l.keep (take l.line-index l.lines) l.marks.items;
  looks : IsLookingFor l.keep (take l.line-index l.lines) l.wanted.units.items l.wanted.empty;
  places : length l.wanted.units.items ≡ 2 * l.formula.vars + 2;
}
