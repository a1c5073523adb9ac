-- The clauses read so far are laid, and their stamps are old.
use Rattle.std.proofs.Common.{◌+◌, ◌*◌, take}
use Rattle.local_search.specs.Steps.Kept.{AreStamps}
use Rattle.local_search.proofs.Laid.{IsLaidUpto}
use Rattle.local_search.proofs.flat.FlatClauses.new.Given as goal

abbrev pub invariant-loop-place : goal.invariant-loop-place
invariant-loop-place l = record {
  laid : IsLaidUpto l.formula.vars (take l.place l.formula.clauses) l.lits.items l.spans.items;
  stamps : AreStamps (l.place + 1) (2 * l.formula.vars + 2) l.seen.items;
}
