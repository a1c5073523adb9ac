use Rattle.std.specs.Prelude.{length}
use Rattle.cnf_core.specs.Literals.{AreWithin}
use Rattle.worker_loop.proofs.terrain.unmet.Given as goal

abbrev pub invariant-loop-lit : goal.invariant-loop-lit
invariant-loop-lit l = AreWithin (length l.model) l.found.items
