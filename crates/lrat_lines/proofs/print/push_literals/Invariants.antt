use Rattle.std.proofs.Common.{◌≡◌, ◌^◌, ◌++◌, take}
use Rattle.std.specs.Prelude.{flat_map}
use Rattle.cnf_core.specs.Literals.{AreWithin}
use Rattle.lrat_lines.specs.Printed.{literal_bytes}
use Rattle.lrat_lines.proofs.print.push_literals.Given as goal

-- the literals so far are written, and have variables
abbrev pub invariant-loop-lit : goal.invariant-loop-lit
invariant-loop-lit l =
    (l.out.items ≡ l.fn.out.items ++ flat_map literal_bytes (take l.lit-index l.lits)) × AreWithin (2 ^ 20) (take l.lit-index l.lits)
