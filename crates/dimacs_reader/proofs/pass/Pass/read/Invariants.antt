use Rattle.std.proofs.Common.{◌≡◌, ◌+◌, take}
use Rattle.dimacs_reader.specs.Steps.Machine.{scan_of, after_bytes}
use Rattle.dimacs_reader.proofs.pass.Pass.read.Given as goal

abbrev pub invariant-loop-byte : goal.invariant-loop-byte
invariant-loop-byte l =
    (scan_of l.mark l.course ≡ after_bytes l.fn.self (take l.byte-index l.bytes)) × (l.mark.place ≡ l.fn.self.place + l.byte-index)
