use Rattle.std.proofs.Common.{◌≡◌, ◌+◌, length}
use Rattle.dimacs_reader.specs.Scans.{byte_count}
use Rattle.dimacs_reader.proofs.tests.read_in_pieces.Given as goal

abbrev pub invariant-loop-rest : goal.invariant-loop-rest
invariant-loop-rest l = byte_count l.scan + length l.rest ≡ length l.fn.text

abbrev pub decreases-loop-rest : goal.decreases-loop-rest
decreases-loop-rest l = length l.rest
