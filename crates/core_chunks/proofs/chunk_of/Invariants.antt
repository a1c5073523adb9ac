use Rattle.std.proofs.Common.{◌≡◌, take}
use Rattle.core_chunks.specs.Chunks.{chunk_of}
use Rattle.core_chunks.proofs.chunk_of.Given as goal

-- the chunk of the literals so far
abbrev pub invariant-loop-lit : goal.invariant-loop-lit
invariant-loop-lit l = l.chunk.items ≡ chunk_of l.seen (take l.lit-index l.core)
