-- Of the clauses before the place the live ones lie together.
use Rattle.std.proofs.Common.{◌+◌, ◌≤◌, vec_len, vec_capacity}
use Rattle.clause_arena.specs.Steps.Sinking.{IsSunk}
use Rattle.clause_arena.proofs.arena.sink_live.Given as goal

abbrev pub invariant-loop-place : goal.invariant-loop-place
invariant-loop-place l = record {
  sunk : IsSunk l.initial.lits.items l.initial.starts.items l.initial.marks.items l.first l.place l.kept l.to.items l.lits.items
      l.starts.items l.marks.items;
  room : vec_len l.initial.marks ≤ l.first + vec_capacity l.to;
}
