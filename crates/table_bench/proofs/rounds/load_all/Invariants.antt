use Rattle.candidate_words.specs.Seats.{Sits}
use Rattle.table_bench.proofs.rounds.load_all.Given as goal

-- the seat stays one of the table's
abbrev pub invariant-loop-group : goal.invariant-loop-group
invariant-loop-group l = Sits l.words l.seat
