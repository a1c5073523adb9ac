use Rattle.candidate_words.specs.Seats.{Sits}
use Rattle.table_bench.proofs.rounds.drop_often.Given as goal

-- the seat stays one of the table's
abbrev pub invariant-loop : goal.invariant-loop
invariant-loop l = Sits l.words l.seat
