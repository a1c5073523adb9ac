use Rattle.candidate_words.specs.Seats.{Sits}
use Rattle.worker_loop.specs.Steps.Held.{IsPost}
use Rattle.worker_loop.specs.Steps.Moves.{IsOnward}
use Rattle.worker_loop.specs.Steps.Dropping.{IsSameButSeat}
use Rattle.worker_loop.proofs.Absorbed.{DroppedBelow}
use Rattle.worker_loop.proofs.post.Post.drop_all.Given as goal

-- the model was tried in the groups so far
abbrev pub invariant-loop-group : goal.invariant-loop-group
invariant-loop-group l = record {
  post : IsPost l.self;
  sits : Sits l.words l.self.seat;
  onward : IsOnward l.fn.self l.self;
  rest : IsSameButSeat l.fn.self l.self;
  dropped : DroppedBelow l.fn.self l.model l.group l.self;
}
