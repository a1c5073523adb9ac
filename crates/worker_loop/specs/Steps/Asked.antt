-- What a query in slices comes to.
use Rattle.std.specs.Prelude.{◌≡◌, All}
use Rattle.cnf_core.specs.Literals.{Literals}
use Rattle.assumption_solver.specs.Answers.{FoundSays}
use Rattle.worker_loop.specs.declared.asking.Asked.{Asked}
use Rattle.worker_loop.specs.declared.asking.Asked.TheVariants.{Answered, Closed}
use Rattle.worker_loop.specs.declared.post.Post.{Post}
use Rattle.assumption_solver.specs.Logs.{IsContinued}
use Rattle.worker_loop.specs.Steps.Moves.{IsOnward, IsClosed}

-- a part of a query: the seat and the models stay, and the log goes on in the query
pub record IsPart (p q : Post) : Type 0 where
  pub seat : q.seat ≡ p.seat
  pub onward : IsOnward p q
  pub models : q.models ≡ p.models
  pub log : IsContinued p.solver.log q.solver.log

-- the solver's answer, or that all that was asked about is closed
abbrev pub AskedSays : Asked → Literals → Literals → Post → Type 0
AskedSays (Answered f) assume chunk q = FoundSays f assume chunk q.budget q.solver.log
AskedSays Closed assume chunk q = All (λ l. IsClosed q l.var) assume × All (λ l. IsClosed q l.var) chunk
