-- The best so far may be flipped.
use Rattle.std.proofs.Common.{ℕ, Option, IfSome, subst}
use Rattle.local_search.specs.Steps.States.{IsFree}
use Rattle.local_search.proofs.scores.Scores.better.Goals as goal

pub beats-requires-clause-other : goal.beats-requires-clause-other
beats-requires-clause-other c =
    let free = subst (λ (o : Option ℕ). IfSome o (IsFree c.args.self.now.vars c.args.held.now)) c.in-Some.is c.requires.best in
    (free.low, free.high)

pub returns-in-Some : goal.returns-in-Some
returns-in-Some c = subst (λ (o : Option ℕ). IfSome o (IsFree c.args.self.now.vars c.args.held.now)) c.in-Some.is c.requires.best
