use Rattle.std.proofs.Common.{◌↔◌, ◌+◌, IsTrue, false, subst, arith}
use Rattle.std.proofs.lemmas.Bool.{false≢true}
use Rattle.search_policy.specs.Epochs.{EpochState, IsEnd}
use Rattle.search_policy.proofs.Ends.{no_end}
use Rattle.search_policy.proofs.epochs.Epochs.due.Goals as goal

-- src/epochs.rt:59:13
pub returns-then-self-clause-exact : goal.returns-then-self-clause-exact
returns-then-self-clause-exact c =
    let before : EpochState = record { epoch = c.self.inside.epoch; count = c.self.inside.count } in
    subst (λ (e : EpochState). IsTrue false ↔ IsEnd (e.count + 1)) c.self.view_is (
      (λ no. absurd (false≢true no)),
      (λ end. absurd (no_end before c.self.invariant.2 (omega (arith, c.if-self.true, c.self.invariant.0)) end)),
    )
