use Rattle.std.proofs.Common.{◌≡◌, ℕ, suc, ◌+◌, ◌*◌, subst, arith, sym}
use Rattle.std.proofs.lemmas.Bool.{eqb-true}
use Rattle.worker_loop.specs.Steps.Moves.{HasHeardOne, HasHeardBit}
use Rattle.worker_loop.proofs.Picks.{var_within}
use Rattle.worker_loop.proofs.Heard.{on_ok}
use Rattle.worker_loop.proofs.post.Post.hear_bit.Goals as goal

pub hear_one-requires-clause-var : goal.hear_one-requires-clause-var
hear_one-requires-clause-var c = (
  omega arith,
  var_within c.args.self.now.question.now.formula c.args.group c.args.bit
      (c.requires.candidates c.args.bit c.requires.bit (eqb-true _ 1 (sym c.if-has_bit.ensures))),
)

pub returns-then-has_bit-clause-heard : goal.returns-then-has_bit-clause-heard
returns-then-has_bit-clause-heard c =
    let p = c.args.self.now in
    let q = c.hear_one.new.self in
    let x = 32 * c.args.group + c.args.bit + 1 in
    let e : x ≡ suc (32 * c.args.group + c.args.bit) = omega arith in
    on_ok c.hear_one.result (HasHeardOne p q x) (HasHeardBit p q c.args.group c.args.fixed c.args.bit)
    (λ h is. subst (λ (y : ℕ). HasHeardOne p q y) e h) c.hear_one.ensures.heard
