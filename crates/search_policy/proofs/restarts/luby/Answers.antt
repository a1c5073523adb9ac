use Rattle.std.proofs.Common.{◌≢◌, ◌≤◌, ◌<◌, ◌^◌, ◌+◌, ◌-◌, ℕ, sym, ap, ◌∙◌, arith}
use Rattle.std.proofs.Math.Nat.{pow-le-pow_right}
use Rattle.search_policy.specs.Luby.{luby_upto}
use Rattle.search_policy.proofs.LubyTurns.{half_size, twice_half, luby_last, luby_low, luby_high}
use Rattle.search_policy.proofs.restarts.luby.Goals as goal

-- src/restarts.rt:22:13
pub returns-then-place-size-clause-value : goal.returns-then-place-size-clause-value
returns-then-place-size-clause-value c =
    let turn = c.loop-rounds.invariant in
    let some : 0 < c.loop-rounds.rounds = omega (arith, c.loop-rounds-test.true) in
    let whole = twice_half c.loop-rounds.rounds c.loop-rounds.size some turn.1 in
    half_size c.loop-rounds.rounds c.loop-rounds.size some turn.1
    ∙ sym (luby_last c.loop-rounds.rounds c.loop-rounds.place some (omega (arith, c.if-place-size.true, whole)))
    ∙ turn.0

-- src/restarts.rt:22:13
pub returns-then-place-size-clause-bounds : goal.returns-then-place-size-clause-bounds
returns-then-place-size-clause-bounds c =
    let turn = c.loop-rounds.invariant in
    let some : 0 < c.loop-rounds.rounds = omega (arith, c.loop-rounds-test.true) in
    let half = half_size c.loop-rounds.rounds c.loop-rounds.size some turn.1 in
    let rises : c.loop-rounds.rounds - 1 ≤ 40 = omega (arith, turn.4) in
    let most : 2 ^ (c.loop-rounds.rounds - 1) ≤ 2 ^ 40 = pow-le-pow_right (omega arith) rises in
    let whole = twice_half c.loop-rounds.rounds c.loop-rounds.size some turn.1 in
    (omega (arith, turn.1, turn.2, turn.3, whole), omega (arith, half, most))

-- src/restarts.rt:18:5
pub loop-rounds-preserved-then-place-size-2 : goal.loop-rounds-preserved-then-place-size-2
loop-rounds-preserved-then-place-size-2 c =
    let turn = c.loop-rounds.invariant in
    let some : 0 < c.loop-rounds.rounds = omega (arith, c.loop-rounds-test.true) in
    let half = half_size c.loop-rounds.rounds c.loop-rounds.size some turn.1 in
    let whole = twice_half c.loop-rounds.rounds c.loop-rounds.size some turn.1 in
    let other : c.loop-rounds.place ≢ 2 ^ c.loop-rounds.rounds - 1 =
    λ same. c.if-place-size.false (omega (arith, same, whole)) in
    let high = luby_high c.loop-rounds.rounds c.loop-rounds.place some other (omega (arith, half, c.if-place-size-2.true)) in (
      ap (λ (less : ℕ). luby_upto (c.loop-rounds.rounds - 1) (c.loop-rounds.place + 1 - less)) half ∙ sym high ∙ turn.0,
      half,
      omega (arith, c.if-place-size-2.true),
      omega (arith, turn.1, turn.3, whole, c.if-place-size.false),
      omega (arith, turn.4),
    )

-- src/restarts.rt:18:5
pub loop-rounds-preserved : goal.loop-rounds-preserved
loop-rounds-preserved c =
    let turn = c.loop-rounds.invariant in
    let some : 0 < c.loop-rounds.rounds = omega (arith, c.loop-rounds-test.true) in
    let half = half_size c.loop-rounds.rounds c.loop-rounds.size some turn.1 in
    let whole = twice_half c.loop-rounds.rounds c.loop-rounds.size some turn.1 in
    let other : c.loop-rounds.place ≢ 2 ^ c.loop-rounds.rounds - 1 =
    λ same. c.if-place-size.false (omega (arith, same, whole)) in
    let low = luby_low c.loop-rounds.rounds c.loop-rounds.place some other (omega (arith, half, c.if-place-size-2.false)) in
    (sym low ∙ turn.0, half, turn.2, omega (arith, c.if-place-size-2.false), omega (arith, turn.4))
