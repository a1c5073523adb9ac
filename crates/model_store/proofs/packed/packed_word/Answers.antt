-- Each turn sets the next bit where the variable is true.
use Rattle.std.proofs.Common.{◌≡◌, ℕ, ◌+◌, ◌-◌, ◌*◌, ◌<◌, false, get_or, sym, ap, ◌∙◌, arith}
use Rattle.model_store.proofs.Bits.{bits-set, bits-clear}
use Rattle.model_store.proofs.packed.packed_word.Goals as goal
use Rattle.model_store.proofs.packed.packed_word.Goals.{then-get, else-get}

pub loop-k-preserved : goal.loop-k-preserved
loop-k-preserved c =
    let a = c.args.values.now in
    let first = c.args.j * 64 in
    let k = c.loop-k.k in
    let within : k < 64 = omega (arith, c.loop-k-test.true, c.min-count.ensures) in
    let place : first + k ≡ first + k + 1 - 1 = omega arith in
    let value : get_or a (first + k) false ≡ c.get.result =
    ap (λ (i : ℕ). get_or a i false) place ∙ sym c.get.ensures in
    elim c.if-get.branch [
      | then-get w ↦ rw w.word-is (bits-set a first k c.loop-k.word c.loop-k.invariant within (value ∙ w.if-get.true))
      | else-get w ↦ rw w.word-is (bits-clear a first k c.loop-k.word c.loop-k.invariant (value ∙ w.if-get.false))
    ]
