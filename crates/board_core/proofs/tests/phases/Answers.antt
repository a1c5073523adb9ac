use Rattle.std.proofs.Common.{◌≡◌, ℕ, zero, suc, ◌+◌, ◌-◌, ◌<◌, ◌≤◌, Bool, true, false, List, ◌++◌, ◌∷◌, replicate, refl, ap, ◌∙◌, arith}
use Rattle.std.specs.Prelude.{slice_set}
use Rattle.board_core.proofs.tests.phases.Goals as goal

set_next : (k m : ℕ) → slice_set (replicate k true ++ replicate (suc m) false) k true ≡ replicate (suc k) true ++ replicate m false
set_next zero m = refl
set_next (suc k) m = ap (λ (bs : List Bool). true ∷ bs) (set_next k m)

one_more : (var : ℕ) (now : List Bool) → 1 ≤ var → var < 33 → now ≡ replicate (var - 1) true ++ replicate (34 - var) false
    → slice_set now (var - 1) true ≡ replicate (var + 1 - 1) true ++ replicate (34 - (var + 1)) false
one_more var now low high is =
    let left : 34 - var ≡ suc (33 - var) = omega arith in
    let more : suc (var - 1) ≡ var + 1 - 1 = omega arith in
    let rest : 33 - var ≡ 34 - (var + 1) = omega arith in
    ap (λ (bs : List Bool). slice_set bs (var - 1) true) (is ∙ ap (λ (n : ℕ). replicate (var - 1) true ++ replicate n false) left)
    ∙ set_next (var - 1) (33 - var)
    ∙ ap (λ (n : ℕ). replicate n true ++ replicate (33 - var) false) more
    ∙ ap (λ (n : ℕ). replicate (var + 1 - 1) true ++ replicate n false) rest

pub loop-var-preserved : goal.loop-var-preserved
loop-var-preserved c =
    c.set.ensures ∙ one_more c.loop-var.var c.loop-var.values c.loop-var.auto.var c.loop-var-test.true c.loop-var.invariant
