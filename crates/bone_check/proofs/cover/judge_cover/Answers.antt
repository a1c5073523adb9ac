use Rattle.std.proofs.Common.{◌≡◌, ◌∙◌, ℕ, length, replicate, false, ap, arith}
use Rattle.std.proofs.lemmas.List.{length-replicate}
use Rattle.bone_check.proofs.Covered.{marks_cover}
use Rattle.bone_check.proofs.cover.judge_cover.Goals as goal

pub returns : goal.returns
returns c =
    let F = c.args.formula.now in
    let none = c.in_ok-covered.covered in
    let empty = c.in_ok-covered.ensures ∙ ap (λ (n : ℕ). replicate n false) c.vars.ensures.value in
    let count : length none ≡ F.vars = ap length empty ∙ length-replicate F.vars false in
    c.first_uncovered.ensures
    ∙ marks_cover F c.args.fixed.now c.args.drops.now none c.cover_literals.new.covered c.cover_drops.new.covered empty
    (λ v low high. c.cover_literals.ensures.marked v low (omega arith))
    (λ v low high. c.cover_drops.ensures.marked v low (omega (arith, c.cover_literals.ensures.length)))
