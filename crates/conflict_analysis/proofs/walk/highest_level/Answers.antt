use Rattle.std.proofs.Common.{ℕ, ◌+◌, ◌∙◌, sym, subst, take}
use Rattle.trail_core.specs.Trails.{HasVariable}
use Rattle.conflict_analysis.specs.Answers.{IsHighest}
use Rattle.conflict_analysis.proofs.Growing.{element_is_member}
use Rattle.conflict_analysis.proofs.Literals.{valued}
use Rattle.conflict_analysis.proofs.Roots.{highest_more, max_is}
use Rattle.conflict_analysis.proofs.walk.highest_level.Goals as goal

pub level_of-requires : goal.level_of-requires
level_of-requires c =
    let there = element_is_member c.args.lits.now c.loop-lit.lit-index c.lit-item.result c.loop-lit-test.true c.lit-item.is in
    subst (λ (v : ℕ). HasVariable c.args.trail.now.entries v) (sym c.var.ensures.value)
    (valued c.args.trail.now c.lit-item.result (c.requires.falsified c.lit-item.result there))

pub loop-lit-preserved : goal.loop-lit-preserved
loop-lit-preserved c =
    let there = element_is_member c.args.lits.now c.loop-lit.lit-index c.lit-item.result c.loop-lit-test.true c.lit-item.is in
    subst (λ (m : ℕ). IsHighest c.args.trail.now.entries (take (c.loop-lit.lit-index + 1) c.args.lits.now) m)
    (sym (c.max-highest.ensures ∙ max_is c.loop-lit.highest c.level_of.result))
    (highest_more c.args.trail.now c.args.lits.now c.loop-lit.lit-index c.loop-lit.highest c.level_of.result c.lit-item.result
    c.requires.trail c.loop-lit-test.true c.lit-item.is (c.requires.falsified c.lit-item.result there)
    (λ k lt is. c.level_of.ensures k lt (is ∙ sym c.var.ensures.value)) c.loop-lit.invariant)
