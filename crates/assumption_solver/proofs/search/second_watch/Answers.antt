use Rattle.std.proofs.Common.{◌≡◌, ℕ, ◌<◌, ◌≤◌, sym, subst, ⊎_elim, arith}
use Rattle.std.proofs.lemmas.Bool.{cases_lt}
use Rattle.assumption_solver.specs.Steps.Asserting.{HasLevelAt}
use Rattle.assumption_solver.proofs.Asserted.{no_level_at}
use Rattle.assumption_solver.proofs.search.second_watch.Goals as goal

pub loop-i-preserved : goal.loop-i-preserved
loop-i-preserved c = λ k pos lt h.
    let es = c.args.trail.now.entries in
    let lits = c.args.lits.now in
    ⊎_elim
    (λ (before : k < c.loop-i.i). c.loop-i.invariant k pos before h)
    (λ (past : c.loop-i.i ≤ k).
    let at : k ≡ c.loop-i.i = omega arith in
    no_level_at es lits c.loop-i.i c.var.result c.level_of.result c.level-level.result c.index-lits-i.result (omega arith)
    c.index-lits-i.is c.var.ensures.value c.level_of.ensures c.if-level_of-level.false
    (subst (λ (i : ℕ). HasLevelAt es lits i c.level-level.result) at h))
    (cases_lt k c.loop-i.i)

pub returns : goal.returns
returns c = record {
  behind = omega arith;
  within = c.requires.long;
  has_level = λ i k pos lt h within same.
      absurd (c.loop-i.invariant i pos (omega arith)
      (subst (λ (n : ℕ). HasLevelAt c.args.trail.now.entries c.args.lits.now i n) (sym c.level-level.ensures.value) h));
}
