use Rattle.std.proofs.Common.{◌∙◌, sym, ap, refl}
use Rattle.cnf_core.specs.Literals.{Literal}
use Rattle.conflict_analysis.specs.Steps.Walks.{is_seen}
use Rattle.conflict_analysis.proofs.Walking.{looking_lower}
use Rattle.conflict_analysis.proofs.walk.Walk.last_seen.Goals as goal

pub loop-place-preserved : goal.loop-place-preserved
loop-place-preserved c =
    looking_lower c.args.trail.now.entries (is_seen c.args.self.now) c.args.end c.loop-place.place _ c.loop-place.invariant
    (ap (is_seen c.args.self.now) (sym (c.var.ensures.value ∙ ap (λ (l : Literal). l.var) c.lit_at.ensures))
    ∙ sym c.is_seen.ensures ∙ c.loop-place-test.true)
    refl
