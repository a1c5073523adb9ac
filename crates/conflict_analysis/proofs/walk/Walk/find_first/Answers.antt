use Rattle.std.proofs.Common.{◌∙◌, sym, ap, subst, arith}
use Rattle.cnf_core.specs.Literals.{Literal, negated}
use Rattle.conflict_analysis.specs.Steps.Learning.{IsFound}
use Rattle.conflict_analysis.proofs.Walking.{seen_of_walked, found, may_resolve}
use Rattle.conflict_analysis.proofs.walk.Walk.find_first.Goals as goal

pub last_seen-end-requires-clause-some : goal.last_seen-end-requires-clause-some
last_seen-end-requires-clause-some c =
    seen_of_walked c.args.arena.now c.args.trail.now c.loop-self.end c.loop-self.self c.loop-self.invariant.walked

pub resolve-requires : goal.resolve-requires
resolve-requires c =
    may_resolve c.args.arena.now c.args.trail.now c.loop-self.end c.last_seen-end.result c.args.self.now c.loop-self.self
    c.requires.can_walk c.loop-self.invariant.size c.loop-self.invariant.walked c.last_seen-end.ensures
    (omega (arith, c.loop-self-test.true, c.count.ensures))

pub last_seen-place-requires-clause-some : goal.last_seen-place-requires-clause-some
last_seen-place-requires-clause-some c =
    seen_of_walked c.args.arena.now c.args.trail.now c.loop-self.end c.loop-self.self c.loop-self.invariant.walked

pub returns-clause-found : goal.returns-clause-found
returns-clause-found c =
    subst (λ (l : Literal). IsFound c.args.arena.now c.args.trail.now l c.loop-self.self)
    (sym (c.negated.ensures ∙ ap negated c.lit_at.ensures))
    (found c.args.arena.now c.args.trail.now c.loop-self.end c.last_seen-place.result c.loop-self.self c.requires.can_walk.trail
    c.loop-self.invariant.walked c.last_seen-place.ensures (omega (arith, c.loop-self-test.false, c.count.ensures)))
