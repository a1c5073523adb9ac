use Rattle.std.proofs.Common.{◌∙◌, ℕ, sym, subst, arith}
use Rattle.std.proofs.lemmas.Result.{IfOk-weaker}
use Rattle.conflict_analysis.specs.Steps.Learning.{IsWalked}
use Rattle.conflict_analysis.proofs.Walking.{may_add_conflict, walked_first}
use Rattle.conflict_analysis.proofs.Outcomes.{may_learn, learnt_is}
use Rattle.conflict_analysis.proofs.walk.Walk.learn.Goals as goal

pub add_clause-requires : goal.add_clause-requires
add_clause-requires c =
    may_add_conflict c.args.arena.now c.args.trail.now c.start.new.self c.args.conflict c.len-end.ensures.trail
    (omega (arith, c.len-end.ensures.value, c.len-end.type_inv)) (c.start.ensures.size ∙ c.requires.size) c.start.ensures.started
    c.requires.conflict

pub find_first-requires-clause-walked : goal.find_first-requires-clause-walked
find_first-requires-clause-walked c =
    subst (λ (n : ℕ). IsWalked c.args.arena.now c.args.trail.now n c.add_clause.new.self) (sym c.len-end.ensures.value)
    (walked_first c.args.arena.now c.args.trail.now c.start.new.self c.add_clause.new.self c.args.conflict c.len-end.ensures.trail
    c.start.ensures.started c.requires.conflict c.in_ok-add_clause.ensures.added)

pub learnt-requires : goal.learnt-requires
learnt-requires c =
    may_learn c.args.arena.now c.args.trail.now c.args.conflict c.in_ok-first.first c.find_first.new.self c.len-end.ensures.trail
    c.requires.conflict c.in_ok-first.ensures.found

pub returns-clause-learnt : goal.returns-clause-learnt
returns-clause-learnt c =
    IfOk-weaker c.learnt.result _ _ (λ l derived.
    learnt_is c.args.arena.now c.args.trail.now c.args.conflict c.in_ok-first.first c.find_first.new.self l.lits l.back l.hints
    c.len-end.ensures.trail c.requires.conflict c.in_ok-first.ensures.found derived)
    c.learnt.ensures.learnt
