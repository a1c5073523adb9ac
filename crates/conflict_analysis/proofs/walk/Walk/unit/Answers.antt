use Rattle.std.proofs.Common.{List, ℕ, sym, subst}
use Rattle.std.proofs.lemmas.Result.{IfOk-weaker}
use Rattle.conflict_analysis.specs.Steps.Learning.{ShowsLiteral}
use Rattle.conflict_analysis.proofs.Units.{can_show}
use Rattle.conflict_analysis.proofs.walk.Walk.unit.Goals as goal

pub find_unit-requires-clause-can_show : goal.find_unit-requires-clause-can_show
find_unit-requires-clause-can_show c =
    can_show c.args.arena.now c.args.trail.now c.args.lit c.var.result c.place_of-place.result c.place_of-place.ensures.trail
    c.requires.reasons c.requires.root c.var.ensures.value c.place_of-place.ensures.place

pub returns-clause-proved : goal.returns-clause-proved
returns-clause-proved c =
    IfOk-weaker c.hints_in_order.result _ _ (λ hints is.
    subst (λ (hs : List ℕ). ShowsLiteral c.args.arena.now c.args.trail.now.entries c.args.lit hs) (sym is)
    c.in_ok-find_unit.ensures.proved)
    c.hints_in_order.ensures.hints
