use Rattle.std.proofs.Common.{◌∙◌, sym}
use Rattle.std.proofs.lemmas.Result.{on_ok_weaker}
use Rattle.conflict_analysis.proofs.Walking.{room_to_count, taken_present, taken_root, taken_lower}
use Rattle.conflict_analysis.proofs.walk.Walk.take.Goals as goal

pub count_up-requires : goal.count_up-requires
count_up-requires c =
    room_to_count c.args.trail.now c.args.lit c.args.self.now c.mark.new.self c.var.result c.level_of-level.result c.requires
    c.var.ensures.value c.mark.ensures (λ k lt is. c.level_of-level.ensures k lt (is ∙ sym c.var-2.ensures.value))
    (c.if-level.true ∙ c.level.ensures.value)

pub returns-then-level-clause-taken : goal.returns-then-level-clause-taken
returns-then-level-clause-taken c =
    on_ok_weaker c.note.result (λ same.
    taken_present c.args.trail.now c.args.lit c.args.self.now c.mark.new.self c.note.new.self c.var.result
    c.level_of-level.result c.requires
    c.var.ensures.value c.mark.ensures (λ k lt is. c.level_of-level.ensures k lt (is ∙ sym c.var-2.ensures.value))
    (c.if-level.true ∙ c.level.ensures.value) (same ∙ c.count_up.ensures)) c.note.ensures.noted

pub returns-then-level-eq0-clause-taken : goal.returns-then-level-eq0-clause-taken
returns-then-level-eq0-clause-taken c =
    on_ok_weaker c.add_root.result (λ added.
    taken_root c.args.trail.now c.args.lit c.args.self.now c.mark.new.self c.add_root.new.self c.var.result
    c.level_of-level.result c.requires
    c.var.ensures.value c.mark.ensures (λ k lt is. c.level_of-level.ensures k lt (is ∙ sym c.var-2.ensures.value))
    c.if-level-eq0.true added) c.add_root.ensures.added

pub returns-clause-taken : goal.returns-clause-taken
returns-clause-taken c =
    on_ok_weaker c.add_literal.result (λ added.
    taken_lower c.args.trail.now c.args.lit c.args.self.now c.mark.new.self c.add_literal.new.self c.var.result
    c.level_of-level.result c.requires
    c.var.ensures.value c.mark.ensures (λ k lt is. c.level_of-level.ensures k lt (is ∙ sym c.var-2.ensures.value))
    (λ top. c.if-level.false (top ∙ sym c.level.ensures.value)) c.if-level-eq0.false added) c.add_literal.ensures.added
