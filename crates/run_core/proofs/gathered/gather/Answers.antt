use Rattle.std.proofs.Common.{true≢false, sym, ◌∙◌, arith}
use Rattle.run_core.proofs.Rounds.{begun, may_begin, gathering_first, takes_next, gathering_next, gathered_all}
use Rattle.run_core.proofs.gathered.gather.Goals as goal

pub unreachable-requires : goal.unreachable-requires
unreachable-requires g c =
    true≢false (sym (c.in_default.ensures.variant.1 (omega (arith, c.into_iter-slots.ensures.len, c.requires.slots.count, c.requires.workers, c.args.slots.ok.0))))

pub of_first-requires : goal.of_first-requires
of_first-requires g c =
    let b = c.args.words.now in
    let w = c.args.settings.workers in
    let k = c.args.settings.budget in
    may_begin b w k c.in-Some.first c.next.new.self.rest.items
    (begun b w k c.args.slots.items c.next.new.self.rest.items c.in-Some.first (sym c.into_iter-slots.ensures.rest ∙ c.in-Some.ensures.items) c.requires.slots)

pub loop-slot-init : goal.loop-slot-init
loop-slot-init g c =
    let b = c.args.words.now in
    let w = c.args.settings.workers in
    let k = c.args.settings.budget in
    gathering_first b w k c.in-Some.first c.next.new.self.rest.items c.into_iter-slot-iterator.result.rest.items c.in_ok-gathered.gathered
    (λ i. (c.into_iter-slot-iterator.ensures.into_iter_gives i).rest.items)
    (begun b w k c.args.slots.items c.next.new.self.rest.items c.in-Some.first (sym c.into_iter-slots.ensures.rest ∙ c.in-Some.ensures.items) c.requires.slots)
    c.in_ok-gathered.ensures

pub take_in-requires : goal.take_in-requires
take_in-requires g c =
    takes_next c.args.words.now c.args.settings.workers c.args.settings.budget c.in-Some-slot.slot c.next-in-loop-slot.new.self.rest.items
    c.loop-slot.slot-iterator.rest.items c.loop-slot.gathered c.in-Some-slot.ensures.steps.0 c.requires.workers.1 c.requires.vars c.loop-slot.invariant

pub loop-slot-preserved : goal.loop-slot-preserved
loop-slot-preserved g c =
    gathering_next c.args.words.now c.args.settings.workers c.args.settings.budget c.in-Some-slot.slot c.next-in-loop-slot.new.self.rest.items
    c.loop-slot.slot-iterator.rest.items c.loop-slot.gathered c.take_in.new.self c.in-Some-slot.ensures.steps.0 c.loop-slot.invariant c.in_ok-take_in.ensures

pub returns : goal.returns
returns g c =
    gathered_all c.args.words.now c.args.settings.workers c.args.settings.budget c.loop-slot.slot-iterator.rest.items c.loop-slot.gathered
    (omega (arith, c.in-None.ensures.steps.0, c.loop-slot.slot-iterator.rest.ok.0)) c.loop-slot.invariant
