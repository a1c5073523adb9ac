use Rattle.std.proofs.Common.{List, ℕ, ◌++◌, ◌/◌, sym, subst}
use Rattle.lrat_log.specs.Packed.{packed_number}
use Rattle.lrat_log.proofs.Groups.{HasGroups, groups_begin, groups_next}
use Rattle.lrat_log.proofs.numbers.push_number.Goals as goal

pub loop-left-init : goal.loop-left-init
loop-left-init c = groups_begin c.args.bytes.now.items c.args.number c.ranges.number.fits

pub loop-left-preserved : goal.loop-left-preserved
loop-left-preserved c =
    subst (λ (bytes : List ℕ). HasGroups bytes (c.args.bytes.now.items ++ packed_number c.args.number) (c.loop-left.left / 128))
    (sym c.in_ok-push.ensures.items)
    (groups_next c.loop-left.bytes.items (c.args.bytes.now.items ++ packed_number c.args.number) c.loop-left.left
    c.loop-left.invariant c.loop-left-test.true)
