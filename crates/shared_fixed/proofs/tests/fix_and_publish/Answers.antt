use Rattle.shared_fixed.proofs.Turns.{publish_ready}
use Rattle.shared_fixed.proofs.tests.fix_and_publish.Goals as goal

pub publish-requires-clause-publishes : goal.publish-requires-clause-publishes
publish-requires-clause-publishes c =
    publish_ready c.args.seat.now c.fix_bits.new.seat c.fix_bits.result c.fix_bits.ensures.fixed c.if-fix_bits-ne1.false c.requires.new.0
