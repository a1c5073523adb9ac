use Rattle.merge_bench.proofs.Grown.{unit_entries}
use Rattle.merge_bench.proofs.tasks.needed.Goals as goal

pub merge_needed-requires-clause-keep : goal.merge_needed-requires-clause-keep
merge_needed-requires-clause-keep c =
    unit_entries c.args.formula.now c.args.logs.now c.new.result c.requires.some c.requires.whole c.new.ensures
