use Rattle.std.proofs.Common.{◌∷◌, []}
use Rattle.cert_merge.proofs.OrderedLines.{units_of_entries}
use Rattle.merge_bench.proofs.Grown.{unit_entries}
use Rattle.merge_bench.proofs.tasks.trimmed.Goals as goal

pub trim-requires-clause-keep : goal.trim-requires-clause-keep
trim-requires-clause-keep c =
    units_of_entries c.args.logs.now c.in_ok-proof.proof (c.new.result ∷ []) c.in_ok-proof.ensures.added
    (unit_entries c.args.formula.now c.args.logs.now c.new.result c.requires.some c.requires.whole c.new.ensures)
