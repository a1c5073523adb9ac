-- The formula has no model, so each literal holds in all.
use Rattle.std.proofs.Common.{◌≡◌, ap, ◌∙◌}
use Rattle.lrat_log.specs.Entries.{Recorded}
use Rattle.lrat_log.specs.Examples.{refuted}
use Rattle.lrat_log.proofs.Worked.{worked}
use Rattle.cert_merge.proofs.tests.refute.Goals as goal

pub import-requires : goal.import-requires
import-requires c =
    let same : c.args.log.now.formula ≡ refuted = ap (λ (L : Recorded). L.formula) c.requires in
    rw (same, c.new.ensures) worked.imported

pub import-requires-2 : goal.import-requires-2
import-requires-2 c =
    let same : c.import.new.self.formula ≡ refuted =
    ap (λ (L : Recorded). L.formula) c.in_ok-import.ensures.ok ∙ ap (λ (L : Recorded). L.formula) c.requires in
    rw (same, c.new-2.ensures) worked.imported_late
