use Rattle.std.proofs.Common.{List, ◌∷◌, [], sym, subst}
use Rattle.cnf_core.specs.Literals.{Literal}
use Rattle.lrat_lines.specs.Examples.{positive}
use Rattle.lrat_log.specs.Entries.{Recorded}
use Rattle.cert_merge.specs.Merging.{AreImportsShown, HasLines}
use Rattle.cert_merge.specs.Trimming.{HasUnits}
use Rattle.cert_merge.specs.MergedNeeds.{HaveUnitEntries}
use Rattle.cert_merge.specs.Examples.{across}
use Rattle.cert_merge.proofs.OrderedLines.{units_of_entries}
use Rattle.cert_merge.proofs.Worked.{imports_across, three_entries}
use Rattle.cert_merge.proofs.tests.proofs_across.Goals as goal

pub merge-requires-clause-imports : goal.merge-requires-clause-imports
merge-requires-clause-imports c = subst AreImportsShown (sym c.requires.logs) imports_across

pub trim-requires-clause-keep : goal.trim-requires-clause-keep
trim-requires-clause-keep c =
    subst (λ (l : Literal). HasUnits c.in_ok-proof.proof (l ∷ [])) (sym c.new.ensures)
    (units_of_entries across c.in_ok-proof.proof (positive 3 ∷ [])
    (subst (λ (logs : List Recorded). HasLines logs c.in_ok-proof.proof) c.requires.logs c.in_ok-proof.ensures.added) three_entries)

pub merge_needed-requires-clause-keep : goal.merge_needed-requires-clause-keep
merge_needed-requires-clause-keep c =
    subst (λ (logs : List Recorded). HaveUnitEntries logs (c.new.result ∷ [])) (sym c.requires.logs)
    (subst (λ (l : Literal). HaveUnitEntries across (l ∷ [])) (sym c.new.ensures) three_entries)

pub merge_needed-requires-clause-imports : goal.merge_needed-requires-clause-imports
merge_needed-requires-clause-imports c = subst AreImportsShown (sym c.requires.logs) imports_across
