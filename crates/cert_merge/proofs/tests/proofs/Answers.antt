use Rattle.std.proofs.Common.{List, ◌∷◌, [], sym, subst}
use Rattle.cnf_core.specs.Literals.{Literal}
use Rattle.lrat_log.specs.Entries.{Recorded}
use Rattle.cert_merge.specs.Merging.{AreImportsShown, HasLines}
use Rattle.cert_merge.specs.Trimming.{HasUnits}
use Rattle.cert_merge.specs.MergedNeeds.{HaveUnitEntries}
use Rattle.cert_merge.specs.Examples.{both, only_one}
use Rattle.cert_merge.proofs.OrderedLines.{units_of_entries}
use Rattle.cert_merge.proofs.Worked.{imports_shown, unit_entries}
use Rattle.cert_merge.proofs.tests.proofs.Goals as goal

pub merge-requires-clause-imports : goal.merge-requires-clause-imports
merge-requires-clause-imports c = subst AreImportsShown (sym c.requires.logs) imports_shown

pub trim-requires-clause-keep : goal.trim-requires-clause-keep
trim-requires-clause-keep c =
    subst (λ (l : Literal). HasUnits c.in_ok-proof.proof (l ∷ [])) (sym c.new.ensures)
    (units_of_entries both c.in_ok-proof.proof only_one
    (subst (λ (logs : List Recorded). HasLines logs c.in_ok-proof.proof) c.requires.logs c.in_ok-proof.ensures.added) unit_entries)

pub merge_needed-requires-clause-keep : goal.merge_needed-requires-clause-keep
merge_needed-requires-clause-keep c =
    subst (λ (logs : List Recorded). HaveUnitEntries logs (c.new.result ∷ [])) (sym c.requires.logs)
    (subst (λ (l : Literal). HaveUnitEntries both (l ∷ [])) (sym c.new.ensures) unit_entries)
