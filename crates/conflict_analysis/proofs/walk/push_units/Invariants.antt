use Rattle.std.proofs.Common.{◌⊎◌, length, drop, reverse, Contains}
use Rattle.cnf_core.specs.Literals.{Literals}
use Rattle.clause_arena.specs.Entries.{Entries}
use Rattle.lrat_lines.specs.Propagation.{Known}
use Rattle.conflict_analysis.specs.Members.{IsMapOf}
use Rattle.conflict_analysis.specs.Steps.Resolvents.{Derives}
use Rattle.conflict_analysis.proofs.walk.push_units.Given as goal

abbrev pub invariant-loop-lit : goal.invariant-loop-lit
invariant-loop-lit l = (a : Entries) (known : Known) (own : Literals) → IsMapOf a l.trail.entries known
    → Derives known l.trail.entries (length l.trail.entries) (λ x. Contains own x ⊎ Contains l.roots x) (reverse l.initial.hints.items)
    → Derives known l.trail.entries (length l.trail.entries) (λ x. Contains own x ⊎ Contains (drop l.lit-index l.roots) x)
    (reverse l.hints.items)
