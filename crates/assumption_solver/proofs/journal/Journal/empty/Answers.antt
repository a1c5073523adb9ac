use Rattle.std.proofs.Common.{[], refl, subst}
use Rattle.lrat_log.specs.declared.kind.Kind.TheVariants.{Empty}
use Rattle.lrat_log.specs.Entries.{Recorded}
use Rattle.assumption_solver.specs.Steps.Noted.{IsNoted}
use Rattle.assumption_solver.proofs.Tables.{table_after, noted_after, entry_after}
use Rattle.assumption_solver.proofs.journal.Journal.empty.Goals as goal

pub invariant_of-self : goal.invariant_of-self
invariant_of-self c =
    table_after c.empty.result c.self.inside.log c.empty.new.self c.self.inside.ids.items c.self.inside.first Empty [] c.args.hints.now refl
    c.empty.ensures.ok c.empty.ensures.err c.self.invariant

pub returns-clause-empty : goal.returns-clause-empty
returns-clause-empty c =
    entry_after c.empty.result c.self.inside.log c.empty.new.self Empty [] c.args.hints.now c.empty.ensures.ok c.empty.ensures.id

pub returns-clause-noted : goal.returns-clause-noted
returns-clause-noted c =
    subst (λ (L : Recorded). IsNoted L c.empty.new.self) c.self.view_is
    (noted_after c.empty.result c.self.inside.log c.empty.new.self Empty [] c.args.hints.now refl refl c.empty.ensures.ok c.empty.ensures.err)
