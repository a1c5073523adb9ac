use Rattle.std.proofs.Common.{refl, subst}
use Rattle.lrat_log.specs.declared.kind.Kind.TheVariants.{Core}
use Rattle.lrat_log.specs.Entries.{Recorded}
use Rattle.assumption_solver.specs.Steps.Noted.{IsNoted}
use Rattle.assumption_solver.proofs.Tables.{table_after, noted_after, entry_after}
use Rattle.assumption_solver.proofs.journal.Journal.core.Goals as goal

pub invariant_of-self : goal.invariant_of-self
invariant_of-self c =
    table_after c.core.result c.self.inside.log c.core.new.self c.self.inside.ids.items c.self.inside.first Core c.args.lits.now c.args.hints.now refl
    c.core.ensures.ok c.core.ensures.err c.self.invariant

pub returns-clause-core : goal.returns-clause-core
returns-clause-core c =
    entry_after c.core.result c.self.inside.log c.core.new.self Core c.args.lits.now c.args.hints.now c.core.ensures.ok c.core.ensures.id

pub returns-clause-noted : goal.returns-clause-noted
returns-clause-noted c =
    subst (λ (L : Recorded). IsNoted L c.core.new.self) c.self.view_is
    (noted_after c.core.result c.self.inside.log c.core.new.self Core c.args.lits.now c.args.hints.now refl refl c.core.ensures.ok c.core.ensures.err)
