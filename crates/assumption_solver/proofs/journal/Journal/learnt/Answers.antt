use Rattle.std.proofs.Common.{OnOk, refl, subst}
use Rattle.lrat_log.specs.declared.kind.Kind.TheVariants.{Learnt}
use Rattle.lrat_log.specs.Entries.{Recorded}
use Rattle.assumption_solver.specs.Steps.Noted.{HasLearnt}
use Rattle.assumption_solver.proofs.Tables.{table_after, learnt_after}
use Rattle.assumption_solver.proofs.journal.Journal.learnt.Goals as goal

pub invariant_of-self : goal.invariant_of-self
invariant_of-self c =
    table_after c.learnt.result c.self.inside.log c.learnt.new.self c.self.inside.ids.items c.self.inside.first Learnt c.args.lits.now c.args.hints.now refl
    c.learnt.ensures.ok c.learnt.ensures.err c.self.invariant

pub returns-clause-ok : goal.returns-clause-ok
returns-clause-ok c =
    subst (λ (L : Recorded). OnOk c.learnt.result (HasLearnt L c.learnt.new.self c.args.lits.now)) c.self.view_is
    (learnt_after c.learnt.result c.self.inside.log c.learnt.new.self c.args.lits.now c.args.hints.now c.learnt.ensures.ok)
