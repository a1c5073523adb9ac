use Rattle.std.proofs.Common.{[], sym, subst, refl}
use Rattle.cnf_core.specs.Literals.{IsWithin}
use Rattle.lrat_log.specs.declared.kind.Kind.TheVariants.{Import}
use Rattle.lrat_log.specs.Entries.{Recorded, later_of}
use Rattle.assumption_solver.proofs.Tables.{table_of_unit, entry_of_unit, unit_of_entry}
use Rattle.assumption_solver.proofs.journal.Journal.import.Goals as goal

pub invariant_of-self-2 : goal.invariant_of-self-2
invariant_of-self-2 c =
    let L = c.self.inside.log in
    table_of_unit L c.import.new.self c.self.inside.ids.items c.self.inside.first Import c.args.lit [] (later_of L.clock c.args.stamp)
    c.in_ok-id.id c.code.result refl (subst (λ (M : Recorded). IsWithin M.formula.vars c.args.lit) (sym c.self.view_is) c.requires.within)
    c.in_ok-id.ensures.id c.code.ensures.value c.in_ok-id.ensures.ok c.self.invariant

pub returns-clause-unit : goal.returns-clause-unit
returns-clause-unit c =
    let L = c.self.inside.log in
    unit_of_entry c.import.new.self c.in_ok-id.id Import c.args.lit refl
    (entry_of_unit L c.import.new.self Import c.args.lit [] (later_of L.clock c.args.stamp) c.in_ok-id.id c.in_ok-id.ensures.id c.in_ok-id.ensures.ok)
