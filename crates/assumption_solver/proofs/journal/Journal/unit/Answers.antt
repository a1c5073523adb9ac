use Rattle.std.proofs.Common.{[], sym, subst, refl}
use Rattle.std.proofs.lemmas.List.Elements.{All-head}
use Rattle.cnf_core.specs.Literals.{IsWithin}
use Rattle.lrat_log.specs.declared.kind.Kind.TheVariants.{Unit as UnitKind}
use Rattle.lrat_log.specs.Entries.{Recorded}
use Rattle.assumption_solver.proofs.Tables.{table_of_unit, entry_of_unit}
use Rattle.assumption_solver.proofs.journal.Journal.unit.Goals as goal

pub invariant_of-self-2 : goal.invariant_of-self-2
invariant_of-self-2 c =
    let L = c.self.inside.log in
    table_of_unit L c.unit.new.self c.self.inside.ids.items c.self.inside.first UnitKind c.args.lit c.args.hints.now L.clock
    c.in_ok-id.id c.code.result refl (subst (λ (M : Recorded). IsWithin M.formula.vars c.args.lit) (sym c.self.view_is)
    (All-head (IsWithin c.args.self.now.formula.vars) c.args.lit [] c.requires.within))
    c.in_ok-id.ensures.id c.code.ensures.value c.in_ok-id.ensures.ok c.self.invariant

pub returns-clause-unit : goal.returns-clause-unit
returns-clause-unit c =
    let L = c.self.inside.log in
    entry_of_unit L c.unit.new.self UnitKind c.args.lit c.args.hints.now L.clock c.in_ok-id.id c.in_ok-id.ensures.id c.in_ok-id.ensures.ok
