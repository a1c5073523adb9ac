use Rattle.std.proofs.Common.{refl, sym, ap, subst, arith}
use Rattle.trail_core.specs.declared.entry.Reason.TheVariants.{Clause as ByClause, Unit as ByUnit}
use Rattle.trail_core.specs.Trails.{TrailState}
use Rattle.watch_lists.specs.Clauses.{IsClean}
use Rattle.assumption_solver.proofs.Clauses.{clean_at_end}
use Rattle.assumption_solver.proofs.Asserted.{searching_asserted, arranged_slice}
use Rattle.assumption_solver.proofs.Tables.{noted_same}
use Rattle.assumption_solver.proofs.Guided.{guided_pushed_is, unit_is_no_decision, clause_is_no_decision}
use Rattle.assumption_solver.proofs.Learnt.{single, unit_is_shown, asserted_unit, asserted_clause}
use Rattle.assumption_solver.proofs.search.Search.assert_first.Goals as goal

pub unit-requires : goal.unit-requires
unit-requires c =
    let s = c.args.self.now in
    unit_is_shown s.analyser s.settled s.arena s.watches s.trail s.journal c.args.lits.now c.index-lits-0.result c.args.id
    c.requires.bears c.requires.unit c.requires.known (single c.args.lits.now c.index-lits-0.result c.index-lits-0.is c.if-lits-eq1.true)

pub attach-requires-clause-clean : goal.attach-requires-clause-clean
attach-requires-clause-clean c =
    let s = c.args.self.now in
    let h = arranged_slice s.trail c.args.lits.now c.swap.new.self c.second_watch-second.result c.index-lits-0.result (omega arith)
    c.requires.unit c.second_watch-second.ensures c.swap.ensures.after c.index-lits-0.is in
    let vars = c.requires.bears.searching.ready.vars in
    clean_at_end s.watches.vars s.arena c.add.new.self c.swap.new.self c.in_ok-r.r c.args.id c.in_ok-r.ensures.added
    c.in_ok-r.ensures.place (subst (λ n. IsClean n c.swap.new.self) (sym vars) h.clean)

pub returns-then-lits-eq1 : goal.returns-then-lits-eq1
returns-then-lits-eq1 c =
    let s = c.args.self.now in
    let h = asserted_unit s.analyser s.settled s.arena s.watches s.trail c.push.new.self s.journal c.unit.new.self c.args.lits.now
    c.index-lits-0.result c.in_ok-unit.unit c.requires.bears c.requires.unit c.if-lits-eq1.true c.index-lits-0.is
    c.in_ok-unit.ensures.noted c.in_ok-unit.ensures.unit c.push.ensures in record {
      bears = h.bears;
      learnt = h.learnt;
      stands = h.stands;
      guided = guided_pushed_is s.trail c.push.new.self c.index-lits-0.result (ByUnit c.in_ok-unit.unit)
          (unit_is_no_decision c.in_ok-unit.unit) c.push.ensures;
      vars = ap (λ (t : TrailState). t.vars) c.push.ensures;
      epochs = refl;
      noted = c.in_ok-unit.ensures.noted;
    }

pub returns : goal.returns
returns c =
    let s = c.args.self.now in
    let a = arranged_slice s.trail c.args.lits.now c.swap.new.self c.second_watch-second.result c.index-lits-0.result (omega arith)
    c.requires.unit c.second_watch-second.ensures c.swap.ensures.after c.index-lits-0.is in
    let searching = searching_asserted s.analyser s.arena c.add.new.self s.watches c.attach.new.self s.trail c.push-2.new.self
    c.swap.new.self c.index-lits-0.result c.args.id c.in_ok-r.r c.requires.bears.searching a c.in_ok-r.ensures.added
    c.in_ok-r.ensures.place c.in_ok-attach.ensures.ok c.push-2.ensures in
    let h = asserted_clause s.analyser s.settled s.arena c.add.new.self s.watches c.attach.new.self s.trail c.push-2.new.self s.journal
    c.args.lits.now c.swap.new.self c.index-lits-0.result c.second_watch-second.result c.args.id c.in_ok-r.r c.requires.bears
    (omega arith) c.second_watch-second.ensures.within c.swap.ensures.after c.requires.known searching c.in_ok-r.ensures.added
    c.push-2.ensures in record {
      bears = h.bears;
      learnt = h.learnt;
      stands = h.stands;
      guided = guided_pushed_is s.trail c.push-2.new.self c.index-lits-0.result (ByClause c.in_ok-r.r)
          (clause_is_no_decision c.in_ok-r.r) c.push-2.ensures;
      vars = ap (λ (t : TrailState). t.vars) c.push-2.ensures;
      epochs = refl;
      noted = noted_same s.journal;
    }
