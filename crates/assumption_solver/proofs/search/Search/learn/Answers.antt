use Rattle.std.proofs.Common.{◌≡◌, ◌≤◌, ◌∙◌, true, sym, subst, arith}
use Rattle.std.specs.Result.{OnOk}
use Rattle.std.proofs.lemmas.Result.{on_ok_weaker}
use Rattle.cnf_core.specs.Literals.{Literals}
use Rattle.lrat_lines.specs.Tight.{IsTight}
use Rattle.lrat_log.specs.Entries.{known_after}
use Rattle.lrat_log.specs.Fresh.{IsFresh}
use Rattle.lrat_log.specs.Kept.{IsShown}
use Rattle.assumption_solver.specs.declared.search.Search.{Search}
use Rattle.assumption_solver.specs.Logs.{IsContinued}
use Rattle.assumption_solver.specs.Steps.Asserting.{IsUnitNow}
use Rattle.assumption_solver.specs.Steps.Standing.{Stands}
use Rattle.assumption_solver.specs.Steps.States.{StaysGuided}
use Rattle.assumption_solver.proofs.Conflicts.{is_conflict}
use Rattle.assumption_solver.proofs.Asserted.{back_below, unit_now}
use Rattle.assumption_solver.proofs.Freshness.{is_fresh}
use Rattle.assumption_solver.proofs.Learnt.{learnt_shown_here, learnt_tight}
use Rattle.assumption_solver.proofs.Tables.{continued_trans}
use Rattle.assumption_solver.proofs.Learning.{IsCounting, bears_learnt, is_counting, guided_learnt, continued_learnt}
use Rattle.assumption_solver.proofs.search.Search.learn.Goals as goal

pub analyse-requires-clause-conflict : goal.analyse-requires-clause-conflict
analyse-requires-clause-conflict g c =
    let s = c.args.self.now in
    is_conflict s.analyser s.arena s.watches s.trail c.args.conflict c.requires.solves.bears.searching c.requires.trail c.requires.conflict
    c.requires.above_root

pub learnt-requires-clause-shown : goal.learnt-requires-clause-shown
learnt-requires-clause-shown g c =
    let s = c.args.self.now in
    let l = c.in_ok-clause.field-0 in
    let lits : c.deref.result.now ≡ l.lits = cc in
    subst (λ hs. IsShown s.journal.formula s.journal.entries hs c.deref.result.now) (sym c.as_slice.ensures)
    (subst (λ (d : Literals). IsShown s.journal.formula s.journal.entries l.hints d) (sym lits)
    (learnt_shown_here s.analyser s.settled s.arena s.watches s.trail s.journal s.epochs l.lits l.back l.hints c.requires.solves
    c.requires.trail c.in_ok-clause.ensures.learnt))

pub learnt-requires-clause-fresh : goal.learnt-requires-clause-fresh
learnt-requires-clause-fresh g c =
    let s = c.args.self.now in
    let l = c.in_ok-clause.field-0 in
    let lits : c.deref.result.now ≡ l.lits = cc in
    subst (λ (d : Literals). IsFresh s.journal.formula s.journal.entries s.journal.query d) (sym lits)
    (is_fresh s.analyser s.settled s.arena s.watches s.trail s.journal s.epochs l.lits l.back l.hints c.requires.solves c.requires.trail
    c.in_ok-clause.ensures.learnt)

pub learnt-requires-clause-tight : goal.learnt-requires-clause-tight
learnt-requires-clause-tight g c =
    let s = c.args.self.now in
    let l = c.in_ok-clause.field-0 in
    let lits : c.deref.result.now ≡ l.lits = cc in
    let K = known_after s.journal.formula s.journal.entries in
    subst (λ hs. IsTight K hs c.deref.result.now) (sym c.as_slice.ensures)
    (subst (λ (d : Literals). IsTight K l.hints d) (sym lits)
    (learnt_tight s.analyser s.settled s.arena s.watches s.trail s.journal s.epochs l.lits l.back l.hints c.requires.solves
    c.in_ok-clause.ensures.learnt))

pub go_back-requires : goal.go_back-requires
go_back-requires g c =
    let s = c.args.self.now in
    let l = c.in_ok-clause.field-0 in
    omega (arith, back_below s.arena s.trail l.lits l.back l.hints c.requires.trail c.in_ok-clause.ensures.learnt c.requires.above_root)

pub assert_first-requires-clause-bears : goal.assert_first-requires-clause-bears
assert_first-requires-clause-bears g c =
    let s = c.args.self.now in
    let l = c.in_ok-clause.field-0 in
    let below = back_below s.arena s.trail l.lits l.back l.hints c.requires.trail c.in_ok-clause.ensures.learnt c.requires.above_root in
    let le : l.back ≤ s.trail.level = omega (arith, below) in
    let e = c.go_back.ensures.same in
    bears_learnt s c.go_back.new.self c.learnt.new.self c.deref.result.now l.back c.requires.solves c.in_ok-id.ensures.ok le
    (record {
      trail = c.go_back.ensures.back;
      arena = e.arena;
      watches = e.watches;
      analyser = e.analyser ∙ c.analyse.ensures.same;
      settled = e.settled;
      journal = e.journal;
      epochs = e.epochs;
    })

pub assert_first-requires-clause-unit : goal.assert_first-requires-clause-unit
assert_first-requires-clause-unit g c =
    let s = c.args.self.now in
    let l = c.in_ok-clause.field-0 in
    let same : c.deref_mut.result.now ≡ l.lits = cc in
    subst (λ (lits : Literals). IsUnitNow c.go_back.new.self.trail lits) (sym same)
    (unit_now s.arena s.trail c.go_back.new.self.trail l.lits l.back l.hints c.requires.trail c.in_ok-clause.ensures.learnt
    c.requires.above_root c.go_back.ensures.back)

pub count_clause-requires-clause-learnt : goal.count_clause-requires-clause-learnt
count_clause-requires-clause-learnt g c =
    let s = c.args.self.now in
    let l = c.in_ok-clause.field-0 in
    let e = c.go_back.ensures.same in
    let f = c.in_ok-assert_first.ensures in
    let lits : c.deref_mut.result.now ≡ c.deref.result.now = cc in
    let counting = subst IsCounting (sym c.recycle.ensures)
    (is_counting s c.go_back.new.self c.assert_first.new.self c.learnt.new.self c.deref.result.now l.back c.requires.solves
    c.in_ok-id.ensures.ok
    (record {
      trail = c.go_back.ensures.back;
      arena = e.arena;
      watches = e.watches;
      analyser = e.analyser ∙ c.analyse.ensures.same;
      settled = e.settled;
      journal = e.journal;
      epochs = e.epochs;
    })
    f.learnt (subst (λ (d : Literals). Stands c.assert_first.new.self.arena c.assert_first.new.self.trail.entries true d) lits f.stands)
    f.noted f.epochs c.requires.room) in counting.learnt

pub count_clause-requires-clause-counted : goal.count_clause-requires-clause-counted
count_clause-requires-clause-counted g c =
    let s = c.args.self.now in
    let l = c.in_ok-clause.field-0 in
    let e = c.go_back.ensures.same in
    let f = c.in_ok-assert_first.ensures in
    let lits : c.deref_mut.result.now ≡ c.deref.result.now = cc in
    let counting = subst IsCounting (sym c.recycle.ensures)
    (is_counting s c.go_back.new.self c.assert_first.new.self c.learnt.new.self c.deref.result.now l.back c.requires.solves
    c.in_ok-id.ensures.ok
    (record {
      trail = c.go_back.ensures.back;
      arena = e.arena;
      watches = e.watches;
      analyser = e.analyser ∙ c.analyse.ensures.same;
      settled = e.settled;
      journal = e.journal;
      epochs = e.epochs;
    })
    f.learnt (subst (λ (d : Literals). Stands c.assert_first.new.self.arena c.assert_first.new.self.trail.entries true d) lits f.stands)
    f.noted f.epochs c.requires.room) in counting.counted

pub count_clause-requires-clause-room : goal.count_clause-requires-clause-room
count_clause-requires-clause-room g c =
    let s = c.args.self.now in
    let l = c.in_ok-clause.field-0 in
    let e = c.go_back.ensures.same in
    let f = c.in_ok-assert_first.ensures in
    let lits : c.deref_mut.result.now ≡ c.deref.result.now = cc in
    let counting = subst IsCounting (sym c.recycle.ensures)
    (is_counting s c.go_back.new.self c.assert_first.new.self c.learnt.new.self c.deref.result.now l.back c.requires.solves
    c.in_ok-id.ensures.ok
    (record {
      trail = c.go_back.ensures.back;
      arena = e.arena;
      watches = e.watches;
      analyser = e.analyser ∙ c.analyse.ensures.same;
      settled = e.settled;
      journal = e.journal;
      epochs = e.epochs;
    })
    f.learnt (subst (λ (d : Literals). Stands c.assert_first.new.self.arena c.assert_first.new.self.trail.entries true d) lits f.stands)
    f.noted f.epochs c.requires.room) in counting.room

pub returns-in_err-assert_first-clause-continued : goal.returns-in_err-assert_first-clause-continued
returns-in_err-assert_first-clause-continued g c =
    continued_learnt c.args.self.now c.go_back.new.self c.assert_first.new.self c.learnt.new.self c.deref.result.now c.in_ok-id.ensures.ok
    c.go_back.ensures.same.journal c.assert_first.ensures.noted

pub returns-clause-continued : goal.returns-clause-continued
returns-clause-continued g c =
    continued_trans c.args.self.now.journal c.assert_first.new.self.journal c.count_clause.new.self.journal
    (continued_learnt c.args.self.now c.go_back.new.self c.assert_first.new.self c.learnt.new.self c.deref.result.now c.in_ok-id.ensures.ok
    c.go_back.ensures.same.journal c.assert_first.ensures.noted)
    (subst (λ (v : Search). IsContinued v.journal c.count_clause.new.self.journal) c.recycle.ensures c.count_clause.ensures.noted.continued)

pub returns-clause-guided : goal.returns-clause-guided
returns-clause-guided g c =
    let s = c.args.self.now in
    let l = c.in_ok-clause.field-0 in
    let below = back_below s.arena s.trail l.lits l.back l.hints c.requires.trail c.in_ok-clause.ensures.learnt c.requires.above_root in
    let le : l.back ≤ s.trail.level = omega (arith, below) in
    on_ok_weaker c.count_clause.result (λ stays.
    guided_learnt s c.go_back.new.self c.assert_first.new.self c.count_clause.new.self l.back c.go_back.ensures.back le
    c.in_ok-assert_first.ensures.guided stays)
    (subst (λ (v : Search). OnOk c.count_clause.result (StaysGuided v c.count_clause.new.self)) c.recycle.ensures
    c.count_clause.ensures.guided)
