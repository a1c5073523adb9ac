use Rattle.std.proofs.Common.{ℕ, ◌≤◌, refl, sym, ap, ◌∙◌, subst}
use Rattle.cnf_core.specs.Literals.{Literal}
use Rattle.cnf_core.specs.Formulas.{models, true_literal}
use Rattle.lrat_log.specs.Entries.{with_import}
use Rattle.std.specs.Prelude.{Some}
use Rattle.board_core.specs.Subjects.{About}
use Rattle.candidate_words.specs.Seats.{Sitter}
use Rattle.shared_fixed.specs.Stamps.{HasAskedStamp}
use Rattle.assumption_solver.specs.SolverStates.{SolverState}
use Rattle.assumption_solver.specs.Units.{HasUnit}
use Rattle.worker_loop.proofs.Imports.{same_about, post_moved, moved_asked, moved_import, taken_one}
use Rattle.worker_loop.proofs.Marked.{has_models, entailed_of, shown_import}
use Rattle.worker_loop.proofs.post.Post.take_over.Goals as goal

pub returns-in_default-clause-post : goal.returns-in_default-clause-post
returns-in_default-clause-post c =
    post_moved c.args.self.now c.origin.new.seat c.args.self.now.solver c.requires.post
    (moved_asked c.args.words.now c.args.self.now c.origin.new.seat c.args.self.now.solver c.var.result c.origin.result c.requires.post
    c.requires.sits c.origin.ensures.sits c.origin.ensures.once c.origin.ensures.asked refl)

pub add_unit-requires-clause-entailed : goal.add_unit-requires-clause-entailed
add_unit-requires-clause-entailed c =
    entailed_of c.args.words.now c.args.self.now c.args.lit c.var.result c.requires.post c.requires.sits c.in-Some.ensures.stamp.entailed
    c.var.ensures.value c.requires.phase

pub add_unit-requires-clause-has_model : goal.add_unit-requires-clause-has_model
add_unit-requires-clause-has_model c none =
    has_models c.args.self.now.question.now.formula c.args.self.now.question.now.phases c.requires.post.is_model
    (ap models (sym c.requires.post.told.log) ∙ none)

pub returns-in_err-add_unit-clause-post : goal.returns-in_err-add_unit-clause-post
returns-in_err-add_unit-clause-post c =
    post_moved c.args.self.now c.origin.new.seat c.add_unit.new.self c.requires.post
    (moved_asked c.args.words.now c.args.self.now c.origin.new.seat c.add_unit.new.self c.var.result c.origin.result c.requires.post
    c.requires.sits c.origin.ensures.sits c.origin.ensures.once c.origin.ensures.asked c.in_err-add_unit.ensures.err.0)

pub mark_rooted-requires-clause-post : goal.mark_rooted-requires-clause-post
mark_rooted-requires-clause-post c =
    let p = c.args.self.now in
    let is = c.in_ok-add_unit.ensures.added c.requires.unknown
    ∙ ap (λ (l : Literal). with_import p.solver.log l c.in-Some.stamp)
    (c.requires.phase ∙ ap (λ (x : ℕ). true_literal p.question.now.phases x) (sym c.var.ensures.value)) in
    let about = same_about c.args.words.now p.question.now p.seat c.requires.sits c.requires.post.view in
    post_moved p c.origin.new.seat c.add_unit.new.self c.requires.post
    (moved_import c.args.words.now p c.origin.new.seat c.add_unit.new.self c.var.result c.in-Some.stamp c.requires.post
    c.requires.sits c.origin.ensures.sits c.origin.ensures.once c.in-Some.ensures.asked
    (subst (λ (a : About). c.in-Some.stamp ≤ a.formula.vars) about c.in-Some.ensures.stamp.high) is)

pub mark_rooted-requires-clause-shown : goal.mark_rooted-requires-clause-shown
mark_rooted-requires-clause-shown c =
    let p = c.args.self.now in
    shown_import p.solver.log c.add_unit.new.self.log c.args.lit (true_literal p.question.now.phases c.var-2.result) c.in-Some.stamp
    (c.in_ok-add_unit.ensures.added c.requires.unknown)
    (c.requires.phase ∙ ap (λ (x : ℕ). true_literal p.question.now.phases x) (sym c.var-2.ensures.value))

pub returns-clause-taken : goal.returns-clause-taken
returns-clause-taken c =
    let p = c.args.self.now in
    let x = c.var.result in
    let same = c.mark_rooted.ensures.same in
    taken_one p c.mark_rooted.new.self x c.in-Some.stamp
    (subst (λ (t : Sitter). HasAskedStamp p.seat x (Some c.in-Some.stamp) t) (sym same.seat) c.in-Some.ensures.asked)
    (subst (λ (s : SolverState). HasUnit s.log (true_literal p.question.now.phases x)) (sym same.solver)
    (shown_import p.solver.log c.add_unit.new.self.log c.args.lit (true_literal p.question.now.phases x) c.in-Some.stamp
    (c.in_ok-add_unit.ensures.added c.requires.unknown)
    (c.requires.phase ∙ ap (λ (y : ℕ). true_literal p.question.now.phases y) (sym c.var.ensures.value))))
