use Rattle.std.proofs.Common.{◌≡◌, [], inr, sym, subst, ◌∙◌}
use Rattle.std.specs.Prelude.{All}
use Rattle.cnf_core.specs.Literals.{AreWithin}
use Rattle.board_core.specs.Subjects.{About, candidate}
use Rattle.assumption_solver.specs.Answers.{IsModelFor, FoundSays}
use Rattle.assumption_solver.specs.declared.found.Found.{Found}
use Rattle.worker_loop.proofs.Cores.{shown_core, within_core, has_model, goes_all}
use Rattle.worker_loop.proofs.Landed.{core_later}
use Rattle.worker_loop.proofs.Onward.{onward_trans}
use Rattle.worker_loop.proofs.Replies.{no_core}
use Rattle.worker_loop.proofs.Settling.{settled_onward, onward_from}
use Rattle.worker_loop.proofs.post.Post.split_core.Goals as goal

pub ask-requires-clause-chunk : goal.ask-requires-clause-chunk
ask-requires-clause-chunk g c =
    subst (λ (a : About). AreWithin a.formula.vars c.args.core.now) (sym c.prefer_split.ensures.same.question)
    (within_core c.args.self.now c.args.core.now c.requires.post c.requires.copied c.requires.core.were_open)

pub prefer_split-requires-clause-core : goal.prefer_split-requires-clause-core
prefer_split-requires-clause-core g c =
    within_core c.args.self.now c.args.core.now c.requires.post c.requires.copied c.requires.core.were_open

pub fix_all-requires-clause-shown : goal.fix_all-requires-clause-shown
fix_all-requires-clause-shown g c =
    let onward = onward_from c.args.self.now c.prefer_split.new.self c.ask.new.self c.prefer_split.ensures.same c.ask.ensures.onward in
    subst (λ (a : About). All (λ l. candidate a.formula l.var ≡ 1) c.args.core.now) (sym onward.question)
    (shown_core c.args.self.now c.args.core.now c.requires.post c.requires.copied c.requires.core.were_open)

pub returns-in-Closed-clause-follows : goal.returns-in-Closed-clause-follows
returns-in-Closed-clause-follows g c =
    let onward = onward_from c.args.self.now c.prefer_split.new.self c.ask.new.self c.prefer_split.ensures.same c.ask.ensures.onward in
    goes_all c.args.self.now c.ask.new.self c.args.core.now c.requires.post c.requires.copied onward c.requires.core c.in-Closed.ensures.says.1

pub returns-in-Closed-clause-settled : goal.returns-in-Closed-clause-settled
returns-in-Closed-clause-settled g c =
    let onward = onward_from c.args.self.now c.prefer_split.new.self c.ask.new.self c.prefer_split.ensures.same c.ask.ensures.onward in
    settled_onward c.args.self.now c.ask.new.self c.ask.ensures.post onward (c.ask.ensures.models ∙ c.prefer_split.ensures.same.models)

pub returns-in-Answered-AllFixed-clause-onward : goal.returns-in-Answered-AllFixed-clause-onward
returns-in-Answered-AllFixed-clause-onward g c =
    let onward = onward_from c.args.self.now c.prefer_split.new.self c.ask.new.self c.prefer_split.ensures.same c.ask.ensures.onward in
    onward_trans c.args.self.now c.ask.new.self c.fix_all.new.self onward c.fix_all.ensures.onward

pub returns-in-Answered-AllFixed-clause-follows : goal.returns-in-Answered-AllFixed-clause-follows
returns-in-Answered-AllFixed-clause-follows g c =
    let onward = onward_from c.args.self.now c.prefer_split.new.self c.ask.new.self c.prefer_split.ensures.same c.ask.ensures.onward in
    goes_all c.args.self.now c.fix_all.new.self c.args.core.now c.requires.post c.requires.copied
    (onward_trans c.args.self.now c.ask.new.self c.fix_all.new.self onward c.fix_all.ensures.onward)
    c.requires.core c.fix_all.ensures.closed

pub returns-in-Answered-AllFixed-clause-settled : goal.returns-in-Answered-AllFixed-clause-settled
returns-in-Answered-AllFixed-clause-settled g c =
    let onward = onward_from c.args.self.now c.prefer_split.new.self c.ask.new.self c.prefer_split.ensures.same c.ask.ensures.onward in
    settled_onward c.args.self.now c.fix_all.new.self c.fix_all.ensures.post
    (onward_trans c.args.self.now c.ask.new.self c.fix_all.new.self onward c.fix_all.ensures.onward)
    (c.fix_all.ensures.models ∙ c.ask.ensures.models ∙ c.prefer_split.ensures.same.models)

pub returns-in-Answered-Spent-clause-settled : goal.returns-in-Answered-Spent-clause-settled
returns-in-Answered-Spent-clause-settled g c =
    let onward = onward_from c.args.self.now c.prefer_split.new.self c.ask.new.self c.prefer_split.ensures.same c.ask.ensures.onward in
    settled_onward c.args.self.now c.ask.new.self c.ask.ensures.post onward (c.ask.ensures.models ∙ c.prefer_split.ensures.same.models)

pub returns-in_err-take_model-in-Answered-Model-clause-onward : goal.returns-in_err-take_model-in-Answered-Model-clause-onward
returns-in_err-take_model-in-Answered-Model-clause-onward g c =
    let onward = onward_from c.args.self.now c.prefer_split.new.self c.ask.new.self c.prefer_split.ensures.same c.ask.ensures.onward in
    onward_trans c.args.self.now c.ask.new.self c.take_model.new.self onward c.take_model.ensures.onward

pub returns-in_ok-take_model-in-Answered-Model-clause-onward : goal.returns-in_ok-take_model-in-Answered-Model-clause-onward
returns-in_ok-take_model-in-Answered-Model-clause-onward g c =
    let onward = onward_from c.args.self.now c.prefer_split.new.self c.ask.new.self c.prefer_split.ensures.same c.ask.ensures.onward in
    onward_trans c.args.self.now c.ask.new.self c.take_model.new.self onward c.take_model.ensures.onward

pub take_model-requires-clause-core : goal.take_model-requires-clause-core
take_model-requires-clause-core g c =
    let p = c.args.self.now in
    let onward = onward_from p c.prefer_split.new.self c.ask.new.self c.prefer_split.ensures.same c.ask.ensures.onward in
    subst (λ (a : About). AreWithin a.formula.vars c.args.core.now) (sym onward.question)
    (within_core p c.args.core.now c.requires.post c.requires.copied c.requires.core.were_open)

pub take_model-requires-clause-refuted : goal.take_model-requires-clause-refuted
take_model-requires-clause-refuted g c = λ _.
    let onward = onward_from c.args.self.now c.prefer_split.new.self c.ask.new.self c.prefer_split.ensures.same c.ask.ensures.onward in
    core_later c.args.self.now c.ask.new.self c.args.core.now onward c.requires.core

pub take_model-requires-clause-serves : goal.take_model-requires-clause-serves
take_model-requires-clause-serves g c =
    let onward = onward_from c.args.self.now c.prefer_split.new.self c.ask.new.self c.prefer_split.ensures.same c.ask.ensures.onward in
    let says : IsModelFor c.ask.new.self.solver.log.formula [] c.args.core.now c.in-Answered-Model.model =
    subst (λ (f : Found). FoundSays f [] c.args.core.now c.ask.new.self.budget c.ask.new.self.solver.log) c.in-Answered-Model.field-0-is c.in-Answered-Model.ensures.says in
    inr (record {
      is = core_later c.args.self.now c.ask.new.self c.args.core.now onward c.requires.core;
      split = says.split c.requires.core.some;
    })

pub returns-in_ok-take_model-in-Answered-Model-clause-settled : goal.returns-in_ok-take_model-in-Answered-Model-clause-settled
returns-in_ok-take_model-in-Answered-Model-clause-settled g c = λ settled.
    let onward = onward_from c.args.self.now c.prefer_split.new.self c.ask.new.self c.prefer_split.ensures.same c.ask.ensures.onward in
    c.in_ok-take_model-in-Answered-Model.ensures.settled
    (settled_onward c.args.self.now c.ask.new.self c.ask.ensures.post onward (c.ask.ensures.models ∙ c.prefer_split.ensures.same.models) settled)

pub unreachable-requires : goal.unreachable-requires
unreachable-requires g c =
    no_core c.ask.new.self.solver.log c.in-Answered-Core.field-0-0.items c.in-Answered-Core.field-0-1
    (subst (λ (f : Found). FoundSays f [] c.args.core.now c.ask.new.self.budget c.ask.new.self.solver.log) c.in-Answered-Core.field-0-is c.in-Answered-Core.ensures.says)

pub unreachable-requires-in-Answered-Unsat : goal.unreachable-requires-in-Answered-Unsat
unreachable-requires-in-Answered-Unsat g c =
    let says = subst (λ (f : Found). FoundSays f [] c.args.core.now c.ask.new.self.budget c.ask.new.self.solver.log) c.in-Answered-Unsat.field-0-is c.in-Answered-Unsat.ensures.says in
    has_model c.ask.new.self c.ask.ensures.post says.1
