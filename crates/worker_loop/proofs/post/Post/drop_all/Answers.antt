use Rattle.std.proofs.Common.{◌<◌, refl, sym, ◌∙◌, subst, arith}
use Rattle.cnf_core.specs.Formulas.{IsModel}
use Rattle.board_core.specs.Subjects.{About, groups}
use Rattle.model_store.specs.Stores.{Store}
use Rattle.worker_loop.specs.Steps.Dropping.{IsStoredAt}
use Rattle.worker_loop.proofs.Onward.{onward_refl, onward_trans}
use Rattle.worker_loop.proofs.Absorbed.{stays_tried, same_but_seat_then, dropped_next}
use Rattle.worker_loop.proofs.post.Post.drop_all.Goals as goal

pub loop-group-init : goal.loop-group-init
loop-group-init c = record {
  post = c.requires.post;
  sits = c.requires.sits;
  onward = onward_refl c.args.self.now;
  rest = record { solver = refl; models = refl; marks = refl };
  dropped = λ g under. absurd (omega arith);
}

pub drop_in-requires-clause-post : goal.drop_in-requires-clause-post
drop_in-requires-clause-post c = c.loop-group.invariant.post

pub drop_in-requires-clause-sits : goal.drop_in-requires-clause-sits
drop_in-requires-clause-sits c = c.loop-group.invariant.sits

pub drop_in-requires-clause-copied : goal.drop_in-requires-clause-copied
drop_in-requires-clause-copied c = c.loop-group.invariant.onward.copy ∙ c.requires.copied ∙ sym c.loop-group.invariant.onward.loaded

pub drop_in-requires-clause-group : goal.drop_in-requires-clause-group
drop_in-requires-clause-group c =
    subst (λ (a : About). c.loop-group.group < groups a.formula.vars) (sym c.loop-group.invariant.onward.question)
    (omega (arith, c.requires.post.loaded, c.len-group-end.ensures))

pub drop_in-requires-clause-model : goal.drop_in-requires-clause-model
drop_in-requires-clause-model c =
    subst (λ (a : About). IsModel a.formula c.args.model.now) (sym c.loop-group.invariant.onward.question) c.requires.model

pub drop_in-requires-clause-stored : goal.drop_in-requires-clause-stored
drop_in-requires-clause-stored c =
    subst (λ (s : Store). IsStoredAt s c.args.place c.args.model.now) (sym c.loop-group.invariant.rest.models) c.requires.stored

pub drop_in-requires-clause-flips : goal.drop_in-requires-clause-flips
drop_in-requires-clause-flips c =
    stays_tried c.args.flips c.args.self.now c.loop-group.self c.args.model.now c.loop-group.invariant.onward c.loop-group.invariant.rest
    c.requires.flips

pub loop-group-preserved : goal.loop-group-preserved
loop-group-preserved c = record {
  post = c.drop_in.ensures.post;
  sits = c.drop_in.ensures.sits;
  onward = onward_trans c.args.self.now c.loop-group.self c.drop_in.new.self c.loop-group.invariant.onward c.drop_in.ensures.onward;
  rest = same_but_seat_then c.args.self.now c.loop-group.self c.drop_in.new.self c.loop-group.invariant.rest c.drop_in.ensures.rest;
  dropped = dropped_next c.args.self.now c.loop-group.self c.drop_in.new.self c.args.model.now c.loop-group.group
      (omega (arith, c.requires.post.loaded, c.len-group-end.ensures)) c.loop-group.invariant.onward c.drop_in.ensures.onward
      c.loop-group.invariant.dropped c.drop_in.ensures.dropped;
}

pub returns-clause-post : goal.returns-clause-post
returns-clause-post c = c.loop-group.invariant.post

pub returns-clause-sits : goal.returns-clause-sits
returns-clause-sits c = c.loop-group.invariant.sits

pub returns-clause-onward : goal.returns-clause-onward
returns-clause-onward c = c.loop-group.invariant.onward

pub returns-clause-rest : goal.returns-clause-rest
returns-clause-rest c = c.loop-group.invariant.rest

pub returns-clause-dropped : goal.returns-clause-dropped
returns-clause-dropped c = λ g low. c.loop-group.invariant.dropped g (omega (arith, c.requires.post.loaded, c.len-group-end.ensures))
