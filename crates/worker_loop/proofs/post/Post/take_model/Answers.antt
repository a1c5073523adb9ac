use Rattle.std.proofs.Common.{ℕ, ◌<◌, ◌≤◌, List, sym, subst, arith}
use Rattle.std.specs.Prelude.{All}
use Rattle.std.proofs.lemmas.Result.{on_ok_weaker}
use Rattle.core_chunks.specs.Chunks.{IsBlockOf}
use Rattle.flip_literals.specs.Walks.{IsAtRest}
use Rattle.worker_loop.specs.declared.dropping.Flips.{Flips}
use Rattle.worker_loop.specs.declared.post.Post.{Post}
use Rattle.worker_loop.specs.Steps.Questions.{listing_of}
use Rattle.worker_loop.specs.Steps.Moves.{IsUnmoved}
use Rattle.worker_loop.specs.Steps.Dropping.{AreTriedBy}
use Rattle.worker_loop.proofs.Words.{block_within}
use Rattle.worker_loop.proofs.Walked.{no_flips}
use Rattle.worker_loop.proofs.Going.{loaded_onward_copy}
use Rattle.worker_loop.proofs.Turning.{unmoved_onward}
use Rattle.worker_loop.proofs.Settling.{settled_onward}
use Rattle.worker_loop.proofs.Landed.{unmoved_walked, walked_serves, serves_unmoved, no_flips_unmoved, goes_by_model}
use Rattle.worker_loop.proofs.post.Post.take_model.Goals.{then-rests, else-rests}
use Rattle.worker_loop.proofs.post.Post.take_model.Goals as goal

pub walk-rests-requires-clause-candidates : goal.walk-rests-requires-clause-candidates
walk-rests-requires-clause-candidates c =
    subst (λ (xs : List ℕ). All (λ x. (0 < x) × (x ≤ c.args.self.now.question.now.formula.vars)) xs) (sym c.deref.ensures.value)
    (block_within c.args.self.now.loaded.items c.in_ok-candidates.candidates.items c.args.self.now.question.now.formula.vars c.vars.result c.in_ok-candidates.ensures)

pub returns-in-Some-clause-goes : goal.returns-in-Some-clause-goes
returns-in-Some-clause-goes c =
    let p : Post = record c.args.self.now { walker = c.walk-rests.new.walker } in
    let r = c.jump.new.self in
    let same : IsUnmoved p r = c.jump.ensures.same in
    on_ok_weaker c.absorb.result
    (λ dropped.
    goes_by_model r c.absorb.new.self c.args.core.now c.in-Some.better c.jump.ensures.post
    (loaded_onward_copy p r c.requires.copied (unmoved_onward p r same)) c.absorb.ensures.onward dropped
    (serves_unmoved p r c.args.core.now c.in-Some.better same c.in-Some.ensures.serves))
    c.absorb.ensures.dropped

pub returns-in-Some-clause-settled : goal.returns-in-Some-clause-settled
returns-in-Some-clause-settled c =
    let p = c.args.self.now in
    let r = c.jump.new.self in
    let same = unmoved_walked p r c.walk-rests.new.walker c.jump.ensures.same in
    on_ok_weaker c.absorb.result
    (λ keeps settled. keeps (settled_onward p r c.jump.ensures.post (unmoved_onward p r same) same.models settled))
    c.absorb.ensures.settled

pub absorb-requires-2-clause-flips : goal.absorb-requires-2-clause-flips
absorb-requires-2-clause-flips c =
    let p = c.args.self.now in
    let r = c.jump.new.self in
    let n : ℕ = p.question.now.formula.vars in
    let all : IsBlockOf p.loaded.items n n c.in_ok-candidates.candidates.items =
    grind (arith, c.in_ok-candidates.ensures, c.vars.ensures.value, c.formula.ensures) in
    elim c.if-rests.branch [
      | then-rests w ↦ subst (λ (f : Flips). AreTriedBy f r c.walk-rests.new.model) (sym w.flips-is)
          (no_flips_unmoved p r c.walk-rests.new.model (unmoved_walked p r c.walk-rests.new.walker c.jump.ensures.same)
          (no_flips p c.in_ok-candidates.candidates.items c.walk-rests.new.model c.requires.post c.requires.copied all
          (subst (λ (xs : List ℕ). IsAtRest (listing_of p.question.now) xs c.walk-rests.new.model) c.deref.ensures.value (c.walk-rests.ensures.rest w.if-rests.true))))
      | else-rests w ↦ subst (λ (f : Flips). AreTriedBy f r c.walk-rests.new.model) (sym w.flips-is) (tt {0})
    ]

pub returns-clause-goes : goal.returns-clause-goes
returns-clause-goes c =
    let p = c.args.self.now in
    let r = c.jump.new.self in
    let n = c.walk-rests.new.model in
    let same = unmoved_walked p r c.walk-rests.new.walker c.jump.ensures.same in
    on_ok_weaker c.absorb-2.result
    (λ dropped.
    goes_by_model r c.absorb-2.new.self c.args.core.now n c.jump.ensures.post
    (loaded_onward_copy p r c.requires.copied (unmoved_onward p r same)) c.absorb-2.ensures.onward dropped
    (serves_unmoved p r c.args.core.now n same
    (walked_serves p c.deref.result.now c.args.core.now c.args.model n c.requires.post c.requires.copied c.walk-rests.ensures.walked c.requires.serves)))
    c.absorb-2.ensures.dropped

pub returns-clause-settled : goal.returns-clause-settled
returns-clause-settled c =
    let p = c.args.self.now in
    let r = c.jump.new.self in
    let same = unmoved_walked p r c.walk-rests.new.walker c.jump.ensures.same in
    on_ok_weaker c.absorb-2.result
    (λ keeps settled. keeps (settled_onward p r c.jump.ensures.post (unmoved_onward p r same) same.models settled))
    c.absorb-2.ensures.settled
