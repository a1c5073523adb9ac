use Rattle.std.proofs.Common.{ℕ, ◌<◌, ◌≤◌, List, sym, subst}
use Rattle.std.specs.Prelude.{All}
use Rattle.board_core.specs.Subjects.{About}
use Rattle.worker_loop.proofs.Words.{block_within}
use Rattle.worker_loop.proofs.Slices.{looking_refl, looking_next, looking_unmoved}
use Rattle.worker_loop.proofs.post.Post.choose_block.Goals as goal

pub returns-then-not-branch-clause-looking : goal.returns-then-not-branch-clause-looking
returns-then-not-branch-clause-looking g c = looking_refl c.args.self.now c.requires.post

pub returns-in_err-is_easy-2-clause-looking : goal.returns-in_err-is_easy-2-clause-looking
returns-in_err-is_easy-2-clause-looking g c =
    looking_next c.args.self.now c.loop-place.self c.is_easy-in-loop-place.new.self c.loop-place.invariant c.is_easy-in-loop-place.ensures.looking

pub begin_behind-requires-clause-block : goal.begin_behind-requires-clause-block
begin_behind-requires-clause-block g c =
    let q = c.loop-place.self in
    let r = c.is_easy-in-loop-place.new.self in
    subst (λ (a : About). All (λ x. (0 < x) × (x ≤ a.formula.vars)) c.deref-then-branch-2.result.now)
    (sym c.is_easy-in-loop-place.ensures.looking.onward.question)
    (subst (λ (xs : List ℕ). All (λ x. (0 < x) × (x ≤ q.question.now.formula.vars)) xs) (sym c.deref-then-branch-2.ensures.value)
    (block_within q.loaded.items c.in_ok-other.other.items q.question.now.formula.vars 256 c.in_ok-other.ensures))

pub returns-then-branch-2-clause-looking : goal.returns-then-branch-2-clause-looking
returns-then-branch-2-clause-looking g c =
    looking_unmoved c.args.self.now c.is_easy-in-loop-place.new.self c.begin_behind.new.self
    (looking_next c.args.self.now c.loop-place.self c.is_easy-in-loop-place.new.self c.loop-place.invariant c.is_easy-in-loop-place.ensures.looking)
    c.begin_behind.ensures.post c.begin_behind.ensures.same

pub loop-place-preserved : goal.loop-place-preserved
loop-place-preserved g c =
    looking_next c.args.self.now c.loop-place.self c.is_easy-in-loop-place.new.self c.loop-place.invariant c.is_easy-in-loop-place.ensures.looking
