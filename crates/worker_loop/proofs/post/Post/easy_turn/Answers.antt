use Rattle.std.proofs.Common.{rules, ℕ, ◌<◌, ◌≤◌, List, length, sym, subst}
use Rattle.std.specs.Prelude.{All}
use Rattle.worker_loop.proofs.Words.{block_within}
use Rattle.worker_loop.proofs.Turned.{turn_later, tried_says, tried_between, done_between, has_turned}
use Rattle.worker_loop.proofs.post.Post.easy_turn.Goals as goal

pub returns-then-is_empty-clause-between : goal.returns-then-is_empty-clause-between
returns-then-is_empty-clause-between g c = done_between c.args.self.now c.load_all.new.self c.load_all.ensures.loaded c.load_all.ensures.post

pub begin_behind-requires-clause-block : goal.begin_behind-requires-clause-block
begin_behind-requires-clause-block g c =
    subst (λ (xs : List ℕ). All (λ x. (0 < x) × (x ≤ c.load_all.new.self.question.now.formula.vars)) xs) (sym c.deref.ensures.value)
    (block_within c.load_all.new.self.loaded.items c.in_ok-block.block.items c.load_all.new.self.question.now.formula.vars 256 c.in_ok-block.ensures)

pub returns-clause-later : goal.returns-clause-later
returns-clause-later g c =
    let some : 0 < length c.in_ok-block.block.items = search rules in
    let turned = has_turned c.args.self.now c.load_all.new.self c.begin_behind.new.self c.hear.new.self c.work_easily.new.self c.in_ok-block.block.items
    c.load_all.ensures.loaded c.load_all.ensures.copied c.load_all.ensures.post c.begin_behind.ensures.same c.begin_behind.ensures.post
    c.hear.ensures.hearing c.in_ok-hear.ensures.heard c.in_ok-hear.ensures.taken c.hear.ensures.asked c.hear.ensures.models c.hear.ensures.post
    c.work_easily.ensures.onward c.work_easily.ensures.asked c.work_easily.ensures.post c.in_ok-block.ensures some in
    turn_later c.args.self.now c.load_all.new.self c.begin_behind.new.self c.hear.new.self c.work_easily.new.self turned

pub returns-clause-says : goal.returns-clause-says
returns-clause-says g c =
    let some : 0 < length c.in_ok-block.block.items = search rules in
    let turned = has_turned c.args.self.now c.load_all.new.self c.begin_behind.new.self c.hear.new.self c.work_easily.new.self c.in_ok-block.block.items
    c.load_all.ensures.loaded c.load_all.ensures.copied c.load_all.ensures.post c.begin_behind.ensures.same c.begin_behind.ensures.post
    c.hear.ensures.hearing c.in_ok-hear.ensures.heard c.in_ok-hear.ensures.taken c.hear.ensures.asked c.hear.ensures.models c.hear.ensures.post
    c.work_easily.ensures.onward c.work_easily.ensures.asked c.work_easily.ensures.post c.in_ok-block.ensures some in
    tried_says c.args.self.now c.load_all.new.self c.begin_behind.new.self c.hear.new.self c.work_easily.new.self c.work_easily.result turned c.work_easily.ensures.follows

pub returns-clause-between : goal.returns-clause-between
returns-clause-between g c =
    let some : 0 < length c.in_ok-block.block.items = search rules in
    let turned = has_turned c.args.self.now c.load_all.new.self c.begin_behind.new.self c.hear.new.self c.work_easily.new.self c.in_ok-block.block.items
    c.load_all.ensures.loaded c.load_all.ensures.copied c.load_all.ensures.post c.begin_behind.ensures.same c.begin_behind.ensures.post
    c.hear.ensures.hearing c.in_ok-hear.ensures.heard c.in_ok-hear.ensures.taken c.hear.ensures.asked c.hear.ensures.models c.hear.ensures.post
    c.work_easily.ensures.onward c.work_easily.ensures.asked c.work_easily.ensures.post c.in_ok-block.ensures some in
    tried_between c.args.self.now c.load_all.new.self c.begin_behind.new.self c.hear.new.self c.work_easily.new.self c.work_easily.result turned c.work_easily.ensures.follows c.work_easily.ensures.vain c.work_easily.ensures.settled
