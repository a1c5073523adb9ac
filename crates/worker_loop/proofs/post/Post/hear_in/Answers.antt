use Rattle.worker_loop.specs.Steps.Moves.{HasHeardBits, HasHeardIn}
use Rattle.worker_loop.proofs.Onward.{longer_refl}
use Rattle.worker_loop.proofs.Heard.{on_ok, unknown_read, unknown_candidates, heard_in, none_heard}
use Rattle.worker_loop.proofs.post.Post.hear_in.Goals as goal

pub returns-then-unknown-eq0-clause-heard : goal.returns-then-unknown-eq0-clause-heard
returns-then-unknown-eq0-clause-heard c =
    let p = c.args.self.now in
    let mask = c.fixed_unknown-unknown.result in
    let are = unknown_read p c.args.group mask c.index.result.now c.index-2.result.now c.requires.post c.requires.group c.index.ensures
    c.index-2.ensures
    c.fixed_unknown-unknown.ensures in
    heard_in p p c.args.group mask c.requires.post c.requires.copied c.requires.group are (longer_refl p.solver.log)
    (none_heard p c.args.group mask c.if-unknown-eq0.true)

pub hear_group-requires-clause-candidates : goal.hear_group-requires-clause-candidates
hear_group-requires-clause-candidates c =
    let p = c.args.self.now in
    let mask = c.fixed_unknown-unknown.result in
    unknown_candidates p c.args.group mask c.requires.post c.requires.copied c.requires.group
    (unknown_read p c.args.group mask c.index.result.now c.index-2.result.now c.requires.post c.requires.group c.index.ensures
    c.index-2.ensures
    c.fixed_unknown-unknown.ensures)

pub returns-clause-heard : goal.returns-clause-heard
returns-clause-heard c =
    let p = c.args.self.now in
    let q = c.hear_group.new.self in
    let mask = c.fixed_unknown-unknown.result in
    on_ok c.hear_group.result (HasHeardBits p q c.args.group mask) (HasHeardIn p q c.args.group)
    (heard_in p q c.args.group mask c.requires.post c.requires.copied c.requires.group
    (unknown_read p c.args.group mask c.index.result.now c.index-2.result.now c.requires.post c.requires.group c.index.ensures
    c.index-2.ensures
    c.fixed_unknown-unknown.ensures)
    c.hear_group.ensures.listened.hearing.log)
    c.hear_group.ensures.heard
