use Rattle.std.proofs.Common.{◌+◌, ◌∙◌, arith}
use Rattle.lrat_log.specs.Entries.{learnt_count}
use Rattle.worker_loop.proofs.Slices.{IsAsking, asking_refl, asking_next, asking_closed, asking_unmoved, within_onward, paused, sits_sliced, fewer_left}
use Rattle.worker_loop.proofs.Onward.{onward_trans}
use Rattle.worker_loop.proofs.post.Post.go_on.Goals as goal

pub loop-found-init : goal.loop-found-init
loop-found-init g c = record { asking = asking_refl c.args.words.now c.args.self.now c.requires.post c.requires.sits; some = omega arith; most = omega arith }

pub slice-requires-clause-post : goal.slice-requires-clause-post
slice-requires-clause-post g c = c.loop-found.invariant.asking.post

pub slice-requires-clause-assume : goal.slice-requires-clause-assume
slice-requires-clause-assume g c =
    within_onward c.args.self.now c.loop-found.self c.args.assume.now c.loop-found.invariant.asking.onward c.requires.assume

pub slice-requires-clause-chunk : goal.slice-requires-clause-chunk
slice-requires-clause-chunk g c =
    within_onward c.args.self.now c.loop-found.self c.args.chunk.now c.loop-found.invariant.asking.onward c.requires.chunk

pub returns-in-Found-clause-sits : goal.returns-in-Found-clause-sits
returns-in-Found-clause-sits g c =
    let next : IsAsking c.args.words.now c.args.self.now c.slice.new.self =
    asking_next c.args.words.now c.args.self.now c.loop-found.self c.slice.new.self c.loop-found.invariant.asking c.slice.ensures.post
    (sits_sliced c.args.words.now c.loop-found.self c.slice.new.self c.loop-found.invariant.asking.sits c.slice.ensures.seat)
    c.slice.ensures.onward c.slice.ensures.models c.slice.ensures.log in
    next.sits

pub returns-in-Found-clause-onward : goal.returns-in-Found-clause-onward
returns-in-Found-clause-onward g c =
    let next : IsAsking c.args.words.now c.args.self.now c.slice.new.self =
    asking_next c.args.words.now c.args.self.now c.loop-found.self c.slice.new.self c.loop-found.invariant.asking c.slice.ensures.post
    (sits_sliced c.args.words.now c.loop-found.self c.slice.new.self c.loop-found.invariant.asking.sits c.slice.ensures.seat)
    c.slice.ensures.onward c.slice.ensures.models c.slice.ensures.log in
    next.onward

pub returns-in-Found-clause-models : goal.returns-in-Found-clause-models
returns-in-Found-clause-models g c =
    let next : IsAsking c.args.words.now c.args.self.now c.slice.new.self =
    asking_next c.args.words.now c.args.self.now c.loop-found.self c.slice.new.self c.loop-found.invariant.asking c.slice.ensures.post
    (sits_sliced c.args.words.now c.loop-found.self c.slice.new.self c.loop-found.invariant.asking.sits c.slice.ensures.seat)
    c.slice.ensures.onward c.slice.ensures.models c.slice.ensures.log in
    next.models

pub returns-in-Found-clause-log : goal.returns-in-Found-clause-log
returns-in-Found-clause-log g c =
    let next : IsAsking c.args.words.now c.args.self.now c.slice.new.self =
    asking_next c.args.words.now c.args.self.now c.loop-found.self c.slice.new.self c.loop-found.invariant.asking c.slice.ensures.post
    (sits_sliced c.args.words.now c.loop-found.self c.slice.new.self c.loop-found.invariant.asking.sits c.slice.ensures.seat)
    c.slice.ensures.onward c.slice.ensures.models c.slice.ensures.log in
    next.log

pub is_all_closed-requires-clause-sits : goal.is_all_closed-requires-clause-sits
is_all_closed-requires-clause-sits g c =
    sits_sliced c.args.words.now c.loop-found.self c.slice.new.self c.loop-found.invariant.asking.sits c.slice.ensures.seat

pub is_all_closed-requires-clause-assume : goal.is_all_closed-requires-clause-assume
is_all_closed-requires-clause-assume g c =
    within_onward c.args.self.now c.slice.new.self c.args.assume.now
    (onward_trans c.args.self.now c.loop-found.self c.slice.new.self c.loop-found.invariant.asking.onward c.slice.ensures.onward) c.requires.assume

pub is_all_closed-requires-clause-chunk : goal.is_all_closed-requires-clause-chunk
is_all_closed-requires-clause-chunk g c =
    within_onward c.args.self.now c.slice.new.self c.args.chunk.now
    (onward_trans c.args.self.now c.loop-found.self c.slice.new.self c.loop-found.invariant.asking.onward c.slice.ensures.onward) c.requires.chunk

pub returns-then-is_all_closed-clause-onward : goal.returns-then-is_all_closed-clause-onward
returns-then-is_all_closed-clause-onward g c =
    let next : IsAsking c.args.words.now c.args.self.now c.is_all_closed.new.self =
    asking_closed c.args.words.now c.args.self.now c.slice.new.self c.is_all_closed.new.self
    (asking_next c.args.words.now c.args.self.now c.loop-found.self c.slice.new.self c.loop-found.invariant.asking c.slice.ensures.post
    (sits_sliced c.args.words.now c.loop-found.self c.slice.new.self c.loop-found.invariant.asking.sits c.slice.ensures.seat)
    c.slice.ensures.onward c.slice.ensures.models c.slice.ensures.log)
    c.is_all_closed.ensures.post c.is_all_closed.ensures.sits c.is_all_closed.ensures.onward c.is_all_closed.ensures.models
    c.is_all_closed.ensures.solver in
    next.onward

pub returns-then-is_all_closed-clause-models : goal.returns-then-is_all_closed-clause-models
returns-then-is_all_closed-clause-models g c =
    let next : IsAsking c.args.words.now c.args.self.now c.is_all_closed.new.self =
    asking_closed c.args.words.now c.args.self.now c.slice.new.self c.is_all_closed.new.self
    (asking_next c.args.words.now c.args.self.now c.loop-found.self c.slice.new.self c.loop-found.invariant.asking c.slice.ensures.post
    (sits_sliced c.args.words.now c.loop-found.self c.slice.new.self c.loop-found.invariant.asking.sits c.slice.ensures.seat)
    c.slice.ensures.onward c.slice.ensures.models c.slice.ensures.log)
    c.is_all_closed.ensures.post c.is_all_closed.ensures.sits c.is_all_closed.ensures.onward c.is_all_closed.ensures.models
    c.is_all_closed.ensures.solver in
    next.models

pub returns-then-is_all_closed-clause-log : goal.returns-then-is_all_closed-clause-log
returns-then-is_all_closed-clause-log g c =
    let next : IsAsking c.args.words.now c.args.self.now c.is_all_closed.new.self =
    asking_closed c.args.words.now c.args.self.now c.slice.new.self c.is_all_closed.new.self
    (asking_next c.args.words.now c.args.self.now c.loop-found.self c.slice.new.self c.loop-found.invariant.asking c.slice.ensures.post
    (sits_sliced c.args.words.now c.loop-found.self c.slice.new.self c.loop-found.invariant.asking.sits c.slice.ensures.seat)
    c.slice.ensures.onward c.slice.ensures.models c.slice.ensures.log)
    c.is_all_closed.ensures.post c.is_all_closed.ensures.sits c.is_all_closed.ensures.onward c.is_all_closed.ensures.models
    c.is_all_closed.ensures.solver in
    next.log

pub help-requires-clause-assume : goal.help-requires-clause-assume
help-requires-clause-assume g c =
    within_onward c.args.self.now c.is_all_closed.new.self c.args.assume.now
    (onward_trans c.args.self.now c.slice.new.self c.is_all_closed.new.self
    (onward_trans c.args.self.now c.loop-found.self c.slice.new.self c.loop-found.invariant.asking.onward c.slice.ensures.onward)
    c.is_all_closed.ensures.onward) c.requires.assume

pub help-requires-clause-chunk : goal.help-requires-clause-chunk
help-requires-clause-chunk g c =
    within_onward c.args.self.now c.is_all_closed.new.self c.args.chunk.now
    (onward_trans c.args.self.now c.slice.new.self c.is_all_closed.new.self
    (onward_trans c.args.self.now c.loop-found.self c.slice.new.self c.loop-found.invariant.asking.onward c.slice.ensures.onward)
    c.is_all_closed.ensures.onward) c.requires.chunk

pub loop-found-smaller : goal.loop-found-smaller
loop-found-smaller g c =
    let end = paused c.slice.result c.args.assume.now c.args.chunk.now c.slice.new.self.budget
    (learnt_count c.loop-found.self.solver.log.entries + c.loop-found.conflicts) c.slice.new.self.solver.log c.slice.ensures.progress
    c.in_default.not-Found in
    fewer_left c.slice.new.self c.help.new.self c.loop-found.self (c.help.ensures.same.solver ∙ c.is_all_closed.ensures.solver)
    (c.help.ensures.same.budget ∙ c.is_all_closed.ensures.onward.budget)
    c.slice.ensures.onward.budget c.loop-found.conflicts c.loop-found.invariant.some end.0 end.1

pub loop-found-preserved : goal.loop-found-preserved
loop-found-preserved g c = record {
  asking = asking_unmoved c.args.words.now c.args.self.now c.is_all_closed.new.self c.help.new.self
      (asking_closed c.args.words.now c.args.self.now c.slice.new.self c.is_all_closed.new.self
      (asking_next c.args.words.now c.args.self.now c.loop-found.self c.slice.new.self c.loop-found.invariant.asking c.slice.ensures.post
      (sits_sliced c.args.words.now c.loop-found.self c.slice.new.self c.loop-found.invariant.asking.sits c.slice.ensures.seat)
      c.slice.ensures.onward c.slice.ensures.models c.slice.ensures.log)
      c.is_all_closed.ensures.post c.is_all_closed.ensures.sits c.is_all_closed.ensures.onward c.is_all_closed.ensures.models
      c.is_all_closed.ensures.solver)
      c.help.ensures.post c.help.ensures.same;
  some = omega (arith, c.min-conflicts.ensures, c.loop-found.invariant.some);
  most = omega (arith, c.min-conflicts.ensures);
}
