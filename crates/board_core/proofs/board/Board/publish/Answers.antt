use Rattle.std.proofs.Common.{ℕ, ◌+◌, ap, arith}
use Rattle.std.specs.Prelude.{bit_or}
use Rattle.board_core.proofs.Plays.{publishes, stays_set, published_within}
use Rattle.board_core.proofs.board.Board.publish.Goals as goal

pub overflow_sub-place : goal.overflow_sub-place
overflow_sub-place c =
    let b = c.self.inside in
    let within = published_within b.about b.words.items b.origins.items b.views.items c.args.self.now c.args.view c.args.var c.args.stamp c.self.view_is c.self.invariant.kept c.requires.lawful in
    omega arith

pub index-requires : goal.index-requires
index-requires c =
    let b = c.self.inside in
    let within = published_within b.about b.words.items b.origins.items b.views.items c.args.self.now c.args.view c.args.var c.args.stamp c.self.view_is c.self.invariant.kept c.requires.lawful in
    omega arith

pub index_mut-requires-in-Ok : goal.index_mut-requires-in-Ok
index_mut-requires-in-Ok c =
    let b = c.self.inside in
    let within = published_within b.about b.words.items b.origins.items b.views.items c.args.self.now c.args.view c.args.var c.args.stamp c.self.view_is c.self.invariant.kept c.requires.lawful in
    omega arith

pub invariant_of-self : goal.invariant_of-self
invariant_of-self c =
    let b = c.self.inside in
    let next = publishes b.about b.words.items b.origins.items b.views.items c.args.self.now c.args.view c.args.var c.args.stamp c.index.result.now _ c.index_mut.result.now c.publish.new.self
    c.self.view_is c.self.invariant.kept c.requires.lawful c.index_mut.ensures.value c.index.ensures
    (ap (λ (m : ℕ). bit_or c.index.result.now (m + 1)) c.from.ensures) c.in-Ok.ensures.ok in
    record { kept = next.kept; vars = c.self.invariant.vars }

pub returns-in-Ok-clause-ok : goal.returns-in-Ok-clause-ok
returns-in-Ok-clause-ok c =
    let b = c.self.inside in
    let next = publishes b.about b.words.items b.origins.items b.views.items c.args.self.now c.args.view c.args.var c.args.stamp c.index.result.now _ c.index_mut.result.now c.publish.new.self
    c.self.view_is c.self.invariant.kept c.requires.lawful c.index_mut.ensures.value c.index.ensures
    (ap (λ (m : ℕ). bit_or c.index.result.now (m + 1)) c.from.ensures) c.in-Ok.ensures.ok in
    next.is

pub returns-in-Ok-clause-kept : goal.returns-in-Ok-clause-kept
returns-in-Ok-clause-kept c =
    let b = c.self.inside in
    let next = publishes b.about b.words.items b.origins.items b.views.items c.args.self.now c.args.view c.args.var c.args.stamp c.index.result.now _ c.index_mut.result.now c.publish.new.self
    c.self.view_is c.self.invariant.kept c.requires.lawful c.index_mut.ensures.value c.index.ensures
    (ap (λ (m : ℕ). bit_or c.index.result.now (m + 1)) c.from.ensures) c.in-Ok.ensures.ok in
    next.kept

pub invariant_of-self-in-Err : goal.invariant_of-self-in-Err
invariant_of-self-in-Err c =
    let b = c.self.inside in
    let same = stays_set b.about b.words.items b.origins.items b.views.items c.args.self.now c.args.view c.index_mut.result.now c.publish.new.self
    c.self.view_is c.self.invariant.kept c.requires.lawful.within c.index_mut.ensures.value c.in-Err.ensures.err in
    record { kept = same.kept; vars = c.self.invariant.vars }

pub returns-in-Err-clause-err : goal.returns-in-Err-clause-err
returns-in-Err-clause-err c =
    let b = c.self.inside in
    let same = stays_set b.about b.words.items b.origins.items b.views.items c.args.self.now c.args.view c.index_mut.result.now c.publish.new.self
    c.self.view_is c.self.invariant.kept c.requires.lawful.within c.index_mut.ensures.value c.in-Err.ensures.err in
    same.is

pub returns-in-Err-clause-kept : goal.returns-in-Err-clause-kept
returns-in-Err-clause-kept c =
    let b = c.self.inside in
    let same = stays_set b.about b.words.items b.origins.items b.views.items c.args.self.now c.args.view c.index_mut.result.now c.publish.new.self
    c.self.view_is c.self.invariant.kept c.requires.lawful.within c.index_mut.ensures.value c.in-Err.ensures.err in
    same.kept
