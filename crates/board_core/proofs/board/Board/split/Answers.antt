use Rattle.board_core.proofs.Plays.{splits_in, stays_in}
use Rattle.board_core.proofs.board.Board.split.Goals as goal

pub invariant_of-self-in-Ok : goal.invariant_of-self-in-Ok
invariant_of-self-in-Ok c =
    let b = c.self.inside in
    let next = splits_in b.about b.words.items b.origins.items b.views.items c.reserve.new.self.items c.push_reserved.new.self.items c.args.self.now c.index.result.now c.index_mut.result.now c.split.new.self c.in_ok-child.child
    c.self.view_is c.self.invariant.kept c.requires.lawful c.reserve.ensures.items c.index.ensures c.index_mut.ensures.value c.in-Ok.ensures.ok
    c.in_ok-child.ensures c.push_reserved.ensures.items in
    record { kept = next.kept; vars = c.self.invariant.vars }

pub returns-in-Ok-clause-ok : goal.returns-in-Ok-clause-ok
returns-in-Ok-clause-ok c =
    let b = c.self.inside in
    let next = splits_in b.about b.words.items b.origins.items b.views.items c.reserve.new.self.items c.push_reserved.new.self.items c.args.self.now c.index.result.now c.index_mut.result.now c.split.new.self c.in_ok-child.child
    c.self.view_is c.self.invariant.kept c.requires.lawful c.reserve.ensures.items c.index.ensures c.index_mut.ensures.value c.in-Ok.ensures.ok
    c.in_ok-child.ensures c.push_reserved.ensures.items in
    next.is

pub returns-in-Ok-clause-kept : goal.returns-in-Ok-clause-kept
returns-in-Ok-clause-kept c =
    let b = c.self.inside in
    let next = splits_in b.about b.words.items b.origins.items b.views.items c.reserve.new.self.items c.push_reserved.new.self.items c.args.self.now c.index.result.now c.index_mut.result.now c.split.new.self c.in_ok-child.child
    c.self.view_is c.self.invariant.kept c.requires.lawful c.reserve.ensures.items c.index.ensures c.index_mut.ensures.value c.in-Ok.ensures.ok
    c.in_ok-child.ensures c.push_reserved.ensures.items in
    next.kept

pub invariant_of-self-in-Err-1 : goal.invariant_of-self-in-Err-1
invariant_of-self-in-Err-1 c =
    let b = c.self.inside in
    let same = stays_in b.about b.words.items b.origins.items b.views.items c.reserve.new.self.items c.args.self.now c.index_mut.result.now c.split.new.self
    c.self.view_is c.self.invariant.kept c.reserve.ensures.items c.index_mut.ensures.value c.in-Err.ensures.err in
    record { kept = same.kept; vars = c.self.invariant.vars }

pub returns-in-Err-clause-err : goal.returns-in-Err-clause-err
returns-in-Err-clause-err c =
    let b = c.self.inside in
    let same = stays_in b.about b.words.items b.origins.items b.views.items c.reserve.new.self.items c.args.self.now c.index_mut.result.now c.split.new.self
    c.self.view_is c.self.invariant.kept c.reserve.ensures.items c.index_mut.ensures.value c.in-Err.ensures.err in
    same.is

pub returns-in-Err-clause-kept : goal.returns-in-Err-clause-kept
returns-in-Err-clause-kept c =
    let b = c.self.inside in
    let same = stays_in b.about b.words.items b.origins.items b.views.items c.reserve.new.self.items c.args.self.now c.index_mut.result.now c.split.new.self
    c.self.view_is c.self.invariant.kept c.reserve.ensures.items c.index_mut.ensures.value c.in-Err.ensures.err in
    same.kept
