use Rattle.board_core.proofs.Plays.{joins}
use Rattle.board_core.proofs.board.Board.join.Goals as goal

pub invariant_of-self : goal.invariant_of-self
invariant_of-self c =
    let b = c.self.inside in
    let next = joins b.about b.words.items b.origins.items b.views.items c.args.self.now c.args.view c.index.result.now c.index-2.result.now c.in_ok-root.root c.spent.result
    c.self.view_is c.self.invariant.kept c.requires.lawful c.index.ensures c.index-2.ensures c.in_ok-root.ensures c.spent.ensures in
    record { kept = next.kept; vars = c.self.invariant.vars }

pub returns-clause-ok : goal.returns-clause-ok
returns-clause-ok c =
    let b = c.self.inside in
    let next = joins b.about b.words.items b.origins.items b.views.items c.args.self.now c.args.view c.index.result.now c.index-2.result.now c.in_ok-root.root c.spent.result
    c.self.view_is c.self.invariant.kept c.requires.lawful c.index.ensures c.index-2.ensures c.in_ok-root.ensures c.spent.ensures in
    next.is

pub returns-clause-kept : goal.returns-clause-kept
returns-clause-kept c =
    let b = c.self.inside in
    let next = joins b.about b.words.items b.origins.items b.views.items c.args.self.now c.args.view c.index.result.now c.index-2.result.now c.in_ok-root.root c.spent.result
    c.self.view_is c.self.invariant.kept c.requires.lawful c.index.ensures c.index-2.ensures c.in_ok-root.ensures c.spent.ensures in
    next.kept
