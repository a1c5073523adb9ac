use Rattle.board_core.proofs.Plays.{loads}
use Rattle.board_core.proofs.board.Board.load.Goals as goal

pub invariant_of-self : goal.invariant_of-self
invariant_of-self c =
    let b = c.self.inside in record {
      kept = (loads b.about b.words.items b.origins.items b.views.items c.args.self.now c.args.view c.args.group c.index-word.result.now c.index_mut.result.now c.load.new.self
          c.self.view_is c.self.invariant.kept c.requires.lawful c.index_mut.ensures.value c.index-word.ensures c.load.ensures).kept;
      vars = c.self.invariant.vars;
    }

pub returns-clause-after : goal.returns-clause-after
returns-clause-after c =
    let b = c.self.inside in
    (loads b.about b.words.items b.origins.items b.views.items c.args.self.now c.args.view c.args.group c.index-word.result.now c.index_mut.result.now c.load.new.self
    c.self.view_is c.self.invariant.kept c.requires.lawful c.index_mut.ensures.value c.index-word.ensures c.load.ensures).is

pub returns-clause-kept : goal.returns-clause-kept
returns-clause-kept c =
    let b = c.self.inside in
    (loads b.about b.words.items b.origins.items b.views.items c.args.self.now c.args.view c.args.group c.index-word.result.now c.index_mut.result.now c.load.new.self
    c.self.view_is c.self.invariant.kept c.requires.lawful c.index_mut.ensures.value c.index-word.ensures c.load.ensures).kept
