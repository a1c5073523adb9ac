use Rattle.std.proofs.Common.{◌≡◌, ⊎_elim}
use Rattle.std.proofs.lemmas.Result.{on_ok_weaker, on_err_weaker}
use Rattle.board_core.specs.Subjects.{About}
use Rattle.board_core.specs.Boards.{origin_view}
use Rattle.board_core.specs.Games.{shown}
use Rattle.board_core.proofs.Plays.{asks, stays_set, either_way}
use Rattle.board_core.proofs.board.Board.ask.Goals as goal

pub invariant_of-self : goal.invariant_of-self
invariant_of-self c =
    let b = c.self.inside in
    let next = (λ (step : (a : About) → shown a c.ask.new.self ≡ origin_view c.args.var c.index-word.result.now (shown a c.index_mut.result.now)).
    asks b.about b.words.items b.origins.items b.views.items c.args.self.now c.args.view c.args.var c.index-word.result.now c.index_mut.result.now c.ask.new.self
    c.self.view_is c.self.invariant.kept c.requires.lawful c.index_mut.ensures.value c.index-word.ensures step) in
    let same = (λ (step : (a : About) → shown a c.ask.new.self ≡ shown a c.index_mut.result.now).
    stays_set b.about b.words.items b.origins.items b.views.items c.args.self.now c.args.view c.index_mut.result.now c.ask.new.self
    c.self.view_is c.self.invariant.kept c.requires.lawful.within c.index_mut.ensures.value step) in
    record {
      kept = ⊎_elim (λ step. (next step).kept) (λ step. (same step).kept) (either_way c.ask.result c.ask.ensures.ok c.ask.ensures.err);
      vars = c.self.invariant.vars;
    }

pub returns-clause-ok : goal.returns-clause-ok
returns-clause-ok c =
    let b = c.self.inside in
    on_ok_weaker c.ask.result (λ step. ((λ (step : (a : About) → shown a c.ask.new.self ≡ origin_view c.args.var c.index-word.result.now (shown a c.index_mut.result.now)).
    asks b.about b.words.items b.origins.items b.views.items c.args.self.now c.args.view c.args.var c.index-word.result.now c.index_mut.result.now c.ask.new.self
    c.self.view_is c.self.invariant.kept c.requires.lawful c.index_mut.ensures.value c.index-word.ensures step) step).is) c.ask.ensures.ok

pub returns-clause-err : goal.returns-clause-err
returns-clause-err c =
    let b = c.self.inside in
    on_err_weaker c.ask.result (λ step. ((λ (step : (a : About) → shown a c.ask.new.self ≡ shown a c.index_mut.result.now).
    stays_set b.about b.words.items b.origins.items b.views.items c.args.self.now c.args.view c.index_mut.result.now c.ask.new.self
    c.self.view_is c.self.invariant.kept c.requires.lawful.within c.index_mut.ensures.value step) step).is) c.ask.ensures.err

pub returns-clause-kept : goal.returns-clause-kept
returns-clause-kept c =
    let b = c.self.inside in
    let next = (λ (step : (a : About) → shown a c.ask.new.self ≡ origin_view c.args.var c.index-word.result.now (shown a c.index_mut.result.now)).
    asks b.about b.words.items b.origins.items b.views.items c.args.self.now c.args.view c.args.var c.index-word.result.now c.index_mut.result.now c.ask.new.self
    c.self.view_is c.self.invariant.kept c.requires.lawful c.index_mut.ensures.value c.index-word.ensures step) in
    let same = (λ (step : (a : About) → shown a c.ask.new.self ≡ shown a c.index_mut.result.now).
    stays_set b.about b.words.items b.origins.items b.views.items c.args.self.now c.args.view c.index_mut.result.now c.ask.new.self
    c.self.view_is c.self.invariant.kept c.requires.lawful.within c.index_mut.ensures.value step) in
    ⊎_elim (λ step. (next step).kept) (λ step. (same step).kept) (either_way c.ask.result c.ask.ensures.ok c.ask.ensures.err)
