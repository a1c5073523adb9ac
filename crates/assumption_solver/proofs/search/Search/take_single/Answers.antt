use Rattle.std.proofs.Common.{◌∷◌, []}
use Rattle.assumption_solver.proofs.Tables.{noted_trans}
use Rattle.assumption_solver.proofs.Known.{shown_same}
use Rattle.assumption_solver.proofs.Loads.{shown_pair, loading_noted, loading_pushed, within_first, taken_pushed, stands_pushed}
use Rattle.assumption_solver.proofs.Loads.{stands_known}
use Rattle.assumption_solver.proofs.search.Search.take_single.Goals as goal

pub unit-requires : goal.unit-requires
unit-requires c = shown_same c.args.self.now.journal c.args.id (c.args.lit ∷ []) c.requires.within c.requires.known

pub returns-in_err-unit-clause-loading : goal.returns-in_err-unit-clause-loading
returns-in_err-unit-clause-loading c = loading_noted c.args.self.now c.unit.new.self c.requires.loading c.unit.ensures.noted

pub empty-requires : goal.empty-requires
empty-requires c =
    shown_pair c.unit.new.self c.in_ok-unit.unit c.in-Some.other c.args.lit c.negated.result c.in_ok-unit.ensures.unit c.negated.ensures
    c.in-Some.ensures.some

pub returns-in_err-empty-clause-loading : goal.returns-in_err-empty-clause-loading
returns-in_err-empty-clause-loading c =
    loading_noted c.args.self.now c.empty.new.self c.requires.loading
    (noted_trans c.args.self.now.journal c.unit.new.self c.empty.new.self c.unit.ensures.noted c.empty.ensures.noted)

pub returns-in_err-empty-clause-noted : goal.returns-in_err-empty-clause-noted
returns-in_err-empty-clause-noted c =
    noted_trans c.args.self.now.journal c.unit.new.self c.empty.new.self c.unit.ensures.noted c.empty.ensures.noted

pub returns-in-Some-clause-loading : goal.returns-in-Some-clause-loading
returns-in-Some-clause-loading c =
    loading_noted c.args.self.now c.empty.new.self c.requires.loading
    (noted_trans c.args.self.now.journal c.unit.new.self c.empty.new.self c.unit.ensures.noted c.empty.ensures.noted)

pub returns-in-Some-clause-noted : goal.returns-in-Some-clause-noted
returns-in-Some-clause-noted c =
    noted_trans c.args.self.now.journal c.unit.new.self c.empty.new.self c.unit.ensures.noted c.empty.ensures.noted

pub value-requires : goal.value-requires
value-requires c = within_first c.args.self.now c.args.lit c.requires.loading c.requires.within

pub push-requires-clause-within : goal.push-requires-clause-within
push-requires-clause-within c = within_first c.args.self.now c.args.lit c.requires.loading c.requires.within

pub returns-in-None-clause-loading : goal.returns-in-None-clause-loading
returns-in-None-clause-loading c =
    loading_pushed c.args.self.now c.unit.new.self c.push.new.self c.args.lit c.in_ok-unit.unit c.requires.loading c.unit.ensures.noted
    c.in_ok-unit.ensures.unit c.push.ensures c.level-level.ensures.trail

pub returns-in-None-clause-taken : goal.returns-in-None-clause-taken
returns-in-None-clause-taken c =
    λ ds. taken_pushed c.args.self.now.arena c.args.self.now.trail c.push.new.self c.args.lit c.in_ok-unit.unit ds c.push.ensures

pub returns-in-None-clause-stands : goal.returns-in-None-clause-stands
returns-in-None-clause-stands c =
    stands_pushed c.args.self.now.arena c.args.self.now.trail c.push.new.self c.args.lit c.in_ok-unit.unit c.push.ensures
    c.requires.loading.root

pub returns-in-Some-value-clause-loading : goal.returns-in-Some-value-clause-loading
returns-in-Some-value-clause-loading c = loading_noted c.args.self.now c.unit.new.self c.requires.loading c.unit.ensures.noted

pub returns-in-Some-value-clause-stands : goal.returns-in-Some-value-clause-stands
returns-in-Some-value-clause-stands c =
    stands_known c.args.self.now c.unit.new.self c.args.lit c.negated.result c.in-Some-value._value c.requires.loading c.unit.ensures.noted
    c.negated.ensures c.in_default.ensures.none c.in-Some-value.ensures
