-- No clause is broken.
use Rattle.std.proofs.Common.{◌≡◌, rules, arith}
use Rattle.local_search.specs.Steps.States.{IsOnward}
use Rattle.local_search.proofs.Found.{model_found}
use Rattle.local_search.proofs.search.LocalSearch.repair.Goals as goal

pub returns-clause-found : goal.returns-clause-found
returns-clause-found c none =
    let onward : IsOnward c.args.tables.now c.args.self.now c.loop-since-test.self = search rules in
    let zero : c.count.result ≡ 0 = grind arith in
    model_found c.args.tables.now c.loop-since-test.self onward.state (c.count.ensures zero)
