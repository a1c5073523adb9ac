use Rattle.std.proofs.Common.{◌≢◌, false, [], ◌∷◌, sym, subst, arith}
use Rattle.clause_arena.specs.Entries.{Entries, new_entry}
use Rattle.watch_lists.specs.Clauses.{AreClean}
use Rattle.watch_lists.proofs.Kept.{clean_added}
use Rattle.watch_lists.proofs.CleanClauses.{clean_two}
use Rattle.propagation_bench.proofs.clauses.add_two.Goals as goal

pub returns : goal.returns
returns c n old first second =
    let apart : c.args.first.var ≢ c.args.second.var = omega arith in
    subst (λ (a : Entries). AreClean n a) (sym c.in_ok-add.ensures.added)
    (clean_added n c.args.arena.now (new_entry c.from-id.result (c.args.first ∷ c.args.second ∷ []) false) old
    (clean_two n c.args.first c.args.second first second apart))
