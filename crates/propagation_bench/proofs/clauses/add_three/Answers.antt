use Rattle.std.proofs.Common.{false, [], ◌∷◌, sym, subst}
use Rattle.clause_arena.specs.Entries.{Entries, new_entry}
use Rattle.watch_lists.specs.Clauses.{AreClean}
use Rattle.watch_lists.proofs.Kept.{clean_added}
use Rattle.watch_lists.proofs.CleanClauses.{clean_three}
use Rattle.propagation_bench.proofs.clauses.add_three.Goals as goal

pub returns : goal.returns
returns c n old first second third =
    let apart = c.are_apart.ensures c.if-not-are_apart.false in
    subst (λ (a : Entries). AreClean n a) (sym c.in_ok-add.ensures.added)
    (clean_added n c.args.arena.now (new_entry c.from-id.result (c.args.first ∷ c.args.second ∷ c.args.third ∷ []) false) old
    (clean_three n c.args.first c.args.second c.args.third first second third apart.0 apart.1 apart.2))
