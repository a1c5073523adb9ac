-- A literal that another log shows is written.
use Rattle.std.proofs.Common.{◌≡◌, ℕ, [], ◌∷◌, refl, sym, subst}
use Rattle.cnf_core.specs.Literals.{Literal}
use Rattle.clause_arena.specs.Entries.{Entries}
use Rattle.trail_core.specs.Trails.{TrailState}
use Rattle.watch_lists.specs.Lists.{WatchLists}
use Rattle.lrat_log.specs.declared.kind.Kind.TheVariants.{Import}
use Rattle.lrat_log.specs.Entries.{Recorded, later_of, with_import}
use Rattle.search_policy.specs.Epochs.{EpochState}
use Rattle.assumption_solver.specs.Steps.Solving.{IsSolving}
use Rattle.assumption_solver.proofs.Tables.{longer_entry, learnt_in_other}
use Rattle.assumption_solver.proofs.Moved.{roots_same, covers_self}
use Rattle.assumption_solver.proofs.Solved.{bears_noted, solving_of}

pub solving_imported : (n s : ℕ) (a : Entries) (w : WatchLists) (t : TrailState) (L M : Recorded) (epochs : EpochState) (l : Literal) (stamp : ℕ)
    → IsSolving n s a w t L epochs → M ≡ with_import L l stamp → IsSolving n s a w t M epochs
solving_imported n s a w t L M epochs l stamp h is =
    let clock = later_of L.clock stamp in
    let N = with_import L l stamp in
    subst (λ (K : Recorded). IsSolving n s a w t K epochs) (sym is)
    (solving_of n s a a w t t w n s L N epochs h
    (bears_noted n s a w t L N h.bears (longer_entry L Import (l ∷ []) [] clock))
    (covers_self a) (roots_same t.entries) (learnt_in_other L Import (l ∷ []) [] clock refl))
