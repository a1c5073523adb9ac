-- A search whose fields are equal to another's, and one that went back.
use Rattle.std.proofs.Common.{◌≡◌, ℕ, ◌≤◌, sym, subst}
use Rattle.clause_arena.specs.Entries.{Entries}
use Rattle.trail_core.specs.Trails.{TrailState, IsBacktracked}
use Rattle.watch_lists.specs.Lists.{WatchLists}
use Rattle.lrat_log.specs.Entries.{Recorded}
use Rattle.search_policy.specs.Epochs.{EpochState}
use Rattle.assumption_solver.specs.declared.search.Search.{Search}
use Rattle.assumption_solver.specs.Steps.Noted.{IsNoted}
use Rattle.assumption_solver.specs.Steps.Solving.{IsBearing, IsSolving}
use Rattle.assumption_solver.specs.Steps.States.{Bears, Solves, IsSameButTrail}
use Rattle.assumption_solver.proofs.Solved.{bears_backtracked, solving_backtracked, solving_noted}

pub bears_same : (n m s r : ℕ) (a b : Entries) (w v : WatchLists) (t : TrailState) (L M : Recorded) → m ≡ n → r ≡ s → b ≡ a → v ≡ w → M ≡ L
    → IsBearing n s a w t L → IsBearing m r b v t M
bears_same n m s r a b w v t L M n_is s_is a_is w_is L_is h =
    subst (λ (k : ℕ). IsBearing k r b v t M) (sym n_is)
    (subst (λ (k : ℕ). IsBearing n k b v t M) (sym s_is)
    (subst (λ (c : Entries). IsBearing n s c v t M) (sym a_is)
    (subst (λ (y : WatchLists). IsBearing n s a y t M) (sym w_is)
    (subst (λ (N : Recorded). IsBearing n s a w t N) (sym L_is) h))))

pub solving_same : (n m s r : ℕ) (a b : Entries) (w v : WatchLists) (t : TrailState) (L M : Recorded) (e f : EpochState) → m ≡ n → r ≡ s
    → b ≡ a → v ≡ w → M ≡ L → f ≡ e → IsSolving n s a w t L e → IsSolving m r b v t M f
solving_same n m s r a b w v t L M e f n_is s_is a_is w_is L_is e_is h =
    subst (λ (k : ℕ). IsSolving k r b v t M f) (sym n_is)
    (subst (λ (k : ℕ). IsSolving n k b v t M f) (sym s_is)
    (subst (λ (c : Entries). IsSolving n s c v t M f) (sym a_is)
    (subst (λ (y : WatchLists). IsSolving n s a y t M f) (sym w_is)
    (subst (λ (N : Recorded). IsSolving n s a w t N f) (sym L_is)
    (subst (λ (g : EpochState). IsSolving n s a w t L g) (sym e_is) h)))))

pub solves_back : (s u : Search) (target : ℕ) → Solves s → target ≤ s.trail.level → IsBacktracked target s.trail u.trail → IsSameButTrail s u
    → Solves u
solves_back s u target h le b same =
    solving_same s.analyser u.analyser s.settled u.settled s.arena u.arena s.watches u.watches u.trail s.journal u.journal s.epochs u.epochs
    same.analyser same.settled same.arena same.watches same.journal same.epochs
    (solving_backtracked s.analyser s.settled s.arena s.watches s.trail u.trail target s.journal s.epochs h le b)

pub bears_back : (s u : Search) (target : ℕ) → Bears s → target ≤ s.trail.level → IsBacktracked target s.trail u.trail → IsSameButTrail s u
    → Bears u
bears_back s u target h le b same =
    bears_same s.analyser u.analyser s.settled u.settled s.arena u.arena s.watches u.watches u.trail s.journal u.journal
    same.analyser same.settled same.arena same.watches same.journal
    (bears_backtracked s.analyser s.settled s.arena s.watches s.trail u.trail target s.journal h le b)

-- after an analysis, and entries in the log
pub solving_again : (n m s : ℕ) (a : Entries) (w : WatchLists) (t : TrailState) (L M : Recorded) (epochs : EpochState)
    → IsSolving n s a w t L epochs → m ≡ n → IsNoted L M → IsSolving m s a w t M epochs
solving_again n m s a w t L M epochs h same noted =
    subst (λ (k : ℕ). IsSolving k s a w t M epochs) (sym same) (solving_noted n s a w t L M epochs h noted)
