-- A search that went back to the root and let clauses go.
use Rattle.std.proofs.Common.{◌≡◌, ℕ, ◌≤◌, Option, List, length, refl, ap, ◌∙◌, arith}
use Rattle.cnf_core.specs.Literals.{Literals}
use Rattle.cnf_core.specs.Epochs.{epoch_start}
use Rattle.clause_arena.specs.Entries.{Entries}
use Rattle.trail_core.specs.Trails.{IsTrail, IsBacktracked}
use Rattle.watch_lists.specs.Lists.{WatchLists}
use Rattle.watch_lists.specs.Moving.{moved_lists}
use Rattle.watch_lists.specs.Steps.Compacting.{IsCompacted}
use Rattle.watch_lists.proofs.Compacted.{ready_compacted}
use Rattle.lrat_log.specs.Entries.{Recorded}
use Rattle.lrat_log.specs.Fresh.{learnt_in}
use Rattle.search_policy.specs.Epochs.{EpochState}
use Rattle.assumption_solver.specs.declared.search.Search.{Search}
use Rattle.assumption_solver.specs.Steps.Searching.{HaveUnits}
use Rattle.assumption_solver.specs.Steps.Noted.{IsNoted}
use Rattle.assumption_solver.specs.Steps.Standing.{IsThinned}
use Rattle.assumption_solver.specs.Steps.Queries.{IsGuided}
use Rattle.assumption_solver.specs.Steps.Solving.{IsSolving}
use Rattle.assumption_solver.specs.Steps.States.{Solves, StaysGuided, IsSameButTrail}
use Rattle.assumption_solver.proofs.Thinned.{solving_thinned}
use Rattle.assumption_solver.proofs.Guided.{guided_backtracked}

-- what the epoch has learnt is over, before and after
over_after : (s b r : Search) → IsSameButTrail s b → IsNoted b.journal r.journal → r.epochs ≡ b.epochs
    → length (learnt_in s.journal.entries s.journal.query) ≤ epoch_start s.epochs.epoch
    → length (learnt_in r.journal.entries r.journal.query) ≤ epoch_start r.epochs.epoch
over_after s b r same noted epochs over =
    let count : length (learnt_in r.journal.entries r.journal.query) ≡ length (learnt_in s.journal.entries s.journal.query) =
    ap length noted.learnt ∙ ap (λ (L : Recorded). length (learnt_in L.entries L.query)) same.journal in
    let end : epoch_start r.epochs.epoch ≡ epoch_start s.epochs.epoch =
    ap (λ (e : EpochState). epoch_start e.epoch) (epochs ∙ same.epochs) in
    omega (arith, count, end, over)

pub solves_tidied : (s b r : Search) (a : Entries) (moves : List (Option ℕ)) (v : WatchLists) → IsSameButTrail s b
    → IsNoted b.journal r.journal → r.epochs ≡ b.epochs → Solves r → IsTrail r.trail → r.trail.level ≡ 0 → HaveUnits r.trail.entries
    → IsThinned r.arena a → IsCompacted r.arena a moves → v ≡ moved_lists moves r.watches
    → length (learnt_in s.journal.entries s.journal.query) ≤ epoch_start s.epochs.epoch
    → IsSolving r.analyser r.settled a v r.trail r.journal r.epochs
solves_tidied s b r a moves v same noted epochs h trail root units thin compacted followed over =
    solving_thinned r.analyser r.analyser r.settled r.arena a r.watches v r.trail r.journal r.epochs h trail root units thin
    (ready_compacted r.arena a moves r.watches v r.trail h.bears.searching.ready compacted followed)
    (over_after s b r same noted epochs over) refl

pub guided_tidied : (s b r : Search) → IsBacktracked 0 s.trail b.trail → StaysGuided b r
    → (assume chunk : Literals) → IsGuided assume chunk s.trail → IsGuided assume chunk r.trail
guided_tidied s b r back stays assume chunk h =
    stays assume chunk (guided_backtracked s.trail b.trail 0 back (omega arith) assume chunk h)
