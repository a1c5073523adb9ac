-- The next root entry is proved as a unit.
use Rattle.std.proofs.Common.{◌≡◌, ℕ, ◌+◌, ◌<◌, List, [], ◌∷◌, length, refl, sym, subst}
use Rattle.std.proofs.lemmas.List.Elements.{All-cons, All-nil}
use Rattle.cnf_core.specs.Literals.{Literal, Literals, IsWithin}
use Rattle.clause_arena.specs.Entries.{Entries}
use Rattle.trail_core.specs.Trails.{TrailState, assigned_at, IsTrail, with_root}
use Rattle.watch_lists.specs.Lists.{WatchLists}
use Rattle.lrat_lines.specs.Propagation.{Known}
use Rattle.conflict_analysis.specs.Members.{IsMapOf, IsProof}
use Rattle.conflict_analysis.specs.Reasons.{IsRootLiteral}
use Rattle.lrat_log.specs.declared.kind.Kind.TheVariants.{Unit as UnitKind}
use Rattle.lrat_log.specs.Entries.{Recorded, known_after}
use Rattle.lrat_log.specs.Kept.{IsShown}
use Rattle.search_policy.specs.Epochs.{EpochState}
use Rattle.assumption_solver.specs.Units.{IsUnitAt}
use Rattle.assumption_solver.specs.Logs.{IsEntryAt}
use Rattle.assumption_solver.specs.Steps.Noted.{IsNoted}
use Rattle.assumption_solver.specs.Steps.Queries.{IsGuided}
use Rattle.assumption_solver.specs.Steps.States.{IsGrown}
use Rattle.assumption_solver.specs.Steps.Solving.{IsSolving}
use Rattle.assumption_solver.proofs.Roots.{at_root, root_literal}
use Rattle.assumption_solver.proofs.Known.{map_of, is_shown}
use Rattle.assumption_solver.proofs.Tables.{unit_of_entry}
use Rattle.assumption_solver.proofs.Solved.{solving_noted, solving_rooted}
use Rattle.assumption_solver.proofs.Guided.{guided_rooted, grown_rooted}

pub next_is_root : (n s : ℕ) (a : Entries) (w : WatchLists) (t : TrailState) (L : Recorded) (epochs : EpochState) (l : Literal)
    → IsSolving n s a w t L epochs → IsTrail t → t.level ≡ 0 → s < length t.entries → l ≡ (assigned_at t.entries s).lit
    → IsRootLiteral t.entries l
next_is_root n s a w t L epochs l h trail root within read = root_literal t s l trail root within read h.bears.settles.units

pub next_is_shown : (n s : ℕ) (a : Entries) (w : WatchLists) (t : TrailState) (L : Recorded) (epochs : EpochState) (l : Literal)
    (hints given : List ℕ) → IsSolving n s a w t L epochs → IsTrail t → s < length t.entries → l ≡ (assigned_at t.entries s).lit
    → ((known : Known) → IsMapOf a t.entries known → IsProof known hints (l ∷ [])) → given ≡ hints
    → IsShown L.formula L.entries given (l ∷ [])
next_is_shown n s a w t L epochs l hints given h trail within read proved same =
    let w = trail.within s within in
    let inside : IsWithin L.formula.vars l =
    subst (λ (m : ℕ). IsWithin m l) h.bears.vars (subst (λ (k : Literal). IsWithin t.vars k) (sym read) w) in
    subst (λ (hs : List ℕ). IsShown L.formula L.entries hs (l ∷ [])) (sym same)
    (is_shown L hints (l ∷ []) (All-cons (IsWithin L.formula.vars) l [] inside (All-nil (IsWithin L.formula.vars)))
    (proved (known_after L.formula L.entries) (map_of a t.entries L h.bears.logged)))

pub next_settled : (n m s : ℕ) (a : Entries) (w : WatchLists) (t u : TrailState) (L M : Recorded) (epochs : EpochState) (l : Literal) (id : ℕ)
    → IsSolving n s a w t L epochs → IsTrail t → t.level ≡ 0 → s < length t.entries → l ≡ (assigned_at t.entries s).lit → m ≡ n
    → IsNoted L M → IsEntryAt M id UnitKind (l ∷ []) → u ≡ with_root t s id → IsSolving m (s + 1) a w u M epochs
next_settled n m s a w t u L M epochs l id h trail root within read same noted entry rooted =
    let there = unit_of_entry M id UnitKind l refl entry in
    subst (λ (k : ℕ). IsSolving k (s + 1) a w u M epochs) (sym same)
    (subst (λ (v : TrailState). IsSolving n (s + 1) a w v M epochs) (sym rooted)
    (solving_rooted n s a w t id M epochs (solving_noted n s a w t L M epochs h noted) within
    (at_root t t trail root refl s within) root
    (subst (λ (k : Literal). IsUnitAt M id k) read there)))

pub guided_next : (t u : TrailState) (s id : ℕ) → s < length t.entries → u ≡ with_root t s id → (assume chunk : Literals)
    → IsGuided assume chunk t → IsGuided assume chunk u
guided_next t u s id within rooted assume chunk h =
    subst (λ (v : TrailState). IsGuided assume chunk v) (sym rooted) (guided_rooted t s id within assume chunk h)

pub grown_next : (t u : TrailState) (s id : ℕ) → s < length t.entries → u ≡ with_root t s id → IsGrown t.entries u.entries
grown_next t u s id within rooted =
    subst (λ (v : TrailState). IsGrown t.entries v.entries) (sym rooted) (grown_rooted t s id within)
