-- A clause that analysis learns is new in its epoch.
use Rattle.std.proofs.Common.{◌≡◌, ℕ, suc, ◌+◌, ◌^◌, ◌<◌, ◌≤◌, Bool, true, false, cond, ◌&&◌, ◌==◌, List, [], ◌∷◌, length, filter, drop, Contains, ap, subst, inl, ⊎_elim, arith}
use Rattle.std.proofs.Math.Nat.{pow-le-pow_right}
use Rattle.std.proofs.lemmas.Bool.{cases_lt}
use Rattle.std.proofs.lemmas.List.{length-map}
use Rattle.std.proofs.lemmas.List.Sums.{length-filter}
use Rattle.cnf_core.specs.Literals.{Literals, negated}
use Rattle.cnf_core.specs.Epochs.{epoch_start}
use Rattle.clause_arena.specs.Entries.{Entry as Clause, Entries}
use Rattle.trail_core.specs.Trails.{TrailState, IsTrail}
use Rattle.watch_lists.specs.Lists.{WatchLists}
use Rattle.watch_lists.proofs.Kept.{not_both}
use Rattle.lrat_lines.specs.Sets.{IsSubset}
use Rattle.conflict_analysis.specs.Answers.{IsLearnt}
use Rattle.conflict_analysis.specs.Members.{IsLiveClause}
use Rattle.lrat_log.specs.Entries.{Entry, Recorded, is_learnt, is_learnt_entry, learnt_count}
use Rattle.lrat_log.specs.Fresh.{is_learnt_in, learnt_in, IsFresh}
use Rattle.search_policy.specs.Epochs.{EpochState}
use Rattle.assumption_solver.specs.Steps.Standing.{HasPart, HasRootTrue, Stands, IsTautology}
use Rattle.assumption_solver.specs.Steps.Solving.{IsSolving}
use Rattle.assumption_solver.proofs.Places.{place_of_entry}

-- ---- epochs

start_below : (d e : ℕ) → d < e → epoch_start (suc d) ≤ epoch_start e
start_below d e lt =
    let one : 0 < 2 = omega arith in
    let le : suc d ≤ e = omega arith in
    let p : 2 ^ suc d ≤ 2 ^ e = pow-le-pow_right one le in
    omega (arith, p)

-- a number is in one epoch
pub same_epoch : (d e n : ℕ) → epoch_start d ≤ n → n < epoch_start (suc d) → epoch_start e ≤ n → n < epoch_start (suc e) → d ≡ e
same_epoch d e n d_low d_high e_low e_high =
    ⊎_elim
    (λ (lt : d < e). absurd (omega (arith, start_below d e lt, d_high, e_low)))
    (λ (ge : e ≤ d). ⊎_elim
    (λ (gt : e < d). absurd (omega (arith, start_below e d gt, e_high, d_low)))
    (λ (le : d ≤ e). omega arith)
    (cases_lt e d))
    (cases_lt d e)

-- ---- counts

one_if : Bool → ℕ
one_if b = cond b 1 0

both_at_most : (a b : Bool) → one_if (a && b) ≤ one_if a
unfolding one_if
both_at_most true true = omega arith
both_at_most true false = omega arith
both_at_most false b = omega arith

size_cond : (b : Bool) (e : Entry) (xs : List Entry) → length (cond b (e ∷ xs) xs) ≡ one_if b + length xs
unfolding one_if
size_cond true e xs = omega arith
size_cond false e xs = omega arith

few_entries : (es : List Entry) (q : ℕ) → length (filter (is_learnt_in q) es) ≤ length (filter is_learnt_entry es)
few_entries [] q = omega arith
few_entries (e ∷ es) q =
    let one : length (filter (is_learnt_in q) (e ∷ es)) ≡ one_if (is_learnt e.kind && (e.query == q)) + length (filter (is_learnt_in q) es) =
    size_cond (is_learnt e.kind && (e.query == q)) e (filter (is_learnt_in q) es) in
    let other : length (filter is_learnt_entry (e ∷ es)) ≡ one_if (is_learnt e.kind) + length (filter is_learnt_entry es) =
    size_cond (is_learnt e.kind) e (filter is_learnt_entry es) in
    omega (arith, one, other, few_entries es q, both_at_most (is_learnt e.kind) (e.query == q))

pub learnt_in_few : (es : List Entry) (q : ℕ) → length (learnt_in es q) ≤ learnt_count es
learnt_in_few es q =
    omega (arith, length-map (filter (is_learnt_in q) es) (λ (e : Entry). e.literals), length-filter is_learnt_entry es, few_entries es q)

-- ---- the clause

-- what stands is no part of it
pub no_standing_part : (a : Entries) (t : TrailState) (lits : Literals) (back : ℕ) (hints : List ℕ) (learnt : Bool) (d : Literals) → IsTrail t
    → IsLearnt a t lits back hints → Stands a t.entries learnt d → IsSubset d lits → ⊥
no_standing_part a t lits back hints learnt d trail h stands subset =
    ⊎_elim
    (λ (p : HasPart a learnt d).
    let at = place_of_entry a p.entry p.present p.live in
    let member : IsLiveClause a p.entry.id p.entry.lits = record {
      reference = at.place;
      live = at.live;
      has_id = ap (λ (e : Clause). e.id) at.is;
      has_lits = ap (λ (e : Clause). e.lits) at.is;
    } in h.fresh p.entry.id p.entry.lits (inl member) (λ l there. subset l (p.part l there)))
    (λ (r : HasRootTrue t.entries d).
    let f = h.all_false r.literal (subset r.literal r.member) in
    not_both t r.literal r.place f.place trail r.within f.within r.lit f.lit)
    stands

pub is_fresh : (n s : ℕ) (a : Entries) (w : WatchLists) (t : TrailState) (L : Recorded) (epochs : EpochState) (lits : Literals) (back : ℕ)
    (hints : List ℕ) → IsSolving n s a w t L epochs → IsTrail t → IsLearnt a t lits back hints
    → IsFresh L.formula L.entries L.query lits
is_fresh n s a w t L epochs lits back hints h trail learnt = record {
  some = omega (arith, ap length learnt.is);
  plain = learnt.plain;
  no_input = λ d member subset.
      ⊎_elim
      (λ (both : IsTautology d). learnt.plain both.literal (subset both.literal both.member) (subset (negated both.literal) both.other))
      (λ (stands : Stands a t.entries false d). no_standing_part a t lits back hints false d trail learnt stands subset)
      (h.bears.inputs d member);
  no_learnt = λ d peer subset.
      let xs = learnt_in L.entries L.query in
      let size : epochs.count ≡ length xs = h.counted in
      let same : peer.epoch ≡ epochs.epoch =
      same_epoch peer.epoch epochs.epoch (length xs) peer.begun peer.unended (omega (arith, size, h.in_epoch.begun))
      (omega (arith, size, h.in_epoch.unended)) in
      let member : Contains (drop (epoch_start epochs.epoch) xs) d =
      subst (λ (e : ℕ). Contains (drop (epoch_start e) xs) d) same peer.member in
      no_standing_part a t lits back hints true d trail learnt (h.learnt d member) subset;
}
