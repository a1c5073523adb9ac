-- A clause is learnt from a conflict.
use Rattle.std.proofs.Common.{◌≡◌, ℕ, ◌<◌, ◌≤◌, true, Some, List, [], ◌∷◌, ◌++◌, length, drop, get_or, swap, Contains, refl, sym, ap, ◌∙◌, subst, inl, inr, ⊎_elim, arith}
use Rattle.std.proofs.lemmas.List.{length_push, drop-append-le, get_or_push}
use Rattle.std.proofs.lemmas.List.Elements.{Contains-push_cases, Contains-push}
use Rattle.std.proofs.lemmas.List.Sorted.{IsPermutation-sym, IsPermutation-swap, Contains-permutation}
use Rattle.cnf_core.specs.Literals.{Literal, Literals, AreWithin}
use Rattle.std.proofs.lemmas.Bool.{cases_lt}
use Rattle.lrat_lines.specs.Sets.{IsSameSet}
use Rattle.cnf_core.specs.Epochs.{epoch_start}
use Rattle.clause_arena.specs.Entries.{Entry, Entries, new_entry, with_entry as with_new}
use Rattle.trail_core.specs.declared.entry.Assigned.{Assigned}
use Rattle.trail_core.specs.declared.entry.Reason.TheVariants.{Clause as ByClause, Unit as ByUnit}
use Rattle.trail_core.specs.Trails.{no_entry, TrailState, assigned_at, IsTrail, with_entry}
use Rattle.watch_lists.specs.Lists.{WatchLists}
use Rattle.watch_lists.proofs.Fronts.{front_push}
use Rattle.conflict_analysis.specs.Answers.{IsLearnt}
use Rattle.conflict_analysis.specs.Members.{HasClause}
use Rattle.lrat_lines.specs.Tight.{IsTight}
use Rattle.lrat_log.specs.declared.kind.Kind.TheVariants.{Unit as UnitKind}
use Rattle.lrat_log.specs.Entries.{Recorded, known_after}
use Rattle.lrat_log.specs.Kept.{IsShown}
use Rattle.search_policy.specs.Epochs.{EpochState}
use Rattle.assumption_solver.specs.Units.{IsUnitAt}
use Rattle.assumption_solver.specs.Logs.{IsEntryAt}
use Rattle.assumption_solver.specs.Steps.Asserting.{IsUnitNow}
use Rattle.assumption_solver.specs.Steps.Noted.{IsNoted}
use Rattle.assumption_solver.specs.Steps.Searching.{IsSearching}
use Rattle.assumption_solver.specs.Steps.Standing.{HasPart, HasRootTrue, Stands, KeepsLearnt}
use Rattle.assumption_solver.specs.Steps.Solving.{IsBearing, IsSolving}
use Rattle.assumption_solver.proofs.Known.{clause_of_known, shown_same, map_of, is_shown, false_within}
use Rattle.assumption_solver.proofs.Tables.{longer_continued, unit_of_entry}
use Rattle.assumption_solver.proofs.Moved.{roots_front, units_front, units_longer, settled_front, covers_added, covers_self, inputs_moved, learnt_moved}
use Rattle.assumption_solver.proofs.Solved.{bears_step}
use Rattle.assumption_solver.proofs.Asserted.{searching_unit}

-- ---- what is learnt

pub learnt_shown_here : (n s : ℕ) (a : Entries) (w : WatchLists) (t : TrailState) (L : Recorded) (epochs : EpochState) (lits : Literals)
    (back : ℕ) (hints : List ℕ) → IsSolving n s a w t L epochs → IsTrail t → IsLearnt a t lits back hints
    → IsShown L.formula L.entries hints lits
learnt_shown_here n s a w t L epochs lits back hints h trail learnt =
    is_shown L hints lits (false_within L.formula.vars t lits trail h.bears.vars learnt.all_false)
    (learnt.proved (known_after L.formula L.entries) (map_of a t.entries L h.bears.logged))

pub learnt_tight : (n s : ℕ) (a : Entries) (w : WatchLists) (t : TrailState) (L : Recorded) (epochs : EpochState) (lits : Literals)
    (back : ℕ) (hints : List ℕ) → IsSolving n s a w t L epochs → IsLearnt a t lits back hints
    → IsTight (known_after L.formula L.entries) hints lits
learnt_tight n s a w t L epochs lits back hints h learnt =
    learnt.tight (known_after L.formula L.entries) (map_of a t.entries L h.bears.logged)

-- ---- its first literal is made true, as a unit

-- the only literal of a clause of one
pub single : (lits : Literals) (x : Literal) → x ≡ get_or lits 0 x → length lits ≡ 1 → lits ≡ x ∷ []
single [] x read one = absurd (omega (arith, one))
single (y ∷ []) x read one = ap (λ (z : Literal). z ∷ []) (sym read)
single (y ∷ z ∷ rest) x read one = absurd (omega (arith, one))

pub unit_is_shown : (n s : ℕ) (a : Entries) (w : WatchLists) (t : TrailState) (L : Recorded) (lits : Literals) (x : Literal) (id : ℕ)
    → IsBearing n s a w t L → IsUnitNow t lits → known_after L.formula L.entries id ≡ Some lits → lits ≡ x ∷ []
    → IsShown L.formula L.entries (id ∷ []) (x ∷ [])
unit_is_shown n s a w t L lits x id h now known is =
    subst (λ (c : Literals). IsShown L.formula L.entries (id ∷ []) c) is
    (shown_same L id lits (subst (λ (m : ℕ). AreWithin m lits) h.vars now.within) (clause_of_known L id lits known))

root_of_unit : (t : TrailState) (lits : Literals) → IsUnitNow t lits → length lits ≡ 1 → t.level ≡ 0
root_of_unit t lits now one =
    ⊎_elim
    (λ (above : 0 < t.level).
    let f = now.reached above in absurd (omega (arith, f.member.1, ap length now.is, one)))
    (λ (at : t.level ≤ 0). omega arith)
    (cases_lt 0 t.level)

pub record IsAsserted (n s : ℕ) (a b : Entries) (w v : WatchLists) (t u : TrailState) (M : Recorded) (lits : Literals) : Type 0 where
  pub bears : IsBearing n s b v u M
  pub learnt : (xs : List Literals) (epoch : ℕ) → KeepsLearnt a t.entries xs epoch → KeepsLearnt b u.entries xs epoch
  pub stands : Stands b u.entries true lits

pub asserted_unit : (n s : ℕ) (a : Entries) (w : WatchLists) (t u : TrailState) (L M : Recorded) (lits : Literals) (x : Literal) (unit : ℕ)
    → IsBearing n s a w t L → IsUnitNow t lits → length lits ≡ 1 → x ≡ get_or lits 0 x → IsNoted L M → IsEntryAt M unit UnitKind (x ∷ [])
    → u ≡ with_entry t x t.level (ByUnit unit) → IsAsserted n s a a w w t u M lits
asserted_unit n s a w t u L M lits x unit h now one read noted entry is =
    let e : Assigned = record { lit = x; level = t.level; reason = ByUnit unit } in
    let new = with_entry t x t.level (ByUnit unit) in
    let front = front_push t.entries e in
    let roots = roots_front t.entries new.entries front in
    let longer = longer_continued L M noted.continued in
    let end : assigned_at new.entries (length t.entries) ≡ e = get_or_push t.entries e no_entry (length t.entries) refl in
    let root = root_of_unit t lits now one in
    subst (λ (y : TrailState). IsAsserted n s a a w w t y M lits) (sym is) (record {
      bears = bears_step n n s s a a w w t new L M h (searching_unit n a w t lits x unit h.searching now one) refl
          (settled_front t.entries new.entries s front h.settles) (covers_self a) (covers_self a) roots
          (units_front M t.entries new.entries front (units_longer L M t.entries longer h.logged.units) (λ k id past within because.
          let at : k ≡ length t.entries = omega (arith, past, within, length_push t.entries e) in
          let same : assigned_at new.entries k ≡ e = get_or_push t.entries e no_entry k (sym at) in
          let both : ByUnit unit ≡ ByUnit id = ap (λ (y : Assigned). y.reason) (sym same) ∙ because in
          let ids : unit ≡ id = cc in
          subst (λ (y : Assigned). IsUnitAt M id y.lit) (sym same)
          (subst (λ (m : ℕ). IsUnitAt M m x) ids (unit_of_entry M unit UnitKind x refl entry))))
          longer;
      learnt = λ xs epoch keeps. learnt_moved a a t.entries new.entries xs epoch (covers_self a) roots keeps;
      stands =
          let there : HasRootTrue new.entries lits = record {
            literal = x;
            member = subst (λ (c : Literals). Contains c x) (sym (single lits x read one)) (Contains-push [] x);
            place = length t.entries;
            within = omega (arith, length_push t.entries e);
            lit = ap (λ (y : Assigned). y.lit) end;
            at_root = ap (λ (y : Assigned). y.level) end ∙ root;
          } in inr there;
    })

-- ---- as a clause that was added

same_members : (lits c : Literals) (j : ℕ) → 1 < length lits → j < length lits → c ≡ swap lits 1 j
    → IsSameSet lits c
same_members lits c j two within is =
    let perm = IsPermutation-swap lits c 1 j two within is in record {
      forth = λ l h. Contains-permutation lits c l perm h;
      back = λ l h. Contains-permutation c lits l (IsPermutation-sym lits c perm) h;
    }

pub asserted_clause : (n s : ℕ) (a b : Entries) (w v : WatchLists) (t u : TrailState) (L : Recorded) (lits c : Literals) (x : Literal)
    (j id r : ℕ) → IsBearing n s a w t L → 1 < length lits → j < length lits → c ≡ swap lits 1 j
    → known_after L.formula L.entries id ≡ Some lits → IsSearching n b v u → b ≡ with_new a (new_entry id c true)
    → u ≡ with_entry t x t.level (ByClause r) → IsAsserted n s a b w v t u L lits
asserted_clause n s a b w v t u L lits c x j id r h two within swapped known searching added pushed =
    let e = new_entry id c true in
    let d = with_new a e in
    let y : Assigned = record { lit = x; level = t.level; reason = ByClause r } in
    let new = with_entry t x t.level (ByClause r) in
    let front = front_push t.entries y in
    let roots = roots_front t.entries new.entries front in
    let same = same_members lits c j two within swapped in
    let at_new : IsSearching n d v new =
    subst (λ (z : TrailState). IsSearching n d v z) pushed (subst (λ (f : Entries). IsSearching n f v u) added searching) in
    let units = units_front L t.entries new.entries front h.logged.units (λ k m past inside because.
    let at : k ≡ length t.entries = omega (arith, past, inside, length_push t.entries y) in
    let is : assigned_at new.entries k ≡ y = get_or_push t.entries y no_entry k (sym at) in
    let wrong : ByClause r ≡ ByUnit m = ap (λ (z : Assigned). z.reason) (sym is) ∙ because in cc) in
    let all : IsAsserted n s a d w v t new L lits = record {
      bears = record {
        searching = at_new;
        vars = h.vars;
        settles = settled_front t.entries new.entries s front h.settles;
        logged = record {
          clauses = λ z here live.
              ⊎_elim
              (λ (old : Contains a z). h.logged.clauses z old live)
              (λ (is : e ≡ z).
              subst (λ (f : Entry). HasClause (known_after L.formula L.entries) f.id f.lits) is
              (record { set = lits; is_known = known; same = same }))
              (Contains-push_cases a e z here);
          units = units;
        };
        inputs = inputs_moved a d t.entries new.entries L.formula L.formula (covers_added a e) roots refl h.inputs;
      };
      learnt = λ xs epoch keeps. learnt_moved a d t.entries new.entries xs epoch (covers_added a e) roots keeps;
      stands =
          let part : HasPart d true lits = record {
            entry = e;
            present = Contains-push a e;
            live = refl;
            kind = refl;
            part = same.back;
          } in inl part;
    } in
    subst (λ (f : Entries). IsAsserted n s a f w v t u L lits) (sym added)
    (subst (λ (z : TrailState). IsAsserted n s a d w v t z L lits) (sym pushed) all)

-- ---- it counts

pub keeps_pushed : (a : Entries) (es : List Assigned) (xs : List Literals) (c : Literals) (epoch : ℕ) → epoch_start epoch ≤ length xs
    → KeepsLearnt a es xs epoch → Stands a es true c → KeepsLearnt a es (xs ++ c ∷ []) epoch
keeps_pushed a es xs c epoch le keeps stands d member =
    ⊎_elim
    (λ (old : Contains (drop (epoch_start epoch) xs) d). keeps d old)
    (λ (is : c ≡ d). subst (Stands a es true) is stands)
    (Contains-push_cases (drop (epoch_start epoch) xs) c d
    (subst (λ (cs : List Literals). Contains cs d) (drop-append-le (epoch_start epoch) xs (c ∷ []) le) member))
