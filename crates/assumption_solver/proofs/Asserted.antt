-- A learnt clause after the way back, and what becomes true by it.
--
-- back_below        the level to go back to is below the present one
-- unit_now          on the way back the first literal alone loses its value
-- searching_unit    a clause of one literal, which becomes a root entry
-- searching_clause  a longer one is added and attached, and its first literal pushed: the rule of the watches holds after both
use Rattle.std.proofs.Common.{◌≡◌, ◌≢◌, ℕ, suc, ◌+◌, ◌<◌, ◌≤◌, true, List, [], ◌∷◌, ◌++◌, length, get_or, swap, Contains, refl, sym, ap}
use Rattle.std.proofs.Common.{◌∙◌, subst, ⊎_elim, arith}
use Rattle.std.proofs.lemmas.List.{get_or-take, length_push, get_or_push, get_or_default}
use Rattle.std.proofs.lemmas.List.Edits.{swapped_from_swap, length-swap}
use Rattle.std.proofs.lemmas.List.Elements.{Contains-get_or, All-from_get_or}
use Rattle.std.proofs.lemmas.List.Sorted.{IsPermutation-sym, IsPermutation-swap, Contains-permutation}
use Rattle.std.proofs.lemmas.Bool.{cases_lt}
use Rattle.cnf_core.specs.Literals.{Literal, Literals, negated, IsWithin}
use Rattle.cnf_core.proofs.Lists.{Contains-cons_cases, Contains-nil}
use Rattle.clause_arena.specs.Entries.{Entry, Entries, no_literal, entry_at, literal_of, new_entry, with_entry as with_new}
use Rattle.trail_core.specs.declared.entry.Assigned.{Assigned}
use Rattle.trail_core.specs.declared.entry.Reason.TheVariants.{Clause as ByClause, Unit as ByUnit}
use Rattle.trail_core.specs.Trails.{no_entry, TrailState, assigned_at, IsFree, IsTrail, with_entry, IsBacktracked}
use Rattle.watch_lists.specs.Clauses.{IsClean, HasTrueBy}
use Rattle.watch_lists.specs.Lists.{WatchLists, with_clause}
use Rattle.watch_lists.proofs.Orders.{literal_member, clean_swap}
use Rattle.watch_lists.proofs.Fronts.{at_front, front_push}
use Rattle.watch_lists.proofs.Attached.{two_cases}
use Rattle.watch_lists.proofs.Kept.{ready_pushed, ready_added}
use Rattle.trail_core.specs.TrueAndFalse.{IsFalse}
use Rattle.conflict_analysis.specs.Reasons.{IsReason, IsUnit}
use Rattle.conflict_analysis.specs.Answers.{IsLearnt}
use Rattle.assumption_solver.specs.Steps.Searching.{IsSearching}
use Rattle.assumption_solver.specs.Steps.Asserting.{IsUnitNow, HasLevelAt, IsSecond}
use Rattle.assumption_solver.proofs.Reasons.{same_clauses, reasoned_pushed, at_unit, at_clause}
use Rattle.assumption_solver.proofs.Clauses.{entry_new, keeps_added, live_new, long_new, clean_clause, long_added}

-- ---- the way back

pub back_below : (a : Entries) (t : TrailState) (lits : Literals) (back : ℕ) (hints : List ℕ) → IsTrail t
    → IsLearnt a t lits back hints → 0 < t.level → back < t.level
back_below a t lits back hints trail h above =
    ⊎_elim
    (λ (some : 0 < back).
    let f = h.highest.reached some in
    let low = h.others_below f.literal f.member in
    let same : low.place ≡ f.at_level.place =
    trail.distinct low.place f.at_level.place low.within f.at_level.within
    (ap (λ (l : Literal). l.var) (low.lit ∙ sym f.at_level.lit)) in
    omega (arith, low.below, f.at_level.of_level, ap (λ (k : ℕ). (assigned_at t.entries k).level) same))
    (λ (none : back ≤ 0). omega arith)
    (cases_lt 0 back)

entry_kept : (t u : TrailState) (target k : ℕ) → IsBacktracked target t u → k < length u.entries
    → assigned_at u.entries k ≡ assigned_at t.entries k
entry_kept t u target k b lt =
    ap (λ (es : List Assigned). assigned_at es k) b.front ∙ get_or-take (length u.entries) t.entries k no_entry lt

-- an entry of a level that is kept
place_kept : (t u : TrailState) (target k : ℕ) → IsBacktracked target t u → k < length t.entries
    → (assigned_at t.entries k).level ≤ target → k < length u.entries
place_kept t u target k b within le =
    ⊎_elim
    (λ (lt : k < length u.entries). lt)
    (λ (past : length u.entries ≤ k). absurd (omega (arith, b.removed k past within)))
    (cases_lt k (length u.entries))

within_of_false : (t : TrailState) (x : Literal) → IsTrail t → IsFalse t.entries x → IsWithin t.vars x
within_of_false t x trail f =
    let w = trail.within f.place f.within in
    let v : (assigned_at t.entries f.place).lit.var ≡ x.var = ap (λ (l : Literal). l.var) f.lit in
    record { low = omega (arith, w.low, v); high = omega (arith, w.high, v) }

pub unit_now : (a : Entries) (t u : TrailState) (lits : Literals) (back : ℕ) (hints : List ℕ) → IsTrail t
    → IsLearnt a t lits back hints → 0 < t.level → IsBacktracked back t u → IsUnitNow u lits
unit_now a t u lits back hints trail h above b =
    let deep = back_below a t lits back hints trail h above in record {
      first = h.first;
      others = h.others;
      is = h.is;
      free = λ k lt same.
          let is = entry_kept t u back k b lt in
          let f = h.first_at in
          let place : k ≡ f.place = trail.distinct k f.place (omega (arith, b.fits)) f.within
          (ap (λ (e : Assigned). e.lit.var) (sym is) ∙ same ∙ sym (ap (λ (l : Literal). l.var) f.lit)) in
          omega (arith, b.kept k lt, f.of_level, ap (λ (n : ℕ). (assigned_at t.entries n).level) place, deep);
      others_false = λ x member.
          let f = h.others_below x member in
          let low = h.highest.at_most x f.place member f.within f.lit in
          let stays = place_kept t u back f.place b f.within low in
          record {
            place = f.place;
            within = stays;
            lit = ap (λ (e : Assigned). e.lit) (entry_kept t u back f.place b stays) ∙ f.lit;
          };
      reached = λ some.
          let f = h.highest.reached (omega (arith, b.level)) in
          let at = f.at_level in
          let stays = place_kept t u back at.place b at.within (omega (arith, at.of_level)) in
          let is = entry_kept t u back at.place b stays in
          record {
            literal = f.literal;
            member = f.member;
            at_level = record {
              place = at.place;
              within = stays;
              lit = ap (λ (e : Assigned). e.lit) is ∙ at.lit;
              of_level = ap (λ (e : Assigned). e.level) is ∙ at.of_level ∙ sym b.level;
            };
          };
      each_once = h.each_once;
      within = All-from_get_or (IsWithin u.vars) lits no_literal (λ i lt.
          let x = get_or lits i no_literal in
          subst (λ (n : ℕ). IsWithin n x) (sym b.vars)
          (within_of_false t x trail (h.all_false x (Contains-get_or lits i no_literal lt))));
    }

-- ---- a clause of one literal

no_rest : (lits : Literals) (f : Literal) (xs : Literals) → lits ≡ f ∷ xs → length lits ≡ 1 → xs ≡ []
no_rest lits f [] is one = refl
no_rest lits f (x ∷ xs) is one = absurd (omega (arith, ap length is))

pub searching_unit : (vars : ℕ) (a : Entries) (w : WatchLists) (t : TrailState) (lits : Literals) (l : Literal) (id : ℕ)
    → IsSearching vars a w t → IsUnitNow t lits → length lits ≡ 1 → IsSearching vars a w (with_entry t l t.level (ByUnit id))
searching_unit vars a w t lits l id s h one =
    let x : Assigned = record { lit = l; level = t.level; reason = ByUnit id } in
    let fs = t.entries ++ x ∷ [] in
    let is : assigned_at fs (length t.entries) ≡ x = get_or_push t.entries x no_entry (length t.entries) refl in
    let none : h.others ≡ [] = no_rest lits h.first h.others h.is one in
    let root : t.level ≡ 0 = ⊎_elim
    (λ (above : 0 < t.level).
    let f = h.reached above in absurd (Contains-nil f.literal (subst (λ (c : Literals). Contains c f.literal) none f.member)))
    (λ (at : t.level ≤ 0). omega arith)
    (cases_lt 0 t.level) in record {
      vars = s.vars;
      ready = ready_pushed a w t l (ByUnit id) s.ready;
      reasoned = reasoned_pushed a a t.entries x (same_clauses a) s.reasoned
          (at_unit a fs (length t.entries) id (ap (λ (y : Assigned). y.reason) is) (ap (λ (y : Assigned). y.level) is ∙ root));
      all_long = s.all_long;
      units = λ above. absurd (omega (arith, root));
    }

-- ---- a longer one

-- two literals exchanged
pub clean_swapped : (n : ℕ) (c : Literals) (i j : ℕ) → i < length c → j < length c → IsClean n c → IsClean n (swap c i j)
clean_swapped n c i j first second h =
    let a : Entries = new_entry 0 c true ∷ [] in
    clean_swap n a 0 i j 0 (omega arith) first second h

-- the clause with a literal of the present level in its second place
pub record IsArranged (t : TrailState) (c : Literals) (first : Literal) : Type 0 where
  pub long : 2 ≤ length c
  pub clean : IsClean t.vars c
  pub head : get_or c 0 no_literal ≡ first
  pub free : IsFree t.entries first.var
  pub others_false : (x : Literal) → Contains c x → x ≢ first → IsFalse t.entries x
  pub second : (k : ℕ) → k < length t.entries → (assigned_at t.entries k).lit.var ≡ (get_or c 1 no_literal).var
      → t.level ≤ (assigned_at t.entries k).level

level_reached : (t : TrailState) (lits : Literals) (j k : ℕ) → IsUnitNow t lits → IsSecond t.entries lits t.level j
    → k < length t.entries → (assigned_at t.entries k).lit.var ≡ (get_or lits j no_literal).var
    → t.level ≤ (assigned_at t.entries k).level
level_reached t lits j k h s within same =
    ⊎_elim
    (λ (above : 0 < t.level).
    let f = h.reached above in
    let x = f.literal in
    let i = f.member.0 in
    let at : get_or lits (suc i) no_literal ≡ x =
    ap (λ (c : Literals). get_or c (suc i) no_literal) h.is ∙ get_or_default h.others i no_literal x f.member.1 ∙ f.member.2 in
    let has : HasLevelAt t.entries lits (suc i) t.level = record {
      place = f.at_level.place;
      within = f.at_level.within;
      var = ap (λ (l : Literal). l.var) (f.at_level.lit) ∙ ap (λ (l : Literal). l.var) (sym at);
      level = f.at_level.of_level;
    } in
    let size : length lits ≡ length (h.first ∷ h.others) = ap length h.is in
    let is = s.has_level (suc i) k (omega arith) (omega (arith, size, f.member.1)) has within same in
    omega (arith, is))
    (λ (root : t.level ≤ 0). omega arith)
    (cases_lt 0 t.level)

pub arranged : (t : TrailState) (lits : Literals) (j : ℕ) → 2 ≤ length lits → IsUnitNow t lits → IsSecond t.entries lits t.level j
    → IsArranged t (swap lits 1 j) (get_or lits 0 no_literal)
arranged t lits j long h s =
    let ys = swap lits 1 j in
    let two : 1 < length lits = omega arith in
    let perm = IsPermutation-swap lits ys 1 j two s.within refl in
    let size : length ys ≡ length lits = length-swap lits 1 j in
    let places = swapped_from_swap lits ys 1 j no_literal two s.within refl in
    let zeroth : h.first ≡ get_or lits 0 no_literal = sym (ap (λ (c : Literals). get_or c 0 no_literal) h.is) in
    let behind : 0 < j = s.behind in
    let z : ℕ = 0 in
    let not_one : z ≢ 1 = omega arith in
    let not_second : z ≢ j = omega arith in record {
      long = omega (arith, size);
      clean = clean_swapped t.vars lits 1 j two s.within (clean_clause t.vars lits h.within h.each_once);
      head = places.2 0 not_one not_second;
      free = subst (λ (l : Literal). IsFree t.entries l.var) zeroth h.free;
      others_false = λ x member apart.
          let there = Contains-permutation ys lits x (IsPermutation-sym lits ys perm) member in
          ⊎_elim
          (λ (same : h.first ≡ x). absurd (apart (sym same ∙ zeroth)))
          (λ (other : Contains h.others x). h.others_false x other)
          (Contains-cons_cases h.first h.others x (subst (λ (c : Literals). Contains c x) h.is there));
      second = λ k within same. level_reached t lits j k h s within (same ∙ ap (λ (l : Literal). l.var) places.0);
    }

-- the clause is added and attached, and its first literal pushed
pub searching_clause : (vars : ℕ) (a : Entries) (w : WatchLists) (t : TrailState) (c : Literals) (l : Literal) (id : ℕ)
    → IsSearching vars a w t → IsArranged t c l
    → IsSearching vars (with_new a (new_entry id c true)) (with_clause w (with_new a (new_entry id c true)) (length a))
    (with_entry t l t.level (ByClause (length a)))
searching_clause vars a w t c l id s h =
    let e = new_entry id c true in
    let b = with_new a e in
    let n = length a in
    let x : Assigned = record { lit = l; level = t.level; reason = ByClause n } in
    let u = with_entry t l t.level (ByClause n) in
    let fs = u.entries in
    let end = length t.entries in
    let size : length fs ≡ end + 1 = length_push t.entries x in
    let is : assigned_at fs end ≡ x = get_or_push t.entries x no_entry end refl in
    let old : (k : ℕ) → k < end → assigned_at fs k ≡ assigned_at t.entries k =
    λ k lt. at_front t.entries fs k (front_push t.entries x) lt in
    let new : entry_at b n ≡ e = entry_new a e in
    let lits_are : (entry_at b n).lits ≡ c = ap (λ (y : Entry). y.lits) new in
    let place : (i : ℕ) → literal_of b n i ≡ get_or c i no_literal = λ i. ap (λ (d : Literals). get_or d i no_literal) lits_are in
    let long = long_new a e refl h.long in
    let first_member : Contains (entry_at b n).lits l =
    subst (λ (y : Literal). Contains (entry_at b n).lits y) (place 0 ∙ h.head) (literal_member b n 0 (omega (arith, long.long))) in
    let gone : t.gone ≤ end = s.ready.gone in
    let true_first : (k : ℕ) → t.level ≤ (assigned_at fs k).level → HasTrueBy b fs n (assigned_at fs k).level = λ k le. record {
      lit = l;
      member = first_member;
      made = record {
        place = end;
        within = omega (arith, size);
        lit = ap (λ (y : Assigned). y.lit) is;
        level = omega (arith, ap (λ (y : Assigned). y.level) is, le);
      };
    } in
    let rule : (i p : ℕ) → i < 2 → p < u.gone → (assigned_at fs p).lit ≡ negated (literal_of b n i)
    → HasTrueBy b fs n (assigned_at fs p).level =
    λ i p two before at.
    let inside : p < end = omega arith in
    let var : (k : ℕ) → i ≡ k → (assigned_at t.entries p).lit.var ≡ (get_or c k no_literal).var =
    λ k same. ap (λ (y : Assigned). y.lit.var) (sym (old p inside)) ∙ ap (λ (y : Literal). y.var) at
    ∙ ap (λ (y : Literal). y.var) (place i) ∙ ap (λ (m : ℕ). (get_or c m no_literal).var) same in
    two_cases i (HasTrueBy b fs n (assigned_at fs p).level) two
    (λ zeroth. absurd (h.free p inside (var 0 zeroth ∙ ap (λ (y : Literal). y.var) h.head)))
    (λ first. true_first p (omega (arith, ap (λ (y : Assigned). y.level) (old p inside), h.second p inside (var 1 first)))) in
    let because : IsReason b fs end n = record {
      live = live_new a e refl;
      member = subst (λ (y : Literal). Contains (entry_at b n).lits y) (sym (ap (λ (y : Assigned). y.lit) is)) first_member;
      others = λ y member apart.
          let f = h.others_false y (subst (λ (d : Literals). Contains d y) lits_are member)
          (λ same. apart (same ∙ sym (ap (λ (z : Assigned). z.lit) is))) in record {
            place = f.place;
            before = f.within;
            lit = ap (λ (z : Assigned). z.lit) (old f.place f.within) ∙ f.lit;
          };
    } in record {
      vars = s.vars;
      ready = ready_added a w u e (ready_pushed a w t l (ByClause n) s.ready) long
          (subst (λ (m : ℕ). IsClean m c) (sym s.ready.vars) h.clean) rule;
      reasoned = reasoned_pushed a b t.entries x (keeps_added a e) s.reasoned
          (at_clause b fs end n (ap (λ (y : Assigned). y.reason) is) because);
      all_long = long_added a e s.all_long refl h.long;
      units = λ above k within root.
          ⊎_elim
          (λ (lt : k < end).
          subst IsUnit (sym (old k lt)) (s.units above k lt (ap (λ (y : Assigned). y.level) (sym (old k lt)) ∙ root)))
          (λ (past : end ≤ k).
          let last : k ≡ end = omega (arith, size, within) in
          absurd (omega (arith, above, root, ap (λ (m : ℕ). (assigned_at fs m).level) last, ap (λ (y : Assigned). y.level) is)))
          (cases_lt k end);
    }

pub searching_asserted : (vars : ℕ) (a b : Entries) (w v : WatchLists) (t u : TrailState) (c : Literals) (l : Literal) (id r : ℕ)
    → IsSearching vars a w t → IsArranged t c l → b ≡ with_new a (new_entry id c true) → r ≡ length a → v ≡ with_clause w b r
    → u ≡ with_entry t l t.level (ByClause r) → IsSearching vars b v u
searching_asserted vars a b w v t u c l id r s h b_is r_is v_is u_is =
    let d = with_new a (new_entry id c true) in
    subst (λ (y : TrailState). IsSearching vars b v y) (sym u_is)
    (subst (λ (y : WatchLists). IsSearching vars b y (with_entry t l t.level (ByClause r))) (sym v_is)
    (subst (λ (y : Entries). IsSearching vars y (with_clause w y r) (with_entry t l t.level (ByClause r))) (sym b_is)
    (subst (λ (k : ℕ). IsSearching vars d (with_clause w d k) (with_entry t l t.level (ByClause k))) (sym r_is)
    (searching_clause vars a w t c l id s h))))

-- as it is read from a slice whose two literals were exchanged
pub arranged_slice : (t : TrailState) (lits c : Literals) (j : ℕ) (x : Literal) → 2 ≤ length lits → IsUnitNow t lits
    → IsSecond t.entries lits t.level j → c ≡ swap lits 1 j → x ≡ get_or lits 0 x → IsArranged t c x
arranged_slice t lits c j x long h s swapped read =
    let first : get_or lits 0 no_literal ≡ x = get_or_default lits 0 no_literal x (omega arith) ∙ sym read in
    subst (IsArranged t c) first
    (subst (λ (d : Literals). IsArranged t d (get_or lits 0 no_literal)) (sym swapped) (arranged t lits j long h s))

-- no literal at a place has the level where its variable's level is another
pub no_level_at : (es : List Assigned) (lits : Literals) (i v n level : ℕ) (x : Literal) → i < length lits → x ≡ get_or lits i x
    → v ≡ x.var → ((k : ℕ) → k < length es → (assigned_at es k).lit.var ≡ v → n ≡ (assigned_at es k).level) → n ≢ level
    → HasLevelAt es lits i level → ⊥
no_level_at es lits i v n level x lt read var level_is other h =
    let same : (assigned_at es h.place).lit.var ≡ v =
    h.var ∙ ap (λ (l : Literal). l.var) (get_or_default lits i no_literal x lt ∙ sym read) ∙ sym var in
    other (level_is h.place h.within same ∙ h.level)
