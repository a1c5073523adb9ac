-- A search keeps what it stands on: where it begins, decides, propagates, goes back, and sets a reason.
use Rattle.std.proofs.Common.{◌≡◌, ◌≢◌, ℕ, ◌+◌, ◌<◌, ◌≤◌, List, [], ◌∷◌, ◌++◌, length, refl, sym, ap, ◌∙◌, subst, ⊎_elim, arith}
use Rattle.std.proofs.lemmas.List.{get_or-take, length_push, get_or_push}
use Rattle.std.proofs.lemmas.Bool.{cases_lt, cases_eq}
use Rattle.cnf_core.specs.Literals.{Literal}
use Rattle.clause_arena.specs.Entries.{Entries}
use Rattle.trail_core.specs.declared.entry.Assigned.{Assigned}
use Rattle.trail_core.specs.declared.entry.Reason.TheVariants.{Decision}
use Rattle.trail_core.specs.Trails.{no_entry, TrailState, assigned_at, IsTrail, empty_trail, with_entry, with_root, IsBacktracked}
use Rattle.watch_lists.specs.Clauses.{IsReordered}
use Rattle.watch_lists.specs.Lists.{WatchLists, IsAttached}
use Rattle.watch_lists.specs.Watching.{IsReady}
use Rattle.watch_lists.specs.Propagating.{IsPropagated}
use Rattle.watch_lists.proofs.Orders.{live_after, long_after, member_after, reordered_sym}
use Rattle.watch_lists.proofs.Fronts.{IsFront, at_front, front_push}
use Rattle.watch_lists.proofs.Kept.{ready_empty, ready_decided, ready_backtracked, ready_rooted}
use Rattle.conflict_analysis.specs.Reasons.{IsUnit}
use Rattle.assumption_solver.specs.Steps.Plain.{AreLong}
use Rattle.assumption_solver.specs.Steps.Searching.{HaveUnits, IsSearching}
use Rattle.assumption_solver.proofs.Reasons.{KeepsClauses, same_clauses, reasoned_of_each, reasoned_more, reasoned_pushed, reasoned_backtracked}
use Rattle.assumption_solver.proofs.Reasons.{reasoned_rooted, at_decision, at_forced, rooted_is}

pub searching_begun : (vars : ℕ) (a : Entries) (w : WatchLists) → w.vars ≡ vars → AreLong a → IsAttached a w
    → IsSearching vars a w (empty_trail vars)
searching_begun vars a w same long h = record {
  vars = refl;
  ready = subst (λ (n : ℕ). IsReady a w (empty_trail n)) same (ready_empty a w h);
  reasoned = reasoned_of_each a [] (λ k lt. absurd (omega arith));
  all_long = long;
  units = λ above. absurd (omega arith);
}

-- units stay known where new entries are above the root
units_more : (es fs : List Assigned) (level : ℕ) → IsFront es fs → 0 < level → HaveUnits es
    → ((k : ℕ) → length es ≤ k → k < length fs → (assigned_at fs k).level ≡ level) → HaveUnits fs
units_more es fs level front above h new k within root =
    ⊎_elim
    (λ (lt : k < length es).
    let is = at_front es fs k front lt in
    subst IsUnit (sym is) (h k lt (ap (λ (x : Assigned). x.level) (sym is) ∙ root)))
    (λ (past : length es ≤ k). absurd (omega (arith, new k past within)))
    (cases_lt k (length es))

pub searching_decided : (vars : ℕ) (a : Entries) (w : WatchLists) (t : TrailState) (l : Literal) → IsSearching vars a w t → IsTrail t
    → t.gone ≡ length t.entries → HaveUnits t.entries → IsSearching vars a w (with_entry t l (t.level + 1) Decision)
searching_decided vars a w t l s trail quiet units =
    let x : Assigned = record { lit = l; level = t.level + 1; reason = Decision } in
    let fs = t.entries ++ x ∷ [] in record {
      vars = s.vars;
      ready = ready_decided a w t l s.ready quiet;
      reasoned = reasoned_pushed a a t.entries x (same_clauses a) s.reasoned (at_decision a t l trail);
      all_long = s.all_long;
      units = λ above. units_more t.entries fs (t.level + 1) (front_push t.entries x) (omega arith) units
          (λ k past within. ap (λ (y : Assigned). y.level) (get_or_push t.entries x no_entry k (omega (arith, length_push t.entries x))));
    }

pub keeps_reordered : (a b : Entries) → IsReordered a b → KeepsClauses a b
keeps_reordered a b o r live =
    let there = live_after a b r o live in record {
      live = there;
      forth = λ l h. member_after a b r l o live h;
      back = λ l h. member_after b a r l (reordered_sym a b o) there h;
    }

pub searching_propagated : (vars : ℕ) (a b : Entries) (w v : WatchLists) (t u : TrailState) → IsSearching vars a w t → IsReady b v u
    → IsReordered a b → IsPropagated b t u → IsSearching vars b v u
searching_propagated vars a b w v t u s ready o p =
    let front : IsFront t.entries u.entries = record { grown = p.grown; front = p.front } in record {
      vars = s.vars ∙ sym p.vars;
      ready = ready;
      reasoned = reasoned_more a b t.entries u.entries (keeps_reordered a b o) front s.reasoned
          (λ k past within. at_forced b u.entries k (p.forced k past within));
      all_long = λ r live. long_after a b r o (s.all_long r (live_after b a r (reordered_sym a b o) live));
      units = λ above.
          let was : 0 < t.level = omega (arith, p.level) in
          units_more t.entries u.entries t.level front was (s.units was) p.levels;
    }

pub searching_backtracked : (vars : ℕ) (a : Entries) (w : WatchLists) (t u : TrailState) (target : ℕ) → IsSearching vars a w t
    → target ≤ t.level → IsBacktracked target t u → IsSearching vars a w u
searching_backtracked vars a w t u target s le b = record {
  vars = s.vars ∙ sym b.vars;
  ready = ready_backtracked a w t u target s.ready le b;
  reasoned = reasoned_backtracked a t u target b s.reasoned;
  all_long = s.all_long;
  units = λ above k within root.
      let is : assigned_at u.entries k ≡ assigned_at t.entries k =
      ap (λ (es : List Assigned). assigned_at es k) b.front ∙ get_or-take (length u.entries) t.entries k no_entry within in
      subst IsUnit (sym is)
      (s.units (omega (arith, b.level)) k (omega (arith, b.fits)) (ap (λ (x : Assigned). x.level) (sym is) ∙ root));
}

pub searching_rooted : (vars : ℕ) (a : Entries) (w : WatchLists) (t : TrailState) (k id : ℕ) → IsSearching vars a w t
    → k < length t.entries → (assigned_at t.entries k).level ≡ 0 → t.level ≡ 0 → IsSearching vars a w (with_root t k id)
searching_rooted vars a w t k id s lt root level = record {
  vars = s.vars;
  ready = ready_rooted a w t k id s.ready lt;
  reasoned = reasoned_rooted a t k id lt root s.reasoned;
  all_long = s.all_long;
  units = λ above. absurd (omega (arith, level));
}

-- a unit stays one, and there is one more
pub unit_here : (t : TrailState) (k id : ℕ) → k < length t.entries → IsUnit (assigned_at (with_root t k id).entries k)
unit_here t k id lt = record { id = id; reason = (rooted_is t k id lt).here }

pub unit_kept : (t : TrailState) (k j id : ℕ) → k < length t.entries → IsUnit (assigned_at t.entries j)
    → IsUnit (assigned_at (with_root t k id).entries j)
unit_kept t k j id lt h =
    ⊎_elim
    (λ (at : j ≡ k). subst (λ (n : ℕ). IsUnit (assigned_at (with_root t k id).entries n)) (sym at) (unit_here t k id lt))
    (λ (ne : j ≢ k). subst IsUnit (sym ((rooted_is t k id lt).others j ne)) h)
    (cases_eq j k)

pub searching_same : (m n : ℕ) (a b : Entries) (w v : WatchLists) (t u : TrailState) → m ≡ n → b ≡ a → v ≡ w → u ≡ t
    → IsSearching n a w t → IsSearching m b v u
searching_same m n a b w v t u m_is b_is v_is u_is s =
    subst (λ (k : ℕ). IsSearching k b v u) (sym m_is)
    (subst (λ (d : Entries). IsSearching n d v u) (sym b_is)
    (subst (λ (y : WatchLists). IsSearching n a y u) (sym v_is)
    (subst (λ (y : TrailState). IsSearching n a w y) (sym u_is) s)))
