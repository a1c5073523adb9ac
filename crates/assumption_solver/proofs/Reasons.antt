-- How the reasons of a trail keep implying its entries.
--
-- reasoned_more          an arena that keeps the clauses, and a trail that grows: by `Trail::decide`, `push`, or a propagation
-- reasoned_backtracked   after `Trail::backtrack`
-- reasoned_rooted        after `Trail::root`
-- at_decision, at_forced, at_unit, at_clause     what the new entry needs, by its reason
use Rattle.std.proofs.Common.{◌≡◌, ◌≢◌, ℕ, ◌+◌, ◌<◌, ◌≤◌, List, [], ◌∷◌, ◌++◌, length, Contains, refl, sym, ap, ◌∙◌, subst, ⊎_elim, arith}
use Rattle.std.proofs.lemmas.List.{get_or-take, length_push, get_or_push, length-set, get_or-set_same, get_or-set_other}
use Rattle.std.proofs.lemmas.Bool.{cases_lt, cases_eq}
use Rattle.cnf_core.specs.Literals.{Literal}
use Rattle.clause_arena.specs.Entries.{Entries, entry_at, IsLive}
use Rattle.trail_core.specs.declared.entry.Assigned.{Assigned}
use Rattle.trail_core.specs.declared.entry.Reason.TheVariants.{Decision, Clause as ByClause, Unit as ByUnit}
use Rattle.trail_core.specs.Trails.{no_entry, TrailState, assigned_at, IsTrail, with_entry, with_root, IsBacktracked}
use Rattle.watch_lists.specs.Clauses.{IsForced}
use Rattle.watch_lists.proofs.Fronts.{IsFront, at_front, front_push}
use Rattle.conflict_analysis.specs.Reasons.{IsReason, IsReasoned}
use Rattle.conflict_analysis.proofs.Walking.{level_le}

-- the second arena has the clause too, with its literals in some order
pub record IsSameClause (a b : Entries) (r : ℕ) : Type 0 where
  pub live : IsLive b r
  pub forth : (l : Literal) → Contains (entry_at a r).lits l → Contains (entry_at b r).lits l
  pub back : (l : Literal) → Contains (entry_at b r).lits l → Contains (entry_at a r).lits l

abbrev pub KeepsClauses : Entries → Entries → Type 0
KeepsClauses a b = (r : ℕ) → IsLive a r → IsSameClause a b r

pub same_clauses : (a : Entries) → KeepsClauses a a
same_clauses a r live = record { live = live; forth = λ l h. h; back = λ l h. h }

-- what is asked of the entry of one place
pub record IsReasonedAt (a : Entries) (es : List Assigned) (k : ℕ) : Type 0 where
  pub first_of_level : (j : ℕ) → j < k → (assigned_at es k).reason ≡ Decision → (assigned_at es j).level ≢ (assigned_at es k).level
  pub decision : (assigned_at es k).reason ≡ Decision → 0 < (assigned_at es k).level
  pub unit : (id : ℕ) → (assigned_at es k).reason ≡ ByUnit id → (assigned_at es k).level ≡ 0
  pub clause : (r : ℕ) → (assigned_at es k).reason ≡ ByClause r → IsReason a es k r

pub reasoned_of_each : (a : Entries) (es : List Assigned) → ((k : ℕ) → k < length es → IsReasonedAt a es k) → IsReasoned a es
reasoned_of_each a es h = record {
  first_of_level = λ j k lt within is. (h k within).first_of_level j lt is;
  decisions = λ k within is. (h k within).decision is;
  units = λ k id within is. (h k within).unit id is;
  clauses = λ k r within is. (h k within).clause r is;
}

pub each_of_reasoned : (a : Entries) (es : List Assigned) (k : ℕ) → IsReasoned a es → k < length es → IsReasonedAt a es k
each_of_reasoned a es k h within = record {
  first_of_level = λ j lt is. h.first_of_level j k lt within is;
  decision = λ is. h.decisions k within is;
  unit = λ id is. h.units k id within is;
  clause = λ r is. h.clauses k r within is;
}

-- ---- entries stay, and clauses

reason_moved : (a b : Entries) (es fs : List Assigned) (k r : ℕ) → IsSameClause a b r
    → ((j : ℕ) → j ≤ k → (assigned_at fs j).lit ≡ (assigned_at es j).lit) → IsReason a es k r → IsReason b fs k r
reason_moved a b es fs k r c lits h =
    let here : (assigned_at fs k).lit ≡ (assigned_at es k).lit = lits k (omega arith) in record {
      live = c.live;
      member = subst (λ (l : Literal). Contains (entry_at b r).lits l) (sym here) (c.forth (assigned_at es k).lit h.member);
      others = λ x member apart.
          let was = h.others x (c.back x member) (λ e. apart (e ∙ sym here)) in record {
            place = was.place;
            before = was.before;
            lit = lits was.place (omega (arith, was.before)) ∙ was.lit;
          };
    }

reasoned_moved : (a b : Entries) (es fs : List Assigned) (k : ℕ) → KeepsClauses a b
    → ((j : ℕ) → j ≤ k → (assigned_at fs j).lit ≡ (assigned_at es j).lit)
    → ((j : ℕ) → j ≤ k → (assigned_at fs j).level ≡ (assigned_at es j).level)
    → (assigned_at fs k).reason ≡ (assigned_at es k).reason → IsReasonedAt a es k → IsReasonedAt b fs k
reasoned_moved a b es fs k keeps lits levels reason h = record {
  first_of_level = λ j lt is same.
      h.first_of_level j lt (sym reason ∙ is) (sym (levels j (omega arith)) ∙ same ∙ levels k (omega arith));
  decision = λ is. omega (arith, levels k (omega arith), h.decision (sym reason ∙ is));
  unit = λ id is. levels k (omega arith) ∙ h.unit id (sym reason ∙ is);
  clause = λ r is.
      let was = h.clause r (sym reason ∙ is) in
      reason_moved a b es fs k r (keeps r was.live) lits was;
}

-- the entries that both trails begin with
at_front_moved : (a b : Entries) (es fs : List Assigned) (k : ℕ) → KeepsClauses a b → IsFront es fs → k < length es
    → IsReasonedAt a es k → IsReasonedAt b fs k
at_front_moved a b es fs k keeps front lt h =
    reasoned_moved a b es fs k keeps
    (λ j le. ap (λ (x : Assigned). x.lit) (at_front es fs j front (omega arith)))
    (λ j le. ap (λ (x : Assigned). x.level) (at_front es fs j front (omega arith)))
    (ap (λ (x : Assigned). x.reason) (at_front es fs k front lt)) h

pub reasoned_more : (a b : Entries) (es fs : List Assigned) → KeepsClauses a b → IsFront es fs → IsReasoned a es
    → ((k : ℕ) → length es ≤ k → k < length fs → IsReasonedAt b fs k) → IsReasoned b fs
reasoned_more a b es fs keeps front old new =
    reasoned_of_each b fs (λ k within. ⊎_elim
    (λ (lt : k < length es). at_front_moved a b es fs k keeps front lt (each_of_reasoned a es k old lt))
    (λ (past : length es ≤ k). new k past within)
    (cases_lt k (length es)))

-- one entry more
pub reasoned_pushed : (a b : Entries) (es : List Assigned) (x : Assigned) → KeepsClauses a b → IsReasoned a es
    → IsReasonedAt b (es ++ x ∷ []) (length es) → IsReasoned b (es ++ x ∷ [])
reasoned_pushed a b es x keeps old new =
    reasoned_more a b es (es ++ x ∷ []) keeps (front_push es x) old
    (λ k past within. subst (IsReasonedAt b (es ++ x ∷ [])) (omega (arith, length_push es x)) new)

pub reasoned_backtracked : (a : Entries) (t u : TrailState) (target : ℕ) → IsBacktracked target t u → IsReasoned a t.entries
    → IsReasoned a u.entries
reasoned_backtracked a t u target b h =
    let at : (j : ℕ) → j < length u.entries → assigned_at u.entries j ≡ assigned_at t.entries j =
    λ j lt. ap (λ (es : List Assigned). assigned_at es j) b.front ∙ get_or-take (length u.entries) t.entries j no_entry lt in
    reasoned_of_each a u.entries (λ k within.
    reasoned_moved a a t.entries u.entries k (same_clauses a)
    (λ j le. ap (λ (x : Assigned). x.lit) (at j (omega arith)))
    (λ j le. ap (λ (x : Assigned). x.level) (at j (omega arith)))
    (ap (λ (x : Assigned). x.reason) (at k within))
    (each_of_reasoned a t.entries k h (omega (arith, b.fits))))

-- ---- a new entry, by its reason

pub at_decision : (a : Entries) (t : TrailState) (l : Literal) → IsTrail t
    → IsReasonedAt a (with_entry t l (t.level + 1) Decision).entries (length t.entries)
at_decision a t l trail =
    let x : Assigned = record { lit = l; level = t.level + 1; reason = Decision } in
    let fs = t.entries ++ x ∷ [] in
    let is : assigned_at fs (length t.entries) ≡ x = get_or_push t.entries x no_entry (length t.entries) refl in
    let level : (assigned_at fs (length t.entries)).level ≡ t.level + 1 = ap (λ (y : Assigned). y.level) is in
    let reason : (assigned_at fs (length t.entries)).reason ≡ Decision = ap (λ (y : Assigned). y.reason) is in record {
      first_of_level = λ j lt found same.
          let old : (assigned_at fs j).level ≡ (assigned_at t.entries j).level =
          ap (λ (y : Assigned). y.level) (at_front t.entries fs j (front_push t.entries x) lt) in
          omega (arith, old, same, level, level_le t j trail lt);
      decision = λ found. omega (arith, level);
      unit = λ id found. let wrong : Decision ≡ ByUnit id = sym reason ∙ found in cc;
      clause = λ r found. let wrong : Decision ≡ ByClause r = sym reason ∙ found in cc;
    }

-- a root entry with a unit
pub at_unit : (a : Entries) (es : List Assigned) (k id : ℕ) → (assigned_at es k).reason ≡ ByUnit id → (assigned_at es k).level ≡ 0
    → IsReasonedAt a es k
at_unit a es k id reason root = record {
  first_of_level = λ j lt found. let wrong : ByUnit id ≡ Decision = sym reason ∙ found in cc;
  decision = λ found. let wrong : ByUnit id ≡ Decision = sym reason ∙ found in cc;
  unit = λ other found. root;
  clause = λ r found. let wrong : ByUnit id ≡ ByClause r = sym reason ∙ found in cc;
}

-- an entry that a clause implies
pub at_clause : (a : Entries) (es : List Assigned) (k r : ℕ) → (assigned_at es k).reason ≡ ByClause r → IsReason a es k r
    → IsReasonedAt a es k
at_clause a es k r reason h = record {
  first_of_level = λ j lt found. let wrong : ByClause r ≡ Decision = sym reason ∙ found in cc;
  decision = λ found. let wrong : ByClause r ≡ Decision = sym reason ∙ found in cc;
  unit = λ id found. let wrong : ByClause r ≡ ByUnit id = sym reason ∙ found in cc;
  clause = λ s found.
      let both : ByClause r ≡ ByClause s = sym reason ∙ found in
      let same : r ≡ s = cc in
      subst (λ (n : ℕ). IsReason a es k n) same h;
}

pub at_forced : (a : Entries) (es : List Assigned) (k : ℕ) → IsForced a es k → IsReasonedAt a es k
at_forced a es k h =
    at_clause a es k h.clause h.reason (record { live = h.live; member = h.member; others = h.others })

-- ---- a reason set

-- the other entries stay, and the literals and levels of all
pub record AreRooted (t : TrailState) (k id : ℕ) : Type 0 where
  pub lits : (j : ℕ) → (assigned_at (with_root t k id).entries j).lit ≡ (assigned_at t.entries j).lit
  pub levels : (j : ℕ) → (assigned_at (with_root t k id).entries j).level ≡ (assigned_at t.entries j).level
  pub here : (assigned_at (with_root t k id).entries k).reason ≡ ByUnit id
  pub others : (j : ℕ) → j ≢ k → assigned_at (with_root t k id).entries j ≡ assigned_at t.entries j
  pub count : length (with_root t k id).entries ≡ length t.entries

pub rooted_is : (t : TrailState) (k id : ℕ) → k < length t.entries → AreRooted t k id
rooted_is t k id lt =
    let x : Assigned = record (assigned_at t.entries k) { reason = ByUnit id } in
    let fs = (with_root t k id).entries in
    let is : assigned_at fs k ≡ x = get_or-set_same t.entries k x no_entry lt in
    let other : (j : ℕ) → j ≢ k → assigned_at fs j ≡ assigned_at t.entries j =
    λ j ne. get_or-set_other t.entries k j x no_entry ne in record {
      lits = λ j. ⊎_elim
          (λ (at : j ≡ k). subst (λ (n : ℕ). (assigned_at fs n).lit ≡ (assigned_at t.entries n).lit) (sym at)
          (ap (λ (y : Assigned). y.lit) is))
          (λ (ne : j ≢ k). ap (λ (y : Assigned). y.lit) (other j ne))
          (cases_eq j k);
      levels = λ j. ⊎_elim
          (λ (at : j ≡ k). subst (λ (n : ℕ). (assigned_at fs n).level ≡ (assigned_at t.entries n).level) (sym at)
          (ap (λ (y : Assigned). y.level) is))
          (λ (ne : j ≢ k). ap (λ (y : Assigned). y.level) (other j ne))
          (cases_eq j k);
      here = ap (λ (y : Assigned). y.reason) is;
      others = other;
      count = length-set t.entries k x;
    }

pub reasoned_rooted : (a : Entries) (t : TrailState) (k id : ℕ) → k < length t.entries → (assigned_at t.entries k).level ≡ 0
    → IsReasoned a t.entries → IsReasoned a (with_root t k id).entries
reasoned_rooted a t k id lt root h =
    let fs = (with_root t k id).entries in
    let f = rooted_is t k id lt in
    reasoned_of_each a fs (λ j within. ⊎_elim
    (λ (at : j ≡ k). subst (IsReasonedAt a fs) (sym at) (at_unit a fs k id f.here (f.levels k ∙ root)))
    (λ (ne : j ≢ k).
    reasoned_moved a a t.entries fs j (same_clauses a) (λ i le. f.lits i) (λ i le. f.levels i)
    (ap (λ (y : Assigned). y.reason) (f.others j ne)) (each_of_reasoned a t.entries j h (omega (arith, f.count))))
    (cases_eq j k))
