-- How what stands and what is logged is kept from step to step.
--
-- roots_front, roots_backtracked, roots_rooted     the root entries stay
-- units_front, units_backtracked, units_rooted     the log has the units of the trail
-- covers_self, covers_reordered, covers_added      the live clauses stay
-- stands_moved, inputs_moved, learnt_moved, logged_moved     what that keeps
use Rattle.std.proofs.Common.{◌≡◌, ◌≢◌, ℕ, ◌<◌, ◌≤◌, Bool, true, false, List, [], ◌∷◌, length, Contains, refl, sym, ap, ◌∙◌, subst, inl, inr, ⊎_elim, arith}
use Rattle.std.proofs.lemmas.List.{get_or-take}
use Rattle.std.proofs.lemmas.List.Elements.{Contains-append_left, Contains-get_or}
use Rattle.std.proofs.lemmas.List.Sorted.{Contains-permutation, IsPermutation-sym}
use Rattle.std.proofs.lemmas.Bool.{cases_lt, cases_eq}
use Rattle.cnf_core.specs.Literals.{Literal, Literals}
use Rattle.cnf_core.specs.Formulas.{Cnf}
use Rattle.clause_arena.specs.Entries.{Entry, Entries, no_entry as no_clause, entry_at, with_entry as with_new}
use Rattle.trail_core.specs.declared.entry.Assigned.{Assigned}
use Rattle.trail_core.specs.declared.entry.Reason.TheVariants.{Unit as ByUnit}
use Rattle.trail_core.specs.Trails.{no_entry, TrailState, assigned_at, with_root, IsBacktracked}
use Rattle.watch_lists.specs.Clauses.{IsReordered}
use Rattle.watch_lists.proofs.Orders.{reordered_sym}
use Rattle.watch_lists.proofs.Fronts.{IsFront, at_front}
use Rattle.lrat_log.specs.Entries.{Recorded, known_after}
use Rattle.conflict_analysis.specs.Members.{HasClause}
use Rattle.conflict_analysis.specs.Reasons.{IsUnit}
use Rattle.assumption_solver.specs.Units.{IsUnitAt}
use Rattle.assumption_solver.specs.Steps.Standing.{HasPart, HasRootTrue, Stands, IsTautology, KeepsInputs, KeepsLearnt, Covers}
use Rattle.assumption_solver.specs.Steps.Solving.{IsLogged, IsSettled}
use Rattle.assumption_solver.proofs.Reasons.{rooted_is}
use Rattle.assumption_solver.proofs.Places.{place_of_entry}
use Rattle.assumption_solver.proofs.Tables.{IsLonger, unit_longer}
use Rattle.assumption_solver.proofs.Known.{clause_more}

-- ---- root entries

-- the entry of a place stays, at the root
pub record IsRootKept (es fs : List Assigned) (k : ℕ) : Type 0 where
  pub within : k < length fs
  pub lit : (assigned_at fs k).lit ≡ (assigned_at es k).lit
  pub level : (assigned_at fs k).level ≡ 0

abbrev pub KeepsRoots : List Assigned → List Assigned → Type 0
KeepsRoots es fs = (k : ℕ) → k < length es → (assigned_at es k).level ≡ 0 → IsRootKept es fs k

pub roots_same : (es : List Assigned) → KeepsRoots es es
roots_same es k lt root = record { within = lt; lit = refl; level = root }

pub roots_front : (es fs : List Assigned) → IsFront es fs → KeepsRoots es fs
roots_front es fs front k lt root =
    let is = at_front es fs k front lt in record {
      within = omega (arith, front.grown, lt);
      lit = ap (λ (x : Assigned). x.lit) is;
      level = ap (λ (x : Assigned). x.level) is ∙ root;
    }

pub entry_kept : (t u : TrailState) (target k : ℕ) → IsBacktracked target t u → k < length u.entries
    → assigned_at u.entries k ≡ assigned_at t.entries k
entry_kept t u target k b lt =
    ap (λ (es : List Assigned). assigned_at es k) b.front ∙ get_or-take (length u.entries) t.entries k no_entry lt

pub place_kept : (t u : TrailState) (target k : ℕ) → IsBacktracked target t u → k < length t.entries
    → (assigned_at t.entries k).level ≤ target → k < length u.entries
place_kept t u target k b within le =
    ⊎_elim
    (λ (lt : k < length u.entries). lt)
    (λ (past : length u.entries ≤ k). absurd (omega (arith, b.removed k past within)))
    (cases_lt k (length u.entries))

pub roots_backtracked : (t u : TrailState) (target : ℕ) → IsBacktracked target t u → KeepsRoots t.entries u.entries
roots_backtracked t u target b k lt root =
    let stays = place_kept t u target k b lt (omega (arith, root)) in
    let is = entry_kept t u target k b stays in record {
      within = stays;
      lit = ap (λ (x : Assigned). x.lit) is;
      level = ap (λ (x : Assigned). x.level) is ∙ root;
    }

pub roots_rooted : (t : TrailState) (j id : ℕ) → j < length t.entries → KeepsRoots t.entries (with_root t j id).entries
roots_rooted t j id at k lt root =
    let r = rooted_is t j id at in record {
      within = omega (arith, lt, r.count);
      lit = r.lits k;
      level = r.levels k ∙ root;
    }

-- ---- settled entries

pub settled_front : (es fs : List Assigned) (n : ℕ) → IsFront es fs → IsSettled es n → IsSettled fs n
settled_front es fs n front h = record {
  fits = omega (arith, h.fits, front.grown);
  units = λ k lt. subst IsUnit (sym (at_front es fs k front (omega (arith, lt, h.fits)))) (h.units k lt);
}

-- ---- the units of the trail

abbrev pub AreUnits : Recorded → List Assigned → Type 0
AreUnits L es = (k id : ℕ) → k < length es → (assigned_at es k).reason ≡ ByUnit id → IsUnitAt L id (assigned_at es k).lit

pub units_longer : (L M : Recorded) (es : List Assigned) → IsLonger L M → AreUnits L es → AreUnits M es
units_longer L M es longer h k id lt because = unit_longer L M id (assigned_at es k).lit longer (h k id lt because)

unit_moved : (L : Recorded) (x y : Assigned) (id : ℕ) → y ≡ x → (x.reason ≡ ByUnit id → IsUnitAt L id x.lit)
    → y.reason ≡ ByUnit id → IsUnitAt L id y.lit
unit_moved L x y id same h because =
    subst (λ (z : Assigned). IsUnitAt L id z.lit) (sym same) (h (ap (λ (z : Assigned). z.reason) (sym same) ∙ because))

pub units_front : (L : Recorded) (es fs : List Assigned) → IsFront es fs → AreUnits L es
    → ((k id : ℕ) → length es ≤ k → k < length fs → (assigned_at fs k).reason ≡ ByUnit id → IsUnitAt L id (assigned_at fs k).lit)
    → AreUnits L fs
units_front L es fs front h new k id within because =
    ⊎_elim
    (λ (lt : k < length es). unit_moved L (assigned_at es k) (assigned_at fs k) id (at_front es fs k front lt) (h k id lt) because)
    (λ (past : length es ≤ k). new k id past within because)
    (cases_lt k (length es))

pub units_backtracked : (L : Recorded) (t u : TrailState) (target : ℕ) → IsBacktracked target t u → AreUnits L t.entries
    → AreUnits L u.entries
units_backtracked L t u target b h k id within because =
    unit_moved L (assigned_at t.entries k) (assigned_at u.entries k) id (entry_kept t u target k b within)
    (h k id (omega (arith, within, b.fits))) because

pub units_rooted : (L : Recorded) (t : TrailState) (j n : ℕ) → j < length t.entries → AreUnits L t.entries
    → IsUnitAt L n (assigned_at t.entries j).lit → AreUnits L (with_root t j n).entries
units_rooted L t j n at h here k id within because =
    let r = rooted_is t j n at in
    let fs = (with_root t j n).entries in
    ⊎_elim
    (λ (same : k ≡ j).
    let both : ByUnit n ≡ ByUnit id = sym r.here ∙ ap (λ (m : ℕ). (assigned_at fs m).reason) (sym same) ∙ because in
    let ids : n ≡ id = cc in
    subst (λ (m : ℕ). IsUnitAt L m (assigned_at fs k).lit) ids
    (subst (λ (l : Literal). IsUnitAt L n l) (sym (r.lits k ∙ ap (λ (m : ℕ). (assigned_at t.entries m).lit) same)) here))
    (λ (ne : k ≢ j).
    unit_moved L (assigned_at t.entries k) (assigned_at fs k) id (r.others k ne) (h k id (omega (arith, within, r.count))) because)
    (cases_eq k j)

-- ---- live clauses

pub covers_self : (a : Entries) → Covers a a
covers_self a e here live = record {
  entry = e;
  present = here;
  live = live;
  id = refl;
  kind = refl;
  same = record { forth = λ l h. h; back = λ l h. h };
}

pub covers_reordered : (a b : Entries) → IsReordered a b → Covers b a
covers_reordered a b o e here live =
    let p = place_of_entry a e here live in
    let r = p.place in
    let f = o.entries r p.live.present in
    let lits = ap (λ (x : Entry). x.lits) p.is in record {
      entry = entry_at b r;
      present = Contains-get_or b r no_clause (omega (arith, o.count, p.live.present));
      live = f.live ∙ ap (λ (x : Entry). x.live) p.is ∙ live;
      id = f.id ∙ ap (λ (x : Entry). x.id) p.is;
      kind = f.learnt ∙ ap (λ (x : Entry). x.learnt) p.is;
      same = record {
        forth = λ l h. Contains-permutation (entry_at a r).lits (entry_at b r).lits l f.lits
            (subst (λ (c : Literals). Contains c l) (sym lits) h);
        back = λ l h. subst (λ (c : Literals). Contains c l) lits
            (Contains-permutation (entry_at b r).lits (entry_at a r).lits l
            (IsPermutation-sym (entry_at a r).lits (entry_at b r).lits f.lits) h);
      };
    }

pub covers_reordered_back : (a b : Entries) → IsReordered a b → Covers a b
covers_reordered_back a b o = covers_reordered b a (reordered_sym a b o)

pub covers_added : (a : Entries) (e : Entry) → Covers (with_new a e) a
covers_added a e x here live = record {
  entry = x;
  present = Contains-append_left a (e ∷ []) x here;
  live = live;
  id = refl;
  kind = refl;
  same = record { forth = λ l h. h; back = λ l h. h };
}

-- ---- what that keeps

pub stands_moved : (a b : Entries) (es fs : List Assigned) (learnt : Bool) (d : Literals) → Covers b a → KeepsRoots es fs
    → Stands a es learnt d → Stands b fs learnt d
stands_moved a b es fs learnt d covers roots s =
    ⊎_elim
    (λ (p : HasPart a learnt d).
    let h = covers p.entry p.present p.live in
    let part : HasPart b learnt d = record {
      entry = h.entry;
      present = h.present;
      live = h.live;
      kind = h.kind ∙ p.kind;
      part = λ l m. p.part l (h.same.back l m);
    } in inl part)
    (λ (r : HasRootTrue es d).
    let k = roots r.place r.within r.at_root in
    let root : HasRootTrue fs d = record {
      literal = r.literal;
      member = r.member;
      place = r.place;
      within = k.within;
      lit = k.lit ∙ r.lit;
      at_root = k.level;
    } in inr root)
    s

pub inputs_moved : (a b : Entries) (es fs : List Assigned) (F G : Cnf) → Covers b a → KeepsRoots es fs → G ≡ F
    → KeepsInputs a es F.clauses → KeepsInputs b fs G.clauses
inputs_moved a b es fs F G covers roots same h =
    subst (λ (H : Cnf). KeepsInputs b fs H.clauses) (sym same) (λ d member.
    ⊎_elim
    (λ (t : IsTautology d). inl t)
    (λ (s : Stands a es false d).
    inr (stands_moved a b es fs false d covers roots s))
    (h d member))

pub learnt_moved : (a b : Entries) (es fs : List Assigned) (learnt : List Literals) (epoch : ℕ) → Covers b a → KeepsRoots es fs
    → KeepsLearnt a es learnt epoch → KeepsLearnt b fs learnt epoch
learnt_moved a b es fs learnt epoch covers roots h d member = stands_moved a b es fs true d covers roots (h d member)

pub logged_moved : (a b : Entries) (es fs : List Assigned) (L M : Recorded) → Covers a b → AreUnits M fs → IsLonger L M
    → IsLogged a es L → IsLogged b fs M
logged_moved a b es fs L M covers units longer h = record {
  clauses = λ e here live.
      let c = covers e here live in
      let k = h.clauses c.entry c.present c.live in
      let m = clause_more L M c.entry.id c.entry.lits longer k in
      subst (λ (n : ℕ). HasClause (known_after M.formula M.entries) n e.lits) c.id
      (record {
        set = m.set;
        is_known = m.is_known;
        same = record { forth = λ l i. c.same.back l (m.same.forth l i); back = λ l i. m.same.back l (c.same.forth l i) };
      });
  units = units;
}
