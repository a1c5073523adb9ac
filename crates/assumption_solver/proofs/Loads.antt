-- A search while it loads: what each step keeps, and what is solved at the end.
--
-- shown_empty, shown_pair     the empty clause by itself, and by two units
-- loading_noted, loading_pushed, loading_added     the steps
-- taken_moved                 what stood stands
-- stands_pushed, stands_known, stands_added, stands_same     the next clause stands
-- keeps_one_more              one clause more of the formula
-- solving_loaded              with watches built
use Rattle.std.proofs.Common.{◌≡◌, ◌⊎◌, ℕ, ◌+◌, ◌<◌, ◌≤◌, Bool, true, false, cond, List, [], ◌∷◌, ◌++◌, length, get_or, take, Contains}
use Rattle.std.proofs.Common.{refl, sym, ap, ◌∙◌, subst, inl, inr, ⊎_elim, arith}
use Rattle.std.proofs.Common.{Some}
use Rattle.std.proofs.lemmas.List.{length_push, get_or_push, get_or_default, take_more, take_all, drop_all}
use Rattle.std.proofs.lemmas.List.Elements.{Contains-push_cases, Contains-push, Contains-get_or, All-from_get_or, All-contains}
use Rattle.std.proofs.lemmas.Bool.{cases_lt}
use Rattle.cnf_core.specs.Literals.{Literal, Literals, AreWithin, IsWithin, negated}
use Rattle.cnf_core.specs.Epochs.{epoch_start}
use Rattle.cnf_core.specs.Formulas.{Cnf, IsFormula}
use Rattle.cnf_core.proofs.Lists.{Contains-head, Contains-cons_cases, Contains-nil}
use Rattle.clause_arena.specs.Entries.{Entry, Entries, new_entry, with_entry as with_new, no_literal}
use Rattle.trail_core.specs.declared.entry.Assigned.{Assigned}
use Rattle.trail_core.specs.declared.entry.Reason.TheVariants.{Unit as ByUnit}
use Rattle.trail_core.specs.Trails.{no_entry, TrailState, assigned_at, HasLiteral, IsTrail, with_entry}
use Rattle.watch_lists.specs.Lists.{WatchLists, IsAttached}
use Rattle.watch_lists.specs.Watching.{IsReady}
use Rattle.watch_lists.proofs.Fronts.{front_push, at_front, negated_twice}
use Rattle.watch_lists.proofs.Kept.{ready_attached}
use Rattle.lrat_lines.specs.Sets.{IsSameSet}
use Rattle.lrat_lines.specs.Propagation.{Known}
use Rattle.lrat_lines.specs.Tight.{IsTightFrom, IsTight}
use Rattle.lrat_lines.proofs.Tightness.{shows, adds}
use Rattle.conflict_analysis.specs.Members.{HasClause}
use Rattle.conflict_analysis.specs.Reasons.{IsUnit}
use Rattle.conflict_analysis.proofs.Outcomes.{tight_is_proof}
use Rattle.conflict_analysis.proofs.Walking.{level_le}
use Rattle.lrat_log.specs.declared.kind.Kind.TheVariants.{Unit as UnitKind}
use Rattle.lrat_log.specs.Entries.{Recorded, known_after}
use Rattle.lrat_log.specs.Kept.{IsShown}
use Rattle.search_policy.specs.Epochs.{EpochState, IsInEpoch}
use Rattle.assumption_solver.specs.declared.search.Search.{Search}
use Rattle.assumption_solver.specs.Units.{IsUnitAt, HasUnit}
use Rattle.assumption_solver.specs.Logs.{IsEntryAt}
use Rattle.assumption_solver.specs.Steps.Plain.{IsPlain}
use Rattle.assumption_solver.specs.Steps.Noted.{IsNoted}
use Rattle.assumption_solver.specs.Steps.Standing.{HasPart, HasRootTrue, Stands, IsTautology, KeepsInputs, KeepsLearnt, Covers}
use Rattle.assumption_solver.specs.Steps.Loading.{IsEachOnce, IsLoading}
use Rattle.assumption_solver.specs.Steps.States.{Solves}
use Rattle.assumption_solver.proofs.Reasons.{reasoned_of_each, at_unit}
use Rattle.assumption_solver.proofs.Clauses.{plain_added}
use Rattle.assumption_solver.proofs.Tables.{longer_continued, unit_of_entry}
use Rattle.assumption_solver.proofs.Known.{unit_known, is_shown, shown_same, input_known}
use Rattle.assumption_solver.proofs.Moved.{KeepsRoots, roots_same, roots_front, settled_front, units_longer, units_front, covers_self}
use Rattle.assumption_solver.proofs.Moved.{covers_added, stands_moved, logged_moved}

-- ---- hints

-- a clause without literals
pub shown_empty : (L : Recorded) (id : ℕ) (c : Literals) → length c ≡ 0 → HasClause (known_after L.formula L.entries) id c
    → IsShown L.formula L.entries (id ∷ []) []
shown_empty L id [] none k = shown_same L id [] (λ i d lt. absurd (omega (arith, lt))) k
shown_empty L id (l ∷ c) none k = absurd (omega (arith, none))

in_one : (l x : Literal) → Contains (l ∷ []) x → x ≡ l
in_one l x there = ⊎_elim
    (λ (is : l ≡ x). sym is)
    (λ (none : Contains [] x). absurd (Contains-nil x none))
    (Contains-cons_cases l [] x there)

tight_pair : (known : Known) (first second : ℕ) (l : Literal) → known first ≡ Some (l ∷ []) → known second ≡ Some (negated l ∷ [])
    → IsTight known (first ∷ second ∷ []) []
unfolding IsTightFrom
tight_pair known first second l one other =
    let added = adds known [] first (l ∷ []) l one (Contains-head l []) (λ there. Contains-nil (negated l) there)
    (λ x there ne. absurd (ne (in_one l x there))) in
    let last = shows known (l ∷ []) second (negated l ∷ []) other (λ x there.
    subst (Contains (l ∷ [])) (sym (ap negated (in_one (negated l) x there) ∙ negated_twice l)) (Contains-head l [])) in record {
      steps = inr (
        l,
        added,
        record {
          hint = second;
          listed = Contains-head second [];
          set = negated l ∷ [];
          is_known = other;
          member = Contains-head (negated l) [];
        },
        inl (refl, last),
      );
      used = λ x there. absurd (Contains-nil x there);
    }

-- the empty clause
pub shown_pair : (L : Recorded) (first second : ℕ) (l k : Literal) → IsEntryAt L first UnitKind (l ∷ []) → k ≡ negated l
    → IsUnitAt L second k
    → IsShown L.formula L.entries (first ∷ second ∷ []) []
shown_pair L first second l k one is against =
    let known = known_after L.formula L.entries in
    let other : IsUnitAt L second (negated l) = subst (IsUnitAt L second) is against in
    is_shown L (first ∷ second ∷ []) [] (λ i d lt. absurd (omega (arith, lt))) (tight_is_proof known (first ∷ second ∷ []) []
    (tight_pair known first second l (unit_known L first l (unit_of_entry L first UnitKind l refl one))
    (unit_known L second (negated l) other)))

-- ---- steps

pub loading_noted : (s : Search) (L : Recorded) → IsLoading s → IsNoted s.journal L → IsLoading (record s { journal = L })
loading_noted s L h noted =
    let longer = longer_continued s.journal L noted.continued in record {
      vars = h.vars ∙ ap (λ (F : Cnf). F.vars) (sym longer.formula);
      analyser_vars = h.analyser_vars;
      watches_vars = h.watches_vars;
      trail = h.trail;
      root = h.root;
      gone = h.gone;
      units = h.units;
      settles = h.settles;
      long = h.long;
      clean = h.clean;
      logged = logged_moved s.arena s.arena s.trail.entries s.trail.entries s.journal L (covers_self s.arena)
          (units_longer s.journal L s.trail.entries longer h.logged.units) longer h.logged;
      none_learnt = noted.learnt ∙ h.none_learnt;
      epochs = h.epochs;
    }

loading_unit : (s : Search) (l : Literal) (id : ℕ) → IsLoading s → IsTrail (with_entry s.trail l s.trail.level (ByUnit id))
    → IsUnitAt s.journal id l → IsLoading (record s { trail = with_entry s.trail l s.trail.level (ByUnit id) })
loading_unit s l id h trail unit =
    let x : Assigned = record { lit = l; level = s.trail.level; reason = ByUnit id } in
    let es = s.trail.entries in
    let fs = es ++ x ∷ [] in
    let front = front_push es x in
    let new : (k : ℕ) → length es ≤ k → k < length fs → assigned_at fs k ≡ x =
    λ k past within. get_or_push es x no_entry k (omega (arith, past, within, length_push es x)) in record {
      vars = h.vars;
      analyser_vars = h.analyser_vars;
      watches_vars = h.watches_vars;
      trail = trail;
      root = h.root;
      gone = h.gone;
      units = λ k within root.
          ⊎_elim
          (λ (lt : k < length es).
          let is = at_front es fs k front lt in
          subst IsUnit (sym is) (h.units k lt (ap (λ (y : Assigned). y.level) (sym is) ∙ root)))
          (λ (past : length es ≤ k). let one : IsUnit x = record { id = id; reason = refl } in subst IsUnit (sym (new k past within)) one)
          (cases_lt k (length es));
      settles = settled_front es fs s.settled front h.settles;
      long = h.long;
      clean = h.clean;
      logged = record {
        clauses = h.logged.clauses;
        units = units_front s.journal es fs front h.logged.units (λ k other past within because.
            let is = new k past within in
            let both : ByUnit id ≡ ByUnit other = ap (λ (y : Assigned). y.reason) (sym is) ∙ because in
            let ids : id ≡ other = cc in
            subst (λ (y : Assigned). IsUnitAt s.journal other y.lit) (sym is) (subst (λ (n : ℕ). IsUnitAt s.journal n l) ids unit));
      };
      none_learnt = h.none_learnt;
      epochs = h.epochs;
    }

-- after both
pub loading_pushed : (s : Search) (L : Recorded) (t : TrailState) (l : Literal) (id : ℕ) → IsLoading s → IsNoted s.journal L
    → IsEntryAt L id UnitKind (l ∷ []) → t ≡ with_entry s.trail l s.trail.level (ByUnit id) → IsTrail t
    → IsLoading (record s { journal = L; trail = t })
loading_pushed s L t l id h noted unit is trail =
    let u = with_entry s.trail l s.trail.level (ByUnit id) in
    subst (λ (y : TrailState). IsLoading (record s { journal = L; trail = y })) (sym is)
    (loading_unit (record s { journal = L }) l id (loading_noted s L h noted) (subst IsTrail is trail)
    (unit_of_entry L id UnitKind l refl unit))

pub within_first : (s : Search) (l : Literal) → IsLoading s → AreWithin s.journal.formula.vars (l ∷ []) → IsWithin s.trail.vars l
within_first s l h within = subst (λ (n : ℕ). IsWithin n l) (sym h.vars) (within 0 l (omega arith))

loading_with : (s : Search) (id : ℕ) (c : Literals) → IsLoading s → IsPlain c → AreWithin s.journal.formula.vars c
    → HasClause (known_after s.journal.formula s.journal.entries) id c
    → IsLoading (record s { arena = with_new s.arena (new_entry id c false) })
loading_with s id c h plain within known =
    let e = new_entry id c false in
    let both = plain_added s.trail.vars s.arena id c false h.long h.clean plain (subst (λ (n : ℕ). AreWithin n c) (sym h.vars) within) in
    record {
      vars = h.vars;
      analyser_vars = h.analyser_vars;
      watches_vars = h.watches_vars;
      trail = h.trail;
      root = h.root;
      gone = h.gone;
      units = h.units;
      settles = h.settles;
      long = both.0;
      clean = both.1;
      logged = record {
        clauses = λ x there live.
            ⊎_elim
            (λ (old : Contains s.arena x). h.logged.clauses x old live)
            (λ (new : e ≡ x). subst (λ (y : Entry). HasClause (known_after s.journal.formula s.journal.entries) y.id y.lits) new known)
            (Contains-push_cases s.arena e x there);
        units = h.logged.units;
      };
      none_learnt = h.none_learnt;
      epochs = h.epochs;
    }

pub loading_added : (s : Search) (b : Entries) (id : ℕ) (c : Literals) → IsLoading s → b ≡ with_new s.arena (new_entry id c false)
    → 2 ≤ length c → IsEachOnce c → AreWithin s.journal.formula.vars c
    → HasClause (known_after s.journal.formula s.journal.entries) id c → IsLoading (record s { arena = b })
loading_added s b id c h is long once within known =
    subst (λ (d : Entries). IsLoading (record s { arena = d })) (sym is)
    (loading_with s id c h (record { long = long; each_once = once }) within known)

-- ---- what stands

pub taken_moved : (a b : Entries) (es fs : List Assigned) (ds : List Literals) → Covers b a → KeepsRoots es fs → KeepsInputs a es ds
    → KeepsInputs b fs ds
taken_moved a b es fs ds covers roots h d member =
    ⊎_elim
    (λ (t : IsTautology d). inl t)
    (λ (s : Stands a es false d). inr (stands_moved a b es fs false d covers roots s))
    (h d member)

pub taken_pushed : (a : Entries) (t u : TrailState) (l : Literal) (id : ℕ) (ds : List Literals) → u ≡ with_entry t l t.level (ByUnit id)
    → KeepsInputs a t.entries ds → KeepsInputs a u.entries ds
taken_pushed a t u l id ds is h =
    let x : Assigned = record { lit = l; level = t.level; reason = ByUnit id } in
    let fs = t.entries ++ x ∷ [] in
    subst (λ (y : TrailState). KeepsInputs a y.entries ds) (sym is)
    (taken_moved a a t.entries fs ds (covers_self a) (roots_front t.entries fs (front_push t.entries x)) h)

pub taken_added : (a b : Entries) (es : List Assigned) (e : Entry) (ds : List Literals) → b ≡ with_new a e → KeepsInputs a es ds
    → KeepsInputs b es ds
taken_added a b es e ds is h =
    subst (λ (d : Entries). KeepsInputs d es ds) (sym is) (taken_moved a (with_new a e) es es ds (covers_added a e) (roots_same es) h)

pub stands_pushed : (a : Entries) (t u : TrailState) (l : Literal) (id : ℕ) → u ≡ with_entry t l t.level (ByUnit id) → t.level ≡ 0
    → Stands a u.entries false (l ∷ [])
stands_pushed a t u l id is root =
    let x : Assigned = record { lit = l; level = t.level; reason = ByUnit id } in
    let fs = t.entries ++ x ∷ [] in
    let last : assigned_at fs (length t.entries) ≡ x = get_or_push t.entries x no_entry (length t.entries) refl in
    let here : HasRootTrue fs (l ∷ []) = record {
      literal = l;
      member = Contains-head l [];
      place = length t.entries;
      within = omega (arith, length_push t.entries x);
      lit = ap (λ (y : Assigned). y.lit) last;
      at_root = ap (λ (y : Assigned). y.level) last ∙ root;
    } in subst (λ (y : TrailState). Stands a y.entries false (l ∷ [])) (sym is) (inr here)

-- at the root a literal that the log has no unit against is no false one
stands_valued : (s : Search) (l : Literal) (b : Bool) → IsLoading s → HasLiteral s.trail.entries (cond b l (negated l))
    → (HasUnit s.journal (negated l) → ⊥) → Stands s.arena s.trail.entries false (l ∷ [])
stands_valued s l true h is never =
    let root : HasRootTrue s.trail.entries (l ∷ []) = record {
      literal = l;
      member = Contains-head l [];
      place = is.place;
      within = is.within;
      lit = is.lit;
      at_root = omega (arith, level_le s.trail is.place h.trail is.within, h.root);
    } in inr root
stands_valued s l false h is never =
    let unit = h.units is.place is.within (omega (arith, level_le s.trail is.place h.trail is.within, h.root)) in
    absurd (never (record {
      id = unit.id;
      at_id = subst (IsUnitAt s.journal unit.id) is.lit (h.logged.units is.place unit.id is.within unit.reason);
    }))

-- after a unit
pub stands_known : (s : Search) (L : Recorded) (l k : Literal) (b : Bool) → IsLoading s → IsNoted s.journal L → k ≡ negated l
    → (HasUnit L k → ⊥) → HasLiteral s.trail.entries (cond b l (negated l)) → Stands s.arena s.trail.entries false (l ∷ [])
stands_known s L l k b h noted is never found =
    stands_valued (record s { journal = L }) l b (loading_noted s L h noted) found
    (λ unit. never (subst (HasUnit L) (sym is) unit))

pub stands_added : (a b : Entries) (es : List Assigned) (id : ℕ) (c : Literals) → b ≡ with_new a (new_entry id c false)
    → Stands b es false c
stands_added a b es id c is =
    let e = new_entry id c false in
    let part : HasPart (with_new a e) false c = record {
      entry = e;
      present = Contains-push a e;
      live = refl;
      kind = refl;
      part = λ l there. there;
    } in subst (λ (d : Entries). Stands d es false c) (sym is) (inl part)

pub stands_same : (a : Entries) (es : List Assigned) (d p c : Literals) → IsSameSet d p → c ≡ p → Stands a es false c → Stands a es false d
stands_same a es d p c set read s =
    let same : IsSameSet d c = subst (IsSameSet d) (sym read) set in
    ⊎_elim
    (λ (h : HasPart a false c).
    let part : HasPart a false d = record {
      entry = h.entry;
      present = h.present;
      live = h.live;
      kind = h.kind;
      part = λ l there. same.back l (h.part l there);
    } in inl part)
    (λ (r : HasRootTrue es c).
    let root : HasRootTrue es d = record {
      literal = r.literal;
      member = same.back r.literal r.member;
      place = r.place;
      within = r.within;
      lit = r.lit;
      at_root = r.at_root;
    } in inr root)
    s

pub keeps_one_more : (a : Entries) (es : List Assigned) (cs : List Literals) (i : ℕ) (d : Literals) → i < length cs → get_or cs i [] ≡ d
    → KeepsInputs a es (take i cs) → IsTautology d ⊎ Stands a es false d → KeepsInputs a es (take (i + 1) cs)
keeps_one_more a es cs i d lt is h new x there =
    ⊎_elim
    (λ (old : Contains (take i cs) x). h x old)
    (λ (same : get_or cs i [] ≡ x). subst (λ (c : Literals). IsTautology c ⊎ Stands a es false c) (sym is ∙ same) new)
    (Contains-push_cases (take i cs) (get_or cs i []) x (subst (λ (ys : List Literals). Contains ys x) (take_more cs i [] lt) there))

-- ---- the next clause of the formula

-- as it is read into an empty buffer
pub read_clause : (cs : List Literals) (i : ℕ) (x a v d : Literals) → i < length cs → x ≡ get_or cs i x → v ≡ x → a ≡ [] → d ≡ a ++ v
    → get_or cs i [] ≡ d
read_clause cs i x a v d lt read view none is =
    get_or_default cs i [] x lt ∙ sym read ∙ sym view ∙ sym (is ∙ ap (λ (y : Literals). y ++ v) none)

pub known_input : (L : Recorded) (F : Cnf) (i : ℕ) (d p c : Literals) → L.formula ≡ F → i < length F.clauses → get_or F.clauses i [] ≡ d
    → IsSameSet d p → c ≡ p → HasClause (known_after L.formula L.entries) (i + 1) c
known_input L F i d p c formula lt is same read =
    let here : i < length L.formula.clauses = omega (arith, lt, ap (λ (G : Cnf). length G.clauses) formula) in record {
      set = d;
      is_known = input_known L i here ∙ ap Some (ap (λ (G : Cnf). get_or G.clauses i []) formula ∙ is);
      same = subst (IsSameSet d) (sym read) same;
    }

pub within_input : (L : Recorded) (F : Cnf) (i : ℕ) (d p c : Literals) → L.formula ≡ F → IsFormula F → i < length F.clauses
    → get_or F.clauses i [] ≡ d → IsSameSet d p → c ≡ p → AreWithin L.formula.vars c
within_input L F i d p c formula limits lt is same read =
    let all : AreWithin F.vars d = subst (AreWithin F.vars) is (limits.within i [] lt) in
    subst (λ (n : ℕ). AreWithin n c) (ap (λ (G : Cnf). G.vars) (sym formula)) (subst (AreWithin F.vars) (sym read)
    (All-from_get_or (IsWithin F.vars) p no_literal (λ k within.
    All-contains (IsWithin F.vars) d (get_or p k no_literal) all
    (same.back (get_or p k no_literal) (Contains-get_or p k no_literal within)))))

pub all_taken : (a : Entries) (es : List Assigned) (F G : Cnf) (i : ℕ) → G ≡ F → length F.clauses ≤ i → KeepsInputs a es (take i F.clauses)
    → KeepsInputs a es G.clauses
all_taken a es F G i same past h =
    subst (λ (H : Cnf). KeepsInputs a es H.clauses) (sym same)
    (subst (λ (cs : List Literals). KeepsInputs a es cs) (take_all i F.clauses past) h)

-- ---- the end

pub solving_loaded : (s : Search) (w : WatchLists) → IsLoading s → IsAttached s.arena w → w.vars ≡ s.watches.vars
    → KeepsInputs s.arena s.trail.entries s.journal.formula.clauses → Solves (record s { watches = w })
solving_loaded s w h attached vars inputs =
    let t = s.trail in
    let same : (record t { gone = 0 }) ≡ t = ap (λ (n : ℕ). record t { gone = n }) (sym h.gone) in record {
      bears = record {
        searching = record {
          vars = h.analyser_vars;
          ready = subst (IsReady s.arena w) same (ready_attached s.arena w t attached (vars ∙ h.watches_vars) h.trail h.root);
          reasoned = reasoned_of_each s.arena t.entries (λ k within.
              let root : (assigned_at t.entries k).level ≡ 0 = omega (arith, level_le t k h.trail within, h.root) in
              let unit = h.units k within root in
              at_unit s.arena t.entries k unit.id unit.reason root);
          all_long = h.long;
          units = λ above. h.units;
        };
        vars = h.vars;
        settles = h.settles;
        logged = h.logged;
        inputs = inputs;
      };
      learnt = subst (λ (cs : List Literals). KeepsLearnt s.arena t.entries cs s.epochs.epoch) (sym h.none_learnt) (λ d there.
          absurd (Contains-nil d (subst (λ (cs : List Literals). Contains cs d) (drop_all (epoch_start s.epochs.epoch) [] (omega arith))
          there)));
      counted = ap (λ (e : EpochState). e.count) h.epochs ∙ ap length (sym h.none_learnt);
      in_epoch = subst IsInEpoch (sym h.epochs) (record { begun = omega arith; unended = omega arith });
    }
