-- The walk that follows reasons down to decisions.
use Rattle.std.proofs.Common.{◌≡◌, ◌≢◌, ◌⊎◌, ℕ, ◌+◌, ◌-◌, ◌<◌, ◌≤◌, Bool, true, false, List, [], ◌∷◌, ◌++◌, length, get_or, reverse}
use Rattle.std.proofs.Common.{Contains, AllPairs, refl, sym, ap, ◌∙◌, subst, inl, inr, ⊎_elim, arith}
use Rattle.std.proofs.lemmas.Bool.{cases_eq, cases_lt, both_ways}
use Rattle.std.proofs.lemmas.List.Elements.{Contains-push, Contains-push_cases, Contains-append_left, Contains-get_or}
use Rattle.std.proofs.lemmas.List.Quantifiers.{all_pairs_push}
use Rattle.cnf_core.specs.Literals.{Literal, Literals, negated}
use Rattle.cnf_core.proofs.Lists.{Contains-head, Contains-cons_cases, Contains-nil}
use Rattle.clause_arena.specs.Entries.{Entries, entry_at}
use Rattle.trail_core.specs.declared.entry.Assigned.{Assigned}
use Rattle.trail_core.specs.declared.entry.Reason.TheVariants.{Decision, Clause as ByClause, Unit as ByUnit}
use Rattle.trail_core.specs.Trails.{TrailState, assigned_at, IsTrail}
use Rattle.trail_core.specs.TrueAndFalse.{IsFalse}
use Rattle.lrat_lines.specs.Propagation.{Known}
use Rattle.lrat_lines.proofs.Tightness.{same_or_not}
use Rattle.conflict_analysis.specs.Members.{IsMapOf, IsProof}
use Rattle.conflict_analysis.specs.Reasons.{IsReason, IsReasoned, IsRootConflict}
use Rattle.conflict_analysis.specs.Steps.Walks.{WalkView, is_seen, IsStarted, IsLastSeen, HasVar}
use Rattle.conflict_analysis.specs.Steps.Resolvents.{Derives, IsLeft}
use Rattle.conflict_analysis.specs.Steps.Tracing.{IsMarked, IsCounted, IsLowDecision, IsTraced, CanVisit, IsVisited}
use Rattle.conflict_analysis.proofs.Literals.{negated-negated, negation_back, var_of_false, place_of_false}
use Rattle.conflict_analysis.proofs.Deriving.{derives_clause, derives_same, derives_more, tight_of_derives}
use Rattle.conflict_analysis.proofs.Marking.{counted_before, reason_counted, none_left}
use Rattle.conflict_analysis.proofs.Walking.{left_of_clause, has_reason, first_hint}
use Rattle.conflict_analysis.proofs.Outcomes.{tight_is_proof}

-- what is left before the end, or gathered
abbrev pub left_or_gathered : List Assigned → ℕ → WalkView → Literal → Type 0
left_or_gathered es end w x = Contains w.lits x ⊎ IsLeft es end (is_seen w) x

left_cases : (es : List Assigned) (place : ℕ) (seen : ℕ → Bool) (x : Literal) → IsLeft es (place + 1) seen x
    → (x ≡ negated (assigned_at es place).lit) ⊎ IsLeft es place seen x
left_cases es place seen x left = ⊎_elim
    (λ (same : left.place ≡ place).
    inl (negation_back (assigned_at es place).lit x (ap (λ (k : ℕ). (assigned_at es k).lit) (sym same) ∙ left.lit)))
    (λ (other : left.place ≢ place). inr (record {
      place = left.place;
      before = omega (arith, left.before, other);
      lit = left.lit;
      met = left.met;
    }))
    (cases_eq left.place place)

left_more : (es : List Assigned) (place : ℕ) (seen : ℕ → Bool) (x : Literal) → IsLeft es place seen x → IsLeft es (place + 1) seen x
left_more es place seen x left = record { place = left.place; before = omega (arith, left.before); lit = left.lit; met = left.met }

left_here : (es : List Assigned) (place : ℕ) (seen : ℕ → Bool) → seen (assigned_at es place).lit.var ≡ true
    → IsLeft es (place + 1) seen (negated (assigned_at es place).lit)
left_here es place seen met = record {
  place = place;
  before = omega arith;
  lit = sym (negated-negated (assigned_at es place).lit);
  met = met;
}

-- entries whose variables were not met are passed
pub traced_past : (a : Entries) (es : List Assigned) (top bound : ℕ) (own : Literals) (m end : ℕ) (w : WalkView) → m ≤ end
    → ((k : ℕ) → m ≤ k → k < end → is_seen w (assigned_at es k).lit.var ≡ false) → IsTraced a es top bound own end w
    → IsTraced a es top bound own m w
traced_past a es top bound own m end w le unmet h = record {
  within = omega (arith, le, h.within);
  low = h.low;
  drawn = h.drawn;
  all_own = h.all_own;
  past = λ x k there lt. h.past x k there (omega (arith, lt, le));
  once = h.once;
  derives = λ known map. derives_same known es top (left_or_gathered es end w) (left_or_gathered es m w) (reverse w.hints)
      (λ x d. ⊎_elim
      (λ (gathered : Contains w.lits x). inl gathered)
      (λ (left : IsLeft es end (is_seen w) x). ⊎_elim
      (λ (before : left.place < m). inr (record { place = left.place; before = before; lit = left.lit; met = left.met }))
      (λ (from : m ≤ left.place). absurd (both_ways (is_seen w (assigned_at es left.place).lit.var)
      (unmet left.place from left.before) left.met))
      (cases_lt left.place m))
      d)
      (λ x d. ⊎_elim
      (λ (gathered : Contains w.lits x). inl gathered)
      (λ (left : IsLeft es m (is_seen w) x).
      inr (record { place = left.place; before = omega (arith, left.before, le); lit = left.lit; met = left.met }))
      d)
      (h.derives known map);
}

-- the count doesn't matter
traced_counted : (a : Entries) (es : List Assigned) (top bound : ℕ) (own : Literals) (end n : ℕ) (w : WalkView)
    → IsTraced a es top bound own end w → IsTraced a es top bound own end (record w { count = n })
traced_counted a es top bound own end n w h = record {
  within = h.within;
  low = h.low;
  drawn = h.drawn;
  all_own = h.all_own;
  past = h.past;
  once = h.once;
  derives = λ known map. derives_same known es top (left_or_gathered es end w) (left_or_gathered es end (record w { count = n }))
      (reverse w.hints)
      (λ x d. ⊎_elim
      (λ (gathered : Contains w.lits x). inl gathered)
      (λ (left : IsLeft es end (is_seen w) x).
      inr (record { place = left.place; before = left.before; lit = left.lit; met = left.met }))
      d)
      (λ x d. ⊎_elim
      (λ (gathered : Contains w.lits x). inl gathered)
      (λ (left : IsLeft es end (is_seen w) x).
      inr (record { place = left.place; before = left.before; lit = left.lit; met = left.met }))
      d)
      (h.derives known map);
}

-- a walk whose count is one less visits an entry as the walk does
visited_counted : (a : Entries) (es : List Assigned) (place : ℕ) (w mid new : WalkView) → mid ≡ record w { count = w.count - 1 }
    → IsVisited a es place mid new → IsVisited a es place w new
visited_counted a es place w mid new made h top bound own short traced =
    h top bound own short
    (subst (λ (v : WalkView). IsTraced a es top bound own (place + 1) v) (sym made)
    (traced_counted a es top bound own (place + 1) (w.count - 1) w traced))

-- a decision's negation is gathered
visited_decision : (a : Entries) (t : TrailState) (place : ℕ) (w : WalkView) → IsTrail t → place < length t.entries
    → is_seen w (assigned_at t.entries place).lit.var ≡ true → (assigned_at t.entries place).reason ≡ Decision
    → IsVisited a t.entries place w (record w { lits = w.lits ++ negated (assigned_at t.entries place).lit ∷ [] })
visited_decision a t place w trail fits met because top bound own short h =
    let es = t.entries in
    let x0 = negated (assigned_at es place).lit in
    let new = record w { lits = w.lits ++ x0 ∷ [] } in
    record {
      within = omega (arith, h.within);
      low = h.low;
      drawn = λ x there. ⊎_elim
          (λ (old : Contains w.lits x). h.drawn x old)
          (λ (is : x0 ≡ x). inr (record {
            place = place;
            within = fits;
            reason = because;
            lit = sym is;
            low = h.low place fits met;
          }))
          (Contains-push_cases w.lits x0 x there);
      all_own = λ x there. Contains-append_left w.lits (x0 ∷ []) x (h.all_own x there);
      past = λ x k there lt. ⊎_elim
          (λ (old : Contains w.lits x). h.past x k old (omega (arith, lt)))
          (λ (is : x0 ≡ x). λ same. omega (
            arith,
            lt,
            trail.distinct k place (omega (arith, lt, fits)) fits
                (same ∙ ap (λ (l : Literal). l.var) (sym is)),
          ))
          (Contains-push_cases w.lits x0 x there);
      once = all_pairs_push (λ (k l : Literal). k.var ≢ l.var) w.lits x0 h.once (λ i d lt same.
          h.past (get_or w.lits i d) place (Contains-get_or w.lits i d lt) (omega arith) (sym same));
      derives = λ known map. derives_same known es top (left_or_gathered es (place + 1) w) (left_or_gathered es place new) (reverse w.hints)
          (λ x d. ⊎_elim
          (λ (gathered : Contains w.lits x). inl (Contains-append_left w.lits (x0 ∷ []) x gathered))
          (λ (left : IsLeft es (place + 1) (is_seen w) x). ⊎_elim
          (λ (is : x ≡ x0). inl (subst (λ (l : Literal). Contains (w.lits ++ x0 ∷ []) l) (sym is) (Contains-push w.lits x0)))
          (λ (before : IsLeft es place (is_seen w) x). inr before)
          (left_cases es place (is_seen w) x left))
          d)
          (λ x d. ⊎_elim
          (λ (gathered : Contains (w.lits ++ x0 ∷ []) x). ⊎_elim
          (λ (old : Contains w.lits x). inl old)
          (λ (is : x0 ≡ x). inr (subst (λ (l : Literal). IsLeft es (place + 1) (is_seen w) l) is (left_here es place (is_seen w) met)))
          (Contains-push_cases w.lits x0 x gathered))
          (λ (left : IsLeft es place (is_seen w) x). inr (left_more es place (is_seen w) x left))
          d)
          (h.derives known map);
    }

-- a unit is resolved on
visited_unit : (a : Entries) (t : TrailState) (place id : ℕ) (w : WalkView) → IsTrail t → IsReasoned a t.entries → place < length t.entries
    → is_seen w (assigned_at t.entries place).lit.var ≡ true → (assigned_at t.entries place).reason ≡ ByUnit id
    → IsVisited a t.entries place w (record w { hints = w.hints ++ id ∷ [] })
visited_unit a t place id w trail reasons fits met because top bound own short h =
    let es = t.entries in
    let l = (assigned_at es place).lit in
    record {
      within = omega (arith, h.within);
      low = h.low;
      drawn = h.drawn;
      all_own = h.all_own;
      past = λ x k there lt. h.past x k there (omega (arith, lt));
      once = h.once;
      derives = λ known map.
          subst (λ (hs : List ℕ). Derives known es top (left_or_gathered es place w) hs)
          (sym (first_hint w.hints (w.hints ++ id ∷ []) id refl))
          (derives_more known t top place id (l ∷ []) l (left_or_gathered es (place + 1) w) (left_or_gathered es place w)
          (reverse w.hints) trail short (omega (arith, h.within)) refl
          (map id (l ∷ []) (inr (record {
            place = place;
            within = fits;
            at_root = reasons.units place id fits because;
            reason = because;
            has_lits = refl;
          })))
          (Contains-head l []) (inr (left_here es place (is_seen w) met))
          (λ x d other. ⊎_elim
          (λ (gathered : Contains w.lits x). inl gathered)
          (λ (left : IsLeft es (place + 1) (is_seen w) x). ⊎_elim
          (λ (is : x ≡ negated l). absurd (other is))
          (λ (before : IsLeft es place (is_seen w) x). inr before)
          (left_cases es place (is_seen w) x left))
          d)
          (λ x there other. ⊎_elim
          (λ (is : l ≡ x). absurd (other (sym is)))
          (λ (none : Contains [] x). absurd (Contains-nil x none))
          (Contains-cons_cases l [] x there))
          (λ x e. inl (⊎_elim
          (λ (gathered : Contains w.lits x). inl gathered)
          (λ (left : IsLeft es place (is_seen w) x). inr (left_more es place (is_seen w) x left))
          e))
          (h.derives known map));
    }

-- the others of a reason are left before the entry
pub reason_left : (a : Entries) (t : TrailState) (place r : ℕ) (old new : WalkView) (x : Literal) → IsReason a t.entries place r
    → IsMarked a t r old new → Contains (entry_at a r).lits x → x ≢ (assigned_at t.entries place).lit
    → IsLeft t.entries place (is_seen new) x
reason_left a t place r old new x why marks there other =
    (let f = why.others x there other in record {
      place = f.place;
      before = f.before;
      lit = f.lit;
      met = ap (is_seen new) (var_of_false _ x f.lit) ∙ marks.grown.marked x there;
    })

-- and what is met newly before it is one of them
pub new_of_reason : (a : Entries) (t : TrailState) (place r : ℕ) (x : Literal) → IsTrail t → place < length t.entries
    → IsReason a t.entries place r → (k : ℕ) → k < place → (assigned_at t.entries k).lit ≡ negated x
    → HasVar (entry_at a r).lits (assigned_at t.entries k).lit.var → Contains (entry_at a r).lits x
new_of_reason a t place r x trail fits why k before lit new_one =
    let l = (assigned_at t.entries place).lit in
    left_of_clause t (entry_at a r).lits k x trail (omega (arith, before)) lit new_one
    (λ y there same_var. ⊎_elim
    (λ (own : y ≡ l). absurd (omega (
      arith,
      before,
      trail.distinct k place (omega (arith, before)) fits
          (sym same_var ∙ ap (λ (m : Literal). m.var) own),
    )))
    (λ (other : y ≢ l). (let f = why.others y there other in
    record { place = f.place; within = omega (arith, f.before); lit = f.lit }))
    (same_or_not y l))

-- a variable that is met by a reason is that of its entry, or of one before
low_of_reason : (a : Entries) (t : TrailState) (place r k : ℕ) → IsTrail t → place < length t.entries → k < length t.entries
    → IsReason a t.entries place r → HasVar (entry_at a r).lits (assigned_at t.entries k).lit.var → k ≤ place
low_of_reason a t place r k trail fits lt why new_one =
    ⊎_elim
    (λ (own : new_one.literal ≡ (assigned_at t.entries place).lit).
    omega (arith, trail.distinct k place lt fits (sym new_one.var ∙ ap (λ (m : Literal). m.var) own)))
    (λ (other : new_one.literal ≢ (assigned_at t.entries place).lit).
    (let f = why.others new_one.literal new_one.member other in
    omega (arith, f.before, place_of_false t k f.place new_one.literal trail lt (omega (arith, f.before)) (sym new_one.var) f.lit)))
    (same_or_not new_one.literal (assigned_at t.entries place).lit)

visited_clause : (a : Entries) (t : TrailState) (place r : ℕ) (w new : WalkView) → IsTrail t → IsReasoned a t.entries
    → place < length t.entries → is_seen w (assigned_at t.entries place).lit.var ≡ true
    → (assigned_at t.entries place).reason ≡ ByClause r → IsMarked a t r w new → IsVisited a t.entries place w new
visited_clause a t place r w new trail reasons fits met because marks top bound own short h =
    let es = t.entries in
    let l = (assigned_at es place).lit in
    let why = reasons.clauses place r fits because in
    let same_lits = marks.lits in
    record {
      within = omega (arith, h.within);
      low = λ k lt now. ⊎_elim
          (λ (was : is_seen w (assigned_at es k).lit.var ≡ true). h.low k lt was)
          (λ (new_one : HasVar (entry_at a r).lits (assigned_at es k).lit.var).
          (let rises = trail.leveled.rises k place (low_of_reason a t place r k trail fits lt why new_one) fits in
          omega (arith, rises, h.low place fits met)))
          (marks.grown.only (assigned_at es k).lit.var now);
      drawn = λ x there. h.drawn x (subst (λ (d : Literals). Contains d x) same_lits there);
      all_own = λ x there. subst (λ (d : Literals). Contains d x) (sym same_lits) (h.all_own x there);
      past = λ x k there lt. h.past x k (subst (λ (d : Literals). Contains d x) same_lits there) (omega (arith, lt));
      once = subst (λ (d : Literals). AllPairs (λ (k l : Literal). k.var ≢ l.var) d) (sym same_lits) h.once;
      derives = λ known map.
          subst (λ (hs : List ℕ). Derives known es top (left_or_gathered es place new) hs)
          (sym (first_hint w.hints new.hints (entry_at a r).id marks.hints))
          (derives_more known t top place (entry_at a r).id (entry_at a r).lits l (left_or_gathered es (place + 1) w)
          (left_or_gathered es place new) (reverse w.hints) trail short (omega (arith, h.within)) refl
          (has_reason a t r known map why.live) why.member (inr (left_here es place (is_seen w) met))
          (λ x d other. ⊎_elim
          (λ (gathered : Contains w.lits x). inl (subst (λ (d : Literals). Contains d x) (sym same_lits) gathered))
          (λ (left : IsLeft es (place + 1) (is_seen w) x). ⊎_elim
          (λ (is : x ≡ negated l). absurd (other is))
          (λ (before : IsLeft es place (is_seen w) x). inr (record {
            place = before.place;
            before = before.before;
            lit = before.lit;
            met = marks.grown.kept (assigned_at es before.place).lit.var before.met;
          }))
          (left_cases es place (is_seen w) x left))
          d)
          (λ x there other. inr (reason_left a t place r w new x why marks there other))
          (λ x e. ⊎_elim
          (λ (gathered : Contains new.lits x). inl (inl (subst (λ (d : Literals). Contains d x) same_lits gathered)))
          (λ (left : IsLeft es place (is_seen new) x). ⊎_elim
          (λ (was : is_seen w (assigned_at es left.place).lit.var ≡ true).
          inl (inr (record { place = left.place; before = omega (arith, left.before); lit = left.lit; met = was })))
          (λ (new_one : HasVar (entry_at a r).lits (assigned_at es left.place).lit.var).
          inr (new_of_reason a t place r x trail fits why left.place left.before left.lit new_one))
          (marks.grown.only (assigned_at es left.place).lit.var left.met))
          e)
          (h.derives known map));
    }

no_own : (c : Literals) (x : Literal) → c ≡ [] → Contains c x → ⊥
no_own c x none there = Contains-nil x (subst (λ (d : Literals). Contains d x) none there)

-- the trace of a root conflict begins with its clause
pub traced_conflict : (a : Entries) (t : TrailState) (r : ℕ) (start w : WalkView) → IsTrail t → IsStarted start
    → IsRootConflict a t.entries r → IsMarked a t r start w
    → IsTraced a t.entries (length t.entries) 0 [] (length t.entries) w
traced_conflict a t r start w trail started h marks =
    let es = t.entries in
    let all = length t.entries in
    let as_false : (y : Literal) → Contains (entry_at a r).lits y → IsFalse es y =
    λ y there. (let f = h.all_false y there in record { place = f.place; within = f.within; lit = f.lit }) in
    let new_one : (k : ℕ) → is_seen w (assigned_at es k).lit.var ≡ true → HasVar (entry_at a r).lits (assigned_at es k).lit.var =
    λ k met. ⊎_elim
    (λ (was : is_seen start (assigned_at es k).lit.var ≡ true).
    absurd (both_ways (is_seen start (assigned_at es k).lit.var) (started.unseen (assigned_at es k).lit.var) was))
    (λ (one : HasVar (entry_at a r).lits (assigned_at es k).lit.var). one)
    (marks.grown.only (assigned_at es k).lit.var met) in
    record {
      within = omega arith;
      low = λ k lt met. (let one = new_one k met in
          let f = h.all_false one.literal one.member in
          let same : k ≡ f.place = place_of_false t k f.place one.literal trail lt f.within (sym one.var) f.lit in
          omega (arith, f.of_level, ap (λ (i : ℕ). (assigned_at es i).level) same));
      drawn = λ x there. absurd (no_own w.lits x (marks.lits ∙ started.no_lits) there);
      all_own = λ x there. absurd (Contains-nil x there);
      past = λ x k there lt. absurd (no_own w.lits x (marks.lits ∙ started.no_lits) there);
      once = subst (λ (d : Literals). AllPairs (λ (k l : Literal). k.var ≢ l.var) d) (sym (marks.lits ∙ started.no_lits))
          (λ i j d lt fits. absurd (omega arith));
      derives = λ known map.
          subst (λ (hs : List ℕ). Derives known es all (left_or_gathered es all w) hs)
          (sym (first_hint start.hints w.hints (entry_at a r).id marks.hints
          ∙ ap (λ (hs : List ℕ). (entry_at a r).id ∷ reverse hs) started.no_hints))
          (derives_same known es all (Contains (entry_at a r).lits) (left_or_gathered es all w) ((entry_at a r).id ∷ [])
          (λ x there. (let f = h.all_false x there in inr (record {
            place = f.place;
            before = f.within;
            lit = f.lit;
            met = ap (is_seen w) (var_of_false _ x f.lit) ∙ marks.grown.marked x there;
          })))
          (λ x d. ⊎_elim
          (λ (gathered : Contains w.lits x). absurd (no_own w.lits x (marks.lits ∙ started.no_lits) gathered))
          (λ (left : IsLeft es all (is_seen w) x).
          left_of_clause t (entry_at a r).lits left.place x trail left.before left.lit (new_one left.place left.met)
          (λ y there _. as_false y there))
          d)
          (derives_clause known es all (entry_at a r).id (entry_at a r).lits (has_reason a t r known map h.live)));
    }

-- at its end only what was gathered is left
pub traced_to_first : (a : Entries) (es : List Assigned) (top bound : ℕ) (own : Literals) (w : WalkView) (known : Known)
    → IsTraced a es top bound own 0 w → IsMapOf a es known → Derives known es top (Contains w.lits) (reverse w.hints)
traced_to_first a es top bound own w known h map =
    derives_same known es top (left_or_gathered es 0 w) (Contains w.lits) (reverse w.hints)
    (λ x d. ⊎_elim
    (λ (gathered : Contains w.lits x). gathered)
    (λ (left : IsLeft es 0 (is_seen w) x). absurd (omega (arith, left.before)))
    d)
    (λ x gathered. inl gathered)
    (h.derives known map)

-- and at the root that is nothing
pub refuted : (a : Entries) (t : TrailState) (w : WalkView) (known : Known) → IsReasoned a t.entries
    → IsTraced a t.entries (length t.entries) 0 [] 0 w → IsMapOf a t.entries known → IsProof known (reverse w.hints) []
refuted a t w known reasons h map =
    let none : (x : Literal) → Contains w.lits x → ⊥ =
    λ x there. ⊎_elim
    (λ (own : Contains [] x). Contains-nil x own)
    (λ (d : IsLowDecision t.entries 0 x). omega (arith, d.low, reasons.decisions d.place d.within d.reason))
    (h.drawn x there) in
    tight_is_proof known (reverse w.hints) []
    (tight_of_derives known t.entries (length t.entries) [] (reverse w.hints)
    (λ x q there lt is. Contains-nil x there)
    (derives_same known t.entries (length t.entries) (Contains w.lits) (Contains []) (reverse w.hints)
    (λ x there. absurd (none x there))
    (λ x there. absurd (Contains-nil x there))
    (traced_to_first a t.entries (length t.entries) 0 [] w known h map)))

pub visited_as_decision : (a : Entries) (t : TrailState) (place : ℕ) (w mid new : WalkView) (l : Literal) → CanVisit a t w place
    → mid ≡ record w { count = w.count - 1 } → (assigned_at t.entries place).reason ≡ Decision
    → l ≡ negated (assigned_at t.entries place).lit → new ≡ record mid { lits = mid.lits ++ l ∷ [] }
    → IsVisited a t.entries place w new × IsCounted t.entries place new
visited_as_decision a t place w mid new l can made because is new_is =
    let met : is_seen mid (assigned_at t.entries place).lit.var ≡ true =
    ap (λ (v : WalkView). is_seen v (assigned_at t.entries place).lit.var) made ∙ can.met in
    let counted = counted_before t.entries place w mid can.counted can.met made in
    let whole = new_is ∙ ap (λ (m : Literal). record mid { lits = mid.lits ++ m ∷ [] }) is in (
      visited_counted a t.entries place w mid new made
          (subst (λ (v : WalkView). IsVisited a t.entries place mid v) (sym whole)
          (visited_decision a t place mid can.can_trace.trail can.within met because)),
      subst (λ (v : WalkView). IsCounted t.entries place v) (sym new_is) counted,
    )

pub visited_as_unit : (a : Entries) (t : TrailState) (place id : ℕ) (w mid new : WalkView) → CanVisit a t w place
    → mid ≡ record w { count = w.count - 1 } → (assigned_at t.entries place).reason ≡ ByUnit id
    → new ≡ record mid { hints = mid.hints ++ id ∷ [] } → IsVisited a t.entries place w new × IsCounted t.entries place new
visited_as_unit a t place id w mid new can made because new_is =
    let met : is_seen mid (assigned_at t.entries place).lit.var ≡ true =
    ap (λ (v : WalkView). is_seen v (assigned_at t.entries place).lit.var) made ∙ can.met in
    let counted = counted_before t.entries place w mid can.counted can.met made in (
      visited_counted a t.entries place w mid new made
          (subst (λ (v : WalkView). IsVisited a t.entries place mid v) (sym new_is)
          (visited_unit a t place id mid can.can_trace.trail can.can_trace.reasons can.within met because)),
      subst (λ (v : WalkView). IsCounted t.entries place v) (sym new_is) counted,
    )

pub visited_as_clause : (a : Entries) (t : TrailState) (place r : ℕ) (w mid new : WalkView) → CanVisit a t w place
    → mid ≡ record w { count = w.count - 1 } → (assigned_at t.entries place).reason ≡ ByClause r
    → IsMarked a t r mid new → IsVisited a t.entries place w new × IsCounted t.entries place new
visited_as_clause a t place r w mid new can made because marks =
    let met : is_seen mid (assigned_at t.entries place).lit.var ≡ true =
    ap (λ (v : WalkView). is_seen v (assigned_at t.entries place).lit.var) made ∙ can.met in (
      visited_counted a t.entries place w mid new made
          (visited_clause a t place r mid new can.can_trace.trail can.can_trace.reasons can.within met because marks),
      reason_counted a t w mid new place r can made because marks,
    )

-- ---- the walk

-- one entry more is visited
pub traced_on : (a : Entries) (t : TrailState) (top bound : ℕ) (own : Literals) (end place : ℕ) (w new : WalkView)
    → top ≤ length t.entries → IsLastSeen t.entries (is_seen w) end place → IsVisited a t.entries place w new
    → IsTraced a t.entries top bound own end w → IsTraced a t.entries top bound own place new
traced_on a t top bound own end place w new short last visited h =
    visited top bound own short
    (traced_past a t.entries top bound own (place + 1) end w (omega (arith, last.before))
    (λ k from lt. last.none_after k (omega (arith, from)) lt) h)

-- none is left
pub traced_to_end : (a : Entries) (es : List Assigned) (top bound : ℕ) (own : Literals) (end : ℕ) (w : WalkView)
    → IsCounted es end w → w.count ≡ 0 → IsTraced a es top bound own end w → IsTraced a es top bound own 0 w
traced_to_end a es top bound own end w counted none h =
    traced_past a es top bound own 0 end w (omega arith) (λ k from lt. none_left es end k w counted none lt) h
