-- The variables of a clause are marked, and those that were not met before are counted.
--
-- marking_met, marking_past   one literal more, whose variable is new or was met
-- may_mark_...                where a clause may be marked: a reason, that of a core's literal, a conflict at the root
use Rattle.std.proofs.Common.{◌≡◌, ◌≢◌, ℕ, ◌+◌, ◌-◌, ◌^◌, ◌<◌, ◌≤◌, Bool, true, false, List, [], ◌∷◌, ◌++◌, length, get_or, set, take}
use Rattle.std.proofs.Common.{Contains, refl, sym, ap, ◌∙◌, subst, inl, inr, ⊎_elim, arith}
use Rattle.std.proofs.lemmas.Bool.{both_ways, cases_Bool}
use Rattle.std.proofs.lemmas.List.{length-set}
use Rattle.cnf_core.specs.Literals.{Literal, Literals, negated}
use Rattle.clause_arena.specs.Entries.{Entries, entry_at}
use Rattle.trail_core.specs.declared.entry.Assigned.{Assigned}
use Rattle.trail_core.specs.declared.entry.Reason.TheVariants.{Clause as ByClause}
use Rattle.trail_core.specs.Trails.{TrailState, assigned_at, IsTrail}
use Rattle.trail_core.specs.TrueAndFalse.{IsFalseBefore}
use Rattle.lrat_lines.proofs.Tightness.{same_or_not}
use Rattle.conflict_analysis.specs.Reasons.{IsReason, IsRootConflict}
use Rattle.conflict_analysis.specs.Steps.Walks.{WalkView, is_seen, IsStarted, HasSeen, IsLastSeen, IsGrown, AreTakeable, count_below}
use Rattle.conflict_analysis.specs.Steps.Tracing.{is_met, IsCounted, CanMark, IsMarked, CanTrace, CanVisit, IsCoreBegun}
use Rattle.conflict_analysis.proofs.Counts.{count_open, count_le, count_more, count_down, count_some, count_none, count_nothing}
use Rattle.conflict_analysis.proofs.Growing.{mark_grown, grown_nothing, grown_more, grown_past, grown_all, element_is_member}
use Rattle.conflict_analysis.proofs.Literals.{var_of_false}
use Rattle.conflict_analysis.proofs.Sorting.{IsTaking, met_there, unmet_there, elsewhere}
use Rattle.conflict_analysis.proofs.Walking.{var_low}

-- the walk with one variable met
abbrev pub met_one : WalkView → ℕ → WalkView
met_one w v = record w { stamps = set w.stamps v w.stamp; count = w.count + 1 }

taking_met : (t : TrailState) (w : WalkView) (x : Literal) (end : ℕ) → IsTrail t → end ≤ length t.entries → x.var < length w.stamps
    → is_seen w x.var ≡ false → (f : IsFalseBefore t.entries end x) → IsTaking t x (is_seen w) (is_seen (met_one w x.var)) f.place
taking_met t w x end trail fits low unseen f = record {
  trail = trail;
  within = omega (arith, f.before, fits);
  lit = f.lit;
  unseen = unseen;
  grown = mark_grown w.stamps w.stamp x low;
}

counted_met : (t : TrailState) (w : WalkView) (x : Literal) (end : ℕ) → IsTrail t → end ≤ length t.entries → x.var < length w.stamps
    → is_seen w x.var ≡ false → IsFalseBefore t.entries end x → IsCounted t.entries end w → IsCounted t.entries end (met_one w x.var)
counted_met t w x end trail fits low unseen f counted =
    let new = met_one w x.var in
    let h = taking_met t w x end trail fits low unseen f in
    ap (λ (n : ℕ). n + 1) counted
    ∙ sym (count_more (is_met t.entries (is_seen w)) (is_met t.entries (is_seen new)) end f.place f.before
    (unmet_there t x (is_seen w) (is_seen new) f.place h)
    (met_there t x (is_seen w) (is_seen new) f.place h)
    (λ k lt other. elsewhere t x (is_seen w) (is_seen new) f.place k h (omega (arith, lt, fits)) other))

-- the variables of the first literals of a clause are marked
pub record IsMarking (t : TrailState) (c : Literals) (i : ℕ) (old now : WalkView) : Type 0 where
  pub size : length now.stamps ≡ length old.stamps
  pub hints : now.hints ≡ old.hints
  pub lits : now.lits ≡ old.lits
  pub grown : IsGrown (take i c) (is_seen old) (is_seen now)
  pub counted : (end : ℕ) → end ≤ length t.entries → IsCounted t.entries end old → AreTakeable t.entries end (is_seen old) c
      → IsCounted t.entries end now

pub marking_none : (t : TrailState) (c : Literals) (w : WalkView) → IsMarking t c 0 w w
marking_none t c w = record {
  size = refl;
  hints = refl;
  lits = refl;
  grown = grown_nothing (is_seen w);
  counted = λ end fits counted takeable. counted;
}

-- what is not met yet is false before the end
unmet_before : (t : TrailState) (c : Literals) (i end : ℕ) (old now : WalkView) (x : Literal) → IsMarking t c i old now
    → AreTakeable t.entries end (is_seen old) c → Contains c x → is_seen now x.var ≡ false → IsFalseBefore t.entries end x
unmet_before t c i end old now x h takeable there unseen = ⊎_elim
    (λ (was : is_seen old x.var ≡ true). absurd (both_ways (is_seen now x.var) unseen (h.grown.kept x.var was)))
    (λ (f : IsFalseBefore t.entries end x). f)
    (takeable x there)

pub marking_met : (t : TrailState) (c : Literals) (i : ℕ) (old now new : WalkView) (x : Literal) (v : ℕ) → IsTrail t
    → IsMarking t c i old now → i < length c → x ≡ get_or c i x → v ≡ x.var → v < length now.stamps → is_seen now x.var ≡ false
    → new ≡ met_one now v → IsMarking t c (i + 1) old new
marking_met t c i old now new x v trail h lt is var fits unseen made =
    let low : x.var < length now.stamps = omega (arith, fits, var) in
    subst (λ (w : WalkView). IsMarking t c (i + 1) old w) (sym (made ∙ ap (met_one now) var)) (record {
      size = length-set now.stamps x.var now.stamp ∙ h.size;
      hints = h.hints;
      lits = h.lits;
      grown = grown_more c i x (is_seen old) (is_seen now) (is_seen (met_one now x.var)) lt is h.grown
          (mark_grown now.stamps now.stamp x low);
      counted = λ end inside counted takeable.
          counted_met t now x end trail inside low unseen
          (unmet_before t c i end old now x h takeable (element_is_member c i x lt is) unseen)
          (h.counted end inside counted takeable);
    })

pub marking_past : (t : TrailState) (c : Literals) (i : ℕ) (old now : WalkView) (x : Literal) → IsMarking t c i old now
    → i < length c → x ≡ get_or c i x → is_seen now x.var ≡ true → IsMarking t c (i + 1) old now
marking_past t c i old now x h lt is seen = record {
  size = h.size;
  hints = h.hints;
  lits = h.lits;
  grown = grown_past c i x (is_seen old) (is_seen now) lt is h.grown seen;
  counted = h.counted;
}

pub all_marked : (a : Entries) (t : TrailState) (r i id : ℕ) (old now new : WalkView) → IsMarking t (entry_at a r).lits i old now
    → length (entry_at a r).lits ≤ i → id ≡ (entry_at a r).id → new ≡ record now { hints = now.hints ++ id ∷ [] }
    → IsMarked a t r old new
all_marked a t r i id old now new h past id_is new_is =
    subst (λ (w : WalkView). IsMarked a t r old w)
    (sym (new_is ∙ ap (λ (n : ℕ). record now { hints = now.hints ++ n ∷ [] }) id_is)) (record {
      hints = ap (λ (hs : List ℕ). hs ++ (entry_at a r).id ∷ []) h.hints;
      lits = h.lits;
      grown = grown_all (entry_at a r).lits i (is_seen old) (is_seen now) past h.grown;
      counted = λ end fits counted takeable. h.counted end fits counted takeable;
    })

-- the count has room for one more
pub room_to_meet : (a : Entries) (t : TrailState) (r i : ℕ) (old now : WalkView) → CanMark a t old r
    → IsMarking t (entry_at a r).lits i old now → now.count + 1 < 2 ^ 32
room_to_meet a t r i old now can h =
    let most = count_le (is_met t.entries (is_seen now)) can.end in
    omega (arith, h.counted can.end can.within can.counted can.takeable, most, can.within, can.trail.few, can.trail.vars_limit)

-- ---- where a clause may be marked

-- an entry that was met and is the last one counted: those before it are one less
pub counted_before : (es : List Assigned) (place : ℕ) (w mid : WalkView) → IsCounted es (place + 1) w
    → is_seen w (assigned_at es place).lit.var ≡ true → mid ≡ record w { count = w.count - 1 } → IsCounted es place mid
counted_before es place w mid counted met made =
    subst (λ (v : WalkView). IsCounted es place v) (sym made)
    (omega (arith, counted, count_open (is_met es (is_seen w)) place met))

-- the literals of a reason but its own have values before the entry
reason_takeable : (a : Entries) (t : TrailState) (place r : ℕ) (seen : ℕ → Bool) → IsReason a t.entries place r
    → seen (assigned_at t.entries place).lit.var ≡ true → AreTakeable t.entries place seen (entry_at a r).lits
reason_takeable a t place r seen why met x there =
    let l = (assigned_at t.entries place).lit in
    ⊎_elim
    (λ (own : x ≡ l). inl (ap (λ (m : Literal). seen m.var) own ∙ met))
    (λ (other : x ≢ l). inr (why.others x there other))
    (same_or_not x l)

reason_low : (a : Entries) (t : TrailState) (place r : ℕ) (x : Literal) → IsTrail t → place < length t.entries
    → IsReason a t.entries place r → Contains (entry_at a r).lits x → x.var ≤ t.vars
reason_low a t place r x trail fits why there =
    ⊎_elim
    (λ (own : x ≡ (assigned_at t.entries place).lit). var_low t place x trail fits (ap (λ (l : Literal). l.var) (sym own)))
    (λ (other : x ≢ (assigned_at t.entries place).lit).
    let f = why.others x there other in var_low t f.place x trail (omega (arith, f.before, fits)) (var_of_false _ x f.lit))
    (same_or_not x (assigned_at t.entries place).lit)

may_mark : (a : Entries) (t : TrailState) (w : WalkView) (place r : ℕ) → CanTrace a t w → place < length t.entries
    → (assigned_at t.entries place).reason ≡ ByClause r → is_seen w (assigned_at t.entries place).lit.var ≡ true
    → IsCounted t.entries place w → CanMark a t w r
may_mark a t w place r can fits because met counted =
    let why = can.reasons.clauses place r fits because in
    record {
      end = place;
      within = omega (arith, fits);
      trail = can.trail;
      counted = counted;
      live = why.live;
      low = λ x there. omega (arith, reason_low a t place r x can.trail fits why there, can.size);
      takeable = reason_takeable a t place r (is_seen w) why met;
    }

-- the reason of an entry that is visited
pub may_mark_reason : (a : Entries) (t : TrailState) (w mid : WalkView) (place r : ℕ) → CanVisit a t w place
    → mid ≡ record w { count = w.count - 1 } → (assigned_at t.entries place).reason ≡ ByClause r → CanMark a t mid r
may_mark_reason a t w mid place r can made because =
    let sized : length mid.stamps ≡ t.vars + 1 = ap (λ (v : WalkView). length v.stamps) made ∙ can.can_trace.size in
    let met : is_seen mid (assigned_at t.entries place).lit.var ≡ true =
    ap (λ (v : WalkView). is_seen v (assigned_at t.entries place).lit.var) made ∙ can.met in
    may_mark a t mid place r (record { trail = can.can_trace.trail; size = sized; reasons = can.can_trace.reasons }) can.within because
    met (counted_before t.entries place w mid can.counted can.met made)

-- before the entry of a core's literal nothing was met
pub core_counted : (t : TrailState) (lit : Literal) (w : WalkView) (p : ℕ) → IsTrail t → IsCoreBegun lit w → p < length t.entries
    → (assigned_at t.entries p).lit ≡ negated lit → IsCounted t.entries p w
core_counted t lit w p trail begun fits is =
    begun.no_count ∙ sym (count_nothing (is_met t.entries (is_seen w)) p (λ k lt. elim (cases_Bool (is_met t.entries (is_seen w) k)) [
      | inl met ↦ absurd (omega (
        arith,
        lt,
        trail.distinct k p (omega (arith, lt, fits)) fits
            (begun.only (assigned_at t.entries k).lit.var met ∙ sym (ap (λ (l : Literal). l.var) is)),
      ))
      | inr unmet ↦ unmet
    ]))

pub may_mark_core : (a : Entries) (t : TrailState) (lit : Literal) (w : WalkView) (p r : ℕ) → CanTrace a t w → IsCoreBegun lit w
    → p < length t.entries → (assigned_at t.entries p).lit ≡ negated lit → (assigned_at t.entries p).reason ≡ ByClause r
    → CanMark a t w r
may_mark_core a t lit w p r can begun fits is because =
    may_mark a t w p r can fits because (ap (λ (l : Literal). is_seen w l.var) is ∙ begun.met)
    (core_counted t lit w p can.trail begun fits is)

-- where nothing was met, nothing is counted
started_counted : (es : List Assigned) (end : ℕ) (w : WalkView) → IsStarted w → IsCounted es end w
started_counted es end w h =
    h.no_count ∙ sym (count_nothing (is_met es (is_seen w)) end (λ k lt. h.unseen (assigned_at es k).lit.var))

conflict_takeable : (a : Entries) (t : TrailState) (r : ℕ) (seen : ℕ → Bool) → IsRootConflict a t.entries r
    → AreTakeable t.entries (length t.entries) seen (entry_at a r).lits
conflict_takeable a t r seen h x there =
    let f = h.all_false x there in inr (record { place = f.place; before = f.within; lit = f.lit })

pub may_mark_conflict : (a : Entries) (t : TrailState) (w : WalkView) (r : ℕ) → IsTrail t → length w.stamps ≡ t.vars + 1 → IsStarted w
    → IsRootConflict a t.entries r → CanMark a t w r
may_mark_conflict a t w r trail size started h = record {
  end = length t.entries;
  within = omega arith;
  trail = trail;
  counted = started_counted t.entries (length t.entries) w started;
  live = h.live;
  low = λ x there.
      let f = h.all_false x there in omega (arith, var_low t f.place x trail f.within (var_of_false _ x f.lit), size);
  takeable = conflict_takeable a t r (is_seen w) h;
}

-- ---- after it

pub reason_counted : (a : Entries) (t : TrailState) (w mid new : WalkView) (place r : ℕ) → CanVisit a t w place
    → mid ≡ record w { count = w.count - 1 } → (assigned_at t.entries place).reason ≡ ByClause r → IsMarked a t r mid new
    → IsCounted t.entries place new
reason_counted a t w mid new place r can made because marks =
    let met : is_seen mid (assigned_at t.entries place).lit.var ≡ true =
    ap (λ (v : WalkView). is_seen v (assigned_at t.entries place).lit.var) made ∙ can.met in
    marks.counted place (omega (arith, can.within)) (counted_before t.entries place w mid can.counted can.met made)
    (reason_takeable a t place r (is_seen mid) (can.can_trace.reasons.clauses place r can.within because) met)

pub core_marked : (a : Entries) (t : TrailState) (lit : Literal) (w new : WalkView) (p r : ℕ) → CanTrace a t w → IsCoreBegun lit w
    → p < length t.entries → (assigned_at t.entries p).lit ≡ negated lit → (assigned_at t.entries p).reason ≡ ByClause r
    → IsMarked a t r w new → IsCounted t.entries p new
core_marked a t lit w new p r can begun fits is because marks =
    marks.counted p (omega (arith, fits)) (core_counted t lit w p can.trail begun fits is)
    (reason_takeable a t p r (is_seen w) (can.reasons.clauses p r fits because) (ap (λ (l : Literal). is_seen w l.var) is ∙ begun.met))

pub conflict_counted : (a : Entries) (t : TrailState) (w new : WalkView) (r : ℕ) → IsStarted w → IsRootConflict a t.entries r
    → IsMarked a t r w new → IsCounted t.entries (length t.entries) new
conflict_counted a t w new r started h marks =
    marks.counted (length t.entries) (omega arith) (started_counted t.entries (length t.entries) w started)
    (conflict_takeable a t r (is_seen w) h)

-- where the count isn't 0, some entry is left to look at
pub some_left : (es : List Assigned) (end : ℕ) (w : WalkView) → IsCounted es end w → 0 < w.count → HasSeen es (is_seen w) end
some_left es end w counted some =
    let o = count_some (is_met es (is_seen w)) end (omega (arith, counted, some)) in
    record { place = o.place; before = o.before; met = o.is }

-- where it is 0, none is
pub none_left : (es : List Assigned) (end k : ℕ) (w : WalkView) → IsCounted es end w → w.count ≡ 0 → k < end
    → is_seen w (assigned_at es k).lit.var ≡ false
none_left es end k w counted none lt = count_none (is_met es (is_seen w)) end k (sym counted ∙ none) lt

-- down to the last entry that was met
pub counted_down_to : (es : List Assigned) (end place : ℕ) (w : WalkView) → IsCounted es end w → IsLastSeen es (is_seen w) end place
    → IsCounted es (place + 1) w
counted_down_to es end place w counted last =
    counted ∙ count_down (is_met es (is_seen w)) (place + 1) end (omega (arith, last.before))
    (λ k from lt. last.none_after k (omega (arith, from)) lt)
