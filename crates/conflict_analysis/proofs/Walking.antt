-- The walk that learns: literals are taken up, clauses added, entries resolved.
use Rattle.std.proofs.Common.{◌≡◌, ◌≢◌, ◌⊎◌, ℕ, ◌+◌, ◌-◌, ◌^◌, ◌<◌, ◌≤◌, ◌==◌, ◌&&◌, Bool, true, false, List, [], ◌∷◌, ◌++◌, length, get_or}
use Rattle.std.proofs.Common.{set, take, reverse, AllPairs, Contains, refl, sym, ap, ◌∙◌, subst, inl, inr, ⊎_elim, arith}
use Rattle.std.proofs.lemmas.Bool.{cases_eq, cases_lt, eq-eqb, eqb-true, both_ways, and_parts, and_from}
use Rattle.std.proofs.lemmas.List.{reverse-append}
use Rattle.cnf_core.specs.Literals.{Literal, Literals, negated}
use Rattle.cnf_core.proofs.Lists.{Contains-head, Contains-tail, Contains-cons_cases, Contains-nil}
use Rattle.clause_arena.specs.Entries.{Entries, entry_at, IsLive}
use Rattle.trail_core.specs.declared.entry.Assigned.{Assigned}
use Rattle.trail_core.specs.declared.entry.Reason.{Reason}
use Rattle.trail_core.specs.declared.entry.Reason.TheVariants.{Decision, Clause as ByClause, Unit as ByUnit}
use Rattle.trail_core.specs.Trails.{TrailState, assigned_at, IsTrail}
use Rattle.lrat_lines.specs.Propagation.{Known}
use Rattle.lrat_lines.proofs.Tightness.{same_or_not}
use Rattle.conflict_analysis.specs.Members.{IsMapOf, HasClause}
use Rattle.trail_core.specs.TrueAndFalse.{IsFalse, IsFalseBefore}
use Rattle.conflict_analysis.specs.Reasons.{IsReason, IsConflict}
use Rattle.conflict_analysis.specs.Steps.Walks.{WalkView, is_seen, IsStarted, HasVar, IsGrown, AreTakeable, IsLastSeen, HasSeen}
use Rattle.conflict_analysis.specs.Steps.Resolvents.{Derives, IsLeft}
use Rattle.conflict_analysis.specs.Steps.Learning.{is_open, open_count, IsSorted, CanTake, IsTaken, CanAdd, IsAdded, IsWalked, CanWalk}
use Rattle.conflict_analysis.specs.Steps.Learning.{CanResolve, IsFound}
use Rattle.conflict_analysis.proofs.Literals.{negated-negated, negation_back, var_of_false, place_of_false}
use Rattle.conflict_analysis.proofs.Deriving.{derives_clause, derives_same, derives_more}
use Rattle.conflict_analysis.proofs.Counts.{count_open, count_le, count_down, count_some, count_none, HasPlace}
use Rattle.conflict_analysis.proofs.Growing.{mark_grown, grown_nothing, grown_more, grown_past, grown_all, element_is_member}
use Rattle.conflict_analysis.proofs.Sorting.{IsTaking, count_of_present, sorted_present, sorted_root, sorted_lower}

-- the walk with one stamp set
abbrev pub marked : WalkView → ℕ → WalkView
marked w v = record w { stamps = set w.stamps v w.stamp }

taking : (t : TrailState) (w : WalkView) (x : Literal) → (h : CanTake t w x)
    → IsTaking t x (is_seen w) (is_seen (marked w x.var)) h.false_before.place
taking t w x h =
    let within : h.false_before.place < length t.entries = omega (arith, h.false_before.before, h.within) in
    record {
      trail = h.trail;
      within = within;
      lit = h.false_before.lit;
      unseen = h.unseen;
      grown = mark_grown w.stamps w.stamp x
          (omega (arith, h.size, (h.trail.within h.false_before.place within).high, var_of_false _ x h.false_before.lit));
    }

marked_same : (w mid : WalkView) (v u : ℕ) → v ≡ u → mid ≡ marked w v → mid ≡ marked w u
marked_same w mid v u is made = made ∙ ap (marked w) is

-- the place is before each end that the literal is false before
before_end : (t : TrailState) (x : Literal) (p end : ℕ) → IsTrail t → p < length t.entries
    → (assigned_at t.entries p).lit ≡ negated x → end ≤ length t.entries → IsFalseBefore t.entries end x → p < end
before_end t x p end trail within is fits f =
    let same : p ≡ f.place = place_of_false t p f.place x trail within (omega (arith, f.before)) (var_of_false _ x is) f.lit in
    omega (arith, same, f.before)

-- the level that is read is that of the literal's entry
abbrev pub IsLevelOf : TrailState → Literal → ℕ → Type 0
IsLevelOf t x level = (k : ℕ) → k < length t.entries → (assigned_at t.entries k).lit.var ≡ x.var → level ≡ (assigned_at t.entries k).level

-- a literal of the present level may be counted
pub room_to_count : (t : TrailState) (x : Literal) (old mid : WalkView) (v level : ℕ) → CanTake t old x → v ≡ x.var
    → mid ≡ marked old v → IsLevelOf t x level → level ≡ t.level → mid.count + 1 < 2 ^ 32
room_to_count t x old mid v level can is made read present =
    let h = taking t old x can in
    let f = can.false_before in
    let at_top = sym (read f.place h.within (var_of_false _ x f.lit)) ∙ present in
    let one = count_of_present t x (is_seen old) (is_seen (marked old x.var)) f.place can.end h can.within f.before at_top in
    let most = count_le (is_open t.entries t.level (is_seen (marked old x.var))) can.end in
    let count : mid.count ≡ old.count = ap (λ (w : WalkView). w.count) made in
    omega (arith, one, most, count, can.sorted.counted, can.short)

pub taken_present : (t : TrailState) (x : Literal) (old mid new : WalkView) (v level : ℕ) → CanTake t old x → v ≡ x.var
    → mid ≡ marked old v → IsLevelOf t x level → level ≡ t.level → new ≡ record mid { count = mid.count + 1 }
    → IsTaken t x old new
taken_present t x old mid new v level can is made read present new_is =
    let h = taking t old x can in
    let f = can.false_before in
    let whole : new ≡ record (marked old x.var) { count = old.count + 1 } =
    new_is ∙ ap (λ (w : WalkView). record w { count = w.count + 1 }) (marked_same old mid v x.var is made) in
    subst (λ (w : WalkView). IsTaken t x old w) (sym whole) (record {
      hints = refl;
      grown = h.grown;
      sorted = λ end fits sorted before.
          sorted_present t end old (record (marked old x.var) { count = old.count + 1 }) x f.place h fits
          (before_end t x f.place end can.trail h.within f.lit fits before)
          (sym (read f.place h.within (var_of_false _ x f.lit)) ∙ present) refl refl refl sorted;
    })

pub taken_root : (t : TrailState) (x : Literal) (old mid new : WalkView) (v level : ℕ) → CanTake t old x → v ≡ x.var
    → mid ≡ marked old v → IsLevelOf t x level → level ≡ 0 → new ≡ record mid { roots = mid.roots ++ x ∷ [] }
    → IsTaken t x old new
taken_root t x old mid new v level can is made read at_level_0 new_is =
    let h = taking t old x can in
    let f = can.false_before in
    let whole : new ≡ record (marked old x.var) { roots = old.roots ++ x ∷ [] } =
    new_is ∙ ap (λ (w : WalkView). record w { roots = w.roots ++ x ∷ [] }) (marked_same old mid v x.var is made) in
    subst (λ (w : WalkView). IsTaken t x old w) (sym whole) (record {
      hints = refl;
      grown = h.grown;
      sorted = λ end fits sorted before.
          sorted_root t end old (record (marked old x.var) { roots = old.roots ++ x ∷ [] }) x f.place h fits
          (sym (read f.place h.within (var_of_false _ x f.lit)) ∙ at_level_0) refl refl refl sorted;
    })

-- no entry is above the present level
pub level_le : (t : TrailState) (k : ℕ) → IsTrail t → k < length t.entries → (assigned_at t.entries k).level ≤ t.level
level_le t k trail lt =
    let last = trail.leveled.top (length t.entries - 1) (omega arith) in
    let rises = trail.leveled.rises k (length t.entries - 1) (omega arith) (omega arith) in
    omega (arith, last, rises)

pub taken_lower : (t : TrailState) (x : Literal) (old mid new : WalkView) (v level : ℕ) → CanTake t old x → v ≡ x.var
    → mid ≡ marked old v → IsLevelOf t x level → level ≢ t.level → level ≢ 0 → new ≡ record mid { lits = mid.lits ++ x ∷ [] }
    → IsTaken t x old new
taken_lower t x old mid new v level can is made read not_top not_root new_is =
    let h = taking t old x can in
    let f = can.false_before in
    let of_place = read f.place h.within (var_of_false _ x f.lit) in
    let most = level_le t f.place can.trail h.within in
    let whole : new ≡ record (marked old x.var) { lits = old.lits ++ x ∷ [] } =
    new_is ∙ ap (λ (w : WalkView). record w { lits = w.lits ++ x ∷ [] }) (marked_same old mid v x.var is made) in
    subst (λ (w : WalkView). IsTaken t x old w) (sym whole) (record {
      hints = refl;
      grown = h.grown;
      sorted = λ end fits sorted before.
          sorted_lower t end old (record (marked old x.var) { lits = old.lits ++ x ∷ [] }) x f.place h fits
          (omega (arith, of_place, not_root)) (omega (arith, of_place, not_top, most)) refl refl refl sorted;
    })

-- the first literals of a clause are added
pub record IsAdding (t : TrailState) (c : Literals) (i : ℕ) (old now : WalkView) : Type 0 where
  pub size : length now.stamps ≡ length old.stamps
  pub hints : now.hints ≡ old.hints
  pub grown : IsGrown (take i c) (is_seen old) (is_seen now)
  pub sorted : (end : ℕ) → end ≤ length t.entries → IsSorted t end old → AreTakeable t.entries end (is_seen old) c
      → IsSorted t end now

pub adding_none : (t : TrailState) (c : Literals) (w : WalkView) → IsAdding t c 0 w w
adding_none t c w = record {
  size = refl;
  hints = refl;
  grown = grown_nothing (is_seen w);
  sorted = λ end fits sorted takeable. sorted;
}

-- what is not met yet is false before the end
false_before : (t : TrailState) (c : Literals) (i end : ℕ) (old now : WalkView) (x : Literal) → IsAdding t c i old now
    → AreTakeable t.entries end (is_seen old) c → Contains c x → is_seen now x.var ≡ false → IsFalseBefore t.entries end x
false_before t c i end old now x h takeable there unseen = ⊎_elim
    (λ (was : is_seen old x.var ≡ true). absurd (both_ways (is_seen now x.var) unseen (h.grown.kept x.var was)))
    (λ (f : IsFalseBefore t.entries end x). f)
    (takeable x there)

pub may_take : (a : Entries) (t : TrailState) (r i : ℕ) (old now : WalkView) (x : Literal) → CanAdd a t old r
    → IsAdding t (entry_at a r).lits i old now → i < length (entry_at a r).lits → x ≡ get_or (entry_at a r).lits i x
    → is_seen now x.var ≡ false → CanTake t now x
may_take a t r i old now x can h lt is unseen = record {
  end = can.end;
  within = can.within;
  short = can.short;
  trail = can.trail;
  size = h.size ∙ can.size;
  sorted = h.sorted can.end can.within can.sorted can.takeable;
  false_before = false_before t (entry_at a r).lits i can.end old now x h can.takeable
      (element_is_member (entry_at a r).lits i x lt is) unseen;
  unseen = unseen;
}

pub adding_taken : (t : TrailState) (c : Literals) (i : ℕ) (old now new : WalkView) (x : Literal) → IsAdding t c i old now
    → i < length c → x ≡ get_or c i x → is_seen now x.var ≡ false → IsTaken t x now new
    → length new.stamps ≡ length now.stamps → IsAdding t c (i + 1) old new
adding_taken t c i old now new x h lt is unseen took size = record {
  size = size ∙ h.size;
  hints = took.hints ∙ h.hints;
  grown = grown_more c i x (is_seen old) (is_seen now) (is_seen new) lt is h.grown took.grown;
  sorted = λ end fits sorted takeable. took.sorted end fits (h.sorted end fits sorted takeable)
      (false_before t c i end old now x h takeable (element_is_member c i x lt is) unseen);
}

pub adding_past : (t : TrailState) (c : Literals) (i : ℕ) (old now : WalkView) (x : Literal) → IsAdding t c i old now
    → i < length c → x ≡ get_or c i x → is_seen now x.var ≡ true → IsAdding t c (i + 1) old now
adding_past t c i old now x h lt is seen = record {
  size = h.size;
  hints = h.hints;
  grown = grown_past c i x (is_seen old) (is_seen now) lt is h.grown seen;
  sorted = h.sorted;
}

pub added : (a : Entries) (t : TrailState) (r i id : ℕ) (old now new : WalkView) → IsAdding t (entry_at a r).lits i old now
    → length (entry_at a r).lits ≤ i → id ≡ (entry_at a r).id → new ≡ record now { hints = now.hints ++ id ∷ [] }
    → IsAdded a t r old new
added a t r i id old now new h past id_is new_is =
    let whole : new ≡ record now { hints = now.hints ++ (entry_at a r).id ∷ [] } =
    new_is ∙ ap (λ (n : ℕ). record now { hints = now.hints ++ n ∷ [] }) id_is in
    subst (λ (w : WalkView). IsAdded a t r old w) (sym whole) (record {
      hints = ap (λ (hs : List ℕ). hs ++ (entry_at a r).id ∷ []) h.hints;
      grown = grown_all (entry_at a r).lits i (is_seen old) (is_seen now) past h.grown;
      sorted = λ end fits sorted takeable.
          (let s = h.sorted end fits sorted takeable in record {
            above_root = s.above_root;
            lits_only = s.lits_only;
            lits_all = s.lits_all;
            once = s.once;
            roots_only = s.roots_only;
            roots_all = s.roots_all;
            counted = s.counted;
          });
    })

reverse_push : (hs : List ℕ) (h : ℕ) → reverse (hs ++ h ∷ []) ≡ h ∷ reverse hs
reverse_push hs h = reverse-append hs (h ∷ [])

-- hints with one more, taken first
pub first_hint : (old new : List ℕ) (h : ℕ) → new ≡ old ++ h ∷ [] → reverse new ≡ h ∷ reverse old
first_hint old new h is = ap (λ (hs : List ℕ). reverse hs) is ∙ reverse_push old h

-- an entry that is open is of the level and met
open_is : (t : TrailState) (seen : ℕ → Bool) (k : ℕ) → is_open t.entries t.level seen k ≡ true
    → (seen (assigned_at t.entries k).lit.var ≡ true) × ((assigned_at t.entries k).level ≡ t.level)
open_is t seen k is =
    let parts = and_parts _ _ is in
    (parts.0, eqb-true (assigned_at t.entries k).level t.level parts.1)

count_has : (t : TrailState) (seen : ℕ → Bool) (n : ℕ) → HasPlace (is_open t.entries t.level seen) n
    → 0 < open_count t.entries t.level seen n
count_has t seen n h = ⊎_elim
    (λ (some : 0 < open_count t.entries t.level seen n). some)
    (λ (none : open_count t.entries t.level seen n ≤ 0). absurd (both_ways (is_open t.entries t.level seen h.place)
    (count_none (is_open t.entries t.level seen) n h.place (omega arith) h.before) h.is))
    (cases_lt 0 (open_count t.entries t.level seen n))

pub seen_of_walked : (a : Entries) (t : TrailState) (end : ℕ) (w : WalkView) → IsWalked a t end w
    → HasSeen t.entries (is_seen w) end
seen_of_walked a t end w h =
    let o = count_some (is_open t.entries t.level (is_seen w)) end (omega (arith, h.some, h.sorted.counted)) in
    record { place = o.place; before = o.before; met = (open_is t (is_seen w) o.place o.is).0 }

unmet_is_closed : (t : TrailState) (seen : ℕ → Bool) (k : ℕ) → seen (assigned_at t.entries k).lit.var ≡ false
    → is_open t.entries t.level seen k ≡ false
unmet_is_closed t seen k unmet = ap (λ (b : Bool). b && ((assigned_at t.entries k).level == t.level)) unmet

-- the walk goes down to the last entry that was met
pub walked_down : (a : Entries) (t : TrailState) (end place : ℕ) (w : WalkView) → IsWalked a t end w
    → IsLastSeen t.entries (is_seen w) end place → IsWalked a t (place + 1) w
walked_down a t end place w h last = record {
  within = omega (arith, last.before, h.within);
  sorted = (let s = h.sorted in record {
    above_root = s.above_root;
    lits_only = s.lits_only;
    lits_all = s.lits_all;
    once = s.once;
    roots_only = s.roots_only;
    roots_all = s.roots_all;
    counted = s.counted ∙ count_down (is_open t.entries t.level (is_seen w)) (place + 1) end (omega (arith, last.before))
        (λ k from lt. unmet_is_closed t (is_seen w) k (last.none_after k (omega arith) lt));
  });
  some = h.some;
  derives = λ known map. derives_same known t.entries (length t.entries) (IsLeft t.entries end (is_seen w))
      (IsLeft t.entries (place + 1) (is_seen w)) (reverse w.hints)
      (λ x left. ⊎_elim
      (λ (below : left.place < place + 1). record { place = left.place; before = below; lit = left.lit; met = left.met })
      (λ (past : place + 1 ≤ left.place). absurd (both_ways (is_seen w (assigned_at t.entries left.place).lit.var)
      (last.none_after left.place (omega arith) left.before) left.met))
      (cases_lt left.place (place + 1)))
      (λ x left. record { place = left.place; before = omega (arith, left.before, last.before); lit = left.lit; met = left.met })
      (h.derives known map);
}

-- the last entry that was met is of the present level
pub top_of_walked : (a : Entries) (t : TrailState) (place : ℕ) (w : WalkView) → IsTrail t → IsWalked a t (place + 1) w
    → (assigned_at t.entries place).level ≡ t.level
top_of_walked a t place w trail h =
    let o = count_some (is_open t.entries t.level (is_seen w)) (place + 1) (omega (arith, h.some, h.sorted.counted)) in
    let of_level = (open_is t (is_seen w) o.place o.is).1 in
    let fits : place < length t.entries = omega (arith, h.within) in
    let rises = trail.leveled.rises o.place place (omega (arith, o.before)) fits in
    let most = level_le t place trail fits in
    omega (arith, of_level, rises, most)

-- so the entries before it that are open are one less
open_below : (a : Entries) (t : TrailState) (place : ℕ) (w : WalkView) → IsTrail t → IsWalked a t (place + 1) w
    → is_seen w (assigned_at t.entries place).lit.var ≡ true
    → w.count ≡ open_count t.entries t.level (is_seen w) place + 1
open_below a t place w trail h met =
    h.sorted.counted ∙ count_open (is_open t.entries t.level (is_seen w)) place
    (and_from _ _ met (eq-eqb (assigned_at t.entries place).level t.level (top_of_walked a t place w trail h)))

another_open : (a : Entries) (t : TrailState) (w : WalkView) (place : ℕ) → CanResolve a t w place
    → HasPlace (is_open t.entries t.level (is_seen w)) place
another_open a t w place h =
    count_some (is_open t.entries t.level (is_seen w)) place
    (omega (arith, open_below a t place w h.can_walk.trail h.walked h.met, h.another))

by_reason : (why : Reason) (P : Type 0) → (why ≡ Decision → P) → ((r : ℕ) → why ≡ ByClause r → P)
    → ((id : ℕ) → why ≡ ByUnit id → P) → P
by_reason Decision P d c u = d refl
by_reason (ByClause r) P d c u = c r refl
by_reason (ByUnit id) P d c u = u id refl

-- such an entry has a clause as its reason
pub reason_is_clause : (a : Entries) (t : TrailState) (w : WalkView) (place : ℕ) → CanResolve a t w place
    → ((r : ℕ) → (assigned_at t.entries place).reason ≡ ByClause r → ⊥) → ⊥
reason_is_clause a t w place h none =
    let fits : place < length t.entries = omega (arith, h.walked.within) in
    let top = top_of_walked a t place w h.can_walk.trail h.walked in
    let o = another_open a t w place h in
    by_reason (assigned_at t.entries place).reason ⊥
    (λ decided. h.can_walk.reasons.first_of_level o.place place o.before fits decided
    ((open_is t (is_seen w) o.place o.is).1 ∙ sym top))
    none
    (λ id unit. omega (arith, top, h.can_walk.reasons.units place id fits unit, h.walked.sorted.above_root))

pub var_low : (t : TrailState) (k : ℕ) (x : Literal) → IsTrail t → k < length t.entries → (assigned_at t.entries k).lit.var ≡ x.var
    → x.var ≤ t.vars
var_low t k x trail lt is = omega (arith, is, (trail.within k lt).high)

-- the walk with one literal of the present level less
abbrev pub counted_down : WalkView → WalkView
counted_down w = record w { count = w.count - 1 }

sorted_below : (a : Entries) (t : TrailState) (w : WalkView) (place : ℕ) → CanResolve a t w place
    → IsSorted t place (counted_down w)
sorted_below a t w place h = (let s = h.walked.sorted in record {
  above_root = s.above_root;
  lits_only = s.lits_only;
  lits_all = s.lits_all;
  once = s.once;
  roots_only = s.roots_only;
  roots_all = s.roots_all;
  counted = omega (arith, open_below a t place w h.can_walk.trail h.walked h.met);
})

takeable_reason : (a : Entries) (t : TrailState) (w : WalkView) (place r : ℕ) → CanResolve a t w place
    → IsReason a t.entries place r → AreTakeable t.entries place (is_seen w) (entry_at a r).lits
takeable_reason a t w place r h why x there = ⊎_elim
    (λ (same : x ≡ (assigned_at t.entries place).lit). inl (ap (λ (l : Literal). is_seen w l.var) same ∙ h.met))
    (λ (other : x ≢ (assigned_at t.entries place).lit). inr (why.others x there other))
    (same_or_not x (assigned_at t.entries place).lit)

-- the reason may be added in place of the entry's literal
pub may_add_reason : (a : Entries) (t : TrailState) (w mid : WalkView) (place r : ℕ) → CanResolve a t w place
    → mid ≡ counted_down w → (assigned_at t.entries place).reason ≡ ByClause r → CanAdd a t mid r
may_add_reason a t w mid place r h made because =
    let fits : place < length t.entries = omega (arith, h.walked.within) in
    let why = h.can_walk.reasons.clauses place r fits because in
    subst (λ (m : WalkView). CanAdd a t m r) (sym made) (record {
      end = place;
      within = omega arith;
      short = omega (arith, h.can_walk.short);
      trail = h.can_walk.trail;
      size = h.can_walk.size;
      sorted = sorted_below a t w place h;
      live = why.live;
      low = λ x there. ⊎_elim
          (λ (same : x ≡ (assigned_at t.entries place).lit).
          var_low t place x h.can_walk.trail fits (ap (λ (l : Literal). l.var) (sym same)))
          (λ (other : x ≢ (assigned_at t.entries place).lit). (let f = why.others x there other in
          var_low t f.place x h.can_walk.trail (omega (arith, f.before)) (var_of_false _ x f.lit)))
          (same_or_not x (assigned_at t.entries place).lit);
      takeable = takeable_reason a t w place r h why;
    })

-- the literal whose entry was met newly is one of the clause
pub left_of_clause : (t : TrailState) (c : Literals) (k : ℕ) (x : Literal) → IsTrail t → k < length t.entries
    → (assigned_at t.entries k).lit ≡ negated x → HasVar c (assigned_at t.entries k).lit.var
    → ((y : Literal) → Contains c y → y.var ≡ (assigned_at t.entries k).lit.var → IsFalse t.entries y) → Contains c x
left_of_clause t c k x trail lt is h false_too =
    let f = false_too h.literal h.member h.var in
    let same : k ≡ f.place = place_of_false t k f.place h.literal trail lt f.within (sym h.var) f.lit in
    let negations : negated h.literal ≡ negated x = sym f.lit ∙ ap (λ (i : ℕ). (assigned_at t.entries i).lit) (sym same) ∙ is in
    let which : h.literal ≡ x = sym (negated-negated h.literal) ∙ ap negated negations ∙ negated-negated x in
    subst (λ (l : Literal). Contains c l) which h.member

pub has_reason : (a : Entries) (t : TrailState) (r : ℕ) (known : Known) → IsMapOf a t.entries known → IsLive a r
    → HasClause known (entry_at a r).id (entry_at a r).lits
has_reason a t r known map live =
    map (entry_at a r).id (entry_at a r).lits (inl (record { reference = r; live = live; has_id = refl; has_lits = refl }))

-- the entry is resolved
pub walked_on : (a : Entries) (t : TrailState) (w mid new : WalkView) (place r : ℕ) → CanResolve a t w place
    → mid ≡ counted_down w → (assigned_at t.entries place).reason ≡ ByClause r → IsAdded a t r mid new
    → IsWalked a t place new
walked_on a t w mid new place r h made because done =
    let fits : place < length t.entries = omega (arith, h.walked.within) in
    let why = h.can_walk.reasons.clauses place r fits because in
    let added_to = subst (λ (m : WalkView). IsAdded a t r m new) made done in
    let sorted = added_to.sorted place (omega arith) (sorted_below a t w place h) (takeable_reason a t w place r h why) in
    let o = another_open a t w place h in
    let parts = open_is t (is_seen w) o.place o.is in
    let l = (assigned_at t.entries place).lit in
    record {
      within = omega arith;
      sorted = sorted;
      some = omega (
        arith,
        sorted.counted,
        count_has t (is_seen new) place (record {
          place = o.place;
          before = o.before;
          is = and_from _ _ (added_to.grown.kept (assigned_at t.entries o.place).lit.var parts.0)
              (eq-eqb (assigned_at t.entries o.place).level t.level parts.1);
        }),
      );
      derives = λ known map.
          subst (λ (hs : List ℕ). Derives known t.entries (length t.entries) (IsLeft t.entries place (is_seen new)) hs)
          (sym (first_hint w.hints new.hints (entry_at a r).id added_to.hints))
          (derives_more known t (length t.entries) place (entry_at a r).id (entry_at a r).lits l
          (IsLeft t.entries (place + 1) (is_seen w)) (IsLeft t.entries place (is_seen new)) (reverse w.hints)
          h.can_walk.trail (omega arith) fits refl (has_reason a t r known map why.live) why.member
          (record { place = place; before = omega arith; lit = sym (negated-negated l); met = h.met })
          (λ x left other. ⊎_elim
          (λ (last : left.place ≡ place). absurd (other (negation_back l x
          (ap (λ (i : ℕ). (assigned_at t.entries i).lit) (sym last) ∙ left.lit))))
          (λ (before : left.place ≢ place). record {
            place = left.place;
            before = omega (arith, left.before, before);
            lit = left.lit;
            met = added_to.grown.kept (assigned_at t.entries left.place).lit.var left.met;
          })
          (cases_eq left.place place))
          (λ x there other. (let f = why.others x there other in record {
            place = f.place;
            before = f.before;
            lit = f.lit;
            met = ap (is_seen new) (var_of_false _ x f.lit) ∙ added_to.grown.marked x there;
          }))
          (λ x left. ⊎_elim
          (λ (was : is_seen w (assigned_at t.entries left.place).lit.var ≡ true).
          inl (record { place = left.place; before = omega (arith, left.before); lit = left.lit; met = was }))
          (λ (new_one : HasVar (entry_at a r).lits (assigned_at t.entries left.place).lit.var).
          inr (left_of_clause t (entry_at a r).lits left.place x h.can_walk.trail (omega (arith, left.before)) left.lit new_one
          (λ y there same_var. ⊎_elim
          (λ (own : y ≡ l). absurd (omega (
            arith,
            left.before,
            h.can_walk.trail.distinct left.place place (omega (arith, left.before)) fits
                (sym same_var ∙ ap (λ (m : Literal). m.var) own),
          )))
          (λ (other : y ≢ l). (let f = why.others y there other in
          record { place = f.place; within = omega (arith, f.before); lit = f.lit }))
          (same_or_not y l))))
          (added_to.grown.only (assigned_at t.entries left.place).lit.var left.met))
          (h.walked.derives known map));
    }

-- the last place that was met is looked for downward
pub record IsLooking (es : List Assigned) (seen : ℕ → Bool) (end place : ℕ) : Type 0 where
  pub before : place < end
  pub some : HasSeen es seen (place + 1)
  pub none_after : (k : ℕ) → place < k → k < end → seen (assigned_at es k).lit.var ≡ false

pub looking_first : (es : List Assigned) (seen : ℕ → Bool) (end place : ℕ) → HasSeen es seen end → place ≡ end - 1
    → IsLooking es seen end place
looking_first es seen end place h is = record {
  before = omega (arith, is, h.before);
  some = record { place = h.place; before = omega (arith, is, h.before); met = h.met };
  none_after = λ k past lt. absurd (omega (arith, is, past, lt));
}

not_this : (es : List Assigned) (seen : ℕ → Bool) (end place : ℕ) → (h : IsLooking es seen end place)
    → seen (assigned_at es place).lit.var ≡ false → h.some.place < place
not_this es seen end place h unmet = ⊎_elim
    (λ (same : h.some.place ≡ place). absurd (both_ways (seen (assigned_at es place).lit.var) unmet
    (subst (λ (k : ℕ). seen (assigned_at es k).lit.var ≡ true) same h.some.met)))
    (λ (other : h.some.place ≢ place). omega (arith, other, h.some.before))
    (cases_eq h.some.place place)

pub looking_lower : (es : List Assigned) (seen : ℕ → Bool) (end place next : ℕ) → IsLooking es seen end place
    → seen (assigned_at es place).lit.var ≡ false → next ≡ place - 1 → IsLooking es seen end next
looking_lower es seen end place next h unmet is =
    let lower = not_this es seen end place h unmet in
    record {
      before = omega (arith, is, h.before);
      some = record { place = h.some.place; before = omega (arith, is, lower); met = h.some.met };
      none_after = λ k past lt. ⊎_elim
          (λ (same : k ≡ place). subst (λ (i : ℕ). seen (assigned_at es i).lit.var ≡ false) (sym same) unmet)
          (λ (other : k ≢ place). h.none_after k (omega (arith, is, past, other, lower)) lt)
          (cases_eq k place);
    }

pub looking_down : (es : List Assigned) (seen : ℕ → Bool) (end place : ℕ) → IsLooking es seen end place
    → seen (assigned_at es place).lit.var ≡ false → 0 < place
looking_down es seen end place h unmet = omega (arith, not_this es seen end place h unmet)

-- one literal of the present level is left: the first unique implication point is found
pub found : (a : Entries) (t : TrailState) (end place : ℕ) (w : WalkView) → IsTrail t → IsWalked a t end w
    → IsLastSeen t.entries (is_seen w) end place → w.count ≤ 1 → IsFound a t (negated (assigned_at t.entries place).lit) w
found a t end place w trail walked last few =
    let h = walked_down a t end place w walked last in
    let fits : place < length t.entries = omega (arith, h.within) in
    let top = top_of_walked a t place w trail h in
    let l = (assigned_at t.entries place).lit in
    let none : open_count t.entries t.level (is_seen w) place ≡ 0 =
    omega (arith, open_below a t place w trail h last.met, few) in
    let below : (k : ℕ) → k < place → is_seen w (assigned_at t.entries k).lit.var ≡ true → (assigned_at t.entries k).level < t.level =
    λ k lt met. (let most = level_le t k trail (omega (arith, lt, fits)) in
    ⊎_elim
    (λ (same : (assigned_at t.entries k).level ≡ t.level). absurd (both_ways (is_open t.entries t.level (is_seen w) k)
    (count_none (is_open t.entries t.level (is_seen w)) place k none lt)
    (and_from _ _ met (eq-eqb (assigned_at t.entries k).level t.level same))))
    (λ (other : (assigned_at t.entries k).level ≢ t.level). omega (arith, most, other))
    (cases_eq (assigned_at t.entries k).level t.level)) in
    let before : (k : ℕ) → k < length t.entries → (assigned_at t.entries k).level < t.level → k < place + 1 =
    λ k lt low. ⊎_elim
    (λ (under : k < place + 1). under)
    (λ (over : place + 1 ≤ k). absurd (omega (arith, low, top, trail.leveled.rises place k (omega arith) lt)))
    (cases_lt k (place + 1)) in
    record {
      first_at = record { place = place; within = fits; lit = sym (negated-negated l); of_level = top };
      lits_only = h.sorted.lits_only;
      once = h.sorted.once;
      roots_only = h.sorted.roots_only;
      derives = λ known map. derives_same known t.entries (length t.entries) (IsLeft t.entries (place + 1) (is_seen w))
          (λ x. Contains (negated l ∷ w.lits) x ⊎ Contains w.roots x) (reverse w.hints)
          (λ x left. ⊎_elim
          (λ (same : left.place ≡ place). inl (subst (λ (y : Literal). Contains (negated l ∷ w.lits) y)
          (sym (negation_back l x (ap (λ (k : ℕ). (assigned_at t.entries k).lit) (sym same) ∙ left.lit)))
          (Contains-head (negated l) w.lits)))
          (λ (other : left.place ≢ place). (let lt : left.place < place = omega (arith, other, left.before) in
          let fits_too : left.place < length t.entries = omega (arith, lt, fits) in
          let back : negated (assigned_at t.entries left.place).lit ≡ x =
          sym (negation_back (assigned_at t.entries left.place).lit x left.lit) in
          ⊎_elim
          (λ (root : (assigned_at t.entries left.place).level ≡ 0).
          inr (subst (λ (y : Literal). Contains w.roots y) back (h.sorted.roots_all left.place fits_too left.met root)))
          (λ (upper : (assigned_at t.entries left.place).level ≢ 0).
          inl (Contains-tail (negated l) w.lits x (subst (λ (y : Literal). Contains w.lits y) back
          (h.sorted.lits_all left.place fits_too left.met (omega (arith, upper)) (below left.place lt left.met)))))
          (cases_eq (assigned_at t.entries left.place).level 0)))
          (cases_eq left.place place))
          (λ x there. ⊎_elim
          (λ (in_clause : Contains (negated l ∷ w.lits) x). ⊎_elim
          (λ (first : negated l ≡ x). record {
            place = place;
            before = omega arith;
            lit = negation_back x l (sym first);
            met = last.met;
          })
          (λ (later : Contains w.lits x). (let o = h.sorted.lits_only x later in record {
            place = o.place;
            before = before o.place o.within o.below;
            lit = o.lit;
            met = o.met;
          }))
          (Contains-cons_cases (negated l) w.lits x in_clause))
          (λ (root : Contains w.roots x). (let o = h.sorted.roots_only x root in record {
            place = o.place;
            before = before o.place o.within (omega (arith, o.at_root, h.sorted.above_root));
            lit = o.lit;
            met = o.met;
          }))
          there)
          (h.derives known map);
    }

pub may_resolve : (a : Entries) (t : TrailState) (end place : ℕ) (first w : WalkView) → CanWalk a t first
    → length w.stamps ≡ length first.stamps → IsWalked a t end w → IsLastSeen t.entries (is_seen w) end place → 1 < w.count
    → CanResolve a t w place
may_resolve a t end place first w can size walked last many = record {
  can_walk = record { trail = can.trail; short = can.short; size = size ∙ can.size; reasons = can.reasons };
  walked = walked_down a t end place w walked last;
  met = last.met;
  another = many;
}

nothing_open : (t : TrailState) (seen : ℕ → Bool) (n : ℕ) → ((v : ℕ) → seen v ≡ false)
    → open_count t.entries t.level seen n ≡ 0
nothing_open t seen n none = ⊎_elim
    (λ (some : 0 < open_count t.entries t.level seen n). (let o = count_some (is_open t.entries t.level seen) n some in
    absurd (both_ways (seen (assigned_at t.entries o.place).lit.var) (none (assigned_at t.entries o.place).lit.var)
    (open_is t seen o.place o.is).0)))
    (λ (zero : open_count t.entries t.level seen n ≤ 0). omega arith)
    (cases_lt 0 (open_count t.entries t.level seen n))

-- a walk that begins has nothing to sort
pub sorted_start : (t : TrailState) (w : WalkView) (end : ℕ) → IsStarted w → 0 < t.level → IsSorted t end w
sorted_start t w end h above = record {
  above_root = above;
  lits_only = λ x there. absurd (Contains-nil x (subst (λ (c : Literals). Contains c x) h.no_lits there));
  lits_all = λ k lt met up down.
      absurd (both_ways (is_seen w (assigned_at t.entries k).lit.var) (h.unseen (assigned_at t.entries k).lit.var) met);
  once = subst (λ (c : Literals). AllPairs (λ (k l : Literal). k.var ≢ l.var) c) (sym h.no_lits) (λ i j d lt fits. absurd (omega arith));
  roots_only = λ x there. absurd (Contains-nil x (subst (λ (c : Literals). Contains c x) h.no_roots there));
  roots_all = λ k lt met root.
      absurd (both_ways (is_seen w (assigned_at t.entries k).lit.var) (h.unseen (assigned_at t.entries k).lit.var) met);
  counted = h.no_count ∙ sym (nothing_open t (is_seen w) end h.unseen);
}

takeable_conflict : (a : Entries) (t : TrailState) (r : ℕ) (seen : ℕ → Bool) → IsConflict a t r
    → AreTakeable t.entries (length t.entries) seen (entry_at a r).lits
takeable_conflict a t r seen h x there =
    (let f = h.all_false x there in inr (record { place = f.place; before = f.within; lit = f.lit }))

pub may_add_conflict : (a : Entries) (t : TrailState) (w : WalkView) (r : ℕ) → IsTrail t → length t.entries < 2 ^ 32
    → length w.stamps ≡ t.vars + 1 → IsStarted w → IsConflict a t r → CanAdd a t w r
may_add_conflict a t w r trail short size started h = record {
  end = length t.entries;
  within = omega arith;
  short = short;
  trail = trail;
  size = size;
  sorted = sorted_start t w (length t.entries) started h.above_root;
  live = h.live;
  low = λ x there. (let f = h.all_false x there in var_low t f.place x trail f.within (var_of_false _ x f.lit));
  takeable = takeable_conflict a t r (is_seen w) h;
}

-- the conflict's clause is what the walk begins with
pub walked_first : (a : Entries) (t : TrailState) (w new : WalkView) (r : ℕ) → IsTrail t → IsStarted w → IsConflict a t r
    → IsAdded a t r w new → IsWalked a t (length t.entries) new
walked_first a t w new r trail started h done =
    let all = length t.entries in
    let sorted = done.sorted all (omega arith) (sorted_start t w all started h.above_root) (takeable_conflict a t r (is_seen w) h) in
    let top = h.at_level in
    let here = top.at_level in
    record {
      within = omega arith;
      sorted = sorted;
      some = omega (
        arith,
        sorted.counted,
        count_has t (is_seen new) all (record {
          place = here.place;
          before = here.within;
          is = and_from _ _ (ap (is_seen new) (var_of_false _ top.literal here.lit) ∙ done.grown.marked top.literal top.member)
              (eq-eqb (assigned_at t.entries here.place).level t.level here.of_level);
        }),
      );
      derives = λ known map.
          subst (λ (hs : List ℕ). Derives known t.entries all (IsLeft t.entries all (is_seen new)) hs)
          (sym (first_hint w.hints new.hints (entry_at a r).id done.hints
          ∙ ap (λ (hs : List ℕ). (entry_at a r).id ∷ reverse hs) started.no_hints))
          (derives_same known t.entries all (Contains (entry_at a r).lits) (IsLeft t.entries all (is_seen new)) ((entry_at a r).id ∷ [])
          (λ x there. (let f = h.all_false x there in record {
            place = f.place;
            before = f.within;
            lit = f.lit;
            met = ap (is_seen new) (var_of_false _ x f.lit) ∙ done.grown.marked x there;
          }))
          (λ x left. ⊎_elim
          (λ (was : is_seen w (assigned_at t.entries left.place).lit.var ≡ true).
          absurd (both_ways (is_seen w (assigned_at t.entries left.place).lit.var)
          (started.unseen (assigned_at t.entries left.place).lit.var) was))
          (λ (new_one : HasVar (entry_at a r).lits (assigned_at t.entries left.place).lit.var).
          left_of_clause t (entry_at a r).lits left.place x trail left.before left.lit new_one (λ y there _. h.all_false y there))
          (done.grown.only (assigned_at t.entries left.place).lit.var left.met))
          (derives_clause known t.entries all (entry_at a r).id (entry_at a r).lits (has_reason a t r known map h.live)));
    }
