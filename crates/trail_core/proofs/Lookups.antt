-- What the tables of a trail say.
use Rattle.std.proofs.Common.{◌≡◌, ◌≢◌, ℕ, zero, suc, ℤ, ◌+◌, ◌-◌, ◌*◌, ◌<◌, ◌≤◌, Bool, false, List, length, get_or, set, pos, refl}
use Rattle.std.proofs.Common.{sym, ap, ◌∙◌, subst, ⊎_elim, arith}
use Rattle.std.proofs.lemmas.List.{get_or_read, get_or-map, length-map, length-set, get_or-set_same, get_or-set_other, ext_get_or}
use Rattle.std.proofs.lemmas.Bool.{cases_lt, cases_eq}
use Rattle.cnf_core.specs.Literals.{Literal, code_of, IsWithin}
use Rattle.trail_core.specs.declared.entry.Assigned.{Assigned}
use Rattle.trail_core.specs.declared.entry.Reason.TheVariants.{Unit as ByUnit}
use Rattle.trail_core.specs.declared.trail.Origin.{Origin}
use Rattle.trail_core.specs.Trails.{no_entry, sign_of, assigned_at, HasVariable, IsFree, IsLeveled, AreValues, TrailState}
use Rattle.trail_core.specs.Trails.{IsTrail, IsFirstFree}
use Rattle.trail_core.specs.Steps.Tables.{sign_at, no_origin, origin_at, laid_entry, laid_entries, IsPlaced, AreMarks, AreTables}
use Rattle.trail_core.specs.Steps.Tables.{IsHeld, state_of}
use Rattle.trail_core.proofs.Literals.{code_le, sign_is_set}

pub code_within : (n : ℕ) (l : Literal) → IsWithin n l → code_of l < 2 * n + 2
code_within n l w = omega (arith, code_le l, w.high)

-- ---- the entries as they lie

-- the literal of an entry
abbrev pub no_literal : Literal
no_literal = no_entry.lit

pub count_laid : (os : List Origin) (ls : List Literal) → length (laid_entries os ls) ≡ length ls
count_laid os ls = length-map ls (laid_entry os)

pub laid_at : (os : List Origin) (ls : List Literal) (k : ℕ) → k < length ls
    → assigned_at (laid_entries os ls) k ≡ laid_entry os (get_or ls k no_literal)
laid_at os ls k within = get_or-map (laid_entry os) ls k no_literal no_entry within

-- a literal that was read
pub lit_read : (os : List Origin) (ls : List Literal) (k : ℕ) (l : Literal) → k < length ls → l ≡ get_or ls k l
    → assigned_at (laid_entries os ls) k ≡ laid_entry os l
lit_read os ls k l within read =
    laid_at os ls k within ∙ ap (λ (m : Literal). laid_entry os m) (sym (get_or_read ls k l within read no_literal))

-- an origin that was read is that of each entry of its variable
pub origin_read : (os : List Origin) (ls : List Literal) (v k : ℕ) (o : Origin) → v < length os → o ≡ get_or os v o
    → k < length ls → (assigned_at (laid_entries os ls) k).lit.var ≡ v
    → ((assigned_at (laid_entries os ls) k).level ≡ o.level) × ((assigned_at (laid_entries os ls) k).reason ≡ o.reason)
    × (o ≡ origin_at os v)
origin_read os ls v k o within read inside is =
    let l = get_or ls k no_literal in
    let at : assigned_at (laid_entries os ls) k ≡ laid_entry os l = laid_at os ls k inside in
    let var : l.var ≡ v = sym (ap (λ (e : Assigned). e.lit.var) at) ∙ is in
    let known : o ≡ origin_at os v = get_or_read os v o within read no_origin in
    let same : origin_at os l.var ≡ o = ap (λ (u : ℕ). origin_at os u) var ∙ sym known in (
      ap (λ (e : Assigned). e.level) at ∙ ap (λ (p : Origin). p.level) same,
      ap (λ (e : Assigned). e.reason) at ∙ ap (λ (p : Origin). p.reason) same,
      known,
    )

-- ---- variables and signs

pub set_of_entry : (n : ℕ) (es : List Assigned) (ss : List ℤ) (v k : ℕ) → AreValues n es ss
    → k < length es → (assigned_at es k).lit.var ≡ v → sign_at ss v ≢ pos 0
set_of_entry n es ss v k vs within is none =
    sign_is_set (assigned_at es k).lit
    (sym (vs.valued k within) ∙ ap (λ (u : ℕ). sign_at ss u) is ∙ none)

-- a variable without a sign is free
pub free_of_unset : (n : ℕ) (es : List Assigned) (ss : List ℤ) (v : ℕ) → AreValues n es ss
    → sign_at ss v ≡ pos 0 → IsFree es v
free_of_unset n es ss v vs none k within is = set_of_entry n es ss v k vs within is none

-- no variable has two entries
pub same_place : (n : ℕ) (es : List Assigned) (os : List Origin) (ss : List ℤ) (j k : ℕ) → IsPlaced n es os ss
    → j < length es → k < length es → (assigned_at es j).lit.var ≡ (assigned_at es k).lit.var → j ≡ k
same_place n es os ss j k p first second same =
    sym (p.placed j first) ∙ ap (λ (v : ℕ). (origin_at os v).place) same ∙ p.placed k second

pub var_within : (n : ℕ) (es : List Assigned) (os : List Origin) (ss : List ℤ) (v : ℕ) → IsPlaced n es os ss
    → HasVariable es v → (0 < v) × (v ≤ n)
var_within n es os ss v p h =
    let w = p.within h.place h.within in
    (omega (arith, w.low, h.var), omega (arith, w.high, h.var))

-- the variable of a literal that was read has an origin
pub var_of_read : (n : ℕ) (os : List Origin) (ls : List Literal) (ss : List ℤ) (k : ℕ) (l : Literal)
    → IsPlaced n (laid_entries os ls) os ss → k < length (laid_entries os ls) → l ≡ get_or ls k l → l.var < length os
var_of_read n os ls ss k l p within read =
    let at : assigned_at (laid_entries os ls) k ≡ laid_entry os l =
    lit_read os ls k l (omega (arith, count_laid os ls)) read in
    omega (arith, p.count, (p.within k within).high, ap (λ (e : Assigned). e.lit.var) at)

-- an entry, from the literal and the origin that were read
pub entry_read : (n : ℕ) (os : List Origin) (ls : List Literal) (ss : List ℤ) (k : ℕ) (l : Literal) (v : ℕ) (o : Origin)
    → IsPlaced n (laid_entries os ls) os ss → k < length (laid_entries os ls) → l ≡ get_or ls k l → v ≡ l.var → o ≡ get_or os v o
    → (let a : Assigned = record { lit = l; level = o.level; reason = o.reason } in a) ≡ assigned_at (laid_entries os ls) k
entry_read n os ls ss k l v o p within read var origin =
    let at : assigned_at (laid_entries os ls) k ≡ laid_entry os l =
    lit_read os ls k l (omega (arith, count_laid os ls)) read in
    let inside : v < length os = omega (arith, var, var_of_read n os ls ss k l p within read) in
    let known : o ≡ origin_at os l.var = get_or_read os v o inside origin no_origin ∙ ap (λ (u : ℕ). origin_at os u) var in
    ap (λ (q : Origin). (let a : Assigned = record { lit = l; level = q.level; reason = q.reason } in a)) known ∙ sym at

-- what holds of every trail
pub trail_is : (n : ℕ) (es : List Assigned) (starts : List ℕ) (gone : ℕ) (os : List Origin) (ts : List Bool) (ss : List ℤ) (f c d : ℕ)
    → IsHeld n es starts gone os ts ss f c d → IsTrail (state_of es starts gone n)
trail_is n es starts gone os ts ss f c d h = record {
  vars_limit = h.vars_limit;
  within = h.tables.placed.within;
  distinct = λ j k first second same. same_place n es os ss j k h.tables.placed first second same;
  leveled = h.leveled;
  gone = h.within;
  few = omega (arith, h.tables.placed.blanks);
}

-- the present level is at most the number of entries
pub deep_at : (es : List Assigned) (level k : ℕ) → IsLeveled es level → k < length es → (assigned_at es k).level ≤ k + 1
deep_at es level zero h within = omega (arith, h.first (omega arith))
deep_at es level (suc k) h within =
    let step : (assigned_at es (k + 1)).level ≤ (assigned_at es k).level + 1 = h.steps k (omega arith) in
    let before = deep_at es level k h (omega arith) in
    let same : suc k ≡ k + 1 = omega arith in
    rw same (omega (arith, step, before))

pub deep : (es : List Assigned) (level : ℕ) → IsLeveled es level → level ≤ length es
deep es level h =
    ⊎_elim
    (λ (some : 0 < length es).
    let top : (assigned_at es (length es - 1)).level ≡ level = h.top (length es - 1) (omega arith) in
    omega (arith, top, deep_at es level (length es - 1) h (omega arith)))
    (λ (none : length es ≤ 0). omega (arith, h.empty (omega arith)))
    (cases_lt 0 (length es))

-- the present level is at most the number of variables
pub few_levels : (n : ℕ) (es : List Assigned) (starts : List ℕ) (gone : ℕ) (os : List Origin) (ts : List Bool) (ss : List ℤ) (f c d : ℕ)
    → IsHeld n es starts gone os ts ss f c d → length starts ≤ n
few_levels n es starts gone os ts ss f c d h =
    omega (arith, deep es (length starts) h.leveled, h.tables.placed.blanks)

-- entries with the same literals and levels, whatever their reasons
pub record AreAlike (es fs : List Assigned) : Type 0 where
  pub count : length fs ≡ length es
  pub lits : (k : ℕ) → (assigned_at fs k).lit ≡ (assigned_at es k).lit
  pub levels : (k : ℕ) → (assigned_at fs k).level ≡ (assigned_at es k).level

has_variable_alike : (es fs : List Assigned) (v : ℕ) → AreAlike es fs → HasVariable es v → HasVariable fs v
has_variable_alike es fs v a h = record {
  place = h.place;
  within = omega (arith, a.count, h.within);
  var = ap (λ (l : Literal). l.var) (a.lits h.place) ∙ h.var;
}

marks_alike : (n : ℕ) (es fs : List Assigned) (ts : List Bool) → AreAlike es fs → AreMarks n es ts → AreMarks n fs ts
marks_alike n es fs ts a m = record {
  count = m.count;
  true_at = λ k lt. ap (λ (l : Literal). get_or ts (code_of l) false) (a.lits k) ∙ m.true_at k (omega (arith, a.count, lt));
  only_true = λ l read.
      let h = m.only_true l read in
      record { place = h.place; within = omega (arith, a.count, h.within); lit = a.lits h.place ∙ h.lit };
}

-- origins with the same places
pub record ArePlacedAlike (os qs : List Origin) : Type 0 where
  pub count : length qs ≡ length os
  pub places : (v : ℕ) → (origin_at qs v).place ≡ (origin_at os v).place

pub held_alike : (n : ℕ) (es fs : List Assigned) (starts : List ℕ) (gone : ℕ) (os qs : List Origin) (ts : List Bool) (ss : List ℤ)
    (free cap level_cap : ℕ) → AreAlike es fs → ArePlacedAlike os qs → IsHeld n es starts gone os ts ss free cap level_cap
    → IsHeld n fs starts gone qs ts ss free cap level_cap
held_alike n es fs starts gone os qs ts ss free cap level_cap a o h =
    let p = h.tables.placed in
    let v = h.tables.values in
    let g = h.leveled in
    let s = h.started in
    let old : (k : ℕ) → k < length fs → k < length es = λ k lt. omega (arith, a.count) in
    record {
      tables = record {
        placed = record {
          within = λ k lt. subst (IsWithin n) (sym (a.lits k)) (p.within k (old k lt));
          count = o.count ∙ p.count;
          placed = λ k lt. ap (λ (l : Literal). (origin_at qs l.var).place) (a.lits k)
              ∙ o.places (assigned_at es k).lit.var ∙ p.placed k (old k lt);
          found = λ u low some. has_variable_alike es fs u a (p.found u low some);
          blanks = omega (arith, a.count, p.blanks);
        };
        marks = marks_alike n es fs ts a h.tables.marks;
        values = record {
          count = v.count;
          valued = λ k lt. ap (λ l. get_or ss (l.var - 1) (pos 0)) (a.lits k) ∙ v.valued k (old k lt) ∙ ap sign_of (sym (a.lits k));
          free = λ u low high none. v.free u low high
              (λ k lt is. none k (omega (arith, a.count, lt)) (ap (λ l. l.var) (a.lits k) ∙ is));
        };
        cursor = h.tables.cursor;
        before = h.tables.before;
      };
      started = record {
        within = λ k lt. omega (arith, a.count, s.within k lt);
        level = λ k lt. a.levels (get_or starts k 0) ∙ s.level k lt;
        below = λ k j lt before. omega (arith, a.levels j, s.below k j lt before);
      };
      leveled = record {
        first = λ some. omega (arith, a.levels 0, g.first (omega (arith, a.count)));
        steps = λ k lt. omega (arith, a.levels k, a.levels (k + 1), g.steps k (omega (arith, a.count)));
        rises = λ j k le lt. omega (arith, a.levels j, a.levels k, g.rises j k le (old k lt));
        top = λ k is. a.levels k ∙ g.top k (is ∙ a.count);
        empty = λ none. g.empty (sym a.count ∙ none);
      };
      within = omega (arith, a.count, h.within);
      room = h.room;
      level_room = h.level_room;
      vars_limit = h.vars_limit;
    }

alike_root : (es : List Assigned) (k : ℕ) (y : Assigned) → k < length es → y.lit ≡ (assigned_at es k).lit
    → y.level ≡ (assigned_at es k).level → AreAlike es (set es k y)
alike_root es k y within lit level =
    let same : (F : Assigned → Assigned → Type 0) → F y (assigned_at es k) → ((j : ℕ) → F (assigned_at es j) (assigned_at es j))
    → (j : ℕ) → F (assigned_at (set es k y) j) (assigned_at es j) =
    λ F here others j. ⊎_elim
    (λ (at : j ≡ k). subst (λ z. F (assigned_at (set es k y) z) (assigned_at es z)) (sym at)
    (subst (λ z. F z (assigned_at es k)) (sym (get_or-set_same es k y no_entry within)) here))
    (λ (ne : j ≢ k). subst (λ z. F z (assigned_at es j)) (sym (get_or-set_other es k j y no_entry ne)) (others j))
    (cases_eq j k) in
    record {
      count = length-set es k y;
      lits = same (λ a b. a.lit ≡ b.lit) lit (λ j. refl);
      levels = same (λ a b. a.level ≡ b.level) level (λ j. refl);
    }

-- an origin with another reason is set: one entry has that reason
laid_root : (n : ℕ) (os : List Origin) (ls : List Literal) (ss : List ℤ) (v k id : ℕ) → IsPlaced n (laid_entries os ls) os ss
    → k < length ls → (assigned_at (laid_entries os ls) k).lit.var ≡ v
    → laid_entries (set os v (record (origin_at os v) { reason = ByUnit id })) ls
    ≡ set (laid_entries os ls) k (record (assigned_at (laid_entries os ls) k) { reason = ByUnit id })
laid_root n os ls ss v k id p within is =
    let es = laid_entries os ls in
    let o : Origin = record (origin_at os v) { reason = ByUnit id } in
    let a : Assigned = record (assigned_at es k) { reason = ByUnit id } in
    let qs = set os v o in
    let size : length es ≡ length ls = count_laid os ls in
    let in_os : v < length os =
    omega (arith, p.count, (p.within k (omega (arith, size))).high, is) in
    let each : (j : ℕ) → j < length ls → laid_entry qs (get_or ls j no_literal) ≡ assigned_at (set es k a) j =
    λ j lt.
    let l = get_or ls j no_literal in
    let at : assigned_at es j ≡ laid_entry os l = laid_at os ls j lt in
    ⊎_elim
    (λ (here : j ≡ k).
    let var : l.var ≡ v = sym (ap (λ (e : Assigned). e.lit.var) at) ∙ ap (λ (m : ℕ). (assigned_at es m).lit.var) here ∙ is in
    let new : origin_at qs l.var ≡ o = ap (λ (u : ℕ). origin_at qs u) var ∙ get_or-set_same os v o no_origin in_os in
    let known : assigned_at es k ≡ laid_entry os l = ap (λ (m : ℕ). assigned_at es m) (sym here) ∙ at in
    let read : assigned_at (set es k a) j ≡ a =
    ap (λ (m : ℕ). assigned_at (set es k a) m) here ∙ get_or-set_same es k a no_entry (omega (arith, size)) in
    let was : origin_at os l.var ≡ origin_at os v = ap (λ (u : ℕ). origin_at os u) var in
    ap (λ (q : Origin). (let e : Assigned = record { lit = l; level = q.level; reason = q.reason } in e)) new
    ∙ ap (λ (q : Origin). (let e : Assigned = record { lit = l; level = q.level; reason = ByUnit id } in e)) (sym was)
    ∙ ap (λ (e : Assigned). record e { reason = ByUnit id }) (sym known)
    ∙ sym read)
    (λ (ne : j ≢ k).
    let apart : l.var ≢ v =
    λ e. ne (same_place n es os ss j k p (omega (arith, size)) (omega (arith, size))
    (ap (λ (x : Assigned). x.lit.var) at ∙ e ∙ sym is)) in
    let old : origin_at qs l.var ≡ origin_at os l.var = get_or-set_other os v l.var o no_origin apart in
    ap (λ (q : Origin). (let e : Assigned = record { lit = l; level = q.level; reason = q.reason } in e)) old
    ∙ sym at ∙ sym (get_or-set_other es k j a no_entry ne))
    (cases_eq j k) in
    ext_get_or no_entry (laid_entries qs ls) (set es k a)
    (count_laid qs ls ∙ sym size ∙ sym (length-set es k a))
    (λ j lt. laid_at qs ls j (omega (arith, count_laid qs ls)) ∙ each j (omega (arith, count_laid qs ls)))

placed_root : (os : List Origin) (v : ℕ) (o : Origin) → o.place ≡ (origin_at os v).place → v < length os → ArePlacedAlike os (set os v o)
placed_root os v o place within = record {
  count = length-set os v o;
  places = λ u. ⊎_elim
      (λ (at : u ≡ v). subst (λ (z : ℕ). (origin_at (set os v o) z).place ≡ (origin_at os z).place) (sym at)
      (ap (λ (q : Origin). q.place) (get_or-set_same os v o no_origin within) ∙ place))
      (λ (ne : u ≢ v). ap (λ (q : Origin). q.place) (get_or-set_other os v u o no_origin ne))
      (cases_eq u v);
}

-- the trail with the reason of one entry set
pub record IsRooted (n : ℕ) (os : List Origin) (ls : List Literal) (starts : List ℕ) (gone : ℕ) (ts : List Bool) (ss : List ℤ)
    (free cap level_cap v id : ℕ) (qs : List Origin) : Type 0 where
  pub held : IsHeld n (laid_entries qs ls) starts gone qs ts ss free cap level_cap
  pub entries : (k : ℕ) → k < length (laid_entries os ls) → (assigned_at (laid_entries os ls) k).lit.var ≡ v
      → laid_entries qs ls ≡ set (laid_entries os ls) k (record (assigned_at (laid_entries os ls) k) { reason = ByUnit id })

pub rooted : (n : ℕ) (os : List Origin) (ls : List Literal) (starts : List ℕ) (gone : ℕ) (ts : List Bool) (ss : List ℤ)
    (free cap level_cap v id : ℕ) (x o : Origin) → IsHeld n (laid_entries os ls) starts gone os ts ss free cap level_cap
    → HasVariable (laid_entries os ls) v → x ≡ get_or os v x → o ≡ record x { reason = ByUnit id }
    → IsRooted n os ls starts gone ts ss free cap level_cap v id (set os v o)
rooted n os ls starts gone ts ss free cap level_cap v id x o h has read new =
    let es = laid_entries os ls in
    let p = h.tables.placed in
    let size : length es ≡ length ls = count_laid os ls in
    let within : v < length os = omega (arith, p.count, (var_within n es os ss v p has).1) in
    let y : Origin = record (origin_at os v) { reason = ByUnit id } in
    let is : o ≡ y = new ∙ ap (λ (q : Origin). record q { reason = ByUnit id }) (get_or_read os v x within read no_origin) in
    let entries : (k : ℕ) → k < length es → (assigned_at es k).lit.var ≡ v
    → laid_entries (set os v y) ls ≡ set es k (record (assigned_at es k) { reason = ByUnit id }) =
    λ k lt var. laid_root n os ls ss v k id p (omega (arith, size)) var in
    let k = has.place in
    let a : Assigned = record (assigned_at es k) { reason = ByUnit id } in
    let held : IsHeld n (set es k a) starts gone (set os v y) ts ss free cap level_cap =
    held_alike n es (set es k a) starts gone os (set os v y) ts ss free cap level_cap
    (alike_root es k a has.within refl refl) (placed_root os v y refl within) h in
    subst (λ (z : Origin). IsRooted n os ls starts gone ts ss free cap level_cap v id (set os v z)) (sym is)
    (record {
      held = subst (λ (fs : List Assigned). IsHeld n fs starts gone (set os v y) ts ss free cap level_cap)
          (sym (entries k has.within has.var)) held;
      entries = entries;
    })

-- the least variable without a sign is the first free one
pub first_free_is : (t : TrailState) (os : List Origin) (ts : List Bool) (ss : List ℤ) (f v : ℕ) → AreTables t.vars t.entries os ts ss f
    → f ≤ v → v ≤ t.vars → sign_at ss v ≡ pos 0 → ((u : ℕ) → f ≤ u → u < v → sign_at ss u ≢ pos 0) → IsFirstFree t v
first_free_is t os ts ss f v h from within none passed = record {
  within = (omega (arith, h.cursor.0), within);
  free = free_of_unset t.vars t.entries ss v h.values none;
  below = λ u some lt. h.placed.found u some
      (⊎_elim (λ (before : u < f). h.before u some before) (λ (past : f ≤ u). passed u past lt) (cases_lt u f));
}

pub none_free : (n : ℕ) (es : List Assigned) (os : List Origin) (ts : List Bool) (ss : List ℤ) (f v : ℕ) → AreTables n es os ts ss f
    → n < v → ((u : ℕ) → f ≤ u → u < v → sign_at ss u ≢ pos 0) → (u : ℕ) → 0 < u → u ≤ n → HasVariable es u
none_free n es os ts ss f v h past passed u some within =
    h.placed.found u some
    (⊎_elim (λ (before : u < f). h.before u some before) (λ (after : f ≤ u). passed u after (omega arith)) (cases_lt u f))
