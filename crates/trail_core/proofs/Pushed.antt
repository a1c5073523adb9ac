-- A trail with one entry more still fits its tables.
use Rattle.std.proofs.Common.{◌≡◌, ◌≢◌, ℕ, ℤ, pos, ◌+◌, ◌-◌, ◌<◌, ◌≤◌, Bool, true, false, nat_lt, if◌then◌else◌, List, [], ◌∷◌}
use Rattle.std.proofs.Common.{◌++◌, length, get_or, set, refl, sym, ap, ◌∙◌, subst, ⊎_elim, arith}
use Rattle.std.specs.List.{sum_by}
use Rattle.std.proofs.lemmas.List.{length-set, get_or-set_same, get_or-set_other, get_or_append_left, get_or_push, length_push, map_push}
use Rattle.std.proofs.lemmas.List.{ext_get_or}
use Rattle.std.proofs.lemmas.List.Sums.{sum_by-set, get_or-le-sum_by}
use Rattle.std.proofs.lemmas.Bool.{cases_lt, cases_eq}
use Rattle.cnf_core.specs.Literals.{Literal, code_of, IsWithin}
use Rattle.trail_core.specs.declared.entry.Assigned.{Assigned}
use Rattle.trail_core.specs.declared.trail.Origin.{Origin}
use Rattle.trail_core.specs.Trails.{no_entry, assigned_at, HasLiteral, HasVariable, IsFree, IsLeveled, AreValues, sign_of}
use Rattle.trail_core.specs.Trails.{TrailState, with_entry}
use Rattle.trail_core.specs.Steps.Tables.{sign_at, no_origin, origin_at, laid_entry, laid_entries, unset, IsPlaced, AreMarks, AreTables}
use Rattle.trail_core.specs.Steps.Tables.{AreStarts, IsHeld, opened, state_of}
use Rattle.trail_core.proofs.Literals.{same_code, sign_is_set, unset_of_sign}
use Rattle.trail_core.proofs.Lookups.{no_literal, code_within, count_laid, laid_at, deep}

at_old : (es : List Assigned) (a : Assigned) (k : ℕ) → k < length es → assigned_at (es ++ a ∷ []) k ≡ assigned_at es k
at_old es a k within = get_or_append_left es (a ∷ []) no_entry k within

at_new : (es : List Assigned) (a : Assigned) (k : ℕ) → k ≡ length es → assigned_at (es ++ a ∷ []) k ≡ a
at_new es a k is = get_or_push es a no_entry k (sym is)

-- a fact of each entry of the longer trail, by those of the old ones and of the new one
each : (P : ℕ → Assigned → Type 0) (es : List Assigned) (a : Assigned)
    → ((k : ℕ) → k < length es → P k (assigned_at es k)) → P (length es) a
    → (k : ℕ) → k < length (es ++ a ∷ []) → P k (assigned_at (es ++ a ∷ []) k)
each P es a old new k within =
    ⊎_elim
    (λ (before : k < length es). subst (P k) (sym (at_old es a k before)) (old k before))
    (λ (past : length es ≤ k).
    let at : k ≡ length es = omega (arith, length_push es a) in
    subst (P k) (sym (at_new es a k at)) (subst (λ n. P n a) (sym at) new))
    (cases_lt k (length es))

-- there is room for the entry of a free variable
room_left : (n : ℕ) (es : List Assigned) (os : List Origin) (ss : List ℤ) (v : ℕ) → IsPlaced n es os ss → AreValues n es ss
    → 0 < v → v ≤ n → IsFree es v → length es < n
room_left n es os ss v p vs low high free =
    let none : unset (sign_at ss v) ≡ 1 = ap unset (vs.free v low high free) in
    let some : unset (sign_at ss v) ≤ sum_by unset ss = get_or-le-sum_by unset ss (v - 1) (pos 0) (omega (arith, vs.count)) in
    omega (arith, p.blanks)

-- the entries as they lie, with one more
pub laid_push : (os : List Origin) (ls : List Literal) (v : ℕ) (o : Origin) (l : Literal) → v < length os → l.var ≡ v
    → IsFree (laid_entries os ls) v → laid_entries (set os v o) (ls ++ l ∷ [])
    ≡ laid_entries os ls ++ record { lit = l; level = o.level; reason = o.reason } ∷ []
laid_push os ls v o l within is free =
    let qs = set os v o in
    let old : laid_entries qs ls ≡ laid_entries os ls =
    ext_get_or no_entry (laid_entries qs ls) (laid_entries os ls) (count_laid qs ls ∙ sym (count_laid os ls))
    (λ j lt.
    let inside : j < length ls = omega (arith, count_laid qs ls) in
    let m = get_or ls j no_literal in
    let at : assigned_at (laid_entries os ls) j ≡ laid_entry os m = laid_at os ls j inside in
    let apart : m.var ≢ v =
    λ e. free j (omega (arith, count_laid os ls)) (ap (λ (x : Assigned). x.lit.var) at ∙ e) in
    laid_at qs ls j inside
    ∙ ap (λ (q : Origin). (let e : Assigned = record { lit = m; level = q.level; reason = q.reason } in e))
    (get_or-set_other os v m.var o no_origin apart)
    ∙ sym at) in
    let new : origin_at qs l.var ≡ o = ap (λ (u : ℕ). origin_at qs u) is ∙ get_or-set_same os v o no_origin within in
    map_push (laid_entry qs) ls l
    ∙ ap (λ (es : List Assigned). es ++ laid_entry qs l ∷ []) old
    ∙ ap (λ (q : Origin). laid_entries os ls ++ record { lit = l; level = q.level; reason = q.reason } ∷ []) new

placed_more : (n : ℕ) (es : List Assigned) (os : List Origin) (ss : List ℤ) (a : Assigned) (o : Origin) → IsPlaced n es os ss
    → AreValues n es ss → IsWithin n a.lit → IsFree es a.lit.var → o.place ≡ length es
    → IsPlaced n (es ++ a ∷ []) (set os a.lit.var o) (set ss (a.lit.var - 1) (sign_of a.lit))
placed_more n es os ss a o p vs w free is =
    let v = a.lit.var in
    let i = v - 1 in
    let x = sign_of a.lit in
    let es' = es ++ a ∷ [] in
    let os' = set os v o in
    let ss' = set ss i x in
    let size : length es' ≡ length es + 1 = length_push es a in
    let in_os : v < length os = omega (arith, p.count, w.high) in
    let in_ss : i < length ss = omega (arith, vs.count, w.low, w.high) in
    record {
      within = each (λ k e. IsWithin n e.lit) es a p.within w;
      count = length-set os v o ∙ p.count;
      placed = each (λ k e. (origin_at os' e.lit.var).place ≡ k) es a
          (λ k within. ap (λ (q : Origin). q.place) (get_or-set_other os v (assigned_at es k).lit.var o no_origin (free k within))
          ∙ p.placed k within)
          (ap (λ (q : Origin). q.place) (get_or-set_same os v o no_origin in_os) ∙ is);
      found = λ u low some. ⊎_elim
          (λ (at : u ≡ v).
          let h : HasVariable es' u = record {
            place = length es;
            within = omega (arith, size);
            var = ap (λ (e : Assigned). e.lit.var) (at_new es a (length es) refl) ∙ sym at;
          } in h)
          (λ (ne : u ≢ v).
          let same : sign_at ss' u ≡ sign_at ss u =
          get_or-set_other ss i (u - 1) x (pos 0) (λ e. ne (omega (arith, e, low, w.low))) in
          let h = p.found u low (λ none. some (same ∙ none)) in
          let g : HasVariable es' u = record {
            place = h.place;
            within = omega (arith, size, h.within);
            var = ap (λ (e : Assigned). e.lit.var) (at_old es a h.place h.within) ∙ h.var;
          } in g)
          (cases_eq u v);
      blanks =
          let change = sum_by-set unset ss i x (pos 0) in_ss in
          let was : unset (sign_at ss v) ≡ 1 = ap unset (vs.free v w.low w.high free) in
          omega (arith, change, was, unset_of_sign a.lit, size, p.blanks);
    }

pub values_more : (n : ℕ) (es : List Assigned) (ss : List ℤ) (a : Assigned) → AreValues n es ss
    → ((k : ℕ) → k < length es → IsWithin n (assigned_at es k).lit)
    → IsWithin n a.lit → IsFree es a.lit.var → AreValues n (es ++ a ∷ []) (set ss (a.lit.var - 1) (sign_of a.lit))
values_more n es ss a vs within w free =
    let i = a.lit.var - 1 in
    let x = sign_of a.lit in
    let ss' = set ss i x in
    let es' = es ++ a ∷ [] in
    let size : length es' ≡ length es + 1 = length_push es a in
    let in_ss : i < length ss = omega (arith, vs.count, w.low, w.high) in
    record {
      count = length-set ss i x ∙ vs.count;
      valued = each (λ k e. get_or ss' (e.lit.var - 1) (pos 0) ≡ sign_of e.lit) es a
          (λ k lt.
          let ne : (assigned_at es k).lit.var - 1 ≢ i = λ e. free k lt (omega (arith, e, (within k lt).low, w.low)) in
          get_or-set_other ss i ((assigned_at es k).lit.var - 1) x (pos 0) ne ∙ vs.valued k lt)
          (get_or-set_same ss i x (pos 0) in_ss);
      free = λ v low high none.
          let apart : a.lit.var ≢ v =
          λ e. none (length es) (omega (arith, size)) (ap (λ z. z.lit.var) (at_new es a (length es) refl) ∙ e) in
          let ne : v - 1 ≢ i = λ e. apart (omega (arith, e, low, w.low)) in
          let was : IsFree es v =
          λ k lt is. none k (omega (arith, size, lt)) (ap (λ z. z.lit.var) (at_old es a k lt) ∙ is) in
          get_or-set_other ss i (v - 1) x (pos 0) ne ∙ vs.free v low high was;
    }

pub leveled_more : (es : List Assigned) (a : Assigned) (level : ℕ) → IsLeveled es level → level ≤ a.level
    → a.level ≤ level + 1 → IsLeveled (es ++ a ∷ []) a.level
leveled_more es a level h low high =
    let es' = es ++ a ∷ [] in
    let size : length es' ≡ length es + 1 = length_push es a in
    let old : (k : ℕ) → k < length es → (assigned_at es' k).level ≡ (assigned_at es k).level =
    λ k lt. ap (λ e. e.level) (at_old es a k lt) in
    let new : (k : ℕ) → k ≡ length es → (assigned_at es' k).level ≡ a.level =
    λ k is. ap (λ e. e.level) (at_new es a k is) in
    record {
      first = λ some. ⊎_elim
          (λ (was : 0 < length es). omega (arith, old 0 was, h.first was))
          (λ (none : length es ≤ 0). omega (arith, new 0 (omega arith), h.empty (omega arith), high))
          (cases_lt 0 (length es));
      steps = λ k lt. ⊎_elim
          (λ (was : k + 1 < length es). omega (arith, old k (omega arith), old (k + 1) was, h.steps k was))
          (λ (last : length es ≤ k + 1).
          omega (arith, old k (omega arith), new (k + 1) (omega arith), h.top k (omega arith), high))
          (cases_lt (k + 1) (length es));
      rises = λ j k le lt. ⊎_elim
          (λ (was : k < length es). omega (arith, old j (omega arith), old k was, h.rises j k le was))
          (λ (last : length es ≤ k).
          ⊎_elim
          (λ (before : j < length es).
          omega (
            arith,
            old j before,
            new k (omega arith),
            h.rises j (length es - 1) (omega arith) (omega arith),
            h.top (length es - 1) (omega arith),
            low,
          ))
          (λ (same : length es ≤ j). omega (arith, new j (omega arith), new k (omega arith)))
          (cases_lt j (length es)))
          (cases_lt k (length es));
      top = λ k is. new k (omega arith);
      empty = λ none. absurd (omega arith);
    }

still_true : (ts : List Bool) (c d : ℕ) → c < length ts → get_or ts d false ≡ true → get_or (set ts c true) d false ≡ true
still_true ts c d within was =
    ⊎_elim
    (λ (at : d ≡ c). ap (λ n. get_or (set ts c true) n false) at ∙ get_or-set_same ts c true false within)
    (λ (other : d ≢ c). get_or-set_other ts c d true false other ∙ was)
    (cases_eq d c)

marks_more : (n : ℕ) (es : List Assigned) (ts : List Bool) (a : Assigned) → AreMarks n es ts → IsWithin n a.lit
    → AreMarks n (es ++ a ∷ []) (set ts (code_of a.lit) true)
marks_more n es ts a m w =
    let c = code_of a.lit in
    let ts' = set ts c true in
    let es' = es ++ a ∷ [] in
    let in_ts : c < length ts = omega (arith, m.count, code_within n a.lit w) in
    record {
      count = length-set ts c true ∙ m.count;
      true_at = each (λ k e. get_or ts' (code_of e.lit) false ≡ true) es a
          (λ k within. still_true ts c (code_of (assigned_at es k).lit) in_ts (m.true_at k within))
          (get_or-set_same ts c true false in_ts);
      only_true = λ l read. ⊎_elim
          (λ (at : code_of l ≡ c).
          let h : HasLiteral es' l = record {
            place = length es;
            within = omega (arith, length_push es a);
            lit = ap (λ (e : Assigned). e.lit) (at_new es a (length es) refl) ∙ sym (same_code l a.lit at);
          } in h)
          (λ (ne : code_of l ≢ c).
          let h = m.only_true l (sym (get_or-set_other ts c (code_of l) true false ne) ∙ read) in
          let g : HasLiteral es' l = record {
            place = h.place;
            within = omega (arith, length_push es a, h.within);
            lit = ap (λ (e : Assigned). e.lit) (at_old es a h.place h.within) ∙ h.lit;
          } in g)
          (cases_eq (code_of l) c);
    }

tables_more : (n : ℕ) (es : List Assigned) (os : List Origin) (ts : List Bool) (ss : List ℤ) (free : ℕ) (a : Assigned) (o : Origin)
    → AreTables n es os ts ss free → IsWithin n a.lit → IsFree es a.lit.var → o.place ≡ length es
    → AreTables n (es ++ a ∷ []) (set os a.lit.var o) (set ts (code_of a.lit) true) (set ss (a.lit.var - 1) (sign_of a.lit)) free
tables_more n es os ts ss free a o h w none is = record {
  placed = placed_more n es os ss a o h.placed h.values w none is;
  marks = marks_more n es ts a h.marks w;
  values = values_more n es ss a h.values h.placed.within w none;
  cursor = h.cursor;
  before = λ u some lt. ⊎_elim
      (λ (at : u ≡ a.lit.var).
      let read : sign_at (set ss (a.lit.var - 1) (sign_of a.lit)) u ≡ sign_of a.lit =
      ap (λ (z : ℕ). sign_at (set ss (a.lit.var - 1) (sign_of a.lit)) z) at
      ∙ get_or-set_same ss (a.lit.var - 1) (sign_of a.lit) (pos 0) (omega (arith, h.values.count, w.low, w.high)) in
      λ none. sign_is_set a.lit (sym read ∙ none))
      (λ (ne : u ≢ a.lit.var).
      let same : sign_at (set ss (a.lit.var - 1) (sign_of a.lit)) u ≡ sign_at ss u =
      get_or-set_other ss (a.lit.var - 1) (u - 1) (sign_of a.lit) (pos 0) (λ e. ne (omega (arith, e, some, w.low))) in
      λ none. h.before u some lt (sym same ∙ none))
      (cases_eq u a.lit.var);
}

-- the level of every entry is at most the present one
pub level_at_most : (es : List Assigned) (level k : ℕ) → IsLeveled es level → k < length es → (assigned_at es k).level ≤ level
level_at_most es level k h lt = omega (arith, h.rises k (length es - 1) (omega arith) (omega arith), h.top (length es - 1) (omega arith))

starts_more : (es : List Assigned) (starts : List ℕ) (a : Assigned) → AreStarts es starts → AreStarts (es ++ a ∷ []) starts
starts_more es starts a h = record {
  within = λ k lt. omega (arith, length_push es a, h.within k lt);
  level = λ k lt. ap (λ e. e.level) (at_old es a (get_or starts k 0) (h.within k lt)) ∙ h.level k lt;
  below = λ k j lt before.
      let old : (assigned_at (es ++ a ∷ []) j).level ≡ (assigned_at es j).level =
      ap (λ e. e.level) (at_old es a j (omega (arith, before, h.within k lt))) in
      omega (arith, old, h.below k j lt before);
}

-- the entry is the first of a new level
starts_opened : (es : List Assigned) (starts : List ℕ) (a : Assigned) → AreStarts es starts → IsLeveled es (length starts)
    → a.level ≡ length starts + 1 → AreStarts (es ++ a ∷ []) (starts ++ length es ∷ [])
starts_opened es starts a h leveled is =
    let es' = es ++ a ∷ [] in
    let starts' = starts ++ length es ∷ [] in
    let more = starts_more es starts a h in
    let old : (k : ℕ) → k < length starts → get_or starts' k 0 ≡ get_or starts k 0 =
    λ k lt. get_or_append_left starts (length es ∷ []) 0 k lt in
    let new : (k : ℕ) → k ≡ length starts → get_or starts' k 0 ≡ length es =
    λ k at. get_or_push starts (length es) 0 k (sym at) in
    let size : length starts' ≡ length starts + 1 = length_push starts (length es) in
    let entries : length es' ≡ length es + 1 = length_push es a in
    record {
      within = λ k lt. ⊎_elim
          (λ (before : k < length starts). omega (arith, old k before, more.within k before))
          (λ (past : length starts ≤ k). omega (arith, new k (omega arith)))
          (cases_lt k (length starts));
      level = λ k lt. ⊎_elim
          (λ (before : k < length starts). ap (λ m. (assigned_at es' m).level) (old k before) ∙ more.level k before)
          (λ (past : length starts ≤ k).
          let at : k ≡ length starts = omega arith in
          ap (λ m. (assigned_at es' m).level) (new k at) ∙ ap (λ e. e.level) (at_new es a (length es) refl) ∙ is
          ∙ ap (λ m. m + 1) (sym at))
          (cases_lt k (length starts));
      below = λ k j lt under. ⊎_elim
          (λ (before : k < length starts). more.below k j before (omega (arith, old k before, under)))
          (λ (past : length starts ≤ k).
          let at : k ≡ length starts = omega arith in
          let inside : j < length es = omega (arith, new k at, under) in
          let same : (assigned_at es' j).level ≡ (assigned_at es j).level = ap (λ e. e.level) (at_old es a j inside) in
          omega (arith, same, level_at_most es (length starts) j leveled inside))
          (cases_lt k (length starts));
    }

-- the starts after an entry of this level, which is the present or the next one
opened_cases : (starts : List ℕ) (level start : ℕ) (A : List ℕ → Type 0) → length starts ≤ level → level ≤ length starts + 1
    → (level ≡ length starts → A starts) → (level ≡ length starts + 1 → A (starts ++ start ∷ [])) → A (opened starts level start)
opened_cases starts level start A low high same next =
    ⊎_elim
    (λ (lt : length starts < level).
    let e : nat_lt (length starts) level ≡ true = grind arith in
    subst (λ (b : Bool). A (if b then starts ++ start ∷ [] else starts)) (sym e) (next (omega arith)))
    (λ (past : level ≤ length starts).
    let e : nat_lt (length starts) level ≡ false = grind arith in
    subst (λ (b : Bool). A (if b then starts ++ start ∷ [] else starts)) (sym e) (same (omega arith)))
    (cases_lt (length starts) level)

-- the trail has one entry more
pub record IsPut (es : List Assigned) (starts : List ℕ) (a : Assigned) : Type 0 where
  pub leveled : IsLeveled (es ++ a ∷ []) (length (opened starts a.level (length es)))
  pub started : AreStarts (es ++ a ∷ []) (opened starts a.level (length es))

put_is : (es : List Assigned) (starts : List ℕ) (a : Assigned) → IsLeveled es (length starts) → AreStarts es starts
    → length starts ≤ a.level → a.level ≤ length starts + 1 → IsPut es starts a
put_is es starts a h s low high =
    let leveled = leveled_more es a (length starts) h low high in
    let both : IsLeveled (es ++ a ∷ []) (length (opened starts a.level (length es)))
    × AreStarts (es ++ a ∷ []) (opened starts a.level (length es)) =
    opened_cases starts a.level (length es) (λ (ss : List ℕ). IsLeveled (es ++ a ∷ []) (length ss) × AreStarts (es ++ a ∷ []) ss) low high
    (λ same. (subst (IsLeveled (es ++ a ∷ [])) same leveled, starts_more es starts a s))
    (λ next. (
      subst (IsLeveled (es ++ a ∷ [])) (next ∙ sym (length_push starts (length es))) leveled,
      starts_opened es starts a s h next,
    )) in
    record { leveled = both.0; started = both.1 }

held_more : (n : ℕ) (es : List Assigned) (starts : List ℕ) (gone : ℕ) (os : List Origin) (ts : List Bool) (ss : List ℤ)
    (free cap level_cap : ℕ) (a : Assigned) (o : Origin) → IsHeld n es starts gone os ts ss free cap level_cap
    → IsWithin n a.lit → IsFree es a.lit.var → length starts ≤ a.level → a.level ≤ length starts + 1 → o.place ≡ length es
    → IsHeld n (es ++ a ∷ []) (opened starts a.level (length es)) gone (set os a.lit.var o) (set ts (code_of a.lit) true)
    (set ss (a.lit.var - 1) (sign_of a.lit)) free cap level_cap
held_more n es starts gone os ts ss free cap level_cap a o h w none low high is =
    let put = put_is es starts a h.leveled h.started low high in record {
      tables = tables_more n es os ts ss free a o h.tables w none is;
      leveled = put.leveled;
      started = put.started;
      within = omega (arith, h.within, length_push es a);
      room = h.room;
      level_room = h.level_room;
      vars_limit = h.vars_limit;
    }

-- the present level after it
level_put : (starts : List ℕ) (level start : ℕ) → length starts ≤ level → level ≤ length starts + 1
    → length (opened starts level start) ≡ level
level_put starts level start low high =
    opened_cases starts level start (λ (ss : List ℕ). length ss ≡ level) low high (λ same. sym same)
    (λ next. length_push starts start ∙ sym next)

-- what a literal that is put behind has to meet
pub record CanPut (n : ℕ) (es : List Assigned) (starts : List ℕ) (l : Literal) (level : ℕ) : Type 0 where
  pub within : IsWithin n l
  pub free : IsFree es l.var
  pub low : length starts ≤ level
  pub high : level ≤ length starts + 1

pub can_put : (n : ℕ) (es : List Assigned) (starts : List ℕ) (gone : ℕ) (l : Literal) (level : ℕ) (t : TrailState)
    → state_of es starts gone n ≡ t → IsWithin t.vars l → IsFree t.entries l.var → (t.level ≤ level) × (level ≤ t.level + 1)
    → CanPut n es starts l level
can_put n es starts gone l level t is within free levels = record {
  within = subst (λ (u : TrailState). IsWithin u.vars l) (sym is) within;
  free = subst (λ (u : TrailState). IsFree u.entries l.var) (sym is) free;
  low = subst (λ (u : TrailState). u.level ≤ level) (sym is) levels.0;
  high = subst (λ (u : TrailState). level ≤ u.level + 1) (sym is) levels.1;
}

-- there is room for it
pub room_to_put : (n : ℕ) (os : List Origin) (ls : List Literal) (starts : List ℕ) (gone : ℕ) (ts : List Bool) (ss : List ℤ)
    (free cap level_cap : ℕ) (l : Literal) (level : ℕ) → IsHeld n (laid_entries os ls) starts gone os ts ss free cap level_cap
    → CanPut n (laid_entries os ls) starts l level → (length ls < cap) × (length starts < level_cap)
room_to_put n os ls starts gone ts ss free cap level_cap l level h can =
    let es = laid_entries os ls in
    let left : length es < n = room_left n es os ss l.var h.tables.placed h.tables.values can.within.low can.within.high can.free in (
      omega (arith, left, count_laid os ls, h.room),
      omega (arith, left, deep es (length starts) h.leveled, h.level_room),
    )

-- the same, from what the calls say of the fields
pub held_put : (n : ℕ) (os : List Origin) (ls : List Literal) (starts : List ℕ) (gone : ℕ) (ts : List Bool) (ss : List ℤ)
    (free cap level_cap : ℕ) (l : Literal) (o : Origin) (v c : ℕ) (x : ℤ) (ls' : List Literal) (starts' : List ℕ) (cap' level_cap' : ℕ)
    → IsHeld n (laid_entries os ls) starts gone os ts ss free cap level_cap → CanPut n (laid_entries os ls) starts l o.level
    → o.place ≡ length ls → ls' ≡ ls ++ l ∷ [] → starts' ≡ opened starts o.level o.place
    → v ≡ l.var → c ≡ code_of l → x ≡ sign_of l → cap' ≡ cap → level_cap' ≡ level_cap
    → IsHeld n (laid_entries (set os v o) ls') starts' gone (set os v o) (set ts c true) (set ss (v - 1) x) free cap' level_cap'
    × (state_of (laid_entries (set os v o) ls') starts' gone n
    ≡ with_entry (state_of (laid_entries os ls) starts gone n) l o.level o.reason)
held_put n os ls starts gone ts ss free cap level_cap l o v c x ls' starts' cap' level_cap' h can place lits opens var code sign
    room level_room =
    let es = laid_entries os ls in
    let a : Assigned = record { lit = l; level = o.level; reason = o.reason } in
    let at : o.place ≡ length es = place ∙ sym (count_laid os ls) in
    let within : l.var < length os = omega (arith, h.tables.placed.count, can.within.high) in
    let laid : laid_entries (set os l.var o) (ls ++ l ∷ []) ≡ es ++ a ∷ [] = laid_push os ls l.var o l within refl can.free in
    let held : IsHeld n (es ++ a ∷ []) (opened starts o.level (length es)) gone (set os l.var o) (set ts (code_of l) true)
    (set ss (l.var - 1) (sign_of l)) free cap level_cap =
    held_more n es starts gone os ts ss free cap level_cap a o h can.within can.free can.low can.high at in
    let levels : length (opened starts o.level (length es)) ≡ o.level = level_put starts o.level (length es) can.low can.high in
    let view : state_of (laid_entries (set os l.var o) (ls ++ l ∷ [])) (opened starts o.level (length es)) gone n
    ≡ with_entry (state_of es starts gone n) l o.level o.reason =
    ap (λ (fs : List Assigned). state_of fs (opened starts o.level (length es)) gone n) laid
    ∙ ap (λ (level : ℕ). (let t : TrailState = record { entries = es ++ a ∷ []; gone = gone; level = level; vars = n } in t)) levels in
    rw (lits, opens ∙ ap (λ (start : ℕ). opened starts o.level start) at, var, code, sign, room, level_room) (
      subst (λ (fs : List Assigned). IsHeld n fs (opened starts o.level (length es)) gone (set os l.var o)
          (set ts (code_of l) true) (set ss (l.var - 1) (sign_of l)) free cap level_cap) (sym laid) held,
      view,
    )
