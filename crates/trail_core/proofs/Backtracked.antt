-- The entries of the levels above one are taken away.
use Rattle.std.proofs.Common.{◌≡◌, ℕ, ℤ, pos, ◌+◌, ◌-◌, ◌<◌, ◌≤◌, Bool, false, min, List, length, get_or, set, take, refl, sym, ap, ◌∙◌}
use Rattle.std.proofs.Common.{subst, ⊎_elim, arith}
use Rattle.std.proofs.lemmas.List.{get_or-take, length-take-le, take-take, take-map, take_all}
use Rattle.std.proofs.lemmas.Bool.{cases_lt}
use Rattle.cnf_core.specs.Literals.{Literal, code_of, IsWithin}
use Rattle.trail_core.specs.declared.entry.Assigned.{Assigned}
use Rattle.trail_core.specs.declared.trail.Origin.{Origin}
use Rattle.trail_core.specs.Trails.{no_entry, assigned_at, IsLeveled, TrailState, IsBacktracked}
use Rattle.trail_core.specs.Steps.Tables.{laid_entry, laid_entries, AreTables, AreStarts, IsHeld, state_of}
use Rattle.trail_core.proofs.Lookups.{code_within}
use Rattle.trail_core.proofs.Pushed.{level_at_most}
use Rattle.trail_core.proofs.Popped.{EndsAt, tables_less}

-- the first entries of a trail, at least so many, with tables that fit them
pub record IsCutting (n : ℕ) (es : List Assigned) (start : ℕ) (fs : List Assigned) (os : List Origin) (ts : List Bool) (ss : List ℤ)
    (free : ℕ) : Type 0 where
  pub fits : length fs ≤ length es
  pub front : fs ≡ take (length fs) es
  pub low : start ≤ length fs
  pub tables : AreTables n fs os ts ss free

pub cutting_begins : (n : ℕ) (es : List Assigned) (start : ℕ) (os : List Origin) (ts : List Bool) (ss : List ℤ) (free : ℕ)
    → AreTables n es os ts ss free → start ≤ length es → IsCutting n es start es os ts ss free
cutting_begins n es start os ts ss free h low = record {
  fits = omega arith;
  front = sym (take_all (length es) es (omega arith));
  low = low;
  tables = h;
}

-- one entry less
pub cutting_goes_on : (n : ℕ) (es : List Assigned) (start : ℕ) (os : List Origin) (ls : List Literal) (ts : List Bool) (ss : List ℤ)
    (free : ℕ) (l : Literal) (m : ℕ) → IsCutting n es start (laid_entries os ls) os ts ss free → EndsAt (laid_entries os ls) l m
    → start ≤ m → IsCutting n es start (laid_entries os (take m ls)) os (set ts (code_of l) false) (set ss (l.var - 1) (pos 0))
    (min free l.var)
cutting_goes_on n es start os ls ts ss free l m h ends low =
    let fs = laid_entries os ls in
    let size : length (take m fs) ≡ m = length-take-le m fs (omega (arith, ends.last)) in
    let fewer : m ≤ length fs = omega (arith, ends.last) in
    subst (λ (gs : List Assigned). IsCutting n es start gs os (set ts (code_of l) false) (set ss (l.var - 1) (pos 0)) (min free l.var))
    (take-map (laid_entry os) m ls)
    (record {
      fits = omega (arith, size, h.fits);
      front = ap (take m) h.front ∙ take-take m (length fs) es fewer ∙ ap (λ k. take k es) (sym size);
      low = omega (arith, size);
      tables = tables_less n fs os ts ss free l m h.tables ends;
    })

-- the entry that a level starts with, and those before it
pub record IsStart (es : List Assigned) (starts : List ℕ) (level start : ℕ) : Type 0 where
  pub open_level : level < length starts
  pub is : start ≡ get_or starts level 0

leveled_cut : (es : List Assigned) (starts : List ℕ) (level start : ℕ) → IsLeveled es (length starts) → AreStarts es starts
    → IsStart es starts level start → IsLeveled (take start es) level
leveled_cut es starts level start h s at =
    let es' = take start es in
    let lt = at.open_level in
    let here : start < length es = omega (arith, at.is, s.within level lt) in
    let size : length es' ≡ start = length-take-le start es (omega arith) in
    let first : (assigned_at es start).level ≡ level + 1 = ap (λ k. (assigned_at es k).level) at.is ∙ s.level level lt in
    let old : (k : ℕ) → k < start → (assigned_at es' k).level ≡ (assigned_at es k).level =
    λ k before. ap (λ e. e.level) (get_or-take start es k no_entry before) in
    record {
      first = λ some. omega (arith, old 0 (omega arith), h.first (omega arith));
      steps = λ k before. omega (arith, old k (omega arith), old (k + 1) (omega arith), h.steps k (omega arith));
      rises = λ j k le before. omega (arith, old j (omega arith), old k (omega arith), h.rises j k le (omega arith));
      top = λ k last.
          let before : k < start = omega arith in
          let next : (assigned_at es (k + 1)).level ≡ level + 1 =
          ap (λ m. (assigned_at es m).level) (let e : k + 1 ≡ start = omega arith in e) ∙ first in
          omega (arith, old k before, next, h.steps k (omega arith), s.below level k lt (omega (arith, at.is)));
      empty = λ none.
          let zeroth : (assigned_at es 0).level ≡ level + 1 =
          ap (λ m. (assigned_at es m).level) (let e : 0 ≡ start = omega arith in e) ∙ first in
          omega (arith, zeroth, h.first (omega arith));
    }

starts_cut : (es : List Assigned) (starts : List ℕ) (level start : ℕ) → IsLeveled es (length starts) → AreStarts es starts
    → IsStart es starts level start → AreStarts (take start es) (take level starts)
starts_cut es starts level start h s at =
    let es' = take start es in
    let starts' = take level starts in
    let lt = at.open_level in
    let here : start < length es = omega (arith, at.is, s.within level lt) in
    let size : length es' ≡ start = length-take-le start es (omega arith) in
    let count : length starts' ≡ level = length-take-le level starts (omega arith) in
    let first : (assigned_at es start).level ≡ level + 1 = ap (λ k. (assigned_at es k).level) at.is ∙ s.level level lt in
    let old : (j : ℕ) → j < start → (assigned_at es' j).level ≡ (assigned_at es j).level =
    λ j before. ap (λ e. e.level) (get_or-take start es j no_entry before) in
    let same : (k : ℕ) → k < level → get_or starts' k 0 ≡ get_or starts k 0 = λ k before. get_or-take level starts k 0 before in
    let lower : (k : ℕ) → k < level → get_or starts k 0 < start = λ k before. ⊎_elim
    (λ (yes : get_or starts k 0 < start). yes)
    (λ (no : start ≤ get_or starts k 0).
    absurd (omega (arith, first, s.level k (omega arith), h.rises start (get_or starts k 0) no (s.within k (omega arith)))))
    (cases_lt (get_or starts k 0) start) in
    record {
      within = λ k before. omega (arith, same k (omega arith), lower k (omega arith));
      level = λ k before.
          let inside : k < level = omega arith in
          ap (λ m. (assigned_at es' m).level) (same k inside) ∙ old (get_or starts k 0) (lower k inside) ∙ s.level k (omega arith);
      below = λ k j before under.
          let inside : k < level = omega arith in
          let low : j < get_or starts k 0 = omega (arith, same k inside) in
          omega (arith, old j (omega (arith, lower k inside)), s.below k j (omega arith) low);
    }

-- nothing to take away
pub backtracked_same : (target : ℕ) (t : TrailState) → IsLeveled t.entries t.level → t.gone ≤ length t.entries → t.level ≡ target
    → IsBacktracked target t t
backtracked_same target t h gone is = record {
  fits = omega arith;
  front = sym (take_all (length t.entries) t.entries (omega arith));
  kept = λ k lt. omega (arith, level_at_most t.entries t.level k h lt);
  removed = λ k past lt. absurd (omega arith);
  gone = omega arith;
  level = is;
  vars = refl;
}

-- all entries from the start of a level on are taken away
pub record IsCut (n : ℕ) (es : List Assigned) (starts : List ℕ) (gone level start : ℕ) (fs : List Assigned) : Type 0 where
  pub entries : fs ≡ take start es
  pub leveled : IsLeveled fs (length (take level starts))
  pub started : AreStarts fs (take level starts)
  pub within : min gone start ≤ length fs
  pub backtracked : IsBacktracked level (state_of es starts gone n) (state_of fs (take level starts) (min gone start) n)

cut_is : (n : ℕ) (es : List Assigned) (starts : List ℕ) (gone level start : ℕ) (fs : List Assigned)
    → IsLeveled es (length starts) → AreStarts es starts → gone ≤ length es → IsStart es starts level start
    → length fs ≤ length es → fs ≡ take (length fs) es → start ≤ length fs → length fs ≤ start
    → IsCut n es starts gone level start fs
cut_is n es starts gone level start fs h s within at fits front low end =
    let lt = at.open_level in
    let size : length fs ≡ start = omega arith in
    let entries : fs ≡ take start es = front ∙ ap (λ k. take k es) size in
    let count : length (take level starts) ≡ level = length-take-le level starts (omega arith) in
    let first : (assigned_at es start).level ≡ level + 1 = ap (λ k. (assigned_at es k).level) at.is ∙ s.level level lt in
    record {
      entries = entries;
      leveled = subst (IsLeveled fs) (sym count)
          (subst (λ gs. IsLeveled gs level) (sym entries) (leveled_cut es starts level start h s at));
      started = subst (λ gs. AreStarts gs (take level starts)) (sym entries) (starts_cut es starts level start h s at);
      within = omega (arith, size);
      backtracked = record {
        fits = fits;
        front = front;
        kept = λ k before. s.below level k lt (omega (arith, size, at.is));
        removed = λ k past inside. omega (arith, first, h.rises start k (omega (arith, size)) inside);
        gone = omega (arith, size);
        level = count;
        vars = refl;
      };
    }

-- the fields fit together again, and say the trail without those entries
pub held_cut : (n : ℕ) (es : List Assigned) (starts : List ℕ) (gone : ℕ) (os : List Origin) (ts : List Bool) (ss : List ℤ)
    (free cap level_cap level start : ℕ) (n' : ℕ) (fs : List Assigned) (starts' : List ℕ) (gone' : ℕ) (os' : List Origin)
    (ts' : List Bool) (ss' : List ℤ) (free' cap' level_cap' : ℕ) → IsHeld n es starts gone os ts ss free cap level_cap
    → IsStart es starts level start → IsCutting n' es start fs os' ts' ss' free' → length fs ≤ start
    → n' ≡ n → starts' ≡ take level starts → gone' ≡ min gone start → cap' ≡ cap → level_cap' ≡ level_cap
    → IsHeld n' fs starts' gone' os' ts' ss' free' cap' level_cap'
    × IsBacktracked level (state_of es starts gone n) (state_of fs starts' gone' n')
held_cut n es starts gone os ts ss free cap level_cap level start n' fs starts' gone' os' ts' ss' free' cap' level_cap' h at c
    end vars cut done room level_room =
    let k = cut_is n es starts gone level start fs h.leveled h.started h.within at c.fits c.front c.low end in (
      record {
        tables = c.tables;
        leveled = rw cut k.leveled;
        started = rw cut k.started;
        within = rw done k.within;
        room = omega (arith, vars, room, h.room);
        level_room = omega (arith, vars, level_room, h.level_room);
        vars_limit = omega (arith, vars, h.vars_limit);
      },
      rw (cut, done, vars) k.backtracked,
    )

-- the tables have places for the last entry's variable
pub record HasRoom (l : Literal) (ts : List Bool) (ss : List ℤ) : Type 0 where
  pub truth : code_of l < length ts
  pub signs : l.var - 1 < length ss

pub room_of : (n : ℕ) (es : List Assigned) (os : List Origin) (ts : List Bool) (ss : List ℤ) (free : ℕ) (l : Literal) (m : ℕ)
    → AreTables n es os ts ss free → EndsAt es l m → HasRoom l ts ss
room_of n es os ts ss free l m h ends =
    let w : IsWithin n l = subst (IsWithin n) ends.lit (h.placed.within m (omega (arith, ends.last))) in record {
      truth = omega (arith, h.marks.count, code_within n l w);
      signs = omega (arith, h.values.count, w.low, w.high);
    }
