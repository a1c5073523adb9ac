-- A trail without its last entry still fits its tables.
use Rattle.std.proofs.Common.{◌≡◌, ◌≢◌, ℕ, ℤ, pos, ◌+◌, ◌-◌, ◌<◌, ◌≤◌, Bool, false, min, List, length, get_or, set, take, sym, ap, ◌∙◌}
use Rattle.std.proofs.Common.{subst, ⊎_elim, arith}
use Rattle.std.proofs.lemmas.List.{length-set, get_or-set_same, get_or-set_other, get_or-take, length-take-le}
use Rattle.std.proofs.lemmas.List.Sums.{sum_by-set}
use Rattle.std.proofs.lemmas.Bool.{cases_lt, cases_eq, true≢false}
use Rattle.cnf_core.specs.Literals.{Literal, code_of, IsWithin}
use Rattle.trail_core.specs.declared.entry.Assigned.{Assigned}
use Rattle.trail_core.specs.declared.trail.Origin.{Origin}
use Rattle.trail_core.specs.Trails.{no_entry, assigned_at, HasLiteral, HasVariable, IsFree, AreValues, sign_of}
use Rattle.trail_core.specs.Steps.Tables.{sign_at, origin_at, laid_entries, unset, IsPlaced, AreMarks, AreTables}
use Rattle.trail_core.proofs.Literals.{same_code, unset_of_sign}
use Rattle.trail_core.proofs.Lookups.{code_within, count_laid, lit_read, same_place}

-- es ends with the literal l at the place m
pub record EndsAt (es : List Assigned) (l : Literal) (m : ℕ) : Type 0 where
  pub last : m + 1 ≡ length es
  pub lit : (assigned_at es m).lit ≡ l

-- the last literal was read
pub ends_at : (os : List Origin) (ls : List Literal) (count : ℕ) (l : Literal) → count ≡ length ls → 0 < count
    → l ≡ get_or ls (count - 1) l → EndsAt (laid_entries os ls) l (count - 1)
ends_at os ls count l is some read = record {
  last = omega (arith, count_laid os ls);
  lit = ap (λ (e : Assigned). e.lit) (lit_read os ls (count - 1) l (omega arith) read);
}

at_front : (es : List Assigned) (m k : ℕ) → k < m → assigned_at (take m es) k ≡ assigned_at es k
at_front es m k lt = get_or-take m es k no_entry lt

length_front : (es : List Assigned) (l : Literal) (m : ℕ) → EndsAt es l m → length (take m es) ≡ m
length_front es l m ends = length-take-le m es (omega (arith, ends.last))

-- no earlier entry has the last one's variable
apart : (n : ℕ) (es : List Assigned) (os : List Origin) (ss : List ℤ) (l : Literal) (m k : ℕ) → IsPlaced n es os ss
    → EndsAt es l m → k < m → (assigned_at es k).lit.var ≢ l.var
apart n es os ss l m k p ends lt is =
    let e : k ≡ m = same_place n es os ss k m p (omega (arith, ends.last)) (omega (arith, ends.last))
    (is ∙ sym (ap (λ (z : Literal). z.var) ends.lit)) in
    omega (arith, e)

placed_less : (n : ℕ) (es : List Assigned) (os : List Origin) (ss : List ℤ) (l : Literal) (m : ℕ) → IsPlaced n es os ss
    → AreValues n es ss → EndsAt es l m → IsPlaced n (take m es) os (set ss (l.var - 1) (pos 0))
placed_less n es os ss l m p vs ends =
    let i = l.var - 1 in
    let es' = take m es in
    let ss' = set ss i (pos 0) in
    let size : length es' ≡ m = length_front es l m ends in
    let here : m < length es = omega (arith, ends.last) in
    let w : IsWithin n l = subst (IsWithin n) ends.lit (p.within m here) in
    let in_ss : i < length ss = omega (arith, vs.count, w.low, w.high) in
    record {
      within = λ k lt. subst (λ e. IsWithin n e.lit) (sym (at_front es m k (omega (arith, size)))) (p.within k (omega (arith, size, here)));
      count = p.count;
      placed = λ k lt. ap (λ (e : Assigned). (origin_at os e.lit.var).place) (at_front es m k (omega (arith, size)))
          ∙ p.placed k (omega (arith, size, here));
      found = λ u low some. ⊎_elim
          (λ (at : u ≡ l.var).
          absurd (some (ap (λ (z : ℕ). sign_at ss' z) at ∙ get_or-set_same ss i (pos 0) (pos 0) in_ss)))
          (λ (ne : u ≢ l.var).
          let same : sign_at ss' u ≡ sign_at ss u =
          get_or-set_other ss i (u - 1) (pos 0) (pos 0) (λ e. ne (omega (arith, e, low, w.low))) in
          let h = p.found u low (λ none. some (same ∙ none)) in
          let not_last : h.place ≢ m =
          λ e. ne (sym h.var ∙ ap (λ (z : ℕ). (assigned_at es z).lit.var) e ∙ ap (λ (z : Literal). z.var) ends.lit) in
          let lt : h.place < m = omega (arith, h.within, ends.last, not_last) in
          let g : HasVariable es' u = record {
            place = h.place;
            within = omega (arith, size, lt);
            var = ap (λ (e : Assigned). e.lit.var) (at_front es m h.place lt) ∙ h.var;
          } in g)
          (cases_eq u l.var);
      blanks =
          let change = sum_by-set unset ss i (pos 0) (pos 0) in_ss in
          let sign : sign_at ss l.var ≡ sign_of l = ap (λ (z : Literal). sign_at ss z.var) (sym ends.lit) ∙ vs.valued m here
          ∙ ap (λ (z : Literal). sign_of z) ends.lit in
          let none : unset (sign_at ss l.var) ≡ 0 = ap unset sign ∙ unset_of_sign l in
          omega (arith, change, none, size, p.blanks, ends.last);
    }

values_less : (n : ℕ) (es : List Assigned) (os : List Origin) (ss : List ℤ) (l : Literal) (m : ℕ)
    → AreValues n es ss → IsPlaced n es os ss → EndsAt es l m → AreValues n (take m es) (set ss (l.var - 1) (pos 0))
values_less n es os ss l m vs p ends =
    let i = l.var - 1 in
    let ss' = set ss i (pos 0) in
    let es' = take m es in
    let size : length es' ≡ m = length_front es l m ends in
    let here : m < length es = omega (arith, ends.last) in
    let w : IsWithin n l = subst (IsWithin n) ends.lit (p.within m here) in
    let in_ss : i < length ss = omega (arith, vs.count, w.low, w.high) in
    record {
      count = length-set ss i (pos 0) ∙ vs.count;
      valued = λ k lt.
          let before : k < m = omega (arith, size) in
          let ne : (assigned_at es k).lit.var - 1 ≢ i =
          λ e. apart n es os ss l m k p ends before (omega (arith, e, (p.within k (omega arith)).low, w.low)) in
          ap (λ e. get_or ss' (e.lit.var - 1) (pos 0)) (at_front es m k before)
          ∙ get_or-set_other ss i ((assigned_at es k).lit.var - 1) (pos 0) (pos 0) ne ∙ vs.valued k (omega arith)
          ∙ ap (λ e. sign_of e.lit) (sym (at_front es m k before));
      free = λ v low high none. ⊎_elim
          (λ (at : v ≡ l.var). ap (λ z. get_or ss' (z - 1) (pos 0)) at ∙ get_or-set_same ss i (pos 0) (pos 0) in_ss)
          (λ (ne : v ≢ l.var).
          let was : IsFree es v = λ k lt is. ⊎_elim
          (λ (before : k < m). none k (omega (arith, size)) (ap (λ e. e.lit.var) (at_front es m k before) ∙ is))
          (λ (past : m ≤ k).
          let at : k ≡ m = omega (arith, ends.last) in
          ne (sym is ∙ ap (λ z. (assigned_at es z).lit.var) at ∙ ap (λ z. z.var) ends.lit))
          (cases_lt k m) in
          get_or-set_other ss i (v - 1) (pos 0) (pos 0) (λ e. ne (omega (arith, e, low, w.low))) ∙ vs.free v low high was)
          (cases_eq v l.var);
    }

marks_less : (n : ℕ) (es : List Assigned) (os : List Origin) (ts : List Bool) (ss : List ℤ) (l : Literal) (m : ℕ)
    → IsPlaced n es os ss → AreMarks n es ts → EndsAt es l m → AreMarks n (take m es) (set ts (code_of l) false)
marks_less n es os ts ss l m p marks ends =
    let c = code_of l in
    let es' = take m es in
    let ts' = set ts c false in
    let size : length es' ≡ m = length_front es l m ends in
    let here : m < length es = omega (arith, ends.last) in
    let w : IsWithin n l = subst (IsWithin n) ends.lit (p.within m here) in
    let in_ts : c < length ts = omega (arith, marks.count, code_within n l w) in
    record {
      count = length-set ts c false ∙ marks.count;
      true_at = λ k lt.
          let before : k < m = omega (arith, size) in
          let ne : code_of (assigned_at es k).lit ≢ c =
          λ same. apart n es os ss l m k p ends before (ap (λ (z : Literal). z.var) (same_code (assigned_at es k).lit l same)) in
          ap (λ (e : Assigned). get_or ts' (code_of e.lit) false) (at_front es m k before)
          ∙ get_or-set_other ts c (code_of (assigned_at es k).lit) false false ne ∙ marks.true_at k (omega (arith, size, here));
      only_true = λ k read. ⊎_elim
          (λ (at : code_of k ≡ c).
          absurd (true≢false (sym read ∙ ap (λ (z : ℕ). get_or ts' z false) at ∙ get_or-set_same ts c false false in_ts)))
          (λ (ne : code_of k ≢ c).
          let h = marks.only_true k (sym (get_or-set_other ts c (code_of k) false false ne) ∙ read) in
          let not_last : h.place ≢ m =
          λ e. ne (ap code_of (sym h.lit ∙ ap (λ (z : ℕ). (assigned_at es z).lit) e ∙ ends.lit)) in
          let lt : h.place < m = omega (arith, h.within, ends.last, not_last) in
          let g : HasLiteral es' k = record {
            place = h.place;
            within = omega (arith, size, lt);
            lit = ap (λ (e : Assigned). e.lit) (at_front es m h.place lt) ∙ h.lit;
          } in g)
          (cases_eq (code_of k) c);
    }

-- the tables without the last entry
pub tables_less : (n : ℕ) (es : List Assigned) (os : List Origin) (ts : List Bool) (ss : List ℤ) (free : ℕ) (l : Literal) (m : ℕ)
    → AreTables n es os ts ss free → EndsAt es l m
    → AreTables n (take m es) os (set ts (code_of l) false) (set ss (l.var - 1) (pos 0)) (min free l.var)
tables_less n es os ts ss free l m h ends =
    let w : IsWithin n l = subst (IsWithin n) ends.lit (h.placed.within m (omega (arith, ends.last))) in
    record {
      placed = placed_less n es os ss l m h.placed h.values ends;
      marks = marks_less n es os ts ss l m h.placed h.marks ends;
      values = values_less n es os ss l m h.values h.placed ends;
      cursor = (omega (arith, h.cursor.0, w.low), omega (arith, h.cursor.1));
      before = λ u some lt none.
          let ne : u - 1 ≢ l.var - 1 = λ e. omega arith in
          h.before u some (omega arith) (sym (get_or-set_other ss (l.var - 1) (u - 1) (pos 0) (pos 0) ne) ∙ none);
    }
