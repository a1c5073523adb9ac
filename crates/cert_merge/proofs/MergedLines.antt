-- The lines of merged logs are accepted one after another.
use Rattle.std.proofs.Common.{◌≡◌, ℕ, zero, suc, ◌+◌, ◌-◌, ◌<◌, ◌≤◌, IsTrue, not, List, [], ◌∷◌, ◌++◌, length, map, take, get_or, Option, Some, Contains, inl, inr, refl, sym, ap, ◌∙◌, subst, arith}
use Rattle.std.specs.Prelude.{All, flat_map, slice_get}
use Rattle.std.proofs.lemmas.Bool.{cases_lt, cases_eq, cases_Bool, eq-eqb, ne_eqb, le-leb, lt-leb}
use Rattle.std.proofs.lemmas.List.{map-id, length-map, length-take-le, take-map, get_or-map, get_or-take, get_or_default}
use Rattle.std.proofs.lemmas.List.Elements.{All-contains, All-map, All-weaker, All-contains_itself, Contains-append_right}
use Rattle.cnf_core.specs.Literals.{Literal, Literals, IsWithin}
use Rattle.cnf_core.specs.Formulas.{Cnf}
use Rattle.lrat_lines.specs.declared.line.Line.{Line}
use Rattle.lrat_lines.specs.declared.line.Line.TheVariants.{Add}
use Rattle.lrat_lines.specs.Sets.{IsSameSet}
use Rattle.lrat_lines.specs.Propagation.{Known, IsRup, IsSameKnown}
use Rattle.lrat_lines.specs.Prefixes.{EachAfter}
use Rattle.lrat_lines.specs.Proofs.{numbered, added}
use Rattle.lrat_lines.specs.Tidy.{clause_of, next_id, IsHint, IsLineAfter}
use Rattle.lrat_lines.proofs.SameSets.{same_set_itself}
use Rattle.lrat_lines.proofs.Renumbered.{hints_are_carried}
use Rattle.lrat_log.specs.Entries.{Entry, Recorded, no_entry, is_import, known_after, id_after}
use Rattle.lrat_log.specs.Kept.{IsLog}
use Rattle.cert_merge.specs.declared.place.Place.{Place}
use Rattle.cert_merge.specs.Merging.{log_at, entry_in, literal_in, IsPlace, GivesLine, IsBefore, IsMergedOrder, IsUnitOf, IsFirstUnitOf, AreIds, merged_id, line_of, IsMerged, HasLines, ReachesAll, AreImportsShown}
use Rattle.cert_merge.proofs.Places.{may_stand, not_before_itself, not_both_before, before_then, log_kept, import_literals, unit_gives_line, before_in_log, order_cases}

-- hints that follow

-- hints show a clause by other ids that lead to the same clauses
pub rup_followed : (known there : Known) (number : ℕ → ℕ) (hints : List ℕ) (c : Literals)
    → ((h : ℕ) → Contains hints h → (d : Literals) → known h ≡ Some d → there (number h) ≡ Some d)
    → IsRup known hints c → IsRup there (map number hints) c
rup_followed known there number hints c leads shown =
    hints_are_carried known there number (λ (l : Literal). l) hints c c
    (record { apart = λ k l is. is; negates = λ l. refl })
    (λ h here d is.
    subst (λ (o : Option Literals). IsSameKnown (Some (map (λ (l : Literal). l) d)) o) (sym (leads h here d is))
    (subst (λ (e : Literals). IsSameKnown (Some e) (Some d)) (sym (map-id d)) (same_set_itself d)))
    (subst (λ (d : Literals). IsSameSet d c) (sym (map-id c)) (same_set_itself c))
    shown

-- clauses by their places

get_left : (xs ys : List Literals) (i : ℕ) → i < length xs → slice_get (xs ++ ys) i ≡ slice_get xs i
get_left [] ys i within = absurd (omega arith)
get_left (x ∷ xs) ys zero within = refl
get_left (x ∷ xs) ys (suc i) within = get_left xs ys i (omega arith)

get_right : (xs ys : List Literals) (i : ℕ) → length xs ≤ i → slice_get (xs ++ ys) i ≡ slice_get ys (i - length xs)
get_right [] ys i past = ap (slice_get ys) (let e : i ≡ i - 0 = omega arith in e)
get_right (x ∷ xs) ys zero past = absurd (omega arith)
get_right (x ∷ xs) ys (suc i) past =
    get_right xs ys i (omega arith) ∙ ap (slice_get ys) (let e : i - length xs ≡ suc i - suc (length xs) = omega arith in e)

get_at : (xs : List Literals) (i : ℕ) (d : Literals) → i < length xs → slice_get xs i ≡ Some (get_or xs i d)
get_at [] i d within = absurd (omega arith)
get_at (x ∷ xs) zero d within = refl
get_at (x ∷ xs) (suc i) d within = get_at xs i d (omega arith)

-- a clause of the formula has the same id whatever follows
pub known_input : (inputs xs ys : List Literals) (id : ℕ) → id ≤ length inputs → numbered (inputs ++ xs) id ≡ numbered (inputs ++ ys) id
known_input inputs xs ys id low = elim (cases_eq id 0) [
  | inl none ↦ rw (eq-eqb id 0 none) refl
  | inr some ↦ rw (ne_eqb id 0 some)
      (get_left inputs xs (id - 1) (omega arith) ∙ sym (get_left inputs ys (id - 1) (omega arith)))
]

-- what follows is known by its place behind them
pub known_line : (inputs xs : List Literals) (id k : ℕ) (d : Literals) → id ≡ length inputs + 1 + k → k < length xs
    → numbered (inputs ++ xs) id ≡ Some (get_or xs k d)
known_line inputs xs id k d is within =
    rw (ne_eqb id 0 (λ e. omega arith))
    (get_right inputs xs (id - 1) (omega arith)
    ∙ ap (slice_get xs) (let e : id - 1 - length inputs ≡ k = omega arith in e) ∙ get_at xs k d within)

-- sources

-- where an entry's clause stands in the merged order: the entry itself, or the first unit of an import
record HasLine (logs : List Recorded) (id_of : Place → ℕ) (q : Place) : Type 0 where
  source : Place
  place : IsPlace logs source
  gives_line : GivesLine logs source
  same_id : id_of q ≡ id_of source
  same_literals : (entry_in logs q).literals ≡ (entry_in logs source).literals
  before : (r : Place) → IsBefore logs q r → IsBefore logs source r

-- the first unit of a literal stands before all that a unit of it stands before
first_before : (logs : List Recorded) (l : Literal) (first unit r : Place) → IsFirstUnitOf logs l first → IsUnitOf logs l unit
    → IsBefore logs unit r → IsBefore logs first r
first_before logs l first unit r is_first is_unit before = elim (order_cases logs first unit) [
  | inl earlier ↦ before_then logs first unit r earlier before
  | inr others ↦ elim others [
    | inl same ↦ subst (λ (x : Place). IsBefore logs x r) (sym same) before
    | inr later ↦ absurd (is_first.first unit is_unit later)
  ]
]

line_for : (F : Cnf) (logs : List Recorded) (order : List Place) (id_of : Place → ℕ) → All IsLog logs → All (λ (L : Recorded). L.formula ≡ F) logs
    → AreImportsShown logs → AreIds F logs order id_of → (q : Place) → IsPlace logs q → HasLine logs id_of q
line_for F logs order id_of kept of shown are_ids q place = elim (cases_Bool (is_import (entry_in logs q).kind)) [
  | inl import ↦
      (let ids = are_ids.imports q place import in
      let by_unit = shown q place import in
      record {
        source = ids.unit;
        place = ids.is_first.is_unit.place;
        gives_line = unit_gives_line logs ids.unit ids.is_first.is_unit.kind;
        same_id = ids.same;
        same_literals = import_literals F logs q kept of place import ∙ sym ids.is_first.is_unit.literals;
        before = λ r after. first_before logs (literal_in logs q) ids.unit by_unit.unit r ids.is_first by_unit.is_unit
            (before_then logs by_unit.unit q r by_unit.before after);
      })
  | inr line ↦ record {
    source = q;
    place = place;
    gives_line = ap not line;
    same_id = refl;
    same_literals = refl;
    before = λ r after. after;
  }
]

-- the clauses of the lines

abbrev pub literals_of : List Recorded → Place → Literals
literals_of logs p = (entry_in logs p).literals

added_lines : (F : Cnf) (logs : List Recorded) (id_of : Place → ℕ) (order : List Place)
    → flat_map added (map (line_of F logs id_of) order) ≡ map (literals_of logs) order
added_lines F logs id_of [] = refl
added_lines F logs id_of (p ∷ order) = ap (λ (cs : List Literals). literals_of logs p ∷ cs) (added_lines F logs id_of order)

-- what a hint of an entry leads to: a clause of the formula, or the line of an entry before it
record IsFollowed (F : Cnf) (logs : List Recorded) (order : List Place) (id_of : Place → ℕ) (k : ℕ) (p : Place) (h : ℕ) : Type 0 where
  low : 0 < merged_id F id_of p.log h
  high : merged_id F id_of p.log h < length F.clauses + 1 + k
  leads : (d : Literals) → known_after F (take p.entry (log_at logs p.log).entries) h ≡ Some d
      → numbered (F.clauses ++ map (literals_of logs) (take k order)) (merged_id F id_of p.log h) ≡ Some d

pub some_same : (c d : Literals) (o : Option Literals) → o ≡ Some c → o ≡ Some d → c ≡ d
some_same c d o first second = cc

-- a place of the order that stands before the one at k
place_before : (logs : List Recorded) (order : List Place) (k : ℕ) (p s : Place) → IsMergedOrder logs order → k < length order
    → p ≡ get_or order k p → IsBefore logs s p → (m : ℕ) → m < length order → get_or order m s ≡ s → m < k
place_before logs order k p s is_order within is before m below at_m = elim (cases_lt m k) [
  | inl less ↦ less
  | inr not_less ↦ elim (cases_eq m k) [
    | inl same ↦
        (let same_place : p ≡ s =
        is ∙ get_or_default order k p s within ∙ ap (λ (i : ℕ). get_or order i s) (sym same) ∙ at_m in
        absurd (not_before_itself logs p (subst (λ (x : Place). IsBefore logs x p) (sym same_place) before)))
    | inr other ↦
        (let after : IsBefore logs (get_or order k s) (get_or order m s) = is_order.rises k m s (omega arith) below in
        let after_p : IsBefore logs p s =
        subst (λ (x : Place). IsBefore logs x s) (sym (is ∙ get_or_default order k p s within))
        (subst (λ (x : Place). IsBefore logs (get_or order k s) x) at_m after) in
        absurd (not_both_before logs s p before after_p))
  ]
]

hint_followed : (F : Cnf) (logs : List Recorded) (order : List Place) (id_of : Place → ℕ) → All IsLog logs
    → All (λ (L : Recorded). L.formula ≡ F) logs → AreImportsShown logs → IsMergedOrder logs order → AreIds F logs order id_of
    → (k : ℕ) (p : Place) → k < length order → IsPlace logs p → p ≡ get_or order k p → (h : ℕ)
    → IsHint (id_after F (take p.entry (log_at logs p.log).entries)) h → IsFollowed F logs order id_of k p h
hint_followed F logs order id_of kept of shown is_order are_ids k p within place is h hint = elim (cases_lt (length F.clauses) h) [
  | inr low ↦
      (let same : merged_id F id_of p.log h ≡ h = rw (le-leb h (length F.clauses) low) refl in
      record {
        low = omega (arith, hint.low);
        high = omega arith;
        leads = λ d known. ap (numbered (F.clauses ++ map (literals_of logs) (take k order))) same
            ∙ known_input F.clauses (map (literals_of logs) (take k order))
            (map (λ (e : Entry). e.literals) (take p.entry (log_at logs p.log).entries)) h low ∙ known;
      })
  | inl high ↦ entry_followed high
]
  where
    es : List Entry
    es = (log_at logs p.log).entries

    entry_followed : length F.clauses < h → IsFollowed F logs order id_of k p h
    entry_followed high =
        let j : ℕ = h - (length F.clauses + 1) in
        let q : Place = record { log = p.log; entry = j } in
        let below : j < p.entry = omega (arith, hint.high, length-take-le p.entry es (omega (arith, place.within))) in
        let q_place : IsPlace logs q = record { log_within = place.log_within; within = omega (arith, place.within) } in
        let line = line_for F logs order id_of kept of shown are_ids q q_place in
        let s = line.source in
        let before : IsBefore logs s p = line.before p (before_in_log logs q p (log_kept logs p kept place) place refl below) in
        let there = is_order.all s line.place line.gives_line in
        let m = there.0 in
        let earlier : m < k = place_before logs order k p s is_order within is before m there.1 there.2 in
        let id : merged_id F id_of p.log h ≡ length F.clauses + 1 + m =
        rw (lt-leb h (length F.clauses) high) (line.same_id ∙ ap id_of (sym there.2) ∙ are_ids.lines m s there.1) in
        let size : length (take p.entry es) ≡ p.entry = length-take-le p.entry es (omega (arith, place.within)) in
        let order_size : length (take k order) ≡ k = length-take-le k order (omega arith) in
        record {
          low = omega arith;
          high = omega arith;
          leads = λ d known.
              let old : known_after F (take p.entry es) h ≡ Some (get_or (map (λ (e : Entry). e.literals) (take p.entry es)) j d) =
              known_line F.clauses (map (λ (e : Entry). e.literals) (take p.entry es)) h j d (omega arith)
              (omega (arith, length-map (take p.entry es) (λ (e : Entry). e.literals))) in
              let old_is : get_or (map (λ (e : Entry). e.literals) (take p.entry es)) j d ≡ literals_of logs q =
              get_or-map (λ (e : Entry). e.literals) (take p.entry es) j no_entry d (omega arith)
              ∙ ap (λ (e : Entry). e.literals) (get_or-take p.entry es j no_entry below) in
              let new : numbered (F.clauses ++ map (literals_of logs) (take k order)) (merged_id F id_of p.log h)
              ≡ Some (get_or (map (literals_of logs) (take k order)) m d) =
              known_line F.clauses (map (literals_of logs) (take k order)) (merged_id F id_of p.log h) m d id
              (omega (arith, length-map (take k order) (literals_of logs))) in
              let new_is : get_or (map (literals_of logs) (take k order)) m d ≡ literals_of logs s =
              get_or-map (literals_of logs) (take k order) m s d (omega arith)
              ∙ ap (literals_of logs) (get_or-take k order m s earlier ∙ there.2) in
              new ∙ ap Some (new_is ∙ sym line.same_literals ∙ sym old_is ∙ sym (some_same d (get_or (map (λ (e : Entry). e.literals) (take p.entry es)) j d)
              (known_after F (take p.entry es) h) known old));
        }

-- the lines

line_after : (F : Cnf) (logs : List Recorded) (order : List Place) (id_of : Place → ℕ) → All IsLog logs
    → All (λ (L : Recorded). L.formula ≡ F) logs → AreImportsShown logs → IsMergedOrder logs order → AreIds F logs order id_of
    → (k : ℕ) (p : Place) → k < length order → p ≡ get_or order k p
    → IsLineAfter F (map (line_of F logs id_of) (take k order)) (line_of F logs id_of p)
line_after F logs order id_of kept of shown is_order are_ids k p within is =
    let place : IsPlace logs p = subst (IsPlace logs) (sym is) (is_order.places k p within) in
    let owes = may_stand F logs p kept of place in
    let line : IsTrue (not (is_import (entry_in logs p).kind)) = subst (GivesLine logs) (sym is) (is_order.give_lines k p within) in
    let hints = (entry_in logs p).hints in
    let before : List Line = map (line_of F logs id_of) (take k order) in
    let size : length before ≡ k = length-map (take k order) (line_of F logs id_of) ∙ length-take-le k order (omega arith) in
    let id : id_of p ≡ next_id F before = ap id_of is ∙ are_ids.lines k p within ∙ ap (λ (n : ℕ). length F.clauses + 1 + n) (sym size) in
    let follows : (h : ℕ) → Contains hints h → IsFollowed F logs order id_of k p h = λ h here.
    hint_followed F logs order id_of kept of shown is_order are_ids k p within place is h
    (All-contains (IsHint (id_after F (take p.entry (log_at logs p.log).entries))) hints h owes.hints_before here) in
    record {
      tidy = record {
        addition = ap (λ (n : ℕ). Add n (literals_of logs p) (map (merged_id F id_of p.log) hints)) id;
        hints_before = All-map (IsHint (next_id F before)) (merged_id F id_of p.log) hints
            (All-weaker (Contains hints) (λ (h : ℕ). IsHint (next_id F before) (merged_id F id_of p.log h))
            (λ h here. record { low = (follows h here).low; high = omega (arith, (follows h here).high) })
            hints (All-contains_itself hints));
      };
      within = All-weaker (IsWithin F.vars) (λ (l : Literal). l.var ≤ F.vars) (λ l inside. inside.high) (literals_of logs p) (owes.within line);
      shown = subst (λ (cs : List Literals). IsRup (numbered (F.clauses ++ cs)) (map (merged_id F id_of p.log) hints) (literals_of logs p))
          (sym (added_lines F logs id_of (take k order)))
          (rup_followed (known_after F (take p.entry (log_at logs p.log).entries))
          (numbered (F.clauses ++ map (literals_of logs) (take k order))) (merged_id F id_of p.log) hints (literals_of logs p)
          (λ h here. (follows h here).leads) (owes.proved line));
    }

pub lines_after : (F : Cnf) (logs : List Recorded) (order : List Place) (id_of : Place → ℕ) → All IsLog logs
    → All (λ (L : Recorded). L.formula ≡ F) logs → AreImportsShown logs → IsMergedOrder logs order → AreIds F logs order id_of
    → EachAfter (IsLineAfter F) (map (line_of F logs id_of) order)
lines_after F logs order id_of kept of shown is_order are_ids k d below =
    let within : k < length order = omega (arith, length-map order (line_of F logs id_of)) in
    let nowhere : Place = record { log = 0; entry = 0 } in
    let p = get_or order k nowhere in
    subst (λ (xs : List Line). IsLineAfter F xs (get_or (map (line_of F logs id_of) order) k d)) (sym (take-map (line_of F logs id_of) k order))
    (subst (λ (l : Line). IsLineAfter F (map (line_of F logs id_of) (take k order)) l)
    (sym (get_or-map (line_of F logs id_of) order k nowhere d within))
    (line_after F logs order id_of kept of shown is_order are_ids k p within (get_or_default order k nowhere p within)))

pub merged_lines : (F : Cnf) (logs : List Recorded) (lines : List Line) → All IsLog logs
    → All (λ (L : Recorded). L.formula ≡ F) logs → AreImportsShown logs → IsMerged F logs lines → EachAfter (IsLineAfter F) lines
merged_lines F logs lines kept of shown merged =
    subst (λ (xs : List Line). EachAfter (IsLineAfter F) xs) (sym merged.lines_are)
    (lines_after F logs merged.order merged.id_of kept of shown merged.is_order merged.are_ids)

-- what is in the proof

Contains_of_map : {X Y : Type 0} (f : X → Y) (xs : List X) (x : X) → Contains xs x → Contains (map f xs) (f x)
Contains_of_map f xs x there =
    (there.0, omega (arith, there.1, length-map xs f), get_or-map f xs there.0 x (f x) there.1 ∙ ap f there.2)

clauses_are : (F : Cnf) (logs : List Recorded) (id_of : Place → ℕ) (order : List Place)
    → map clause_of (map (line_of F logs id_of) order) ≡ map (literals_of logs) order
clauses_are F logs id_of [] = refl
clauses_are F logs id_of (p ∷ order) = ap (λ (cs : List Literals). literals_of logs p ∷ cs) (clauses_are F logs id_of order)

pub merged_has_lines : (F : Cnf) (logs : List Recorded) (lines : List Line) → IsMerged F logs lines → HasLines logs lines
merged_has_lines F logs lines merged p place line =
    subst (λ (cs : List Literals). Contains cs (literals_of logs p))
    (sym (ap (map clause_of) merged.lines_are ∙ clauses_are F logs merged.id_of merged.order))
    (Contains_of_map (literals_of logs) merged.order p (merged.is_order.all p place line))

pub merged_reaches : (F : Cnf) (logs : List Recorded) (lines : List Line) → All IsLog logs
    → All (λ (L : Recorded). L.formula ≡ F) logs → AreImportsShown logs → IsMerged F logs lines → ReachesAll F logs lines
merged_reaches F logs lines kept of shown merged p place =
    let line = line_for F logs merged.order merged.id_of kept of shown merged.are_ids p place in
    record {
      set = literals_of logs line.source;
      member = subst (λ (cs : List Literals). Contains (F.clauses ++ cs) (literals_of logs line.source))
          (sym (ap (flat_map added) merged.lines_are ∙ added_lines F logs merged.id_of merged.order))
          (Contains-append_right F.clauses (map (literals_of logs) merged.order) (literals_of logs line.source)
          (Contains_of_map (literals_of logs) merged.order line.source (merged.is_order.all line.source line.place line.gives_line)));
      same = subst (λ (c : Literals). IsSameSet (literals_of logs p) c) line.same_literals (same_set_itself (literals_of logs p));
    }
