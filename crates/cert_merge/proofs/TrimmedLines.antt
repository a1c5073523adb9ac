-- The lines that are needed, with new ids, are accepted one after another, and stay for what they are kept for.
use Rattle.std.proofs.Common.{◌≡◌, ℕ, zero, suc, ◌+◌, ◌-◌, ◌<◌, Bool, true, false, IsTrue, not, ◌&&◌, ◌||◌, cond, List, [], ◌∷◌, ◌++◌, length, map, take, get_or, Some, Contains, inl, inr, refl, sym, ap, ◌∙◌, subst, arith}
use Rattle.std.specs.Prelude.{All, flat_map, count_by}
use Rattle.std.specs.List.{list_any}
use Rattle.std.proofs.lemmas.Bool.{cases_lt, cases_Bool, false≢true, le-leb, lt-leb, and_from, or_right}
use Rattle.std.proofs.lemmas.List.{length-map, length-take-le, get_or-map, get_or-take}
use Rattle.std.proofs.lemmas.List.Sums.{sum_by-cons}
use Rattle.std.proofs.lemmas.List.Elements.{All-contains, All-map, All-weaker, All-contains_itself, All-take}
use Rattle.cnf_core.specs.Literals.{Literal, Literals}
use Rattle.cnf_core.specs.Formulas.{Cnf}
use Rattle.cnf_core.proofs.Lists.{list_any_of_member}
use Rattle.lrat_lines.specs.declared.line.Line.{Line}
use Rattle.lrat_lines.specs.declared.line.Line.TheVariants.{Add}
use Rattle.lrat_lines.specs.Prefixes.{EachAfter}
use Rattle.lrat_lines.specs.Proofs.{numbered, added, reached}
use Rattle.lrat_lines.specs.Tidy.{clause_of, hints_of, next_id, IsHint, IsTidyLine, IsLineAfter}
use Rattle.lrat_lines.specs.Renumbering.{renumbered}
use Rattle.cert_merge.specs.Trimming.{is_empty, is_just, have_empty, have_unit, HasUnits, is_root, is_marked, no_line, line_at, AreNeeded, picked, id_among, trimmed, IsTrimmed}
use Rattle.cert_merge.proofs.MergedLines.{rup_followed, known_input, known_line, some_same}

-- how many of the first marks are set
abbrev pub marked_before : List Bool → ℕ → ℕ
marked_before marks k = count_by (λ (m : Bool). m) (take k marks)

count_set : (ms : List Bool) (k : ℕ) → marked_before (true ∷ ms) (suc k) ≡ suc (marked_before ms k)
count_set ms k = let e : 1 + marked_before ms k ≡ suc (marked_before ms k) = omega arith in
    sum_by-cons (λ (m : Bool). cond m 1 0) true (take k ms) ∙ e

count_unset : (ms : List Bool) (k : ℕ) → marked_before (false ∷ ms) (suc k) ≡ marked_before ms k
count_unset ms k = let e : 0 + marked_before ms k ≡ marked_before ms k = omega arith in
    sum_by-cons (λ (m : Bool). cond m 1 0) false (take k ms) ∙ e

-- a marked element among those that are picked

pub record IsPickedAt {X : Type 0} (marks : List Bool) (xs : List X) (k : ℕ) : Type 0 where
  pub within : marked_before marks k < length (picked marks xs)
  pub same : (d : X) → get_or (picked marks xs) (marked_before marks k) d ≡ get_or xs k d

pub picked_at : {X : Type 0} (marks : List Bool) (xs : List X) (k : ℕ) → k < length xs → is_marked marks k ≡ true → IsPickedAt marks xs k
picked_at [] xs k within marked = absurd (false≢true marked)
picked_at (m ∷ ms) [] k within marked = absurd (omega arith)
picked_at (true ∷ ms) (x ∷ xs) zero within marked = record { within = omega arith; same = λ d. refl }
picked_at (false ∷ ms) (x ∷ xs) zero within marked = absurd (false≢true marked)
picked_at {X} (true ∷ ms) (x ∷ xs) (suc k) within marked =
    let rest : IsPickedAt ms xs k = picked_at ms xs k (omega arith) marked in
    record {
      within = omega (arith, count_set ms k, rest.within);
      same = λ d. ap (λ (i : ℕ). get_or (x ∷ picked ms xs) i d) (count_set ms k) ∙ rest.same d;
    }
picked_at {X} (false ∷ ms) (x ∷ xs) (suc k) within marked =
    let rest : IsPickedAt ms xs k = picked_at ms xs k (omega arith) marked in
    record {
      within = omega (arith, count_unset ms k, rest.within);
      same = λ d. ap (λ (i : ℕ). get_or (picked ms xs) i d) (count_unset ms k) ∙ rest.same d;
    }

-- each that is picked is a marked one
pub record IsOrigin {X : Type 0} (marks : List Bool) (xs : List X) (i : ℕ) : Type 0 where
  pub place : ℕ
  pub within : place < length xs
  pub marked : is_marked marks place ≡ true
  pub count : marked_before marks place ≡ i

pub origin : {X : Type 0} (marks : List Bool) (xs : List X) (i : ℕ) → i < length (picked marks xs) → IsOrigin marks xs i
origin [] xs i within = absurd (omega arith)
origin (m ∷ ms) [] i within = absurd (omega arith)
origin (true ∷ ms) (x ∷ xs) zero within = record { place = 0; within = omega arith; marked = refl; count = refl }
origin (true ∷ ms) (x ∷ xs) (suc i) within =
    let rest = origin ms xs i (omega arith) in
    record {
      place = suc rest.place;
      within = omega (arith, rest.within);
      marked = rest.marked;
      count = count_set ms rest.place ∙ ap suc rest.count;
    }
origin (false ∷ ms) (x ∷ xs) i within =
    let rest = origin ms xs i within in
    record {
      place = suc rest.place;
      within = omega (arith, rest.within);
      marked = rest.marked;
      count = count_unset ms rest.place ∙ rest.count;
    }

-- a marked place stands before the marked ones behind it
pub marked_rises : (marks : List Bool) (i j : ℕ) → i < j → is_marked marks i ≡ true → marked_before marks i < marked_before marks j
marked_rises [] i j below marked = absurd (false≢true marked)
marked_rises (m ∷ ms) i zero below marked = absurd (omega arith)
marked_rises (true ∷ ms) zero (suc j) below marked = omega (arith, count_set ms j)
marked_rises (false ∷ ms) zero (suc j) below marked = absurd (false≢true marked)
marked_rises (true ∷ ms) (suc i) (suc j) below marked =
    omega (arith, count_set ms i, count_set ms j, marked_rises ms i j (omega arith) marked)
marked_rises (false ∷ ms) (suc i) (suc j) below marked =
    omega (arith, count_unset ms i, count_unset ms j, marked_rises ms i j (omega arith) marked)

-- additions

-- the line adds one clause
abbrev AddsOne : Line → Type 0
AddsOne line = added line ≡ clause_of line ∷ []

adds_one : (id : ℕ) (line : Line) → IsTidyLine id line → AddsOne line
adds_one id line tidy = ap added tidy.addition

added_clauses : (lines : List Line) → All AddsOne lines → flat_map added lines ≡ map clause_of lines
added_clauses [] all = refl
added_clauses (line ∷ lines) all =
    ap (λ (cs : List Literals). cs ++ flat_map added lines) (all 0 line (omega arith))
    ∙ ap (λ (cs : List Literals). clause_of line ∷ cs) (added_clauses lines (λ k d below. all (suc k) d (omega arith)))

clause_renumbered : (number : ℕ → ℕ) (id : ℕ) (line : Line) → IsTidyLine id line → clause_of (renumbered number line) ≡ clause_of line
clause_renumbered number id line tidy = ap (λ (l : Line). clause_of (renumbered number l)) tidy.addition

-- the trimmed proof

record IsTrimming (F : Cnf) (lines : List Line) (keep : Literals) (marks : List Bool) : Type 0 where
  each : EachAfter (IsLineAfter F) lines
  needed : AreNeeded F lines keep marks

tidy_at : (F : Cnf) (lines : List Line) (keep : Literals) (marks : List Bool) → IsTrimming F lines keep marks → (k : ℕ) → k < length lines
    → IsTidyLine (length F.clauses + 1 + k) (line_at lines k)
tidy_at F lines keep marks trimming k within =
    subst (λ (n : ℕ). IsTidyLine (length F.clauses + 1 + n) (line_at lines k)) (length-take-le k lines (omega arith))
    (trimming.each k no_line within).tidy

lines_add : (F : Cnf) (lines : List Line) (keep : Literals) (marks : List Bool) → IsTrimming F lines keep marks → All AddsOne lines
lines_add F lines keep marks trimming k d within = adds_one (next_id F (take k lines)) (get_or lines k d) (trimming.each k d within).tidy

-- a line of the trimmed proof is a marked one with its new id
kept_at : (F : Cnf) (lines : List Line) (marks : List Bool) (i : ℕ) (d : Line) → i < length (picked marks lines)
    → (from : IsOrigin marks lines i) → get_or (trimmed F marks lines) i d ≡ renumbered (id_among F marks) (line_at lines from.place)
kept_at F lines marks i d within from =
    get_or-map (renumbered (id_among F marks)) (picked marks lines) i no_line d within
    ∙ ap (renumbered (id_among F marks)) (ap (λ (n : ℕ). get_or (picked marks lines) n no_line) (sym from.count)
    ∙ (picked_at marks lines from.place from.within from.marked).same no_line)

kept_add : (F : Cnf) (lines : List Line) (keep : Literals) (marks : List Bool) → IsTrimming F lines keep marks → All AddsOne (trimmed F marks lines)
kept_add F lines keep marks trimming i d within =
    let number = id_among F marks in
    let inside : i < length (picked marks lines) = omega (arith, length-map (picked marks lines) (renumbered number)) in
    let from = origin marks lines i inside in
    let j = from.place in
    let at_i : get_or (trimmed F marks lines) i d ≡ renumbered number (line_at lines j) = kept_at F lines marks i d inside from in
    subst AddsOne (sym at_i)
    (ap (λ (l : Line). added (renumbered number l)) (tidy_at F lines keep marks trimming j from.within).addition
    ∙ ap (λ (c : Literals). c ∷ []) (sym (clause_renumbered number (length F.clauses + 1 + j) (line_at lines j)
    (tidy_at F lines keep marks trimming j from.within))))

-- what a hint of a marked line leads to
record IsFollowedIn (F : Cnf) (lines : List Line) (marks : List Bool) (j h : ℕ) : Type 0 where
  low : 0 < id_among F marks h
  high : id_among F marks h < length F.clauses + 1 + marked_before marks j
  leads : (c : Literals) → numbered (reached F (take j lines)) h ≡ Some c
      → numbered (reached F (take (marked_before marks j) (trimmed F marks lines))) (id_among F marks h) ≡ Some c

reached_lines : (F : Cnf) (lines : List Line) (k : ℕ) → All AddsOne lines → reached F (take k lines) ≡ F.clauses ++ map clause_of (take k lines)
reached_lines F lines k all =
    ap (λ (cs : List Literals). F.clauses ++ cs) (added_clauses (take k lines) (All-take AddsOne k lines all))

hint_followed : (F : Cnf) (lines : List Line) (keep : Literals) (marks : List Bool) → IsTrimming F lines keep marks → (j : ℕ) → j < length lines
    → is_marked marks j ≡ true → (h : ℕ) → Contains (hints_of (line_at lines j)) h → IsFollowedIn F lines marks j h
hint_followed F lines keep marks trimming j within marked h here = elim (cases_lt (length F.clauses) h) [
  | inr low ↦
      (let same : id_among F marks h ≡ h = rw (le-leb h (length F.clauses) low) refl in
      record {
        low = omega (arith, is_hint.low);
        high = omega arith;
        leads = λ c known.
            subst (λ (cs : List Literals). numbered cs (id_among F marks h) ≡ Some c) (sym kept_are)
            (ap (numbered (F.clauses ++ map clause_of (take n kept))) same
            ∙ known_input F.clauses (map clause_of (take n kept)) (map clause_of (take j lines)) h low
            ∙ subst (λ (cs : List Literals). numbered cs h ≡ Some c) lines_are known);
      })
  | inl high ↦ line_followed high
]
  where
    is_hint : IsHint (length F.clauses + 1 + j) h
    is_hint = All-contains (IsHint (length F.clauses + 1 + j)) (hints_of (line_at lines j)) h (tidy_at F lines keep marks trimming j within).hints_before here

    n : ℕ
    n = marked_before marks j

    kept : List Line
    kept = trimmed F marks lines

    lines_are : reached F (take j lines) ≡ F.clauses ++ map clause_of (take j lines)
    lines_are = reached_lines F lines j (lines_add F lines keep marks trimming)

    kept_are : reached F (take n kept) ≡ F.clauses ++ map clause_of (take n kept)
    kept_are = reached_lines F kept n (kept_add F lines keep marks trimming)

    line_followed : length F.clauses < h → IsFollowedIn F lines marks j h
    line_followed high =
        let m : ℕ = h - (length F.clauses + 1) in
        let id : h ≡ length F.clauses + 1 + m = omega arith in
        let below : m < j = omega (arith, is_hint.high) in
        let inside : m < length lines = omega arith in
        let needed : is_marked marks m ≡ true = (trimming.needed.each m inside).1 (inr (record {
          line = j;
          within = within;
          marked = marked;
          hint = subst (Contains (hints_of (line_at lines j))) id here;
        })) in
        let earlier : marked_before marks m < n = marked_rises marks m j below needed in
        let new_id : id_among F marks h ≡ length F.clauses + 1 + marked_before marks m = rw (lt-leb h (length F.clauses) high) refl in
        let at_m = picked_at marks lines m inside needed in
        let here_m : IsOrigin marks lines (marked_before marks m) = record { place = m; within = inside; marked = needed; count = refl } in
        let size : length (picked marks lines) ≡ length kept = sym (length-map (picked marks lines) (renumbered (id_among F marks))) in
        let kept_size : length (take n kept) ≡ n = length-take-le n kept
        (omega (arith, (picked_at marks lines j within marked).within)) in
        let lines_size : length (take j lines) ≡ j = length-take-le j lines (omega arith) in
        record {
          low = omega arith;
          high = omega arith;
          leads = λ c known.
              let old : numbered (F.clauses ++ map clause_of (take j lines)) h ≡ Some (get_or (map clause_of (take j lines)) m c) =
              known_line F.clauses (map clause_of (take j lines)) h m c id (omega (arith, length-map (take j lines) clause_of)) in
              let old_is : get_or (map clause_of (take j lines)) m c ≡ clause_of (line_at lines m) =
              get_or-map clause_of (take j lines) m no_line c (omega arith) ∙ ap clause_of (get_or-take j lines m no_line below) in
              let new : numbered (F.clauses ++ map clause_of (take n kept)) (id_among F marks h)
              ≡ Some (get_or (map clause_of (take n kept)) (marked_before marks m) c) =
              known_line F.clauses (map clause_of (take n kept)) (id_among F marks h) (marked_before marks m) c new_id
              (omega (arith, length-map (take n kept) clause_of)) in
              let new_is : get_or (map clause_of (take n kept)) (marked_before marks m) c ≡ clause_of (line_at lines m) =
              get_or-map clause_of (take n kept) (marked_before marks m) no_line c (omega arith)
              ∙ ap clause_of (get_or-take n kept (marked_before marks m) no_line earlier
              ∙ kept_at F lines marks (marked_before marks m) no_line at_m.within here_m)
              ∙ clause_renumbered (id_among F marks) (length F.clauses + 1 + m) (line_at lines m) (tidy_at F lines keep marks trimming m inside) in
              let is : get_or (map clause_of (take j lines)) m c ≡ c =
              some_same (get_or (map clause_of (take j lines)) m c) c (numbered (F.clauses ++ map clause_of (take j lines)) h) old
              (subst (λ (cs : List Literals). numbered cs h ≡ Some c) lines_are known) in
              subst (λ (cs : List Literals). numbered cs (id_among F marks h) ≡ Some c) (sym kept_are)
              (new ∙ ap Some (new_is ∙ sym old_is ∙ is));
        }

line_after : (F : Cnf) (lines : List Line) (keep : Literals) (marks : List Bool) → IsTrimming F lines keep marks → (j : ℕ) → j < length lines
    → is_marked marks j ≡ true
    → IsLineAfter F (take (marked_before marks j) (trimmed F marks lines)) (renumbered (id_among F marks) (line_at lines j))
line_after F lines keep marks trimming j within marked =
    let number = id_among F marks in
    let line = line_at lines j in
    let n = marked_before marks j in
    let kept = trimmed F marks lines in
    let tidy = tidy_at F lines keep marks trimming j within in
    let c = clause_of line in
    let hints = hints_of line in
    let is : renumbered number line ≡ Add (number (length F.clauses + 1 + j)) c (map number hints) = ap (renumbered number) tidy.addition in
    let size : length (picked marks lines) ≡ length kept = sym (length-map (picked marks lines) (renumbered number)) in
    let kept_size : length (take n kept) ≡ n = length-take-le n kept (omega (arith, (picked_at marks lines j within marked).within)) in
    let above : length F.clauses < length F.clauses + 1 + j = omega arith in
    let back : length F.clauses + 1 + j - (length F.clauses + 1) ≡ j = omega arith in
    let id : number (length F.clauses + 1 + j) ≡ next_id F (take n kept) =
    rw (lt-leb (length F.clauses + 1 + j) (length F.clauses) above)
    (ap (λ (i : ℕ). length F.clauses + 1 + marked_before marks i) back ∙ ap (λ (i : ℕ). length F.clauses + 1 + i) (sym kept_size)) in
    let whole : renumbered number line ≡ Add (next_id F (take n kept)) c (map number hints) =
    is ∙ ap (λ (i : ℕ). Add i c (map number hints)) id in
    subst (IsLineAfter F (take n kept)) (sym whole) (record {
      tidy = record {
        addition = refl;
        hints_before = All-map (IsHint (next_id F (take n kept))) number hints
            (All-weaker (Contains hints) (λ (h : ℕ). IsHint (next_id F (take n kept)) (number h))
            (λ h here.
            let follows = hint_followed F lines keep marks trimming j within marked h here in
            record { low = follows.low; high = omega (arith, follows.high) })
            hints (All-contains_itself hints));
      };
      within = (trimming.each j no_line within).within;
      shown = rup_followed (numbered (reached F (take j lines))) (numbered (reached F (take n kept))) number hints c
          (λ h here. (hint_followed F lines keep marks trimming j within marked h here).leads)
          (trimming.each j no_line within).shown;
    })

pub trimmed_lines : (F : Cnf) (lines : List Line) (keep : Literals) (marks : List Bool) → EachAfter (IsLineAfter F) lines → AreNeeded F lines keep marks
    → EachAfter (IsLineAfter F) (trimmed F marks lines)
trimmed_lines F lines keep marks each needed i d below =
    let number = id_among F marks in
    let trimming : IsTrimming F lines keep marks = record { each = each; needed = needed } in
    let inside : i < length (picked marks lines) = omega (arith, length-map (picked marks lines) (renumbered number)) in
    let from = origin marks lines i inside in
    subst (λ (l : Line). IsLineAfter F (take i (trimmed F marks lines)) l) (sym (kept_at F lines marks i d inside from))
    (subst (λ (n : ℕ). IsLineAfter F (take n (trimmed F marks lines)) (renumbered number (line_at lines from.place))) from.count
    (line_after F lines keep marks trimming from.place from.within from.marked))

-- what is kept

-- the first element that passes
record IsFirst {X : Type 0} (p : X → Bool) (xs : List X) (d : X) : Type 0 where
  place : ℕ
  within : place < length xs
  passes : p (get_or xs place d) ≡ true
  first : list_any p (take place xs) ≡ false

or_false : (b c : Bool) → b ≡ false → c ≡ false → (b || c) ≡ false
or_false false false is other = refl
or_false true c is other = is
or_false false true is other = other

first_passing : {X : Type 0} (p : X → Bool) (xs : List X) (d : X) → list_any p xs ≡ true → IsFirst p xs d
first_passing p [] d some = absurd (false≢true some)
first_passing p (x ∷ xs) d some = elim (cases_Bool (p x)) [
  | inl here ↦ record { place = 0; within = omega arith; passes = here; first = refl }
  | inr other ↦
      (let later : list_any p xs ≡ true = ap (λ (b : Bool). b || list_any p xs) (sym other) ∙ some in
      let rest = first_passing p xs d later in
      record {
        place = suc rest.place;
        within = omega (arith, rest.within);
        passes = rest.passes;
        first = or_false (p x) (list_any p (take rest.place xs)) other rest.first;
      })
]

-- a needed line's clause is in the trimmed proof
clause_kept : (F : Cnf) (lines : List Line) (keep : Literals) (marks : List Bool) → IsTrimming F lines keep marks → (p : Literals → Bool) (j : ℕ)
    → j < length lines → is_marked marks j ≡ true → p (clause_of (line_at lines j)) ≡ true
    → list_any (λ (line : Line). p (clause_of line)) (trimmed F marks lines) ≡ true
clause_kept F lines keep marks trimming p j within marked passes =
    let number = id_among F marks in
    let at_j = picked_at marks lines j within marked in
    let here : IsOrigin marks lines (marked_before marks j) = record { place = j; within = within; marked = marked; count = refl } in
    let n = marked_before marks j in
    let line = renumbered number (line_at lines j) in
    list_any_of_member (λ (l : Line). p (clause_of l)) (trimmed F marks lines) line
    (n, omega (arith, at_j.within, length-map (picked marks lines) (renumbered number)), kept_at F lines marks n line at_j.within here)
    (ap p (clause_renumbered number (length F.clauses + 1 + j) (line_at lines j) (tidy_at F lines keep marks trimming j within)) ∙ passes)

pub units_kept : (F : Cnf) (lines : List Line) (keep : Literals) (marks : List Bool) → EachAfter (IsLineAfter F) lines → AreNeeded F lines keep marks
    → HasUnits lines keep → HasUnits (trimmed F marks lines) keep
units_kept F lines keep marks each needed had l member =
    let trimming : IsTrimming F lines keep marks = record { each = each; needed = needed } in
    let found = first_passing (λ (line : Line). is_just l (clause_of line)) lines no_line (had l member) in
    let j = found.place in
    let c = clause_of (line_at lines j) in
    let root : is_root keep (take j lines) c ≡ true = or_right (is_empty c && not (have_empty (take j lines))) _
    (list_any_of_member (λ (k : Literal). is_just k c && not (have_unit (take j lines) k)) keep l member
    (and_from (is_just l c) (not (have_unit (take j lines) l)) found.passes (ap not found.first))) in
    clause_kept F lines keep marks trimming (is_just l) j found.within ((needed.each j found.within).1 (inl root)) found.passes

pub empty_kept : (F : Cnf) (lines : List Line) (keep : Literals) (marks : List Bool) → EachAfter (IsLineAfter F) lines → AreNeeded F lines keep marks
    → IsTrue (have_empty lines) → IsTrue (have_empty (trimmed F marks lines))
empty_kept F lines keep marks each needed had =
    let trimming : IsTrimming F lines keep marks = record { each = each; needed = needed } in
    let found = first_passing (λ (line : Line). is_empty (clause_of line)) lines no_line had in
    let j = found.place in
    let c = clause_of (line_at lines j) in
    let first : (is_empty c && not (have_empty (take j lines))) ≡ true =
    and_from (is_empty c) (not (have_empty (take j lines))) found.passes (ap not found.first) in
    let root : is_root keep (take j lines) c ≡ true =
    ap (λ (b : Bool). b || list_any (λ (l : Literal). is_just l c && not (have_unit (take j lines) l)) keep) first in
    clause_kept F lines keep marks trimming is_empty j found.within ((needed.each j found.within).1 (inl root)) found.passes

-- the same of what is trimmed

pub kept_lines : (F : Cnf) (lines : List Line) (keep : Literals) (kept : List Line) → EachAfter (IsLineAfter F) lines → IsTrimmed F lines keep kept
    → EachAfter (IsLineAfter F) kept
kept_lines F lines keep kept each is =
    subst (λ (xs : List Line). EachAfter (IsLineAfter F) xs) (sym is.lines_are) (trimmed_lines F lines keep is.marks each is.are_needed)

pub kept_units : (F : Cnf) (lines : List Line) (keep : Literals) (kept : List Line) → EachAfter (IsLineAfter F) lines → IsTrimmed F lines keep kept
    → HasUnits lines keep → HasUnits kept keep
kept_units F lines keep kept each is had =
    subst (λ (xs : List Line). HasUnits xs keep) (sym is.lines_are) (units_kept F lines keep is.marks each is.are_needed had)

pub kept_empty : (F : Cnf) (lines : List Line) (keep : Literals) (kept : List Line) → EachAfter (IsLineAfter F) lines → IsTrimmed F lines keep kept
    → IsTrue (have_empty lines) → IsTrue (have_empty kept)
kept_empty F lines keep kept each is had =
    subst (λ (xs : List Line). IsTrue (have_empty xs)) (sym is.lines_are) (empty_kept F lines keep is.marks each is.are_needed had)
