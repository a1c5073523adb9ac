-- The lines of a merged order, for those that mark and make them one by one.
use Rattle.std.proofs.Common.{◌≡◌, ℕ, ◌+◌, ◌*◌, ◌<◌, Bool, true, false, IsTrue, if◌then◌else◌, List, [], ◌∷◌, ◌++◌, length, map, take, get_or, Contains, refl, sym, ap, ◌∙◌, subst, arith}
use Rattle.std.specs.Prelude.{All}
use Rattle.std.specs.List.{list_any}
use Rattle.std.proofs.lemmas.List.{take_more, map_more, map-append, length-map, length-take-le, get_or-map}
use Rattle.std.proofs.lemmas.List.Elements.{All-weaker, Contains-get_or}
use Rattle.cnf_core.specs.Literals.{Literals, IsWithin}
use Rattle.cnf_core.specs.Formulas.{Cnf}
use Rattle.cnf_core.proofs.Lists.{list_any_of_member}
use Rattle.lrat_lines.specs.declared.line.Line.{Line}
use Rattle.lrat_lines.specs.Prefixes.{EachAfter}
use Rattle.lrat_lines.specs.Tidy.{clause_of, hints_of, IsHint, IsLineAfter}
use Rattle.lrat_log.specs.Entries.{Recorded, entry_at}
use Rattle.cert_merge.specs.declared.place.Place.{Place}
use Rattle.cert_merge.specs.Merging.{entry_in, IsPlace, GivesLine, line_of, merged_id, IsMerged, HasLines}
use Rattle.cert_merge.specs.Trimming.{is_just, is_empty, have_empty, HasUnits, no_line, line_at, picked}
use Rattle.cert_merge.specs.MergedNeeds.{HaveUnitEntries, HasEmptyEntry}
use Rattle.cert_merge.specs.Steps.Taking.{id_in}
use Rattle.cert_merge.specs.Steps.Marking.{HasPlace, AreIdsWithin}
use Rattle.cert_merge.specs.Steps.Ordered.{IsOrdered, lines_of}
use Rattle.cert_merge.proofs.Places.{may_stand, log_read}
use Rattle.cert_merge.proofs.MergedLines.{lines_after, merged_has_lines}
use Rattle.cert_merge.proofs.Picking.{keep_places, picked_push, map_choice, var_place, hints_below, ids_within}

pub ordered_lines : (F : Cnf) (logs : List Recorded) (ids : List (List ℕ)) (order : List Place) → IsOrdered F logs ids order
    → EachAfter (IsLineAfter F) (lines_of F logs ids order)
ordered_lines F logs ids order ordered =
    lines_after F logs order (id_in ids) ordered.are_logs ordered.of ordered.shown ordered.is_order ordered.are_ids

pub ordered_merged : (F : Cnf) (logs : List Recorded) (ids : List (List ℕ)) (order : List Place) → IsOrdered F logs ids order
    → IsMerged F logs (lines_of F logs ids order)
ordered_merged F logs ids order ordered = record {
  order = order;
  id_of = id_in ids;
  is_order = ordered.is_order;
  are_ids = ordered.are_ids;
  lines_are = refl;
}

-- entries whose clauses pass a test have lines that do
line_passes : (lines : List Line) (p : Literals → Bool) (c : Literals) → Contains (map clause_of lines) c → p c ≡ true
    → list_any (λ (line : Line). p (clause_of line)) lines ≡ true
line_passes lines p c there passes =
    let k = there.0 in
    let within : k < length lines = omega (arith, there.1, length-map lines clause_of) in
    let is : clause_of (line_at lines k) ≡ c = sym (get_or-map clause_of lines k no_line c within) ∙ there.2 in
    list_any_of_member (λ (line : Line). p (clause_of line)) lines (line_at lines k) (Contains-get_or lines k no_line within) (ap p is ∙ passes)

pub units_of_entries : (logs : List Recorded) (lines : List Line) (keep : Literals) → HasLines logs lines → HaveUnitEntries logs keep
    → HasUnits lines keep
units_of_entries logs lines keep has units l member =
    let unit = units l member in
    line_passes lines (is_just l) (entry_in logs unit.unit).literals (has unit.unit unit.place unit.line) unit.just

pub empty_of_entry : (logs : List Recorded) (lines : List Line) → HasLines logs lines → HasEmptyEntry logs → IsTrue (have_empty lines)
empty_of_entry logs lines has entry =
    line_passes lines is_empty (entry_in logs entry.entry).literals (has entry.entry entry.place entry.line) entry.empty

pub ordered_units : (F : Cnf) (logs : List Recorded) (ids : List (List ℕ)) (order : List Place) (keep : Literals) → IsOrdered F logs ids order
    → HaveUnitEntries logs keep → HasUnits (lines_of F logs ids order) keep
ordered_units F logs ids order keep ordered units =
    units_of_entries logs (lines_of F logs ids order) keep
    (merged_has_lines F logs (lines_of F logs ids order) (ordered_merged F logs ids order ordered)) units

pub ordered_keep : (F : Cnf) (logs : List Recorded) (ids : List (List ℕ)) (order : List Place) (keep : Literals) → IsOrdered F logs ids order
    → HaveUnitEntries logs keep → All (HasPlace (2 * F.vars + 2)) keep
ordered_keep F logs ids order keep ordered units =
    keep_places F (lines_of F logs ids order) keep (ordered_lines F logs ids order ordered)
    (ordered_units F logs ids order keep ordered units)

-- the literals of an entry that gives a line
pub literals_places : (F : Cnf) (logs : List Recorded) (ids : List (List ℕ)) (order : List Place) (i : ℕ) (p : Place) → IsOrdered F logs ids order
    → i < length order → p ≡ get_or order i p → All (HasPlace (2 * F.vars + 2)) (entry_in logs p).literals
literals_places F logs ids order i p ordered within is =
    let place : IsPlace logs p = subst (IsPlace logs) (sym is) (ordered.is_order.places i p within) in
    let line : GivesLine logs p = subst (GivesLine logs) (sym is) (ordered.is_order.give_lines i p within) in
    All-weaker (IsWithin F.vars) (HasPlace (2 * F.vars + 2)) (λ l inside. var_place F.vars l inside.high) (entry_in logs p).literals
    ((may_stand F logs p ordered.are_logs ordered.of place).within line)

-- one line more
pub lines_more : (F : Cnf) (logs : List Recorded) (ids : List (List ℕ)) (order : List Place) (i : ℕ) (p : Place) → i < length order
    → p ≡ get_or order i p
    → lines_of F logs ids (take i order) ++ line_of F logs (id_in ids) p ∷ [] ≡ lines_of F logs ids (take (i + 1) order)
lines_more F logs ids order i p within is =
    ap (λ (q : Place). lines_of F logs ids (take i order) ++ line_of F logs (id_in ids) q ∷ []) is
    ∙ sym (map_more (line_of F logs (id_in ids)) order i p within)

pub line_of_place : (F : Cnf) (logs : List Recorded) (ids : List (List ℕ)) (order : List Place) (i : ℕ) (p : Place) → i < length order
    → p ≡ get_or order i p → line_of F logs (id_in ids) p ≡ get_or (lines_of F logs ids order) i (line_of F logs (id_in ids) p)
line_of_place F logs ids order i p within is =
    ap (line_of F logs (id_in ids)) is ∙ sym (get_or-map (line_of F logs (id_in ids)) order i p (line_of F logs (id_in ids) p) within)

-- one line that is marked or not
pub picked_more : (f : Line → Line) (marks : List Bool) (lines more : List Line) (i : ℕ) (line : Line) (kept next : List Line) → i < length marks
    → length lines ≡ i → lines ++ line ∷ [] ≡ more → kept ≡ map f (picked (take i marks) lines)
    → next ≡ kept ++ (if get_or marks i false then f line ∷ [] else []) → next ≡ map f (picked (take (i + 1) marks) more)
picked_more f marks lines more i line kept next within size more_is kept_is is =
    let mark = get_or marks i false in
    let front : length (take i marks) ≡ length lines = length-take-le i marks (omega arith) ∙ sym size in
    is ∙ ap (λ (ls : List Line). ls ++ (if mark then f line ∷ [] else [])) kept_is
    ∙ ap (λ (ls : List Line). map f (picked (take i marks) lines) ++ ls) (sym (map_choice f mark line))
    ∙ sym (map-append f (picked (take i marks) lines) (if mark then line ∷ [] else []))
    ∙ ap (map f) (sym (picked_push (take i marks) lines mark line front))
    ∙ ap (λ (ms : List Bool). map f (picked ms (lines ++ line ∷ []))) (sym (take_more marks i false within))
    ∙ ap (λ (ls : List Line). map f (picked (take (i + 1) marks) ls)) more_is

-- an entry's literals that were read behind nothing
pub literals_read : (logs : List Recorded) (p : Place) (L : Recorded) (before out : Literals) → IsPlace logs p → L ≡ get_or logs p.log L
    → before ≡ [] → out ≡ before ++ (entry_at L p.entry).literals → out ≡ (entry_in logs p).literals
literals_read logs p L before out place is none read =
    read ∙ ap (λ (c : Literals). c ++ (entry_at L p.entry).literals) none
    ∙ ap (λ (M : Recorded). (entry_at M p.entry).literals) (log_read logs p.log L place.log_within is)

-- the place in the order
pub place_at : (F : Cnf) (logs : List Recorded) (ids : List (List ℕ)) (order : List Place) (i : ℕ) (p : Place) → IsOrdered F logs ids order
    → i < length order → p ≡ get_or order i p → IsPlace logs p
place_at F logs ids order i p ordered within is = subst (IsPlace logs) (sym is) (ordered.is_order.places i p within)

-- the line of a place is the one there
pub line_there : (F : Cnf) (logs : List Recorded) (ids : List (List ℕ)) (order : List Place) (i : ℕ) (p : Place) → i < length order
    → p ≡ get_or order i p → line_at (lines_of F logs ids order) i ≡ line_of F logs (id_in ids) p
line_there F logs ids order i p within is =
    get_or-map (line_of F logs (id_in ids)) order i p no_line within ∙ ap (line_of F logs (id_in ids)) (sym is)

pub lines_count : (F : Cnf) (logs : List Recorded) (ids : List (List ℕ)) (order : List Place) → length (lines_of F logs ids order) ≡ length order
lines_count F logs ids order = length-map order (line_of F logs (id_in ids))

-- the hints of its line are below it
pub hints_low : (F : Cnf) (logs : List Recorded) (ids : List (List ℕ)) (order : List Place) (i : ℕ) (p : Place) (hints : List ℕ) (inputs n : ℕ)
    → IsOrdered F logs ids order → i < length order → p ≡ get_or order i p → hints ≡ map (merged_id F (id_in ids) p.log) (entry_in logs p).hints
    → inputs ≡ length F.clauses → n ≡ length order → All (λ (h : ℕ). h < inputs + 1 + n) hints
hints_low F logs ids order i p hints inputs n ordered within is hints_are inputs_are size =
    let lines = lines_of F logs ids order in
    let count : length lines ≡ length order = lines_count F logs ids order in
    let below : All (IsHint (length F.clauses + 1 + i)) (hints_of (line_at lines i)) =
    hints_below F lines (ordered_lines F logs ids order ordered) i (omega arith) in
    let same : hints_of (line_at lines i) ≡ hints = ap hints_of (line_there F logs ids order i p within is) ∙ sym hints_are in
    All-weaker (IsHint (length F.clauses + 1 + i)) (λ (h : ℕ). h < inputs + 1 + n) (λ h hint. omega (arith, hint.high)) hints
    (subst (All (IsHint (length F.clauses + 1 + i))) same below)

-- and all its ids are low
pub ids_low : (F : Cnf) (logs : List Recorded) (ids : List (List ℕ)) (order : List Place) (i : ℕ) (p : Place) (n : ℕ)
    → IsOrdered F logs ids order → i < length order → p ≡ get_or order i p → n ≡ length order
    → AreIdsWithin (length F.clauses + 1 + n) (line_of F logs (id_in ids) p)
ids_low F logs ids order i p n ordered within is size =
    let lines = lines_of F logs ids order in
    let count : length lines ≡ length order = lines_count F logs ids order in
    subst (AreIdsWithin (length F.clauses + 1 + n)) (line_there F logs ids order i p within is)
    (ids_within F lines n (ordered_lines F logs ids order ordered) (omega arith) i no_line (omega arith))
