-- The steps of trimming: what the calls ask for, and lines that are picked one by one.
use Rattle.std.proofs.Common.{◌≡◌, ℕ, ◌+◌, ◌-◌, ◌*◌, ◌<◌, ◌≤◌, Bool, true, false, if◌then◌else◌, List, [], ◌∷◌, ◌++◌, length, map, take, drop, get_or, Contains, inl, inr, refl, sym, ap, ◌∙◌, subst, arith}
use Rattle.std.specs.Prelude.{All}
use Rattle.std.specs.List.{list_all}
use Rattle.std.proofs.lemmas.Bool.{cases_lt, and_parts, false≢true, le-leb, lt-leb}
use Rattle.std.proofs.lemmas.List.{take_more, drop_more, drop_all, take_at, map-append, length-take-le, get_or_default, get_or_read}
use Rattle.std.proofs.lemmas.List.Elements.{All-contains, All-weaker, All-cons, All-head, All-tail}
use Rattle.cnf_core.specs.Literals.{Literal, Literals}
use Rattle.cnf_core.specs.Formulas.{Cnf}
use Rattle.cnf_core.proofs.Lists.{Contains-head, member_of_list_any}
use Rattle.lrat_lines.specs.declared.line.Line.{Line}
use Rattle.lrat_lines.specs.declared.line.Line.TheVariants.{Add, Delete}
use Rattle.lrat_lines.specs.Sets.{is_same}
use Rattle.lrat_lines.specs.Prefixes.{EachAfter}
use Rattle.lrat_lines.specs.Tidy.{clause_of, hints_of, IsHint, IsTidyLine, IsLineAfter}
use Rattle.lrat_lines.specs.Renumbering.{renumbered}
use Rattle.lrat_lines.proofs.LiteralSets.{is_same-true}
use Rattle.cert_merge.specs.Trimming.{is_just, HasUnits, no_line, line_at, picked, id_among, trimmed}
use Rattle.cert_merge.specs.Steps.Taking.{listed_id}
use Rattle.cert_merge.specs.Steps.Marking.{HasPlace, AreNewIds, ids_of, AreIdsWithin, AreHintsBelow, HaveClausesPlaces, AreHintsMarked, AreNeededFrom}
use Rattle.cert_merge.proofs.Codes.{code_of-bound}
use Rattle.cert_merge.proofs.Marking.{needed_more, needed_skip}

-- what an accepted tidy proof has

pub var_place : (n : ℕ) (l : Literal) → l.var ≤ n → HasPlace (2 * n + 2) l
var_place n l within = omega (arith, code_of-bound l)

pub clauses_places : (F : Cnf) (lines : List Line) → EachAfter (IsLineAfter F) lines → HaveClausesPlaces F lines
clauses_places F lines each k d below =
    All-weaker (λ (l : Literal). l.var ≤ F.vars) (HasPlace (2 * F.vars + 2)) (λ l within. var_place F.vars l within)
    (clause_of (get_or lines k d)) (each k d below).within

just_member : (l : Literal) (c : Literals) → is_just l c ≡ true → Contains c l
just_member l [] just = absurd (false≢true just)
just_member l (k ∷ c) just =
    subst (λ (m : Literal). Contains (k ∷ c) m) (sym (is_same-true l k (and_parts (is_same l k) (list_all (is_same l) c) just).0)) (Contains-head k c)

pub keep_places : (F : Cnf) (lines : List Line) (keep : Literals) → EachAfter (IsLineAfter F) lines → HasUnits lines keep
    → All (HasPlace (2 * F.vars + 2)) keep
keep_places F lines keep each had k d below =
    let l = get_or keep k d in
    let here : Contains keep l = (k, below, get_or_default keep k l d below) in
    let (line, there, just) = member_of_list_any (λ (m : Line). is_just l (clause_of m)) lines (had l here) in
    let within : All (λ (m : Literal). m.var ≤ F.vars) (clause_of line) =
    subst (λ (m : Line). All (λ (x : Literal). x.var ≤ F.vars) (clause_of m)) there.2 (each there.0 line there.1).within in
    var_place F.vars l (All-contains (λ (m : Literal). m.var ≤ F.vars) (clause_of line) l within (just_member l (clause_of line) just))

pub tidy_line : (F : Cnf) (lines : List Line) → EachAfter (IsLineAfter F) lines → (k : ℕ) (d : Line) → k < length lines
    → IsTidyLine (length F.clauses + 1 + k) (get_or lines k d)
tidy_line F lines each k d within =
    subst (λ (n : ℕ). IsTidyLine (length F.clauses + 1 + n) (get_or lines k d)) (length-take-le k lines (omega arith)) (each k d within).tidy

pub hints_below : (F : Cnf) (lines : List Line) → EachAfter (IsLineAfter F) lines → AreHintsBelow F lines
hints_below F lines each k within = (tidy_line F lines each k no_line within).hints_before

pub ids_within : (F : Cnf) (lines : List Line) (n : ℕ) → EachAfter (IsLineAfter F) lines → n ≡ length lines
    → All (AreIdsWithin (length F.clauses + 1 + n)) lines
ids_within F lines n each size k d within =
    let tidy = tidy_line F lines each k d within in
    subst (AreIdsWithin (length F.clauses + 1 + n)) (sym tidy.addition)
    (All-cons (λ (h : ℕ). h < length F.clauses + 1 + n) (length F.clauses + 1 + k) (hints_of (get_or lines k d)) (omega arith)
    (All-weaker (IsHint (length F.clauses + 1 + k)) (λ (h : ℕ). h < length F.clauses + 1 + n) (λ h hint. omega (arith, hint.high))
    (hints_of (get_or lines k d)) tidy.hints_before))

-- new ids

new_id : (F : Cnf) (marks : List Bool) (ids : List ℕ) (h : ℕ) → AreNewIds (length F.clauses) marks ids → h < length F.clauses + 1 + length marks
    → listed_id (length F.clauses) ids h ≡ id_among F marks h
new_id F marks ids h new within = elim (cases_lt (length F.clauses) h) [
  | inl high ↦ rw (lt-leb h (length F.clauses) high) (new.each (h - (length F.clauses + 1)) 0 (omega arith))
  | inr low ↦ rw (le-leb h (length F.clauses) low) refl
]

map_agree : (f g : ℕ → ℕ) (xs : List ℕ) → All (λ (x : ℕ). f x ≡ g x) xs → map f xs ≡ map g xs
map_agree f g [] same = refl
map_agree f g (x ∷ xs) same =
    ap (λ (y : ℕ). y ∷ map f xs) (All-head (λ (y : ℕ). f y ≡ g y) x xs same)
    ∙ ap (λ (ys : List ℕ). g x ∷ ys) (map_agree f g xs (All-tail (λ (y : ℕ). f y ≡ g y) x xs same))

renumbered_agree : (f g : ℕ → ℕ) (line : Line) → All (λ (x : ℕ). f x ≡ g x) (ids_of line) → renumbered f line ≡ renumbered g line
renumbered_agree f g (Add id c hints) same =
    ap (λ (i : ℕ). Add i c (map f hints)) (All-head (λ (y : ℕ). f y ≡ g y) id hints same)
    ∙ ap (λ (hs : List ℕ). Add (g id) c hs) (map_agree f g hints (All-tail (λ (y : ℕ). f y ≡ g y) id hints same))
renumbered_agree f g (Delete id ids) same =
    ap (λ (i : ℕ). Delete i (map f ids)) (All-head (λ (y : ℕ). f y ≡ g y) id ids same)
    ∙ ap (λ (hs : List ℕ). Delete (g id) hs) (map_agree f g ids (All-tail (λ (y : ℕ). f y ≡ g y) id ids same))

picked_agree : (f g : Line → Line) (marks : List Bool) (lines : List Line) → All (λ (l : Line). f l ≡ g l) lines
    → map f (picked marks lines) ≡ map g (picked marks lines)
picked_agree f g [] lines same = refl
picked_agree f g (m ∷ ms) [] same = refl
picked_agree f g (true ∷ ms) (line ∷ lines) same =
    ap (λ (l : Line). l ∷ map f (picked ms lines)) (All-head (λ (l : Line). f l ≡ g l) line lines same)
    ∙ ap (λ (ls : List Line). g line ∷ ls) (picked_agree f g ms lines (All-tail (λ (l : Line). f l ≡ g l) line lines same))
picked_agree f g (false ∷ ms) (line ∷ lines) same = picked_agree f g ms lines (All-tail (λ (l : Line). f l ≡ g l) line lines same)

-- lines with their listed ids are the trimmed ones
pub picked_trimmed : (F : Cnf) (lines : List Line) (marks : List Bool) (ids : List ℕ) → EachAfter (IsLineAfter F) lines
    → length marks ≡ length lines → AreNewIds (length F.clauses) marks ids
    → map (renumbered (listed_id (length F.clauses) ids)) (picked marks lines) ≡ trimmed F marks lines
picked_trimmed F lines marks ids each size new =
    picked_agree (renumbered (listed_id (length F.clauses) ids)) (renumbered (id_among F marks)) marks lines
    (All-weaker (AreIdsWithin (length F.clauses + 1 + length marks))
    (λ (l : Line). renumbered (listed_id (length F.clauses) ids) l ≡ renumbered (id_among F marks) l)
    (λ l within. renumbered_agree (listed_id (length F.clauses) ids) (id_among F marks) l
    (All-weaker (λ (h : ℕ). h < length F.clauses + 1 + length marks)
    (λ (h : ℕ). listed_id (length F.clauses) ids h ≡ id_among F marks h) (λ h low. new_id F marks ids h new low) (ids_of l) within))
    lines (ids_within F lines (length marks) each size))

-- one line more

pub picked_push : {X : Type 0} (marks : List Bool) (xs : List X) (m : Bool) (x : X) → length marks ≡ length xs
    → picked (marks ++ m ∷ []) (xs ++ x ∷ []) ≡ picked marks xs ++ (if m then x ∷ [] else [])
picked_push [] [] m x same = refl
picked_push [] (y ∷ xs) m x same = absurd (omega arith)
picked_push (n ∷ ms) [] m x same = absurd (omega arith)
picked_push {X} (true ∷ ms) (y ∷ xs) m x same = ap (λ (ys : List X). y ∷ ys) (picked_push ms xs m x (omega arith))
picked_push (false ∷ ms) (y ∷ xs) m x same = picked_push ms xs m x (omega arith)

pub map_choice : {X Y : Type 0} (f : X → Y) (m : Bool) (x : X) → map f (if m then x ∷ [] else []) ≡ (if m then f x ∷ [] else [])
map_choice f true x = refl
map_choice f false x = refl

pub record IsPicking (f : Line → Line) (marks : List Bool) (lines : List Line) (p : ℕ) (kept rest : List Line) : Type 0 where
  pub kept_are : kept ≡ map f (picked (take p marks) (take p lines))
  pub rest_is : drop p lines ≡ rest

pub picking_more : (f : Line → Line) (marks : List Bool) (lines : List Line) (p : ℕ) (line : Line) (kept next rest : List Line)
    → length marks ≡ length lines → IsPicking f marks lines p kept (line ∷ rest)
    → next ≡ kept ++ (if get_or marks p false then f line ∷ [] else []) → IsPicking f marks lines (p + 1) next rest
picking_more f marks lines p line kept next rest size picking is = elim (cases_lt p (length lines)) [
  | inr past ↦
      (let none : line ∷ rest ≡ [] = sym picking.rest_is ∙ drop_all p lines past in
      absurd (omega (arith, ap length none)))
  | inl within ↦
      (let split : get_or lines p line ∷ drop (p + 1) lines ≡ line ∷ rest = sym (drop_more lines p line within) ∙ picking.rest_is in
      let first : get_or lines p line ≡ line = cc in
      let behind : drop (p + 1) lines ≡ rest = cc in
      let mark = get_or marks p false in
      let fronts : length (take p marks) ≡ length (take p lines) =
      length-take-le p marks (omega arith) ∙ sym (length-take-le p lines (omega arith)) in
      let more : picked (take (p + 1) marks) (take (p + 1) lines) ≡ picked (take p marks) (take p lines) ++ (if mark then line ∷ [] else []) =
      ap (λ (ms : List Bool). picked ms (take (p + 1) lines)) (take_more marks p false (omega arith))
      ∙ ap (λ (ls : List Line). picked (take p marks ++ mark ∷ []) ls) (take_more lines p line within)
      ∙ ap (λ (l : Line). picked (take p marks ++ mark ∷ []) (take p lines ++ l ∷ [])) first
      ∙ picked_push (take p marks) (take p lines) mark line fronts in
      record {
        kept_are = is ∙ ap (λ (ls : List Line). ls ++ (if mark then f line ∷ [] else [])) picking.kept_are
            ∙ ap (λ (ls : List Line). map f (picked (take p marks) (take p lines)) ++ ls) (sym (map_choice f mark line))
            ∙ sym (map-append f (picked (take p marks) (take p lines)) (if mark then line ∷ [] else []))
            ∙ ap (map f) (sym more);
        rest_is = behind;
      })
]

-- marks backwards

pub whole_written : (new old : List Bool) (n : ℕ) → n ≡ length old → length new ≡ length old → take n (new ++ drop (length new) old) ≡ new
whole_written new old n size same =
    take_at new (drop (length new) old) n (omega arith)

pub needed_step : (F : Cnf) (lines : List Line) (keep : Literals) (marks old new : List Bool) (hints : List ℕ) (line : Line) (left inputs : ℕ)
    → 0 < left → left ≤ length lines → AreHintsBelow F lines → AreNeededFrom F lines keep left marks → get_or marks (left - 1) false ≡ true
    → old ≡ marks → inputs ≡ length F.clauses → hints ≡ hints_of line → line ≡ get_or lines (left - 1) line
    → AreHintsMarked inputs hints old new → AreNeededFrom F lines keep (left - 1) new
needed_step F lines keep marks old new hints line left inputs some within below needed marked old_is inputs_are hints_are line_is more =
    let back : left ≡ left - 1 + 1 = omega arith in
    let at_j : line ≡ line_at lines (left - 1) = get_or_read lines (left - 1) line (omega arith) line_is no_line in
    needed_more F lines keep marks new (left - 1) (omega arith) below marked
    (subst (λ (n : ℕ). AreHintsMarked n (hints_of (line_at lines (left - 1))) marks new) inputs_are
    (subst (λ (hs : List ℕ). AreHintsMarked inputs hs marks new) (hints_are ∙ ap hints_of at_j)
    (subst (λ (ms : List Bool). AreHintsMarked inputs hints ms new) old_is more)))
    (subst (λ (n : ℕ). AreNeededFrom F lines keep n marks) back needed)

pub needed_past : (F : Cnf) (lines : List Line) (keep : Literals) (marks : List Bool) (left : ℕ)
    → 0 < left → left ≤ length lines → AreNeededFrom F lines keep left marks → get_or marks (left - 1) false ≡ false
    → AreNeededFrom F lines keep (left - 1) marks
needed_past F lines keep marks left some within needed unmarked =
    let back : left ≡ left - 1 + 1 = omega arith in
    needed_skip F lines keep marks (left - 1) (omega arith) unmarked (subst (λ (n : ℕ). AreNeededFrom F lines keep n marks) back needed)
