-- Marks of lines: for their own sake, and as hints.
use Rattle.std.proofs.Common.{◌≡◌, ◌⊎◌, ℕ, suc, ◌+◌, ◌-◌, ◌<◌, ◌≤◌, Bool, true, false, IsTrue, not, ◌&&◌, ◌||◌, List, [], ◌∷◌, ◌++◌, length, take, drop, get_or, set, Contains, inl, inr, ⊎_elim, refl, sym, ap, ◌∙◌, subst, length-set, get_or-set_same, get_or-set_other, arith}
use Rattle.std.specs.List.{list_any, list_all}
use Rattle.std.proofs.lemmas.Bool.{cases_lt, cases_eq, cases_Bool, both_ways, and_parts, and_from, false_from_ne_true}
use Rattle.std.proofs.lemmas.List.{length_push, get_or_push, get_or_append_left, take_more, take_all, take-append-le}
use Rattle.std.proofs.lemmas.List.Elements.{All-contains, Contains-append_left, Contains-push, Contains-push_cases}
use Rattle.cnf_core.specs.Literals.{Literal, Literals, code_of}
use Rattle.cnf_core.specs.Formulas.{Cnf}
use Rattle.cnf_core.proofs.Lists.{list_any_of_member, member_of_list_any, Contains-nil}
use Rattle.lrat_lines.specs.declared.line.Line.{Line}
use Rattle.lrat_lines.specs.Sets.{is_same, has}
use Rattle.lrat_lines.specs.Tidy.{clause_of, hints_of, IsHint}
use Rattle.lrat_lines.proofs.LiteralSets.{is_same-true, is_same_itself, Contains_of_has, has_of_Contains}
use Rattle.lrat_lines.proofs.SameSets.{same_test}
use Rattle.cert_merge.specs.Trimming.{is_empty, is_just, have_empty, have_unit, is_root, is_marked, no_line, line_at, IsHintOfMarked, AreNeeded}
use Rattle.cert_merge.specs.Steps.Marking.{IsLookingFor, AreRoots, IsHintFrom, AreNeededFrom, AreHintsMarked, AreHintsBelow}
use Rattle.cert_merge.proofs.Codes.{code_of_injective, or_false, or_true, and_false, any_push}

-- which clauses are just one literal

just_first : (l first : Literal) (others : Literals) → list_all (is_same first) others ≡ true → is_just l (first ∷ others) ≡ is_same l first
just_first l first others all = elim (cases_Bool (is_same l first)) [
  | inl same ↦
      (let is : l ≡ first = is_same-true l first same in
      let rest : list_all (is_same l) others ≡ true = subst (λ (k : Literal). list_all (is_same k) others ≡ true) (sym is) all in
      ap (λ (b : Bool). b && list_all (is_same l) others) same ∙ rest ∙ sym same)
  | inr other ↦ ap (λ (b : Bool). b && list_all (is_same l) others) other ∙ sym other
]

just_none : (l first : Literal) (others : Literals) → list_all (is_same first) others ≡ false → is_just l (first ∷ others) ≡ false
just_none l first others some = false_from_ne_true (is_just l (first ∷ others)) (λ just.
    let parts = and_parts (is_same l first) (list_all (is_same l) others) just in
    let is : l ≡ first = is_same-true l first parts.0 in
    both_ways (list_all (is_same first) others) some (subst (λ (k : Literal). list_all (is_same k) others ≡ true) is parts.1))

-- no literal of the list has such a clause
none_just : (keep : Literals) (before : List Line) (c : Literals) → ((l : Literal) → is_just l c ≡ false)
    → list_any (λ (l : Literal). is_just l c && not (have_unit before l)) keep ≡ false
none_just [] before c none = refl
none_just (l ∷ keep) before c none =
    ap (λ (b : Bool). (b && not (have_unit before l)) || list_any (λ (k : Literal). is_just k c && not (have_unit before k)) keep) (none l)
    ∙ none_just keep before c none

one_just : (keep : Literals) (before : List Line) (first : Literal) (others : Literals) → list_all (is_same first) others ≡ true
    → list_any (λ (l : Literal). is_just l (first ∷ others) && not (have_unit before l)) keep ≡ (has keep first && not (have_unit before first))
one_just keep before first others all =
    same_test (list_any (λ (l : Literal). is_just l (first ∷ others) && not (have_unit before l)) keep)
    (has keep first && not (have_unit before first)) forth back
  where
    forth : list_any (λ (l : Literal). is_just l (first ∷ others) && not (have_unit before l)) keep ≡ true
        → (has keep first && not (have_unit before first)) ≡ true
    forth some =
        let (l, there, passes) = member_of_list_any (λ (l : Literal). is_just l (first ∷ others) && not (have_unit before l)) keep some in
        let parts = and_parts (is_just l (first ∷ others)) (not (have_unit before l)) passes in
        let is : l ≡ first = is_same-true l first (sym (just_first l first others all) ∙ parts.0) in
        and_from (has keep first) (not (have_unit before first))
        (has_of_Contains keep first (subst (Contains keep) is there))
        (subst (λ (k : Literal). not (have_unit before k) ≡ true) is parts.1)

    back : (has keep first && not (have_unit before first)) ≡ true
        → list_any (λ (l : Literal). is_just l (first ∷ others) && not (have_unit before l)) keep ≡ true
    back both =
        let parts = and_parts (has keep first) (not (have_unit before first)) both in
        list_any_of_member (λ (l : Literal). is_just l (first ∷ others) && not (have_unit before l)) keep first
        (Contains_of_has keep first parts.0)
        (and_from (is_just first (first ∷ others)) (not (have_unit before first))
        (just_first first first others all ∙ is_same_itself first) parts.1)

-- one line more

empty_more : (before : List Line) (line : Line) → have_empty (before ++ line ∷ []) ≡ (have_empty before || is_empty (clause_of line))
empty_more before line = any_push (λ (m : Line). is_empty (clause_of m)) before line

unit_more : (before : List Line) (line : Line) (l : Literal) → have_unit (before ++ line ∷ []) l ≡ (have_unit before l || is_just l (clause_of line))
unit_more before line l = any_push (λ (m : Line). is_just l (clause_of m)) before line

-- units that a line doesn't have are looked for as before
units_stay : (keep : Literals) (before : List Line) (line : Line) (l : Literal) → is_just l (clause_of line) ≡ false
    → (has keep l && not (have_unit before l)) ≡ (has keep l && not (have_unit (before ++ line ∷ []) l))
units_stay keep before line l none =
    ap (λ (b : Bool). has keep l && not b)
    (sym (unit_more before line l ∙ ap (λ (b : Bool). have_unit before l || b) none ∙ or_false (have_unit before l)))

empty_stays : (before : List Line) (line : Line) → is_empty (clause_of line) ≡ false → not (have_empty before) ≡ not (have_empty (before ++ line ∷ []))
empty_stays before line none =
    ap not (sym (empty_more before line ∙ ap (λ (b : Bool). have_empty before || b) none ∙ or_false (have_empty before)))

pub root_empty : (keep : Literals) (before : List Line) (units : List Bool) (empty : Bool) → IsLookingFor keep before units empty
    → empty ≡ is_root keep before []
root_empty keep before units empty looks =
    looks.empty_is
    ∙ sym (ap (λ (b : Bool). not (have_empty before) || b) (none_just keep before [] (λ l. refl)) ∙ or_false (not (have_empty before)))

pub looks_empty : (keep : Literals) (before : List Line) (line : Line) (units next : List Bool) (empty left : Bool) → clause_of line ≡ []
    → next ≡ units → left ≡ false → IsLookingFor keep before units empty → IsLookingFor keep (before ++ line ∷ []) next left
looks_empty keep before line units next empty left clause next_is left_is looks = record {
  empty_is = left_is ∙ sym (ap not (empty_more before line
      ∙ ap (λ (c : Literals). have_empty before || is_empty c) clause ∙ or_true (have_empty before)));
  units_are = λ l. ap (λ (us : List Bool). get_or us (code_of l) false) next_is ∙ looks.units_are l
      ∙ units_stay keep before line l (ap (is_just l) clause);
}

pub root_unit : (keep : Literals) (before : List Line) (units : List Bool) (empty : Bool) (first : Literal) (others : Literals)
    → list_all (is_same first) others ≡ true → IsLookingFor keep before units empty
    → get_or units (code_of first) false ≡ is_root keep before (first ∷ others)
root_unit keep before units empty first others all looks = looks.units_are first ∙ sym (one_just keep before first others all)

pub looks_unit : (keep : Literals) (before : List Line) (line : Line) (units next : List Bool) (empty left : Bool) (first : Literal) (others : Literals)
    → list_all (is_same first) others ≡ true → code_of first < length units → clause_of line ≡ first ∷ others
    → next ≡ set units (code_of first) false → left ≡ empty → IsLookingFor keep before units empty
    → IsLookingFor keep (before ++ line ∷ []) next left
looks_unit keep before line units next empty left first others all room clause next_is left_is looks = record {
  empty_is = left_is ∙ looks.empty_is ∙ empty_stays before line (ap is_empty clause);
  units_are = λ l. ap (λ (us : List Bool). get_or us (code_of l) false) next_is ∙ (elim (cases_eq (code_of l) (code_of first)) [
    | inl same ↦
        (let is : l ≡ first = code_of_injective l first same in
        let found : have_unit (before ++ line ∷ []) first ≡ true =
        unit_more before line first
        ∙ ap (λ (c : Literals). have_unit before first || is_just first c) clause
        ∙ ap (λ (b : Bool). have_unit before first || b) (just_first first first others all ∙ is_same_itself first)
        ∙ or_true (have_unit before first) in
        subst (λ (k : Literal). get_or (set units (code_of first) false) (code_of k) false ≡ (has keep k && not (have_unit (before ++ line ∷ []) k)))
        (sym is)
        (get_or-set_same units (code_of first) false false room
        ∙ sym (ap (λ (b : Bool). has keep first && not b) found ∙ and_false (has keep first))))
    | inr other ↦
        get_or-set_other units (code_of first) (code_of l) false false other ∙ looks.units_are l
        ∙ units_stay keep before line l (ap (is_just l) clause ∙ just_first l first others all
        ∙ false_from_ne_true (is_same l first) (λ same. other (ap code_of (is_same-true l first same))))
  ]);
}

pub root_other : (keep : Literals) (before : List Line) (first : Literal) (others : Literals)
    → list_all (is_same first) others ≡ false → false ≡ is_root keep before (first ∷ others)
root_other keep before first others some = sym (none_just keep before (first ∷ others) (λ l. just_none l first others some))

pub looks_other : (keep : Literals) (before : List Line) (line : Line) (units : List Bool) (empty : Bool) (first : Literal) (others : Literals)
    → list_all (is_same first) others ≡ false → clause_of line ≡ first ∷ others → IsLookingFor keep before units empty
    → IsLookingFor keep (before ++ line ∷ []) units empty
looks_other keep before line units empty first others some clause looks = record {
  empty_is = looks.empty_is ∙ empty_stays before line (ap is_empty clause);
  units_are = λ l. looks.units_are l ∙ units_stay keep before line l (ap (is_just l) clause ∙ just_none l first others some);
}

-- the literals to be kept, one by one

pub one_wanted : (keep : Literals) (i : ℕ) (lit : Literal) (units : List Bool) → i < length keep → lit ≡ get_or keep i lit → code_of lit < length units
    → ((l : Literal) → get_or units (code_of l) false ≡ has (take i keep) l) → (l : Literal)
    → get_or (set units (code_of lit) true) (code_of l) false ≡ has (take (i + 1) keep) l
one_wanted keep i lit units below is room before l =
    let more : has (take (i + 1) keep) l ≡ (has (take i keep) l || is_same l lit) =
    ap (λ (c : Literals). has c l) (take_more keep i lit below ∙ ap (λ (k : Literal). take i keep ++ k ∷ []) (sym is))
    ∙ any_push (is_same l) (take i keep) lit in
    elim (cases_eq (code_of l) (code_of lit)) [
      | inl same ↦
          (let here : l ≡ lit = code_of_injective l lit same in
          ap (λ (j : ℕ). get_or (set units (code_of lit) true) j false) same ∙ get_or-set_same units (code_of lit) true false room
          ∙ sym (more ∙ ap (λ (k : Literal). has (take i keep) l || is_same k lit) here
          ∙ ap (λ (b : Bool). has (take i keep) l || b) (is_same_itself lit) ∙ or_true (has (take i keep) l)))
      | inr other ↦
          get_or-set_other units (code_of lit) (code_of l) true false other ∙ before l
          ∙ sym (more ∙ ap (λ (b : Bool). has (take i keep) l || b)
          (false_from_ne_true (is_same l lit) (λ same. other (ap code_of (is_same-true l lit same)))) ∙ or_false (has (take i keep) l))
    ]

pub looks_first : (keep : Literals) (units : List Bool) → ((l : Literal) → get_or units (code_of l) false ≡ has keep l) → IsLookingFor keep [] units true
looks_first keep units are = record { empty_is = refl; units_are = λ l. are l ∙ and_true (has keep l) }
  where
    and_true : (b : Bool) → b ≡ (b && true)
    and_true true = refl
    and_true false = refl

-- the marks of roots, line by line

pub roots_none : (keep : Literals) (lines : List Line) → AreRoots keep (take 0 lines) []
roots_none keep lines = record { count = refl; each = λ k below. absurd (omega arith) }

pub roots_more : (keep : Literals) (lines : List Line) (line : Line) (marks : List Bool) (mark : Bool) → AreRoots keep lines marks
    → mark ≡ is_root keep lines (clause_of line) → AreRoots keep (lines ++ line ∷ []) (marks ++ mark ∷ [])
roots_more keep lines line marks mark roots is = record {
  count = length_push marks mark ∙ ap (λ (n : ℕ). n + 1) roots.count ∙ sym (length_push lines line);
  each = λ k below. elim (cases_lt k (length lines)) [
    | inl before ↦
        get_or_append_left marks (mark ∷ []) false k (omega (arith, roots.count)) ∙ roots.each k before
        ∙ sym (ap (λ (xs : List Line). is_root keep xs (clause_of (line_at (lines ++ line ∷ []) k))) (take-append-le k lines (line ∷ []) (omega arith))
        ∙ ap (λ (m : Line). is_root keep (take k lines) (clause_of m)) (get_or_append_left lines (line ∷ []) no_line k before))
    | inr last ↦
        (let at_end : length lines ≡ k = omega (arith, length_push lines line) in
        get_or_push marks mark false k (roots.count ∙ at_end) ∙ is
        ∙ sym (ap (λ (xs : List Line). is_root keep xs (clause_of (line_at (lines ++ line ∷ []) k)))
        (take-append-le k lines (line ∷ []) (omega arith) ∙ take_all k lines (omega arith))
        ∙ ap (λ (m : Line). is_root keep lines (clause_of m)) (get_or_push lines line no_line k at_end)))
  ];
}

-- marks of hints

pub hints_none : (inputs : ℕ) (marks : List Bool) → AreHintsMarked inputs [] marks marks
hints_none inputs marks = record {
  count = refl;
  each = λ k below. (
    λ marked. inl marked,
    λ cases. ⊎_elim (λ marked. marked)
        (λ (none : Contains [] (inputs + 1 + k)). absurd (Contains-nil (inputs + 1 + k) none)) cases,
  );
}

pub hints_more : (inputs : ℕ) (hints : List ℕ) (old new : List Bool) (h : ℕ) → AreHintsMarked inputs hints old new → inputs < h
    → h < inputs + 1 + length old → AreHintsMarked inputs (hints ++ h ∷ []) old (set new (h - inputs - 1) true)
hints_more inputs hints old new h marked high room = record {
  count = length-set new (h - inputs - 1) true ∙ marked.count;
  each = λ k below. elim (cases_eq k (h - inputs - 1)) [
    | inl same ↦
        (let is : inputs + 1 + k ≡ h = omega arith in (
          λ _m. inr (subst (Contains (hints ++ h ∷ [])) (sym is) (Contains-push hints h)),
          λ _c. ap (λ (i : ℕ). get_or (set new (h - inputs - 1) true) i false) same
              ∙ get_or-set_same new (h - inputs - 1) true false (omega (arith, marked.count)),
        ))
    | inr other ↦
        (let stays : is_marked (set new (h - inputs - 1) true) k ≡ is_marked new k = get_or-set_other new (h - inputs - 1) k true false other in (
          λ now. ⊎_elim (λ (m : IsTrue (is_marked old k)). inl m)
              (λ (there : Contains hints (inputs + 1 + k)). inr (Contains-append_left hints (h ∷ []) (inputs + 1 + k) there))
              ((marked.each k below).0 (sym stays ∙ now)),
          λ cases. stays ∙ (marked.each k below).1 (⊎_elim (λ (m : IsTrue (is_marked old k)). inl m)
              (λ (there : Contains (hints ++ h ∷ []) (inputs + 1 + k)). ⊎_elim (λ (before : Contains hints (inputs + 1 + k)). inr before)
              (λ (is : h ≡ inputs + 1 + k). absurd (other (omega arith)))
              (Contains-push_cases hints h (inputs + 1 + k) there)) cases),
        ))
  ];
}

pub hints_skip : (inputs : ℕ) (hints : List ℕ) (old new : List Bool) (h : ℕ) → AreHintsMarked inputs hints old new → h ≤ inputs
    → AreHintsMarked inputs (hints ++ h ∷ []) old new
hints_skip inputs hints old new h marked low = record {
  count = marked.count;
  each = λ k below. (
    λ now. ⊎_elim (λ (m : IsTrue (is_marked old k)). inl m)
        (λ (there : Contains hints (inputs + 1 + k)). inr (Contains-append_left hints (h ∷ []) (inputs + 1 + k) there))
        ((marked.each k below).0 now),
    λ cases. (marked.each k below).1 (⊎_elim (λ (m : IsTrue (is_marked old k)). inl m)
        (λ (there : Contains (hints ++ h ∷ []) (inputs + 1 + k)). ⊎_elim (λ (before : Contains hints (inputs + 1 + k)). inr before)
        (λ (is : h ≡ inputs + 1 + k). absurd (omega arith))
        (Contains-push_cases hints h (inputs + 1 + k) there)) cases),
  );
}

-- the lines backwards

pub needed_none : (F : Cnf) (lines : List Line) (keep : Literals) (marks : List Bool) → AreRoots keep lines marks
    → AreNeededFrom F lines keep (length lines) marks
needed_none F lines keep marks roots = record {
  count = roots.count;
  each = λ k below. (
    λ marked. inl (sym (roots.each k below) ∙ marked),
    λ cases. ⊎_elim (λ root. roots.each k below ∙ root)
        (λ (from : IsHintFrom F lines marks (length lines) k). absurd (omega (arith, from.behind, from.within))) cases,
  );
}

pub needed_skip : (F : Cnf) (lines : List Line) (keep : Literals) (marks : List Bool) (j : ℕ) → j < length lines
    → is_marked marks j ≡ false → AreNeededFrom F lines keep (j + 1) marks → AreNeededFrom F lines keep j marks
needed_skip F lines keep marks j within unmarked needed = record {
  count = needed.count;
  each = λ k below. (
    λ marked. ⊎_elim (λ root. inl root) (λ (from : IsHintFrom F lines marks (j + 1) k). inr (record {
      line = from.line;
      behind = omega (arith, from.behind);
      within = from.within;
      marked = from.marked;
      hint = from.hint;
    })) ((needed.each k below).0 marked),
    λ cases. (needed.each k below).1 (⊎_elim (λ root. inl root) (λ (from : IsHintFrom F lines marks j k). inr (record {
      line = from.line;
      behind = elim (cases_eq from.line j) [
        | inl same ↦ absurd (both_ways (is_marked marks j) unmarked (ap (is_marked marks) (sym same) ∙ from.marked))
        | inr other ↦ omega (arith, from.behind)
      ];
      within = from.within;
      marked = from.marked;
      hint = from.hint;
    })) cases),
  );
}

pub needed_more : (F : Cnf) (lines : List Line) (keep : Literals) (old new : List Bool) (j : ℕ) → j < length lines → AreHintsBelow F lines
    → is_marked old j ≡ true → AreHintsMarked (length F.clauses) (hints_of (line_at lines j)) old new
    → AreNeededFrom F lines keep (j + 1) old → AreNeededFrom F lines keep j new
needed_more F lines keep old new j within below_lines marked_j hints needed = record {
  count = hints.count ∙ needed.count;
  each = λ k below. (forth k below, back k below);
}
  where
    -- marks from the line on are as they were
    stays : (k : ℕ) → j ≤ k → k < length lines → is_marked new k ≡ true → is_marked old k ≡ true
    stays k behind below now = ⊎_elim (λ m. m)
        (λ (there : Contains (hints_of (line_at lines j)) (length F.clauses + 1 + k)).
        let hint = All-contains (IsHint (length F.clauses + 1 + j)) (hints_of (line_at lines j)) (length F.clauses + 1 + k) (below_lines j within) there in
        absurd (omega (arith, hint.high)))
        ((hints.each k (omega (arith, needed.count))).0 now)

    kept : (k : ℕ) → k < length lines → is_marked old k ≡ true → is_marked new k ≡ true
    kept k below then_marked = (hints.each k (omega (arith, needed.count))).1 (inl then_marked)

    forth : (k : ℕ) → k < length lines → IsTrue (is_marked new k)
        → IsTrue (is_root keep (take k lines) (clause_of (line_at lines k))) ⊎ IsHintFrom F lines new j k
    forth k below now = ⊎_elim
        (λ (was : IsTrue (is_marked old k)). ⊎_elim (λ root. inl root) (λ (from : IsHintFrom F lines old (j + 1) k). inr (record {
          line = from.line;
          behind = omega (arith, from.behind);
          within = from.within;
          marked = kept from.line from.within from.marked;
          hint = from.hint;
        })) ((needed.each k below).0 was))
        (λ (there : Contains (hints_of (line_at lines j)) (length F.clauses + 1 + k)). inr (record {
          line = j;
          behind = omega arith;
          within = within;
          marked = kept j within marked_j;
          hint = there;
        }))
        ((hints.each k (omega (arith, needed.count))).0 now)

    back : (k : ℕ) → k < length lines
        → IsTrue (is_root keep (take k lines) (clause_of (line_at lines k))) ⊎ IsHintFrom F lines new j k → IsTrue (is_marked new k)
    back k below (inl root) = kept k below ((needed.each k below).1 (inl root))
    back k below (inr from) = elim (cases_eq from.line j) [
      | inl same ↦ (hints.each k (omega (arith, needed.count))).1
          (inr (subst (λ (i : ℕ). Contains (hints_of (line_at lines i)) (length F.clauses + 1 + k)) same from.hint))
      | inr other ↦ kept k below ((needed.each k below).1 (inr (record {
        line = from.line;
        behind = omega (arith, from.behind);
        within = from.within;
        marked = stays from.line from.behind from.within from.marked;
        hint = from.hint;
      })))
    ]

pub needed_all : (F : Cnf) (lines : List Line) (keep : Literals) (marks : List Bool) → AreNeededFrom F lines keep 0 marks → AreNeeded F lines keep marks
needed_all F lines keep marks needed = record {
  count = needed.count;
  each = λ k below. (
    λ marked. ⊎_elim (λ root. inl root) (λ (from : IsHintFrom F lines marks 0 k).
        inr (record { line = from.line; within = from.within; marked = from.marked; hint = from.hint })) ((needed.each k below).0 marked),
    λ cases. (needed.each k below).1 (⊎_elim (λ root. inl root) (λ (from : IsHintOfMarked F lines marks k).
        inr (record { line = from.line; behind = omega arith; within = from.within; marked = from.marked; hint = from.hint })) cases),
  );
}

pub first_and_rest : (c : Literals) (first : Literal) → 1 ≤ length c → first ≡ get_or c 0 first → c ≡ first ∷ take (length c - 1) (drop 1 c)
first_and_rest [] first some is = absurd (omega arith)
first_and_rest (l ∷ c) first some is =
    ap (λ (k : Literal). k ∷ c) (sym is) ∙ ap (λ (d : Literals). first ∷ d) (sym (take_all (suc (length c) - 1) c (omega arith)))
