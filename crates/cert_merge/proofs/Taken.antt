-- One entry more is taken.
use Rattle.std.proofs.Common.{◌≡◌, ◌⊎◌, ℕ, ◌+◌, ◌*◌, ◌<◌, ◌≤◌, List, [], ◌∷◌, ◌++◌, length, get_or, replicate, Contains, inl, inr, refl, sym, ap, ◌∙◌, subst, length-set, get_or-set_same, get_or-set_other, arith}
use Rattle.std.specs.Prelude.{All}
use Rattle.std.proofs.lemmas.Bool.{cases_lt, cases_eq, eq-eqb, ne_eqb}
use Rattle.std.proofs.lemmas.List.{length_push, get_or_push, get_or_append_left, get_or_past, get_or-replicate, length-replicate}
use Rattle.std.proofs.lemmas.List.Elements.{All-push, All-weaker, All-nil, Contains-append_left, Contains-push}
use Rattle.std.proofs.lemmas.List.Quantifiers.{all_pairs_push}
use Rattle.cnf_core.specs.Literals.{Literal, IsWithin, code_of}
use Rattle.cnf_core.specs.Formulas.{Cnf}
use Rattle.lrat_log.specs.declared.kind.Kind.TheVariants.{Unit as UnitKind}
use Rattle.lrat_log.specs.Entries.{Recorded}
use Rattle.lrat_log.specs.Kept.{IsLog}
use Rattle.cert_merge.specs.declared.place.Place.{Place}
use Rattle.cert_merge.specs.Merging.{log_at, entry_in, literal_in, IsPlace, IsImport, GivesLine, IsBefore, IsMergedOrder, IsUnitOf, AreIds, IsShownBefore, AreImportsShown}
use Rattle.cert_merge.specs.Steps.Taking.{ids_at, id_in, with_id, IsHead, IsTaken, IsLeft, HasFirstUnit, HasNoUnit, IsTaking, IsNext, IsAllTaken, noted}
use Rattle.cert_merge.proofs.Codes.{code_of_injective, code_of-bound}
use Rattle.cert_merge.proofs.Places.{same_place, not_before_itself, not_both_before, unit_literals, unit_gives_line, unit_within, not_import_with_line}

-- the ids with one more

-- this place has this id now, as the first of its log that had none
pub record IsGiven (ids next : List (List ℕ)) (p : Place) (id : ℕ) : Type 0 where
  pub within : p.log < length ids
  pub head : IsHead ids p
  pub is : next ≡ with_id ids p.log id

ids_here : (ids next : List (List ℕ)) (p : Place) (id : ℕ) → IsGiven ids next p id → ids_at next p.log ≡ ids_at ids p.log ++ id ∷ []
ids_here ids next p id given =
    ap (λ (xs : List (List ℕ)). ids_at xs p.log) given.is
    ∙ get_or-set_same ids p.log (ids_at ids p.log ++ id ∷ []) [] given.within

ids_there : (ids next : List (List ℕ)) (p : Place) (id g : ℕ) → IsGiven ids next p id → (g ≡ p.log → ⊥) → ids_at next g ≡ ids_at ids g
ids_there ids next p id g given other =
    ap (λ (xs : List (List ℕ)). ids_at xs g) given.is
    ∙ get_or-set_other ids p.log g (ids_at ids p.log ++ id ∷ []) [] other

pub given_count : (ids next : List (List ℕ)) (p : Place) (id : ℕ) → IsGiven ids next p id → length (ids_at next p.log) ≡ length (ids_at ids p.log) + 1
given_count ids next p id given = ap length (ids_here ids next p id given) ∙ length_push (ids_at ids p.log) id

counts : (ids next : List (List ℕ)) (p : Place) (id g : ℕ) → IsGiven ids next p id
    → ((g ≡ p.log) × (length (ids_at next g) ≡ length (ids_at ids g) + 1)) ⊎ (length (ids_at next g) ≡ length (ids_at ids g))
counts ids next p id g given = elim (cases_eq g p.log) [
  | inl same ↦
      inl (same, subst (λ (x : ℕ). length (ids_at next x) ≡ length (ids_at ids x) + 1) (sym same) (given_count ids next p id given))
  | inr other ↦ inr (ap length (ids_there ids next p id g given other))
]

still_taken : (ids next : List (List ℕ)) (p : Place) (id : ℕ) → IsGiven ids next p id → (q : Place) → IsTaken ids q → IsTaken next q
still_taken ids next p id given q taken = elim (counts ids next p id q.log given) [
  | inl here ↦ omega (arith, here.1)
  | inr same ↦ omega arith
]

taken_itself : (ids next : List (List ℕ)) (p : Place) (id : ℕ) → IsGiven ids next p id → IsTaken next p
taken_itself ids next p id given = omega (arith, given.head, given_count ids next p id given)

taken_cases : (ids next : List (List ℕ)) (p : Place) (id : ℕ) → IsGiven ids next p id → (q : Place) → IsTaken next q → IsTaken ids q ⊎ (q ≡ p)
taken_cases ids next p id given q taken = elim (cases_lt q.entry (length (ids_at ids q.log))) [
  | inl before ↦ inl before
  | inr new ↦ elim (counts ids next p id q.log given) [
    | inl here ↦
        (let log : q.log ≡ p.log = here.0 in
        let head : length (ids_at ids q.log) ≡ p.entry = ap (λ (g : ℕ). length (ids_at ids g)) log ∙ sym given.head in
        inr (same_place q p log (omega (arith, here.1))))
    | inr same ↦ absurd (omega arith)
  ]
]

same_id : (ids next : List (List ℕ)) (p : Place) (id : ℕ) → IsGiven ids next p id → (q : Place) → IsTaken ids q → id_in next q ≡ id_in ids q
same_id ids next p id given q taken = elim (cases_eq q.log p.log) [
  | inl same ↦
      (let whole : ids_at next q.log ≡ ids_at ids q.log ++ id ∷ [] =
      subst (λ (g : ℕ). ids_at next g ≡ ids_at ids g ++ id ∷ []) (sym same) (ids_here ids next p id given) in
      ap (λ (xs : List ℕ). get_or xs q.entry 0) whole ∙ get_or_append_left (ids_at ids q.log) (id ∷ []) 0 q.entry taken)
  | inr other ↦ ap (λ (xs : List ℕ). get_or xs q.entry 0) (ids_there ids next p id q.log given other)
]

new_id : (ids next : List (List ℕ)) (p : Place) (id : ℕ) → IsGiven ids next p id → id_in next p ≡ id
new_id ids next p id given =
    ap (λ (xs : List ℕ). get_or xs p.entry 0) (ids_here ids next p id given)
    ∙ get_or_push (ids_at ids p.log) id 0 p.entry (sym given.head)

pub fewer_left : (logs : List Recorded) (ids next : List (List ℕ)) (p : Place) (id : ℕ) → IsGiven ids next p id → (q : Place)
    → IsLeft logs next q → IsLeft logs ids q
fewer_left logs ids next p id given q left = elim (counts ids next p id q.log given) [
  | inl here ↦ record { place = left.place; left = omega (arith, left.left, here.1) }
  | inr same ↦ record { place = left.place; left = omega (arith, left.left) }
]

other_left : (logs : List Recorded) (ids next : List (List ℕ)) (p : Place) (id : ℕ) → IsGiven ids next p id → (q : Place)
    → IsLeft logs next q → q ≡ p → ⊥
other_left logs ids next p id given q left same =
    let at_p : IsLeft logs next p = subst (λ (x : Place). IsLeft logs next x) same left in
    omega (arith, at_p.left, taken_itself ids next p id given)

pub taken_or_left : (logs : List Recorded) (ids : List (List ℕ)) (p : Place) → IsPlace logs p → IsTaken ids p ⊎ IsLeft logs ids p
taken_or_left logs ids p place = elim (cases_lt p.entry (length (ids_at ids p.log))) [
  | inl taken ↦ inl taken
  | inr left ↦ inr (record { place = place; left = left })
]

-- what stands before the next place was taken
before_next : (logs : List Recorded) (ids : List (List ℕ)) (p : Place) → IsNext logs ids p → (q : Place) → IsPlace logs q → IsBefore logs q p
    → IsTaken ids q
before_next logs ids p next q place before = elim (taken_or_left logs ids q place) [
  | inl taken ↦ taken
  | inr left ↦ elim (next.first q left) [
    | inl same ↦ absurd (not_before_itself logs p (subst (λ (x : Place). IsBefore logs x p) same before))
    | inr after ↦ absurd (not_both_before logs p q after before)
  ]
]

-- first units

first_stays : (logs : List Recorded) (ids next : List (List ℕ)) (p : Place) (id : ℕ) → IsGiven ids next p id → (l : Literal) (x : ℕ)
    → HasFirstUnit logs ids l x → HasFirstUnit logs next l x
first_stays logs ids next p id given l x has = record {
  unit = has.unit;
  is_first = has.is_first;
  taken = still_taken ids next p id given has.unit has.taken;
  same = has.same ∙ sym (same_id ids next p id given has.unit has.taken);
  some = has.some;
}

none_stays : (logs : List Recorded) (ids next : List (List ℕ)) (p : Place) (id : ℕ) → IsGiven ids next p id → (l : Literal) (x : ℕ)
    → (IsUnitOf logs l p → ⊥) → HasNoUnit logs ids l x → HasNoUnit logs next l x
none_stays logs ids next p id given l x other has = record {
  none = has.none;
  untaken = λ q unit taken. elim (taken_cases ids next p id given q taken) [
    | inl before ↦ has.untaken q unit before
    | inr same ↦ other (subst (λ (y : Place). IsUnitOf logs l y) same unit)
  ];
}

-- what is seen of the units of each literal
abbrev AreSeen : Cnf → List Recorded → List (List ℕ) → List ℕ → Type 0
AreSeen F logs ids units = (l : Literal) → IsWithin F.vars l
    → HasFirstUnit logs ids l (get_or units (code_of l) 0) ⊎ HasNoUnit logs ids l (get_or units (code_of l) 0)

seen_beside : (F : Cnf) (logs : List Recorded) (ids next : List (List ℕ)) (units : List ℕ) (p : Place) (id : ℕ) → IsGiven ids next p id
    → ((entry_in logs p).kind ≡ UnitKind → ⊥) → AreSeen F logs ids units → AreSeen F logs next units
seen_beside F logs ids next units p id given other seen l within = elim (seen l within) [
  | inl has ↦ inl (first_stays logs ids next p id given l _ has)
  | inr none ↦ inr (none_stays logs ids next p id given l _ (λ unit. other unit.kind) none)
]

-- the entries

record IsStep (F : Cnf) (logs : List Recorded) (ids : List (List ℕ)) (units : List ℕ) (order : List Place) (next : List (List ℕ)) (p : Place) (id : ℕ) : Type 0 where
  taking : IsTaking F logs ids units order
  is_next : IsNext logs ids p
  given : IsGiven ids next p id

before_rest : (F : Cnf) (logs : List Recorded) (ids : List (List ℕ)) (units : List ℕ) (order : List Place) (next : List (List ℕ)) (p : Place) (id : ℕ)
    → IsStep F logs ids units order next p id → (q r : Place) → IsPlace logs q → IsTaken next q → IsLeft logs next r → IsBefore logs q r
before_rest F logs ids units order next p id step q r place taken left =
    elim (taken_cases ids next p id step.given q taken) [
      | inl before ↦ step.taking.before_left q r place before (fewer_left logs ids next p id step.given r left)
      | inr same ↦ elim (step.is_next.first r (fewer_left logs ids next p id step.given r left)) [
        | inl itself ↦ absurd (other_left logs ids next p id step.given r left itself)
        | inr after ↦ subst (λ (x : Place). IsBefore logs x r) (sym same) after
      ]
    ]

within_more : (F : Cnf) (logs : List Recorded) (ids : List (List ℕ)) (units : List ℕ) (order : List Place) (next : List (List ℕ)) (p : Place) (id : ℕ)
    → IsStep F logs ids units order next p id → (g : ℕ) → length (ids_at next g) ≤ length (log_at logs g).entries
within_more F logs ids units order next p id step g = elim (counts ids next p id g step.given) [
  | inl here ↦
      (let at_head : length (ids_at ids g) ≡ p.entry = ap (λ (x : ℕ). length (ids_at ids x)) here.0 ∙ sym step.given.head in
      let place : p.entry < length (log_at logs g).entries =
      subst (λ (x : ℕ). p.entry < length (log_at logs x).entries) (sym here.0) step.is_next.is_left.place.within in
      omega (arith, here.1))
  | inr same ↦ omega (arith, step.taking.within g)
]

imports_more : (F : Cnf) (logs : List Recorded) (ids : List (List ℕ)) (units : List ℕ) (order : List Place) (next : List (List ℕ)) (p : Place) (id : ℕ)
    → IsStep F logs ids units order next p id → (IsImport logs p → HasFirstUnit logs next (literal_in logs p) id)
    → (q : Place) → IsPlace logs q → IsTaken next q → IsImport logs q → HasFirstUnit logs next (literal_in logs q) (id_in next q)
imports_more F logs ids units order next p id step new q place taken import =
    elim (taken_cases ids next p id step.given q taken) [
      | inl before ↦
          subst (λ (x : ℕ). HasFirstUnit logs next (literal_in logs q) x) (sym (same_id ids next p id step.given q before))
          (first_stays logs ids next p id step.given (literal_in logs q) (id_in ids q) (step.taking.imports q place before import))
      | inr same ↦
          subst (λ (x : Place). HasFirstUnit logs next (literal_in logs x) (id_in next x)) (sym same)
          (subst (λ (x : ℕ). HasFirstUnit logs next (literal_in logs p) x) (sym (new_id ids next p id step.given))
          (new (subst (λ (x : Place). IsImport logs x) same import)))
    ]

lines_stay : (F : Cnf) (logs : List Recorded) (ids : List (List ℕ)) (units : List ℕ) (order : List Place) (next : List (List ℕ)) (p : Place) (id : ℕ)
    → IsStep F logs ids units order next p id → (k : ℕ) (d : Place) → k < length order
    → id_in next (get_or order k d) ≡ length F.clauses + 1 + k
lines_stay F logs ids units order next p id step k d below =
    same_id ids next p id step.given (get_or order k d) (step.taking.taken k d below) ∙ step.taking.lines k d below

-- a line: an entry that is no import is taken, with the next id
line_taken : (F : Cnf) (logs : List Recorded) (ids : List (List ℕ)) (units : List ℕ) (order : List Place) (next : List (List ℕ)) (p : Place) (id : ℕ)
    (seen : List ℕ) → IsStep F logs ids units order next p id → id ≡ length F.clauses + 1 + length order → GivesLine logs p
    → length seen ≡ length units → AreSeen F logs next seen → IsTaking F logs next seen (order ++ p ∷ [])
line_taken F logs ids units order next p id seen step is line same_size seen_units = record {
  are_logs = T.are_logs;
  of = T.of;
  lists = ap length step.given.is ∙ length-set ids p.log (ids_at ids p.log ++ id ∷ []) ∙ T.lists;
  codes = same_size ∙ T.codes;
  within = within_more F logs ids units order next p id step;
  rises = all_pairs_push (IsBefore logs) order p T.rises (λ k d below.
      T.before_left (get_or order k d) p (T.places k d below) (T.taken k d below) step.is_next.is_left);
  places = All-push (IsPlace logs) order p T.places step.is_next.is_left.place;
  taken = All-push (IsTaken next) order p
      (All-weaker (IsTaken ids) (IsTaken next) (still_taken ids next p id step.given) order T.taken)
      (taken_itself ids next p id step.given);
  give_lines = All-push (GivesLine logs) order p T.give_lines line;
  all = λ q place taken gives. elim (taken_cases ids next p id step.given q taken) [
    | inl before ↦ Contains-append_left order (p ∷ []) q (T.all q place before gives)
    | inr same ↦ subst (λ (x : Place). Contains (order ++ p ∷ []) x) (sym same) (Contains-push order p)
  ];
  lines = lines_more;
  imports = imports_more F logs ids units order next p id step (λ import. absurd (not_import_with_line logs p import line));
  units_seen = seen_units;
  before_left = before_rest F logs ids units order next p id step;
}
  where
    T : IsTaking F logs ids units order
    T = step.taking

    lines_more : (k : ℕ) (d : Place) → k < length (order ++ p ∷ []) → id_in next (get_or (order ++ p ∷ []) k d) ≡ length F.clauses + 1 + k
    lines_more k d below = elim (cases_lt k (length order)) [
      | inl before ↦
          ap (id_in next) (get_or_append_left order (p ∷ []) d k before) ∙ lines_stay F logs ids units order next p id step k d before
      | inr last ↦
          (let at_end : length order ≡ k = omega (arith, length_push order p) in
          ap (id_in next) (get_or_push order p d k at_end) ∙ new_id ids next p id step.given ∙ is
          ∙ ap (λ (x : ℕ). length F.clauses + 1 + x) at_end)
    ]

taking_same : (F : Cnf) (logs : List Recorded) (ids : List (List ℕ)) (units : List ℕ) (order : List Place) (seen : List ℕ) (places : List Place)
    → seen ≡ units → places ≡ order → IsTaking F logs ids units order → IsTaking F logs ids seen places
taking_same F logs ids units order seen places seen_is places_are taking =
    subst (λ (xs : List Place). IsTaking F logs ids seen xs) (sym places_are)
    (subst (λ (us : List ℕ). IsTaking F logs ids us order) (sym seen_is) taking)

step_of : (F : Cnf) (logs : List Recorded) (ids : List (List ℕ)) (units : List ℕ) (order : List Place) (next : List (List ℕ)) (p : Place) (id : ℕ)
    → IsTaking F logs ids units order → IsNext logs ids p → next ≡ with_id ids p.log id → IsStep F logs ids units order next p id
step_of F logs ids units order next p id taking is_next is = record {
  taking = taking;
  is_next = is_next;
  given = record { within = omega (arith, taking.lists, is_next.is_left.place.log_within); head = is_next.head; is = is };
}

pub step_given : (F : Cnf) (logs : List Recorded) (ids : List (List ℕ)) (units : List ℕ) (order : List Place) (next : List (List ℕ)) (p : Place) (id : ℕ)
    → IsTaking F logs ids units order → IsNext logs ids p → next ≡ with_id ids p.log id → IsGiven ids next p id
step_given F logs ids units order next p id taking is_next is = (step_of F logs ids units order next p id taking is_next is).given

pub clause_taken : (F : Cnf) (logs : List Recorded) (ids : List (List ℕ)) (units : List ℕ) (order : List Place) (next : List (List ℕ)) (seen : List ℕ)
    (places : List Place) (p : Place) (id : ℕ) → IsTaking F logs ids units order → IsNext logs ids p → next ≡ with_id ids p.log id
    → places ≡ order ++ p ∷ [] → seen ≡ units → id ≡ length F.clauses + 1 + length order → GivesLine logs p
    → ((entry_in logs p).kind ≡ UnitKind → ⊥) → IsTaking F logs next seen places
clause_taken F logs ids units order next seen places p id taking is_next is order_is seen_is id_is line other =
    let step = step_of F logs ids units order next p id taking is_next is in
    taking_same F logs next units (order ++ p ∷ []) seen places seen_is order_is
    (line_taken F logs ids units order next p id units step id_is line refl
    (seen_beside F logs ids next units p id step.given other taking.units_seen))

-- units

code_in_place : (F : Cnf) (units : List ℕ) (l : Literal) → length units ≡ 2 * F.vars + 2 → IsWithin F.vars l → code_of l < length units
code_in_place F units l size within = omega (arith, code_of-bound l, within.high)

cons_head : (k l : Literal) → k ∷ [] ≡ l ∷ [] → k ≡ l
cons_head k l same = cc

unit_seen : (F : Cnf) (logs : List Recorded) (ids next : List (List ℕ)) (units : List ℕ) (p : Place) (id : ℕ) → IsGiven ids next p id
    → IsNext logs ids p → IsUnitOf logs (literal_in logs p) p → code_of (literal_in logs p) < length units → 0 < id
    → AreSeen F logs ids units → AreSeen F logs next (noted units (literal_in logs p) id)
unit_seen F logs ids next units p id given is_next unit room some seen l within =
    elim (cases_eq (code_of l) (code_of k)) [
      | inl same ↦
          subst (λ (m : Literal). HasFirstUnit logs next m (get_or (noted units k id) (code_of m) 0)
          ⊎ HasNoUnit logs next m (get_or (noted units k id) (code_of m) 0)) (sym (code_of_injective l k same))
          (itself (seen k (subst (λ (m : Literal). IsWithin F.vars m) (code_of_injective l k same) within)))
      | inr other ↦
          subst (λ (x : ℕ). HasFirstUnit logs next l x ⊎ HasNoUnit logs next l x) (sym (elsewhere other)) (elim (seen l within) [
            | inl has ↦ inl (first_stays logs ids next p id given l _ has)
            | inr none ↦ inr (none_stays logs ids next p id given l _ (λ here.
                other (ap code_of (cons_head l k (sym here.literals ∙ unit.literals)))) none)
          ])
    ]
  where
    k : Literal
    k = literal_in logs p

    elsewhere : (code_of l ≡ code_of k → ⊥) → get_or (noted units k id) (code_of l) 0 ≡ get_or units (code_of l) 0
    elsewhere other = elim (cases_eq (get_or units (code_of k) 0) 0) [
      | inl free ↦ rw (eq-eqb (get_or units (code_of k) 0) 0 free) (get_or-set_other units (code_of k) (code_of l) id 0 other)
      | inr had ↦ rw (ne_eqb (get_or units (code_of k) 0) 0 had) refl
    ]

    itself : HasFirstUnit logs ids k (get_or units (code_of k) 0) ⊎ HasNoUnit logs ids k (get_or units (code_of k) 0)
        → HasFirstUnit logs next k (get_or (noted units k id) (code_of k) 0) ⊎ HasNoUnit logs next k (get_or (noted units k id) (code_of k) 0)
    itself (inl has) =
        inl (rw (ne_eqb (get_or units (code_of k) 0) 0 (λ e. omega (arith, has.some))) (first_stays logs ids next p id given k _ has))
    itself (inr none) =
        inl (rw (eq-eqb (get_or units (code_of k) 0) 0 none.none)
        (subst (λ (x : ℕ). HasFirstUnit logs next k x) (sym (get_or-set_same units (code_of k) id 0 room)) (record {
          unit = p;
          is_first = record {
            is_unit = unit;
            first = λ q other before. none.untaken q other (before_next logs ids p is_next q other.place before);
          };
          taken = taken_itself ids next p id given;
          same = sym (new_id ids next p id given);
          some = some;
        })))

noted_length : (units : List ℕ) (l : Literal) (id : ℕ) → length (noted units l id) ≡ length units
noted_length units l id = elim (cases_eq (get_or units (code_of l) 0) 0) [
  | inl free ↦ rw (eq-eqb (get_or units (code_of l) 0) 0 free) (length-set units (code_of l) id)
  | inr had ↦ rw (ne_eqb (get_or units (code_of l) 0) 0 had) refl
]

pub unit_taken : (F : Cnf) (logs : List Recorded) (ids : List (List ℕ)) (units : List ℕ) (order : List Place) (next : List (List ℕ)) (seen : List ℕ)
    (places : List Place) (p : Place) (id : ℕ) → IsTaking F logs ids units order → IsNext logs ids p → next ≡ with_id ids p.log id
    → places ≡ order ++ p ∷ [] → seen ≡ noted units (literal_in logs p) id → id ≡ length F.clauses + 1 + length order
    → (entry_in logs p).kind ≡ UnitKind → IsTaking F logs next seen places
unit_taken F logs ids units order next seen places p id taking is_next is order_is seen_is id_is kind =
    let step = step_of F logs ids units order next p id taking is_next is in
    let unit : IsUnitOf logs (literal_in logs p) p = record {
      place = is_next.is_left.place;
      kind = kind;
      literals = unit_literals F logs p taking.are_logs taking.of is_next.is_left.place kind;
    } in
    let room = code_in_place F units (literal_in logs p) taking.codes (unit_within F logs (literal_in logs p) p taking.are_logs taking.of unit) in
    taking_same F logs next (noted units (literal_in logs p) id) (order ++ p ∷ []) seen places seen_is order_is
    (line_taken F logs ids units order next p id (noted units (literal_in logs p) id) step id_is (unit_gives_line logs p kind)
    (noted_length units (literal_in logs p) id)
    (unit_seen F logs ids next units p id step.given is_next unit room (omega arith) taking.units_seen))

-- imports

pub import_within : (F : Cnf) (logs : List Recorded) (ids : List (List ℕ)) (units : List ℕ) (order : List Place) (p : Place)
    → IsTaking F logs ids units order → AreImportsShown logs → IsPlace logs p → IsImport logs p → code_of (literal_in logs p) < length units
import_within F logs ids units order p taking shown place import =
    code_in_place F units (literal_in logs p) taking.codes
    (unit_within F logs (literal_in logs p) (shown p place import).unit taking.are_logs taking.of (shown p place import).is_unit)

import_step : (F : Cnf) (logs : List Recorded) (ids : List (List ℕ)) (units : List ℕ) (order : List Place) (next : List (List ℕ)) (p : Place)
    (id : ℕ) → IsTaking F logs ids units order → IsNext logs ids p → next ≡ with_id ids p.log id → AreImportsShown logs
    → IsImport logs p → id ≡ get_or units (code_of (literal_in logs p)) 0 → IsTaking F logs next units order
import_step F logs ids units order next p id taking is_next is shown import id_is = record {
  are_logs = taking.are_logs;
  of = taking.of;
  lists = ap length is ∙ length-set ids p.log (ids_at ids p.log ++ id ∷ []) ∙ taking.lists;
  codes = taking.codes;
  within = within_more F logs ids units order next p id step;
  rises = taking.rises;
  places = taking.places;
  taken = All-weaker (IsTaken ids) (IsTaken next) (still_taken ids next p id step.given) order taking.taken;
  give_lines = taking.give_lines;
  all = λ q place taken gives. elim (taken_cases ids next p id step.given q taken) [
    | inl before ↦ taking.all q place before gives
    | inr same ↦ absurd (not_import_with_line logs p import (subst (λ (x : Place). GivesLine logs x) same gives))
  ];
  lines = lines_stay F logs ids units order next p id step;
  imports = imports_more F logs ids units order next p id step (λ _i. first_stays logs ids next p id step.given (literal_in logs p) id first);
  units_seen = seen_beside F logs ids next units p id step.given
      (λ unit. not_import_with_line logs p import (unit_gives_line logs p unit)) taking.units_seen;
  before_left = before_rest F logs ids units order next p id step;
}
  where
    step : IsStep F logs ids units order next p id
    step = step_of F logs ids units order next p id taking is_next is

    by_unit : IsShownBefore logs p
    by_unit = shown p is_next.is_left.place import

    first : HasFirstUnit logs ids (literal_in logs p) id
    first = subst (λ (x : ℕ). HasFirstUnit logs ids (literal_in logs p) x) (sym id_is)
        (elim (taking.units_seen (literal_in logs p)
        (unit_within F logs (literal_in logs p) by_unit.unit taking.are_logs taking.of by_unit.is_unit)) [
          | inl has ↦ has
          | inr none ↦ absurd (none.untaken by_unit.unit by_unit.is_unit
              (before_next logs ids p is_next by_unit.unit by_unit.is_unit.place by_unit.before))
        ])

pub import_taken : (F : Cnf) (logs : List Recorded) (ids : List (List ℕ)) (units : List ℕ) (order : List Place) (next : List (List ℕ)) (seen : List ℕ)
    (places : List Place) (p : Place) (id : ℕ) → IsTaking F logs ids units order → IsNext logs ids p → next ≡ with_id ids p.log id
    → places ≡ order → seen ≡ units → AreImportsShown logs → IsImport logs p → id ≡ get_or units (code_of (literal_in logs p)) 0
    → IsTaking F logs next seen places
import_taken F logs ids units order next seen places p id taking is_next is places_are seen_is shown import id_is =
    taking_same F logs next units order seen places seen_is places_are
    (import_step F logs ids units order next p id taking is_next is shown import id_is)

-- the beginning and the end

abbrev pub empty_lists : ℕ → List (List ℕ)
empty_lists n = replicate n []

abbrev pub zeros : ℕ → List ℕ
zeros n = replicate n 0

no_ids : (n g : ℕ) → length (ids_at (empty_lists n) g) ≡ 0
no_ids n g =
    let nothing : List ℕ = [] in
    elim (cases_lt g n) [
      | inl within ↦ ap length (get_or-replicate n g nothing nothing within)
      | inr past ↦ ap length (get_or_past (empty_lists n) g nothing (omega (arith, length-replicate {A = List ℕ} n [])))
    ]

no_units : (n i : ℕ) → get_or (zeros n) i 0 ≡ 0
no_units n i =
    let none : ℕ = 0 in
    elim (cases_lt i n) [
      | inl within ↦ get_or-replicate n i none none within
      | inr past ↦ get_or_past (zeros n) i none (omega (arith, length-replicate {A = ℕ} n 0))
    ]

pub nothing_taken : (F : Cnf) (logs : List Recorded) (ids : List (List ℕ)) (units : List ℕ) (places : List Place) → All IsLog logs
    → All (λ (L : Recorded). L.formula ≡ F) logs → ids ≡ empty_lists (length logs) → units ≡ zeros (2 * F.vars + 2)
    → places ≡ [] → IsTaking F logs ids units places
nothing_taken F logs ids units places kept of ids_are units_are places_are =
    subst (λ (ps : List Place). IsTaking F logs ids units ps) (sym places_are) (subst (λ (xs : List (List ℕ)). IsTaking F logs xs units []) (sym ids_are)
    (subst (λ (us : List ℕ). IsTaking F logs (empty_lists (length logs)) us []) (sym units_are) (record {
      are_logs = kept;
      of = of;
      lists = length-replicate {A = List ℕ} (length logs) [];
      codes = length-replicate {A = ℕ} (2 * F.vars + 2) 0;
      within = λ g. omega (arith, none g);
      rises = λ i j d below within. absurd (omega arith);
      places = All-nil (IsPlace logs);
      taken = All-nil (IsTaken (empty_lists (length logs)));
      give_lines = All-nil (GivesLine logs);
      all = λ p place taken line. absurd (omega (arith, none p.log));
      lines = λ k d below. absurd (omega arith);
      imports = λ p place taken import. absurd (omega (arith, none p.log));
      units_seen = λ l within. inr (record {
        none = no_units (2 * F.vars + 2) (code_of l);
        untaken = λ p unit taken. omega (arith, none p.log);
      });
      before_left = λ p q place taken left. absurd (omega (arith, none p.log));
    })))
  where
    none : (g : ℕ) → length (ids_at (empty_lists (length logs)) g) ≡ 0
    none g = no_ids (length logs) g

taken_all : (F : Cnf) (logs : List Recorded) (ids : List (List ℕ)) (units : List ℕ) (order : List Place) → IsTaking F logs ids units order
    → IsAllTaken logs ids → (p : Place) → IsPlace logs p → IsTaken ids p
taken_all F logs ids units order taking done p place = elim (taken_or_left logs ids p place) [
  | inl taken ↦ taken
  | inr left ↦ absurd (done p left)
]

pub all_merged : (F : Cnf) (logs : List Recorded) (ids : List (List ℕ)) (units : List ℕ) (order : List Place) → IsTaking F logs ids units order
    → IsAllTaken logs ids → IsMergedOrder logs order
all_merged F logs ids units order taking done = record {
  rises = taking.rises;
  places = taking.places;
  give_lines = taking.give_lines;
  all = λ p place line. taking.all p place (taken_all F logs ids units order taking done p place) line;
}

pub all_ids : (F : Cnf) (logs : List Recorded) (ids : List (List ℕ)) (units : List ℕ) (order : List Place) → IsTaking F logs ids units order
    → IsAllTaken logs ids → AreIds F logs order (id_in ids)
all_ids F logs ids units order taking done = record {
  lines = taking.lines;
  imports = λ p place import.
      let has = taking.imports p place (taken_all F logs ids units order taking done p place) import in
      record { unit = has.unit; is_first = has.is_first; same = has.same };
}

pub all_lists : (F : Cnf) (logs : List Recorded) (ids : List (List ℕ)) (units : List ℕ) (order : List Place) → IsTaking F logs ids units order
    → IsAllTaken logs ids → (g : ℕ) → length (ids_at ids g) ≡ length (log_at logs g).entries
all_lists F logs ids units order taking done g = elim (cases_lt (length (ids_at ids g)) (length (log_at logs g).entries)) [
  | inl less ↦ elim (cases_lt g (length logs)) [
    | inl within ↦
        (let p : Place = record { log = g; entry = length (ids_at ids g) } in
        absurd (done p (record { place = record { log_within = within; within = less }; left = omega arith })))
    | inr past ↦
        (let none : length (log_at logs g).entries ≡ 0 = ap (λ (L : Recorded). length L.entries) (get_or_past logs g _ past) in
        absurd (omega arith))
  ]
  | inr same ↦ omega (arith, taking.within g)
]
