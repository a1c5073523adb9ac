-- The least clock of what is left, and the entries of one clock, log by log.
use Rattle.std.proofs.Common.{◌≡◌, ◌⊎◌, ℕ, ◌+◌, ◌<◌, ◌≤◌, List, length, Option, Some, None, inl, inr, refl, sym, ap, subst, arith}
use Rattle.std.specs.Prelude.{MatchOption}
use Rattle.std.proofs.lemmas.Bool.{cases_lt, cases_eq, le-leb, lt-leb}
use Rattle.cnf_core.specs.Formulas.{Cnf}
use Rattle.lrat_log.specs.Entries.{Recorded}
use Rattle.lrat_log.specs.Kept.{IsLog}
use Rattle.cert_merge.specs.declared.place.Place.{Place}
use Rattle.cert_merge.specs.Merging.{log_at, entry_in, IsPlace, IsBefore}
use Rattle.cert_merge.specs.Steps.Taking.{ids_at, IsHead, IsLeft, IsTaking, IsNext, IsFront, IsPushed, IsAllTaken, IsLeastClock, IsLeastTo, lesser_of}
use Rattle.cert_merge.proofs.Places.{same_place, clocks_rise, log_kept}
use Rattle.cert_merge.proofs.Taken.{fewer_left, step_given, given_count}

-- the first entry of a log that is left, if it has the clock that is taken
pub front_next : (logs : List Recorded) (ids : List (List ℕ)) (clock : ℕ) (p : Place) → IsFront logs ids clock p.log → IsHead ids p → IsPlace logs p
    → (entry_in logs p).clock ≡ clock → IsNext logs ids p
front_next logs ids clock p front head place is = record {
  head = head;
  is_left = record { place = place; left = omega (arith, head) };
  first = first;
}
  where
    first : (q : Place) → IsLeft logs ids q → (q ≡ p) ⊎ IsBefore logs p q
    first q left = elim (cases_eq (entry_in logs q).clock clock) [
      | inr later ↦
          (let below : clock < (entry_in logs q).clock = omega (arith, front.clocks q left) in
          inr (record { clock = omega arith; by_log = λ e. absurd (omega arith); by_entry = λ e f. absurd (omega arith) }))
      | inl same ↦ elim (cases_eq q.log p.log) [
        | inr other ↦
            (let below : p.log < q.log = omega (arith, front.by_log q left same) in
            inr (record { clock = omega arith; by_log = λ e. omega arith; by_entry = λ e f. absurd (omega arith) }))
        | inl here ↦
            (let above : p.entry ≤ q.entry =
            omega (arith, left.left, head, ap (λ (g : ℕ). length (ids_at ids g)) here) in
            elim (cases_eq q.entry p.entry) [
              | inl is_it ↦ inl (same_place q p here is_it)
              | inr more ↦ inr (record { clock = omega arith; by_log = λ e. omega arith; by_entry = λ e f. omega arith })
            ])
      ]
    ]

pub front_stays : (F : Cnf) (logs : List Recorded) (ids next : List (List ℕ)) (units : List ℕ) (order : List Place) (clock g : ℕ) (p : Place)
    → IsTaking F logs ids units order → IsNext logs ids p → IsPushed ids next p → IsFront logs ids clock g → IsFront logs next clock g
front_stays F logs ids next units order clock g p taking is_next pushed front =
    let given = step_given F logs ids units order next p pushed.id taking is_next pushed.is in
    record {
      clocks = λ q left. front.clocks q (fewer_left logs ids next p pushed.id given q left);
      by_log = λ q left same. front.by_log q (fewer_left logs ids next p pushed.id given q left) same;
    }

pub count_rises : (F : Cnf) (logs : List Recorded) (ids next : List (List ℕ)) (units : List ℕ) (order : List Place) (p : Place)
    → IsTaking F logs ids units order → IsNext logs ids p → IsPushed ids next p
    → length (ids_at next p.log) ≡ length (ids_at ids p.log) + 1
count_rises F logs ids next units order p taking is_next pushed =
    given_count ids next p pushed.id (step_given F logs ids units order next p pushed.id taking is_next pushed.is)

-- no entry of the clock is left in the log
pub front_over : (F : Cnf) (logs : List Recorded) (ids : List (List ℕ)) (units : List ℕ) (order : List Place) (clock : ℕ) (p : Place)
    → IsTaking F logs ids units order → IsFront logs ids clock p.log → IsHead ids p
    → (IsPlace logs p → (entry_in logs p).clock ≡ clock → ⊥) → IsFront logs ids clock (p.log + 1)
front_over F logs ids units order clock p taking front head other = record {
  clocks = front.clocks;
  by_log = λ q left same. elim (cases_lt p.log q.log) [
    | inl more ↦ omega arith
    | inr here ↦ absurd (none q left same (omega (arith, front.by_log q left same)))
  ];
}
  where
    none : (q : Place) → IsLeft logs ids q → (entry_in logs q).clock ≡ clock → p.log ≡ q.log → ⊥
    none q left same here =
        let above : p.entry ≤ q.entry = omega (arith, left.left, head, ap (λ (g : ℕ). length (ids_at ids g)) here) in
        let place : IsPlace logs p = record {
          log_within = omega (arith, left.place.log_within);
          within = subst (λ (g : ℕ). p.entry < length (log_at logs g).entries) (sym here) (omega (arith, left.place.within));
        } in
        let least = front.clocks p (record { place = place; left = omega (arith, head) }) in
        let rises = clocks_rise logs p q (log_kept logs q taking.are_logs left.place) left.place here above in
        other place (omega arith)

pub least_front : (logs : List Recorded) (ids : List (List ℕ)) (clock : ℕ) → IsLeastClock logs ids clock → IsFront logs ids clock 0
least_front logs ids clock least = record { clocks = least.least; by_log = λ q left same. omega arith }

pub clock_rises : (logs : List Recorded) (ids : List (List ℕ)) (clock next : ℕ) → IsFront logs ids clock (length logs) → IsLeastClock logs ids next
    → clock < next
clock_rises logs ids clock next front least =
    let q = least.place in
    elim (cases_lt clock next) [
      | inl more ↦ more
      | inr less ↦
          (let is : (entry_in logs q).clock ≡ clock = omega (arith, least.is, front.clocks q least.is_left) in
          absurd (omega (arith, front.by_log q least.is_left is, least.is_left.place.log_within)))
    ]

-- the least clock, log by log

pub least_none : (logs : List Recorded) (ids : List (List ℕ)) → IsLeastTo logs ids 0 None
least_none logs ids q left below = omega arith

pub least_skip : (logs : List Recorded) (ids : List (List ℕ)) (g : ℕ) (o : Option ℕ)
    → length (log_at logs g).entries ≤ length (ids_at ids g) → IsLeastTo logs ids g o → IsLeastTo logs ids (g + 1) o
least_skip logs ids g None all none = λ q left below. elim (cases_lt q.log g) [
  | inl before ↦ none q left before
  | inr here ↦
      (let is : q.log ≡ g = omega arith in
      let over : length (log_at logs q.log).entries ≤ length (ids_at ids q.log) =
      subst (λ (x : ℕ). length (log_at logs x).entries ≤ length (ids_at ids x)) (sym is) all in
      omega (arith, left.left, left.place.within))
]
least_skip logs ids g (Some clock) all least = record {
  place = least.place;
  is_left = least.is_left;
  is = least.is;
  least = λ q left below. elim (cases_lt q.log g) [
    | inl before ↦ least.least q left before
    | inr here ↦
        (let is : q.log ≡ g = omega arith in
        let over : length (log_at logs q.log).entries ≤ length (ids_at ids q.log) =
        subst (λ (x : ℕ). length (log_at logs x).entries ≤ length (ids_at ids x)) (sym is) all in
        absurd (omega (arith, left.left, left.place.within)))
  ];
}

-- what is left of a log has no lower clock than its first entry
head_least : (logs : List Recorded) (ids : List (List ℕ)) (p q : Place) → IsLog (log_at logs p.log) → IsHead ids p → IsLeft logs ids q
    → p.log ≡ q.log → (entry_in logs p).clock ≤ (entry_in logs q).clock
head_least logs ids p q kept head left same =
    clocks_rise logs p q (subst (λ (g : ℕ). IsLog (log_at logs g)) same kept) left.place same
    (omega (arith, left.left, head, ap (λ (g : ℕ). length (ids_at ids g)) same))

pub least_take : (logs : List Recorded) (ids : List (List ℕ)) (p : Place) (o : Option ℕ) → IsLog (log_at logs p.log) → IsPlace logs p → IsHead ids p
    → IsLeastTo logs ids p.log o → IsLeastTo logs ids (p.log + 1) (Some (lesser_of o (entry_in logs p).clock))
least_take logs ids p None kept place head none = record {
  place = p;
  is_left = record { place = place; left = omega (arith, head) };
  is = refl;
  least = λ q left below. elim (cases_lt q.log p.log) [
    | inl before ↦ absurd (none q left before)
    | inr here ↦ head_least logs ids p q kept head left (omega arith)
  ];
}
least_take logs ids p (Some clock) kept place head least = elim (cases_lt (entry_in logs p).clock clock) [
  | inl less ↦ rw (lt-leb clock (entry_in logs p).clock less) (record {
    place = p;
    is_left = record { place = place; left = omega (arith, head) };
    is = refl;
    least = λ q left below. elim (cases_lt q.log p.log) [
      | inl before ↦ omega (arith, least.least q left before)
      | inr here ↦ head_least logs ids p q kept head left (omega arith)
    ];
  })
  | inr more ↦ rw (le-leb clock (entry_in logs p).clock more) (record {
    place = least.place;
    is_left = least.is_left;
    is = least.is;
    least = λ q left below. elim (cases_lt q.log p.log) [
      | inl before ↦ least.least q left before
      | inr here ↦ omega (arith, head_least logs ids p q kept head left (omega arith))
    ];
  })
]

pub least_all : (logs : List Recorded) (ids : List (List ℕ)) (o : Option ℕ) → IsLeastTo logs ids (length logs) o
    → MatchOption o (IsAllTaken logs ids) (IsLeastClock logs ids)
least_all logs ids None none = λ q left. none q left left.place.log_within
least_all logs ids (Some clock) least = record {
  place = least.place;
  is_left = least.is_left;
  is = least.is;
  least = λ q left. least.least q left left.place.log_within;
}
