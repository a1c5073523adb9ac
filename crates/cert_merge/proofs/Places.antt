-- Places of entries in several logs, and what the logs keep of them.
use Rattle.std.proofs.Common.{◌≡◌, ◌⊎◌, ℕ, ◌<◌, ◌≤◌, Bool, true, false, not, IsTrue, List, [], ◌∷◌, length, take, get_or, inl, inr, refl, sym, ap, ◌∙◌, subst, arith}
use Rattle.std.specs.Prelude.{All, OnOk, IfOk, Result, Ok, Err}
use Rattle.cnf_core.specs.declared.memory.NoMemory.{NoMemory}
use Rattle.std.proofs.lemmas.Bool.{cases_lt, cases_order, true≢false}
use Rattle.std.proofs.lemmas.List.{length-take-le, get_or-take, get_or_read}
use Rattle.cnf_core.specs.Literals.{Literal, Literals, IsWithin}
use Rattle.cnf_core.specs.Formulas.{Cnf}
use Rattle.lrat_log.specs.declared.kind.Kind.{Kind}
use Rattle.lrat_log.specs.declared.kind.Kind.TheVariants.{Learnt, Unit as UnitKind, Core, Empty, Import}
use Rattle.lrat_log.specs.Entries.{Entry, Recorded, no_literal, no_entry, is_import, HasLengthOf}
use Rattle.lrat_log.specs.Kept.{IsNext as MayStand, IsLog}
use Rattle.cert_merge.specs.declared.place.Place.{Place}
use Rattle.cert_merge.specs.Merging.{log_at, entry_in, literal_in, IsPlace, IsImport, GivesLine, IsBefore, IsUnitOf}

pub same_place : (p q : Place) → p.log ≡ q.log → p.entry ≡ q.entry → p ≡ q
same_place p q logs entries =
    ap (λ (g : ℕ). record { log = g; entry = p.entry }) logs
    ∙ ap (λ (i : ℕ). record { log = q.log; entry = i }) entries

pub not_before_itself : (logs : List Recorded) (p : Place) → IsBefore logs p p → ⊥
not_before_itself logs p before = omega (arith, before.by_entry refl refl)

pub not_both_before : (logs : List Recorded) (p q : Place) → IsBefore logs p q → IsBefore logs q p → ⊥
not_both_before logs p q first second =
    let clocks : (entry_in logs p).clock ≡ (entry_in logs q).clock = omega (arith, first.clock, second.clock) in
    let places : p.log ≡ q.log = omega (arith, first.by_log clocks, second.by_log (sym clocks)) in
    omega (arith, first.by_entry clocks places, second.by_entry (sym clocks) (sym places))

pub before_then : (logs : List Recorded) (p q r : Place) → IsBefore logs p q → IsBefore logs q r → IsBefore logs p r
before_then logs p q r first second = record {
  clock = omega (arith, first.clock, second.clock);
  by_log = λ same.
      let one : (entry_in logs p).clock ≡ (entry_in logs q).clock = omega (arith, first.clock, second.clock) in
      let two : (entry_in logs q).clock ≡ (entry_in logs r).clock = omega (arith, first.clock, second.clock) in
      omega (arith, first.by_log one, second.by_log two);
  by_entry = λ same log.
      let one : (entry_in logs p).clock ≡ (entry_in logs q).clock = omega (arith, first.clock, second.clock) in
      let two : (entry_in logs q).clock ≡ (entry_in logs r).clock = omega (arith, first.clock, second.clock) in
      let here : p.log ≡ q.log = omega (arith, first.by_log one, second.by_log two) in
      let there : q.log ≡ r.log = omega (arith, first.by_log one, second.by_log two) in
      omega (arith, first.by_entry one here, second.by_entry two there);
}

-- the log of a place, what it keeps, and what the entry owes
pub log_kept : (logs : List Recorded) (p : Place) → All IsLog logs → IsPlace logs p → IsLog (log_at logs p.log)
log_kept logs p kept place = kept p.log _ place.log_within

pub formula_of : (F : Cnf) (logs : List Recorded) (p : Place) → All (λ (L : Recorded). L.formula ≡ F) logs → IsPlace logs p
    → (log_at logs p.log).formula ≡ F
formula_of F logs p of place = of p.log _ place.log_within

pub may_stand : (F : Cnf) (logs : List Recorded) (p : Place) → All IsLog logs → All (λ (L : Recorded). L.formula ≡ F) logs → IsPlace logs p
    → MayStand F (take p.entry (log_at logs p.log).entries) (entry_in logs p)
may_stand F logs p kept of place =
    subst (λ (G : Cnf). MayStand G (take p.entry (log_at logs p.log).entries) (entry_in logs p)) (formula_of F logs p of place)
    ((log_kept logs p kept place).each_next p.entry no_entry place.within)

-- clocks never fall along a log
pub clocks_rise : (logs : List Recorded) (p q : Place) → IsLog (log_at logs q.log) → IsPlace logs q → p.log ≡ q.log → p.entry ≤ q.entry
    → (entry_in logs p).clock ≤ (entry_in logs q).clock
clocks_rise logs p q kept place same below = elim (cases_lt p.entry q.entry) [
  | inl less ↦
      (let es = (log_at logs q.log).entries in
      let later = (kept.each_next q.entry no_entry place.within).later p.entry no_entry
      (omega (arith, place.within, length-take-le q.entry es (omega (arith, place.within)))) in
      let same_log : log_at logs p.log ≡ log_at logs q.log = ap (log_at logs) same in
      subst (λ (L : Recorded). (get_or L.entries p.entry no_entry).clock ≤ (entry_in logs q).clock) (sym same_log)
      (subst (λ (e : Entry). e.clock ≤ (entry_in logs q).clock) (get_or-take q.entry es p.entry no_entry less) later))
  | inr more ↦
      (let is : p ≡ q = same_place p q same (omega arith) in
      omega (arith, ap (λ (x : Place). (entry_in logs x).clock) is))
]

single : (c : Literals) → length c ≡ 1 → c ≡ get_or c 0 no_literal ∷ []
single [] one = absurd (omega arith)
single (l ∷ []) one = refl
single (l ∷ k ∷ c) one = absurd (omega arith)

-- a unit and an import have just one literal
single_by : (kind : Kind) (c : Literals) → HasLengthOf kind c → (kind ≡ UnitKind) ⊎ (kind ≡ Import) → c ≡ get_or c 0 no_literal ∷ []
single_by UnitKind c size which = single c size
single_by Import c size which = single c size
single_by Learnt c size (inl is) = absurd (cc is)
single_by Learnt c size (inr is) = absurd (cc is)
single_by Core c size (inl is) = absurd (cc is)
single_by Core c size (inr is) = absurd (cc is)
single_by Empty c size (inl is) = absurd (cc is)
single_by Empty c size (inr is) = absurd (cc is)

is_import_kind : (kind : Kind) → IsTrue (is_import kind) → kind ≡ Import
is_import_kind Import yes_it = refl
is_import_kind Learnt is = absurd (true≢false (sym is))
is_import_kind UnitKind is = absurd (true≢false (sym is))
is_import_kind Core is = absurd (true≢false (sym is))
is_import_kind Empty is = absurd (true≢false (sym is))

pub unit_literals : (F : Cnf) (logs : List Recorded) (p : Place) → All IsLog logs → All (λ (L : Recorded). L.formula ≡ F) logs → IsPlace logs p
    → (entry_in logs p).kind ≡ UnitKind → (entry_in logs p).literals ≡ literal_in logs p ∷ []
unit_literals F logs p kept of place kind =
    single_by (entry_in logs p).kind (entry_in logs p).literals (may_stand F logs p kept of place).size (inl kind)

pub import_literals : (F : Cnf) (logs : List Recorded) (p : Place) → All IsLog logs → All (λ (L : Recorded). L.formula ≡ F) logs → IsPlace logs p
    → IsImport logs p → (entry_in logs p).literals ≡ literal_in logs p ∷ []
import_literals F logs p kept of place kind =
    single_by (entry_in logs p).kind (entry_in logs p).literals (may_stand F logs p kept of place).size
    (inr (is_import_kind (entry_in logs p).kind kind))

unit_line : (kind : Kind) → kind ≡ UnitKind → IsTrue (not (is_import kind))
unit_line UnitKind is = refl
unit_line Learnt is = refl
unit_line Core is = refl
unit_line Empty is = refl
unit_line Import is = absurd (cc is)

pub unit_gives_line : (logs : List Recorded) (p : Place) → (entry_in logs p).kind ≡ UnitKind → GivesLine logs p
unit_gives_line logs p kind = unit_line (entry_in logs p).kind kind

not_both : (b : Bool) → IsTrue b → IsTrue (not b) → ⊥
not_both true yes_it no_it = true≢false (sym no_it)
not_both false yes_it no_it = true≢false (sym yes_it)

pub not_import_with_line : (logs : List Recorded) (p : Place) → IsImport logs p → GivesLine logs p → ⊥
not_import_with_line logs p import line = not_both (is_import (entry_in logs p).kind) import line

-- a unit's literal is over the formula's variables
pub unit_within : (F : Cnf) (logs : List Recorded) (l : Literal) (p : Place) → All IsLog logs → All (λ (L : Recorded). L.formula ≡ F) logs
    → IsUnitOf logs l p → IsWithin F.vars l
unit_within F logs l p kept of unit =
    let within = (may_stand F logs p kept of unit.place).within (unit_gives_line logs p unit.kind) in
    subst (λ (c : Literals). All (IsWithin F.vars) c) unit.literals within 0 l (omega arith)

-- a log that was read at its place
pub log_read : (logs : List Recorded) (g : ℕ) (L : Recorded) → g < length logs → L ≡ get_or logs g L → L ≡ log_at logs g
log_read logs g L within is = get_or_read logs g L within is _

pub on_ok : (r : Result (Unit {0}) NoMemory) (P Q : Type 0) → (P → Q) → OnOk r P → OnOk r Q
on_ok (Ok x) P Q f p = f p
on_ok (Err e) P Q f p = p

pub with_ok : (r : Result (Unit {0}) NoMemory) (P Q : Type 0) → OnOk r P → OnOk r Q → OnOk r (P × Q)
with_ok (Ok x) P Q p q = (p, q)
with_ok (Err e) P Q p q = p

-- an entry stands before a later one of its log
pub before_in_log : (logs : List Recorded) (p q : Place) → IsLog (log_at logs q.log) → IsPlace logs q → p.log ≡ q.log → p.entry < q.entry
    → IsBefore logs p q
before_in_log logs p q kept place same below = record {
  clock = clocks_rise logs p q kept place same (omega arith);
  by_log = λ clocks. omega arith;
  by_entry = λ clocks places. below;
}

-- of two places one stands before the other, or they are the same
pub order_cases : (logs : List Recorded) (p q : Place) → IsBefore logs p q ⊎ ((p ≡ q) ⊎ IsBefore logs q p)
order_cases logs p q = elim (cases_order (entry_in logs p).clock (entry_in logs q).clock) [
  | inr other ↦ elim other [
    | inl less ↦ inl (record { clock = omega arith; by_log = λ e. absurd (omega arith); by_entry = λ e f. absurd (omega arith) })
    | inr more ↦ inr (inr (record { clock = omega arith; by_log = λ e. absurd (omega arith); by_entry = λ e f. absurd (omega arith) }))
  ]
  | inl clocks ↦ elim (cases_order p.log q.log) [
    | inr other ↦ elim other [
      | inl less ↦ inl (record { clock = omega arith; by_log = λ e. omega arith; by_entry = λ e f. absurd (omega arith) })
      | inr more ↦ inr (inr (record { clock = omega arith; by_log = λ e. omega arith; by_entry = λ e f. absurd (omega arith) }))
    ]
    | inl places ↦ elim (cases_order p.entry q.entry) [
      | inl entries ↦ inr (inl (same_place p q places entries))
      | inr other ↦ elim other [
        | inl less ↦ inl (record { clock = omega arith; by_log = λ e. omega arith; by_entry = λ e f. less })
        | inr more ↦ inr (inr (record { clock = omega arith; by_log = λ e. omega arith; by_entry = λ e f. more }))
      ]
    ]
  ]
]

pub if_ok : {T E : Type 0} (r : Result T E) (P Q : T → Type 0) → ((x : T) → P x → Q x) → IfOk r P → IfOk r Q
if_ok (Ok x) P Q f p = f x p
if_ok (Err e) P Q f p = p
