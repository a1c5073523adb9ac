-- Drawn logs with one entry more, and what of them is kept.
use Rattle.std.proofs.Common.{◌≡◌, ℕ, ◌+◌, ◌<◌, List, [], ◌∷◌, length, refl, sym, ap, subst, ⊎_elim, arith}
use Rattle.std.specs.Prelude.{All, Contains, IsTrue, not}
use Rattle.std.proofs.lemmas.List.{length_push, get_or_push}
use Rattle.std.proofs.lemmas.List.Elements.{All-push}
use Rattle.cnf_core.specs.Literals.{Literal, Literals}
use Rattle.cnf_core.specs.Formulas.{Cnf, empty_formula}
use Rattle.cnf_core.proofs.Lists.{Contains-cons_cases, Contains-nil}
use Rattle.lrat_lines.specs.Examples.{positive}
use Rattle.lrat_log.specs.declared.kind.Kind.{Kind}
use Rattle.lrat_log.specs.declared.kind.Kind.TheVariants.{Core, Unit as UnitKind}
use Rattle.lrat_log.specs.Entries.{Entry, Recorded, empty_log, no_entry, entry_at, is_import, next_entry, with_shown}
use Rattle.cert_merge.specs.Trimming.{is_just}
use Rattle.cert_merge.specs.MergedNeeds.{HasUnitEntry, HaveUnitEntries}
use Rattle.merge_bench.specs.Drawn.{IsDrawn, IsWhole}

-- one more entry that is no import
shown_more : (F : Cnf) (n : ℕ) (L : Recorded) (kind : Kind) (c : Literals) (hints : List ℕ) → IsTrue (not (is_import kind))
    → IsDrawn F n L → IsDrawn F (n + 1) (with_shown L kind c hints)
shown_more F n L kind c hints shown drawn =
    let e = next_entry L kind c hints L.clock in
    record {
      formula = drawn.formula;
      count_is = (let count = drawn.count_is in let more = length_push L.entries e in omega arith);
      no_import = All-push (λ (x : Entry). IsTrue (not (is_import x.kind))) L.entries e drawn.no_import shown;
    }

pub core_more : (F : Cnf) (n : ℕ) (L new : Recorded) (c : Literals) (hints : List ℕ) → IsDrawn F n L
    → new ≡ with_shown L Core c hints → IsDrawn F (n + 1) new
core_more F n L new c hints drawn is = subst (IsDrawn F (n + 1)) (sym is) (shown_more F n L Core c hints refl drawn)

pub whole_with_unit : (F : Cnf) (n : ℕ) (L new : Recorded) (l : Literal) (hints : List ℕ) → IsDrawn F n L → l ≡ positive 1
    → new ≡ with_shown L UnitKind (l ∷ []) hints → IsWhole F new
whole_with_unit F n L new l hints drawn one is =
    let e = next_entry L UnitKind (l ∷ []) hints L.clock in
    let last = get_or_push L.entries e no_entry n drawn.count_is in
    subst (IsWhole F) (sym is) (record {
      count = n + 1;
      drawn = shown_more F n L UnitKind (l ∷ []) hints refl drawn;
      place = n;
      within = (let count = drawn.count_is in let more = length_push L.entries e in omega arith);
      kind = ap (λ (x : Entry). x.kind) last;
      literals = subst (λ (k : Literal). (entry_at (with_shown L UnitKind (l ∷ []) hints) n).literals ≡ k ∷ []) one
          (ap (λ (x : Entry). x.literals) last);
    })

unit_entry : (F : Cnf) (logs : List Recorded) → 0 < length logs → All (IsWhole F) logs → HasUnitEntry logs (positive 1)
unit_entry F logs some whole =
    let first = whole 0 (empty_log (empty_formula 0)) some in
    record {
      unit = record { log = 0; entry = first.place };
      place = record { log_within = some; within = first.within };
      line = subst (λ (k : Kind). IsTrue (not (is_import k))) (sym first.kind) refl;
      just = subst (λ (c : Literals). IsTrue (is_just (positive 1) c)) (sym first.literals) refl;
    }

-- each log has the literal 1
pub unit_entries : (F : Cnf) (logs : List Recorded) (one : Literal) → 0 < length logs → All (IsWhole F) logs → one ≡ positive 1
    → HaveUnitEntries logs (one ∷ [])
unit_entries F logs one some whole is =
    subst (λ (k : Literal). HaveUnitEntries logs (k ∷ [])) (sym is)
    (λ l there. ⊎_elim
    (λ (same : positive 1 ≡ l). subst (HasUnitEntry logs) same (unit_entry F logs some whole))
    (λ (none : Contains [] l). absurd (Contains-nil l none))
    (Contains-cons_cases (positive 1) [] l there))
