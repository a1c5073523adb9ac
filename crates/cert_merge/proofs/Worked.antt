-- The two logs of the example meet what is asked of them.
use Rattle.std.proofs.Common.{◌≡◌, ℕ, zero, suc, ◌<◌, ◌≤◌, [], ◌∷◌, get_or, Contains, refl, subst, ⊎_elim, arith}
use Rattle.std.specs.Prelude.{All}
use Rattle.std.proofs.lemmas.Bool.{false≢true}
use Rattle.std.proofs.lemmas.List.Elements.{All-cons, All-nil}
use Rattle.cnf_core.specs.Literals.{IsWithin}
use Rattle.cnf_core.proofs.Lists.{Contains-cons_cases, Contains-nil}
use Rattle.lrat_lines.specs.Examples.{positive, implied_one}
use Rattle.lrat_lines.specs.Tidy.{IsHint}
use Rattle.lrat_log.specs.Kept.{IsShown}
use Rattle.cert_merge.specs.declared.place.Place.{Place}
use Rattle.cert_merge.specs.Merging.{IsPlace, IsImport, IsShownBefore, AreImportsShown, AreOf}
use Rattle.cert_merge.specs.MergedNeeds.{HasUnitEntry, HaveUnitEntries}
use Rattle.cnf_core.specs.Formulas.{Entails, entails, models, assignments}
use Rattle.lrat_log.specs.Examples.{refuted}
use Rattle.cert_merge.specs.Examples.{one_or_two, only_one, with_first, with_taken, both, helper_with_one, helper_with_three, across}

within_two : (v : ℕ) → 0 < v → v ≤ 2 → IsWithin 2 (positive v)
within_two v low high = record { low = low; high = high }

one_within : All (IsWithin 2) only_one
one_within = All-cons (IsWithin 2) (positive 1) [] (within_two 1 (omega arith) (omega arith)) (All-nil (IsWithin 2))

both_within : All (IsWithin 2) one_or_two
both_within =
    All-cons (IsWithin 2) (positive 1) (positive 2 ∷ []) (within_two 1 (omega arith) (omega arith))
    (All-cons (IsWithin 2) (positive 2) [] (within_two 2 (omega arith) (omega arith)) (All-nil (IsWithin 2)))

hint : (id h : ℕ) → 0 < h → h < id → IsHint id h
hint id h low high = record { low = low; high = high }

pub first_shown : IsShown implied_one [] (1 ∷ []) one_or_two
first_shown = record {
  within = both_within;
  hints_before = All-cons (IsHint 3) 1 [] (hint 3 1 (omega arith) (omega arith)) (All-nil (IsHint 3));
  proved = refl;
}

pub unit_shown : IsShown implied_one with_first.entries (1 ∷ 2 ∷ []) only_one
unit_shown = record {
  within = one_within;
  hints_before = All-cons (IsHint 4) 1 (2 ∷ []) (hint 4 1 (omega arith) (omega arith))
      (All-cons (IsHint 4) 2 [] (hint 4 2 (omega arith) (omega arith)) (All-nil (IsHint 4)));
  proved = refl;
}

pub last_shown : IsShown implied_one with_taken.entries (3 ∷ []) one_or_two
last_shown = record {
  within = both_within;
  hints_before = All-cons (IsHint 4) 3 [] (hint 4 3 (omega arith) (omega arith)) (All-nil (IsHint 4));
  proved = refl;
}

pub of_formula : AreOf implied_one both
of_formula k d below = of_log k below
  where
    of_log : (k : ℕ) → k < 2 → (get_or both k d).formula ≡ implied_one
    of_log zero below = refl
    of_log (suc zero) below = refl
    of_log (suc (suc k)) below = absurd (omega arith)

abbrev at_place : ℕ → ℕ → Place
at_place g i = record { log = g; entry = i }

by_place : (g i : ℕ) → IsPlace both (at_place g i) → IsImport both (at_place g i) → IsShownBefore both (at_place g i)
by_place zero zero place import = record {
  unit = at_place 1 1;
  is_unit = record { place = record { log_within = omega arith; within = omega arith }; kind = refl; literals = refl };
  before = record { clock = omega arith; by_log = λ same. absurd (omega arith); by_entry = λ same log. absurd (omega arith) };
}
by_place zero (suc zero) place import = absurd (false≢true import)
by_place zero (suc (suc i)) place import = absurd (omega (arith, place.within))
by_place (suc zero) zero place import = absurd (false≢true import)
by_place (suc zero) (suc zero) place import = absurd (false≢true import)
by_place (suc zero) (suc (suc i)) place import = absurd (omega (arith, place.within))
by_place (suc (suc g)) i place import = absurd (omega (arith, place.log_within))

pub imports_shown : AreImportsShown both
imports_shown p place import = by_place p.log p.entry place import

pub unit_entries : HaveUnitEntries both only_one
unit_entries l there = ⊎_elim
    (λ (is : positive 1 ≡ l). subst (HasUnitEntry both) is (record {
      unit = at_place 1 1;
      place = record { log_within = omega arith; within = omega arith };
      line = refl;
      just = refl;
    }))
    (λ (none : Contains [] l). absurd (Contains-nil l none))
    (Contains-cons_cases (positive 1) [] l there)

-- the two logs over the formula without a model

pub one_entailed : Entails refuted (positive 1)
unfolding entails models assignments
one_entailed = refl

within_three : (v : ℕ) → 0 < v → v ≤ 3 → All (IsWithin 3) (positive v ∷ [])
within_three v low high = All-cons (IsWithin 3) (positive v) [] (record { low = low; high = high }) (All-nil (IsWithin 3))

pub three_shown : IsShown refuted helper_with_one.entries (5 ∷ 3 ∷ []) (positive 3 ∷ [])
three_shown = record {
  within = within_three 3 (omega arith) (omega arith);
  hints_before = All-cons (IsHint 6) 5 (3 ∷ []) (hint 6 5 (omega arith) (omega arith))
      (All-cons (IsHint 6) 3 [] (hint 6 3 (omega arith) (omega arith)) (All-nil (IsHint 6)));
  proved = refl;
}

pub two_shown : IsShown refuted helper_with_three.entries (5 ∷ 3 ∷ 4 ∷ []) (positive 2 ∷ [])
two_shown = record {
  within = within_three 2 (omega arith) (omega arith);
  hints_before = All-cons (IsHint 7) 5 (3 ∷ 4 ∷ []) (hint 7 5 (omega arith) (omega arith))
      (All-cons (IsHint 7) 3 (4 ∷ []) (hint 7 3 (omega arith) (omega arith))
      (All-cons (IsHint 7) 4 [] (hint 7 4 (omega arith) (omega arith)) (All-nil (IsHint 7))));
  proved = refl;
}

pub of_refuted : AreOf refuted across
of_refuted k d below = of_log k below
  where
    of_log : (k : ℕ) → k < 2 → (get_or across k d).formula ≡ refuted
    of_log zero below = refl
    of_log (suc zero) below = refl
    of_log (suc (suc k)) below = absurd (omega arith)

in_first : (i : ℕ) → IsPlace across (at_place 0 i) → IsImport across (at_place 0 i) → IsShownBefore across (at_place 0 i)
in_first zero place import = absurd (false≢true import)
in_first (suc zero) place import = absurd (false≢true import)
in_first (suc (suc zero)) place import = absurd (false≢true import)
in_first (suc (suc (suc zero))) place import = absurd (false≢true import)
in_first (suc (suc (suc (suc zero)))) place import = record {
  unit = at_place 1 1;
  is_unit = record { place = record { log_within = omega arith; within = omega arith }; kind = refl; literals = refl };
  before = record { clock = omega arith; by_log = λ same. absurd (omega arith); by_entry = λ same log. absurd (omega arith) };
}
in_first (suc (suc (suc (suc (suc zero))))) place import = record {
  unit = at_place 1 2;
  is_unit = record { place = record { log_within = omega arith; within = omega arith }; kind = refl; literals = refl };
  before = record { clock = omega arith; by_log = λ same. absurd (omega arith); by_entry = λ same log. absurd (omega arith) };
}
in_first (suc (suc (suc (suc (suc (suc zero)))))) place import = absurd (false≢true import)
in_first (suc (suc (suc (suc (suc (suc (suc i))))))) place import = absurd (omega (arith, place.within))

in_second : (i : ℕ) → IsPlace across (at_place 1 i) → IsImport across (at_place 1 i) → IsShownBefore across (at_place 1 i)
in_second zero place import = record {
  unit = at_place 0 1;
  is_unit = record { place = record { log_within = omega arith; within = omega arith }; kind = refl; literals = refl };
  before = record { clock = omega arith; by_log = λ same. absurd (omega arith); by_entry = λ same log. absurd (omega arith) };
}
in_second (suc zero) place import = absurd (false≢true import)
in_second (suc (suc zero)) place import = absurd (false≢true import)
in_second (suc (suc (suc i))) place import = absurd (omega (arith, place.within))

shown_across : (g i : ℕ) → IsPlace across (at_place g i) → IsImport across (at_place g i) → IsShownBefore across (at_place g i)
shown_across zero i place import = in_first i place import
shown_across (suc zero) i place import = in_second i place import
shown_across (suc (suc g)) i place import = absurd (omega (arith, place.log_within))

pub imports_across : AreImportsShown across
imports_across p place import = shown_across p.log p.entry place import

pub three_entries : HaveUnitEntries across (positive 3 ∷ [])
three_entries l there = ⊎_elim
    (λ (is : positive 3 ≡ l). subst (HasUnitEntry across) is (record {
      unit = at_place 1 1;
      place = record { log_within = omega arith; within = omega arith };
      line = refl;
      just = refl;
    }))
    (λ (none : Contains [] l). absurd (Contains-nil l none))
    (Contains-cons_cases (positive 3) [] l there)
