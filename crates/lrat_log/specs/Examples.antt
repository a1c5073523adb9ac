-- A log over a small formula, worked by the definitions: 1 or 2; 1 or -2; -1 or 3; -1 or -3, over three
-- variables. It has no model.
use Rattle.std.specs.Prelude.{◌≡◌, ℕ, ◌<◌, List, [], ◌∷◌, length, Contains}
use Rattle.cnf_core.specs.Literals.{Literals}
use Rattle.cnf_core.specs.Formulas.{Cnf, empty_formula, Entails}
use Rattle.lrat_lines.specs.Examples.{positive, negative, implied_one}
use Rattle.lrat_lines.specs.Tight.{IsTight}
use Rattle.lrat_log.specs.declared.kind.Kind.TheVariants.{Learnt, Unit as UnitKind, Core, Empty}
use Rattle.lrat_log.specs.Entries.{Recorded, empty_log, known_after, with_shown, with_import, with_new_query}
use Rattle.cnf_core.specs.Epochs.{epoch_start}
use Rattle.lrat_log.specs.Fresh.{IsPeer, IsFresh}
use Rattle.lrat_log.specs.Kept.{IsShown}
use Rattle.lrat_log.specs.Packed.{packed_number, entry_bytes}

abbrev pub refuted : Cnf
refuted = record (empty_formula 3) {
  clauses = (positive 1 ∷ positive 2 ∷ []) ∷ (positive 1 ∷ negative 2 ∷ [])
      ∷ (negative 1 ∷ positive 3 ∷ []) ∷ (negative 1 ∷ negative 3 ∷ []) ∷ [];
}

-- 1 follows from the first two clauses
abbrev pub by_first_two : List ℕ
by_first_two = 1 ∷ 2 ∷ []

abbrev pub only_one : Literals
only_one = positive 1 ∷ []

abbrev pub with_learnt : Recorded
with_learnt = with_shown (empty_log refuted) Learnt only_one by_first_two

abbrev pub with_unit : Recorded
with_unit = with_shown with_learnt UnitKind only_one (5 ∷ [])

-- 2 and -3 can't both hold
abbrev pub not_two_or_three : Literals
not_two_or_three = negative 2 ∷ positive 3 ∷ []

abbrev pub with_core : Recorded
with_core = with_shown with_unit Core not_two_or_three (3 ∷ 6 ∷ [])

-- in a new query the same clause may be learnt again
abbrev pub with_learnt_again : Recorded
with_learnt_again = with_shown (with_new_query with_core) Learnt only_one by_first_two

abbrev pub with_imports : Recorded
with_imports = with_import (with_import with_learnt_again (positive 3) 7) (positive 2) 4

abbrev pub with_empty : Recorded
with_empty = with_shown with_imports Empty [] (6 ∷ 3 ∷ 4 ∷ [])

-- the literal 1, shown from 1 or 2 and 1 or -2, and again in a second query
abbrev pub with_first_unit : Recorded
with_first_unit = with_shown (with_new_query (empty_log implied_one)) UnitKind only_one by_first_two

abbrev pub with_two_units : Recorded
with_two_units = with_shown (with_new_query with_first_unit) UnitKind only_one (3 ∷ [])

-- their bytes, and those of larger numbers
pub record BytesAreWorked : Type 0 where
  pub first : entry_bytes with_two_units 0 ≡ 1 ∷ 0 ∷ 0 ∷ 1 ∷ 2 ∷ 2 ∷ 2 ∷ 1 ∷ []
  pub second : entry_bytes with_two_units 1 ≡ 1 ∷ 1 ∷ 0 ∷ 1 ∷ 2 ∷ 1 ∷ 1 ∷ []
  pub one_byte : packed_number 127 ≡ 127 ∷ []
  pub two_bytes : packed_number 300 ≡ 172 ∷ 2 ∷ []
  pub most : packed_number 18446744073709551615 ≡ 255 ∷ 255 ∷ 255 ∷ 255 ∷ 255 ∷ 255 ∷ 255 ∷ 255 ∷ 255 ∷ 1 ∷ []

-- the ends of the first epochs, and which clauses are compared there
pub record EpochsAreWorked : Type 0 where
  pub first : epoch_start 0 ≡ 0
  pub second : epoch_start 1 ≡ 1000
  pub third : epoch_start 2 ≡ 3000
  pub fourth : epoch_start 3 ≡ 7000
  pub in_first : (learnt : List Literals) (d : Literals) → length learnt < 1000 → Contains learnt d → IsPeer learnt d
  pub at_second : (learnt : List Literals) (d : Literals) → length learnt ≡ 1000 → IsPeer learnt d → ⊥

-- the clause may be learnt now
pub record MayBeLearnt (L : Recorded) (hints : List ℕ) (c : Literals) : Type 0 where
  pub shown : IsShown L.formula L.entries hints c
  pub fresh : IsFresh L.formula L.entries L.query c
  pub tight : IsTight (known_after L.formula L.entries) hints c

pub record LogIsWorked : Type 0 where
  pub learnt : MayBeLearnt (empty_log refuted) by_first_two only_one
  pub unit : IsShown refuted with_learnt.entries (5 ∷ []) only_one
  pub core : IsShown refuted with_unit.entries (3 ∷ 6 ∷ []) not_two_or_three
  pub again : MayBeLearnt (with_new_query with_core) by_first_two only_one
  pub imported : Entails refuted (positive 3)
  pub imported_late : Entails refuted (positive 2)
  pub empty : IsShown refuted with_imports.entries (6 ∷ 3 ∷ 4 ∷ []) []
  -- in two queries
  pub first_unit : IsShown implied_one [] by_first_two only_one
  pub second_unit : IsShown implied_one with_first_unit.entries (3 ∷ []) only_one
  -- no clause of the formula is new, nor one that was learnt before in the query
  pub conflict_itself : IsFresh refuted [] 0 (positive 1 ∷ positive 2 ∷ []) → ⊥
  pub learnt_before : IsFresh refuted with_unit.entries 0 only_one → ⊥
  -- no hint's clause has the literal 3
  pub needless_literal : IsTight (known_after refuted []) by_first_two (positive 1 ∷ positive 3 ∷ []) → ⊥
  -- the second hint shows the clause already
  pub needless_hint : IsTight (known_after refuted []) (1 ∷ 2 ∷ 3 ∷ []) only_one → ⊥
