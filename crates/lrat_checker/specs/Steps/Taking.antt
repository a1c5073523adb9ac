-- What a checker does with a line, by what it keeps.
use Rattle.std.specs.Prelude.{◌≡◌, ℕ, ◌+◌, ◌*◌, length, nat_lt, nat_le, Bool, false, ◌||◌, if◌then◌else◌, List, [], All, find}
use Rattle.std.specs.Prelude.{Option, Some, None, is_none, Result, Ok, Err, slice_index_or}
use Rattle.cnf_core.specs.Literals.{Literal, Literals, code_of}
use Rattle.lrat_lines.specs.Propagation.{Refusal, IdNotRising, rup}
use Rattle.lrat_lines.specs.Proofs.{with_set, without, refusal_of}
use Rattle.lrat_checker.specs.declared.refused.Refused.{Refused}
use Rattle.lrat_checker.specs.Refusals.{IsRefusal}
use Rattle.lrat_checker.specs.Checking.{Kept, known_of}
use Rattle.lrat_checker.specs.Steps.Assigned.{HasPlace}
use Rattle.lrat_checker.specs.Steps.Units.{is_unit, is_empty}

-- nothing is refused, or it is this refusal
abbrev pub Shows : Result (Unit {0}) Refused → Option Refusal → Type 0
Shows (Ok done) given = given ≡ None
Shows (Err refused) given = IsRefusal refused given

-- the refusal of an addition, by what is kept
abbrev pub add_refusal : Kept → ℕ → Literals → List ℕ → Option Refusal
add_refusal kept id c hints =
    if nat_le id kept.top then Some (IdNotRising id)
    else refusal_of (find (λ l. nat_lt kept.vars l.var) c) (rup (known_of kept.known) hints c)

-- a set more is known and reached
pub record Admits (old new : Kept) (id : ℕ) (c : Literals) : Type 0 where
  pub vars : new.vars ≡ old.vars
  pub top : new.top ≡ id
  pub known : (q : ℕ) → known_of new.known q ≡ with_set (known_of old.known) id c q
  pub units : (l : Literal) → slice_index_or new.units (code_of l) false
      ≡ (slice_index_or old.units (code_of l) false || is_unit c l)
  pub empty : new.empty ≡ (old.empty || is_empty c)

-- the first of the ids by which nothing is known
abbrev pub first_unknown : List (ℕ × Literals) → List ℕ → Option ℕ
first_unknown entries ids = find (λ q. is_none (known_of entries q)) ids

-- sets are no longer known
pub record Forgets (old new : Kept) (ids : List ℕ) : Type 0 where
  pub rest : new ≡ record old { known = new.known }
  pub known : (q : ℕ) → known_of new.known q ≡ without (known_of old.known) ids q

-- each literal of a set that is known has a place in a table of so many codes
abbrev pub ArePlaced : ℕ → List (ℕ × Literals) → Type 0
ArePlaced codes entries = (id : ℕ) (c : Literals) → known_of entries id ≡ Some c → All (HasPlace codes) c

-- an addition that is not refused
pub record Adds (old new : Kept) (id : ℕ) (c : Literals) (hints : List ℕ) : Type 0 where
  pub shown : add_refusal old id c hints ≡ None
  pub admits : Admits old new id c

-- a deletion that is not refused
pub record Deletes (old new : Kept) (ids : List ℕ) : Type 0 where
  pub all_known : first_unknown old.known ids ≡ None
  pub forgets : Forgets old new ids

-- no clause is known yet
pub record IsFresh (vars : ℕ) (kept : Kept) : Type 0 where
  pub vars_are : kept.vars ≡ vars
  pub top : kept.top ≡ 0
  pub known : kept.known ≡ []
  pub units : (code : ℕ) → slice_index_or kept.units code false ≡ false
  pub empty : kept.empty ≡ false

-- the tables have a place for each literal of the formula, and no other stands in a known set
pub record IsSound (vars : ℕ) (known : List (ℕ × Literals)) (codes : ℕ) (units : List Bool) : Type 0 where
  pub codes_are : codes ≡ 2 * vars + 2
  pub units_are : length units ≡ codes
  pub placed : ArePlaced codes known
