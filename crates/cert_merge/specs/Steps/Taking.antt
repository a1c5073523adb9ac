-- How far the logs were taken into the merged order.
use Rattle.std.specs.Prelude.{◌≡◌, ◌⊎◌, ℕ, ◌+◌, ◌-◌, ◌*◌, ◌<◌, ◌≤◌, ◌==◌, nat_le, if◌then◌else◌, List, [], ◌∷◌, ◌++◌, length, slice_index, slice_index_or, slice_set, Option, Some, None, All, AllPairs, Contains}
use Rattle.cnf_core.specs.Literals.{Literal, IsWithin, code_of}
use Rattle.cnf_core.specs.Formulas.{Cnf}
use Rattle.lrat_log.specs.Entries.{Recorded}
use Rattle.lrat_log.specs.Kept.{IsLog}
use Rattle.cert_merge.specs.declared.place.Place.{Place}
use Rattle.cert_merge.specs.Merging.{log_at, entry_in, literal_in, IsPlace, IsImport, GivesLine, IsBefore, IsUnitOf, IsFirstUnitOf}

-- the ids that a log's entries got, as far as they were taken
abbrev pub ids_at : List (List ℕ) → ℕ → List ℕ
ids_at ids g = slice_index_or ids g []

abbrev pub id_in : List (List ℕ) → Place → ℕ
id_in ids p = slice_index (ids_at ids p.log) p.entry

-- the ids with one more for a log
abbrev pub with_id : List (List ℕ) → ℕ → ℕ → List (List ℕ)
with_id ids g id = slice_set ids g (ids_at ids g ++ id ∷ [])

-- the place is the first of its log that wasn't taken
abbrev pub IsHead : List (List ℕ) → Place → Type 0
IsHead ids p = p.entry ≡ length (ids_at ids p.log)

-- the place's log has one id more
pub record IsPushed (ids next : List (List ℕ)) (p : Place) : Type 0 where
  pub id : ℕ
  pub is : next ≡ with_id ids p.log id

abbrev pub IsTaken : List (List ℕ) → Place → Type 0
IsTaken ids p = p.entry < length (ids_at ids p.log)

pub record IsLeft (logs : List Recorded) (ids : List (List ℕ)) (p : Place) : Type 0 where
  pub place : IsPlace logs p
  pub left : length (ids_at ids p.log) ≤ p.entry

-- a unit of the literal was taken, and this is the id of the first
pub record HasFirstUnit (logs : List Recorded) (ids : List (List ℕ)) (l : Literal) (id : ℕ) : Type 0 where
  pub unit : Place
  pub is_first : IsFirstUnitOf logs l unit
  pub taken : IsTaken ids unit
  pub same : id ≡ id_in ids unit
  pub some : 0 < id

-- no unit of the literal was taken
pub record HasNoUnit (logs : List Recorded) (ids : List (List ℕ)) (l : Literal) (id : ℕ) : Type 0 where
  pub none : id ≡ 0
  pub untaken : (p : Place) → IsUnitOf logs l p → IsTaken ids p → ⊥

-- so far the order has the lines of what was taken, which stands before all that is left
pub record IsTaking (F : Cnf) (logs : List Recorded) (ids : List (List ℕ)) (units : List ℕ) (order : List Place) : Type 0 where
  pub are_logs : All IsLog logs
  pub of : All (λ L. L.formula ≡ F) logs
  pub lists : length ids ≡ length logs
  pub codes : length units ≡ 2 * F.vars + 2
  pub within : (g : ℕ) → length (ids_at ids g) ≤ length (log_at logs g).entries
  pub rises : AllPairs (IsBefore logs) order
  pub places : All (IsPlace logs) order
  pub taken : All (IsTaken ids) order
  pub give_lines : All (GivesLine logs) order
  pub all : (p : Place) → IsPlace logs p → IsTaken ids p → GivesLine logs p → Contains order p
  pub lines : (k : ℕ) (d : Place) → k < length order → id_in ids (slice_index_or order k d) ≡ length F.clauses + 1 + k
  pub imports : (p : Place) → IsPlace logs p → IsTaken ids p → IsImport logs p
      → HasFirstUnit logs ids (literal_in logs p) (id_in ids p)
  pub units_seen : (l : Literal) → IsWithin F.vars l
      → HasFirstUnit logs ids l (slice_index units (code_of l)) ⊎ HasNoUnit logs ids l (slice_index units (code_of l))
  pub before_left : (p q : Place) → IsPlace logs p → IsTaken ids p → IsLeft logs ids q → IsBefore logs p q

-- the place is left, and stands before all else that is
pub record IsNext (logs : List Recorded) (ids : List (List ℕ)) (p : Place) : Type 0 where
  pub head : IsHead ids p
  pub is_left : IsLeft logs ids p
  pub first : (q : Place) → IsLeft logs ids q → (q ≡ p) ⊎ IsBefore logs p q

-- what is left has at least this clock, and that of just this clock stands in this log or a later one
pub record IsFront (logs : List Recorded) (ids : List (List ℕ)) (clock g : ℕ) : Type 0 where
  pub clocks : (q : Place) → IsLeft logs ids q → clock ≤ (entry_in logs q).clock
  pub by_log : (q : Place) → IsLeft logs ids q → (entry_in logs q).clock ≡ clock → g ≤ q.log

-- nothing is left
abbrev pub IsAllTaken : List Recorded → List (List ℕ) → Type 0
IsAllTaken logs ids = (q : Place) → IsLeft logs ids q → ⊥

-- each entry of each log has an id
pub record AreAllTaken (logs : List Recorded) (ids : List (List ℕ)) : Type 0 where
  pub lists : length ids ≡ length logs
  pub entries : (g : ℕ) → length (ids_at ids g) ≡ length (log_at logs g).entries

-- the least clock of what is left
pub record IsLeastClock (logs : List Recorded) (ids : List (List ℕ)) (clock : ℕ) : Type 0 where
  pub place : Place
  pub is_left : IsLeft logs ids place
  pub is : (entry_in logs place).clock ≡ clock
  pub least : (q : Place) → IsLeft logs ids q → clock ≤ (entry_in logs q).clock

-- an id among the entries of one log, by the list of their ids
abbrev pub listed_id : ℕ → List ℕ → ℕ → ℕ
listed_id inputs ids id = if nat_le id inputs then id else slice_index ids (id - (inputs + 1))

-- the ids of first units, with this one where the literal had none
abbrev pub noted : List ℕ → Literal → ℕ → List ℕ
noted units l id = if slice_index units (code_of l) == 0 then slice_set units (code_of l) id else units

-- the lesser of two clocks, of which the first may be missing
abbrev pub lesser_of : Option ℕ → ℕ → ℕ
lesser_of None clock = clock
lesser_of (Some other) clock = if nat_le other clock then other else clock

-- the least clock of what is left in the logs before this one
pub record IsLeastBelow (logs : List Recorded) (ids : List (List ℕ)) (g clock : ℕ) : Type 0 where
  pub place : Place
  pub is_left : IsLeft logs ids place
  pub is : (entry_in logs place).clock ≡ clock
  pub least : (q : Place) → IsLeft logs ids q → q.log < g → clock ≤ (entry_in logs q).clock

-- the same, or nothing is left in these logs
abbrev pub IsLeastTo : List Recorded → List (List ℕ) → ℕ → Option ℕ → Type 0
IsLeastTo logs ids g None = (q : Place) → IsLeft logs ids q → q.log < g → ⊥
IsLeastTo logs ids g (Some clock) = IsLeastBelow logs ids g clock
