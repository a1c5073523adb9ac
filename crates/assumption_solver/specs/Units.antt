-- The literals that a log shows by themselves: those that hold in every model.
use Rattle.std.specs.Prelude.{◌≡◌, ℕ, ◌+◌, ◌<◌, Bool, true, false, [], ◌∷◌, length}
use Rattle.cnf_core.specs.Literals.{Literal}
use Rattle.lrat_log.specs.declared.kind.Kind.{Kind}
use Rattle.lrat_log.specs.declared.kind.Kind.TheVariants.{Learnt, Unit as UnitKind, Core, Empty, Import}
use Rattle.lrat_log.specs.Entries.{Recorded, entry_at}

abbrev pub is_unit : Kind → Bool
is_unit Learnt = false
is_unit UnitKind = true
is_unit Core = false
is_unit Empty = false
is_unit Import = true

-- the entry of this id shows the literal by itself: here, or by another log
pub record IsUnitAt (L : Recorded) (id : ℕ) (l : Literal) : Type 0 where
  pub place : ℕ
  pub within : place < length L.entries
  pub has_id : id ≡ length L.formula.clauses + 1 + place
  pub kind : is_unit (entry_at L place).kind ≡ true
  pub literals : (entry_at L place).literals ≡ l ∷ []

-- some entry shows the literal by itself
pub record HasUnit (L : Recorded) (l : Literal) : Type 0 where
  pub id : ℕ
  pub at_id : IsUnitAt L id l
