-- The entries of a solver's log, and how it grows.
use Rattle.std.specs.Prelude.{◌≡◌, ℕ, ◌+◌, ◌<◌, ◌++◌, false, List, length, All}
use Rattle.cnf_core.specs.Literals.{Literals}
use Rattle.lrat_log.specs.declared.kind.Kind.{Kind}
use Rattle.lrat_log.specs.Entries.{Entry, Recorded, entry_at, is_import, with_new_query}

-- the entry of this id has this kind and clause
pub record IsEntryAt (L : Recorded) (id : ℕ) (kind : Kind) (c : Literals) : Type 0 where
  pub place : ℕ
  pub within : place < length L.entries
  pub has_id : id ≡ length L.formula.clauses + 1 + place
  pub has_kind : (entry_at L place).kind ≡ kind
  pub literals : (entry_at L place).literals ≡ c

-- the log went on in its query: by entries that have its number and were shown here
pub record IsContinued (old new : Recorded) : Type 0 where
  pub formula : new.formula ≡ old.formula
  pub query : new.query ≡ old.query
  pub clock : new.clock ≡ old.clock
  pub more : List Entry
  pub entries : new.entries ≡ old.entries ++ more
  pub own : All (λ e. e.query ≡ old.query) more
  pub shown : All (λ e. is_import e.kind ≡ false) more

-- a query began, and the log went on in it
pub record IsQueried (old new : Recorded) : Type 0 where
  pub formula : new.formula ≡ old.formula
  pub query : new.query ≡ (with_new_query old).query
  pub clock : new.clock ≡ old.clock
  pub more : List Entry
  pub entries : new.entries ≡ old.entries ++ more
  pub own : All (λ e. e.query ≡ new.query) more
  pub shown : All (λ e. is_import e.kind ≡ false) more
