-- The log of a search: the clauses that it wrote, each with the hints that show it.
use Rattle.std.specs.Prelude.{◌≡◌, ℕ, ◌+◌, ◌==◌, Bool, true, false, if◌then◌else◌, List, [], ◌∷◌, ◌++◌, length, map, count_by}
use Rattle.std.specs.Prelude.{slice_index, slice_index_or, nat_lt, ⊤}
use Rattle.std.specs.List.{list_any}
use Rattle.cnf_core.specs.Literals.{Literal, Literals}
use Rattle.cnf_core.specs.Formulas.{Cnf}
use Rattle.lrat_lines.specs.Propagation.{Known}
use Rattle.lrat_lines.specs.Proofs.{numbered}
use Rattle.lrat_log.specs.declared.kind.Kind.{Kind}
use Rattle.lrat_log.specs.declared.kind.Kind.TheVariants.{Learnt, Unit as UnitKind, Core, Empty, Import}

-- a clause that was written: what it is for, the hints that show it, and the query number and the
-- clock that the log had
pub record Entry : Type 0 where
  pub kind : Kind
  pub literals : Literals
  pub hints : List ℕ
  pub query : ℕ
  pub clock : ℕ

-- a log of a formula: its entries, and the query number and the clock that it has now
pub record Recorded : Type 0 where
  pub formula : Cnf
  pub entries : List Entry
  pub query : ℕ
  pub clock : ℕ

abbrev pub empty_log : Cnf → Recorded
empty_log F = record { formula = F; entries = []; query = 0; clock = 0 }

-- what reads give past the end
abbrev pub no_entry : Entry
no_entry = record { kind = Empty; literals = []; hints = []; query = 0; clock = 0 }

abbrev pub no_literal : Literal
no_literal = record { var = 0; positive = false }

-- an entry by its place, from 0
abbrev pub entry_at : Recorded → ℕ → Entry
entry_at L i = slice_index_or L.entries i no_entry

-- one of its literals, and one of its hints
abbrev pub literal_of : Recorded → ℕ → ℕ → Literal
literal_of L i k = slice_index_or (entry_at L i).literals k no_literal

abbrev pub hint_of : Recorded → ℕ → ℕ → ℕ
hint_of L i k = slice_index (entry_at L i).hints k

abbrev pub is_learnt : Kind → Bool
is_learnt Learnt = true
is_learnt UnitKind = false
is_learnt Core = false
is_learnt Empty = false
is_learnt Import = false

abbrev pub is_import : Kind → Bool
is_import Learnt = false
is_import UnitKind = false
is_import Core = false
is_import Empty = false
is_import Import = true

-- how many literals an entry of this kind has
abbrev pub HasLengthOf : Kind → Literals → Type 0
HasLengthOf Learnt c = ⊤
HasLengthOf UnitKind c = length c ≡ 1
HasLengthOf Core c = ⊤
HasLengthOf Empty c = length c ≡ 0
HasLengthOf Import c = length c ≡ 1

abbrev pub is_learnt_entry : Entry → Bool
is_learnt_entry e = is_learnt e.kind

-- how many clauses were learnt
abbrev pub learnt_count : List Entry → ℕ
learnt_count es = count_by is_learnt_entry es

-- the id of the next entry: the clauses of the formula have the ids from 1 on, and the entries follow
abbrev pub id_after : Cnf → List Entry → ℕ
id_after F before = length F.clauses + 1 + length before

-- the clauses that are known by their ids after these entries, imports too
abbrev pub known_after : Cnf → List Entry → Known
known_after F before = numbered (F.clauses ++ map (λ e. e.literals) before)

-- the entry of a clause that is written at this clock
abbrev pub next_entry : Recorded → Kind → Literals → List ℕ → ℕ → Entry
next_entry L kind c hints clock =
    record { kind = kind; literals = c; hints = hints; query = L.query; clock = clock }

-- the log with one entry more
abbrev pub with_entry : Recorded → Kind → Literals → List ℕ → ℕ → Recorded
with_entry L kind c hints clock = record {
  formula = L.formula;
  entries = L.entries ++ next_entry L kind c hints clock ∷ [];
  query = L.query;
  clock = clock;
}

-- the log with one clause more that was shown here
abbrev pub with_shown : Recorded → Kind → Literals → List ℕ → Recorded
with_shown L kind c hints = with_entry L kind c hints L.clock

-- the greater of two stamps
abbrev pub later_of : ℕ → ℕ → ℕ
later_of s t = if nat_lt s t then t else s

-- the log with a literal that was shown elsewhere, at a stamp
abbrev pub with_import : Recorded → Literal → ℕ → Recorded
with_import L l stamp = with_entry L Import (l ∷ []) [] (later_of L.clock stamp)

-- whether an entry has the log's query number
abbrev pub is_query_used : Recorded → Bool
is_query_used L = list_any (λ e. e.query == L.query) L.entries

-- the log with a query number that no entry has
abbrev pub with_new_query : Recorded → Recorded
with_new_query L = if is_query_used L then record L { query = L.query + 1 } else L
