-- Entries out of their bytes.
use Rattle.std.specs.Prelude.{◌≡◌, ℕ, ◌+◌, ◌-◌, ◌*◌, ◌^◌, ◌<◌, ◌≤◌, ◌==◌, nat_lt, Bool, if◌then◌else◌, List, [], ◌∷◌, length, map}
use Rattle.std.specs.Prelude.{take, drop, slice_index, All, ⊤}
use Rattle.cnf_core.specs.Literals.{Literals, code_of, literal_of_code}
use Rattle.cnf_core.specs.Formulas.{Cnf}
use Rattle.lrat_log.specs.declared.kind.Kind.{Kind}
use Rattle.lrat_log.specs.declared.kind.Kind.TheVariants.{Learnt, Unit as UnitKind, Core, Empty, Import}
use Rattle.lrat_log.specs.Entries.{Entry, Recorded, no_entry}
use Rattle.lrat_log.specs.Packed.{kind_number, literal_numbers, entry_numbers, packed_numbers, packed_entry}
use Rattle.lrat_log.specs.Steps.Paged.{Stored}
use Rattle.lrat_log.specs.Steps.Counted.{IsCounted}

-- a lowest group before the number that begins a list
abbrev pub low_group : ℕ → List ℕ → List ℕ
low_group g [] = g ∷ []
low_group g (n ∷ ns) = (g + 128 * n) ∷ ns

-- the numbers of these bytes
abbrev pub values : List ℕ → List ℕ
values [] = []
values (b ∷ bs) = if nat_lt b 128 then b ∷ values bs else low_group (b - 128) (values bs)

-- the first of some numbers
abbrev pub first : List ℕ → ℕ
first ns = slice_index ns 0

-- the numbers of a list that begins with their count
abbrev pub counted_list : List ℕ → List ℕ
counted_list ns = take (first ns) (drop 1 ns)

abbrev pub kind_of_number : ℕ → Kind
kind_of_number n =
    if n == 0 then Learnt
    else (if n == 1 then UnitKind else (if n == 2 then Core else (if n == 3 then Empty else Import)))

-- the parts of an entry out of its numbers
abbrev pub literals_in : List ℕ → Literals
literals_in ns = map literal_of_code (counted_list (drop 3 ns))

abbrev pub hints_in : ℕ → List ℕ → List ℕ
hints_in id ns = map (λ d. id - d) (counted_list ns)

-- where the hints begin among the numbers of an entry
abbrev pub front_numbers : Entry → Entry → List ℕ
front_numbers before e =
    kind_number e.kind ∷ (e.query - before.query) ∷ (e.clock - before.clock) ∷ literal_numbers e.literals

-- what is stored of an entry
abbrev pub stored_entry : ℕ → Entry → Entry → Stored
stored_entry id before e = record {
  bytes = packed_entry id before e;
  hints = length (packed_numbers (front_numbers before e));
  clock = e.clock;
}

-- what is stored of entries that follow on this one
abbrev pub stored_entries : ℕ → Entry → List Entry → List Stored
stored_entries id before [] = []
stored_entries id before (e ∷ es) = stored_entry id before e ∷ stored_entries (id + 1) e es

-- an entry out of what is stored of it
abbrev pub unpacked_entry : ℕ → Entry → Stored → Entry
unpacked_entry id before s = record {
  kind = kind_of_number (first (values s.bytes));
  literals = literals_in (values s.bytes);
  hints = hints_in id (values (drop s.hints s.bytes));
  query = before.query + slice_index (values s.bytes) 1;
  clock = s.clock;
}

abbrev pub unpacked : ℕ → Entry → List Stored → List Entry
unpacked id before [] = []
unpacked id before (s ∷ ss) = unpacked_entry id before s ∷ unpacked (id + 1) (unpacked_entry id before s) ss

-- the number fits in 64 bits
abbrev pub IsWord : ℕ → Type 0
IsWord n = n < 2 ^ 64

-- the number is a literal's packed form
pub record IsCode (n : ℕ) : Type 0 where
  pub low : 2 ≤ n
  pub high : n < 2 ^ 21 + 2

-- the bytes of the entry give it back
pub record IsPackable (id : ℕ) (before e : Entry) : Type 0 where
  pub query : before.query ≤ e.query
  pub words : All IsWord (entry_numbers id before e)
  pub codes : All (λ l. IsCode (code_of l)) e.literals
  pub hints : All (λ h. h ≤ id) e.hints

abbrev pub ArePackable : ℕ → Entry → List Entry → Type 0
ArePackable id before [] = ⊤
ArePackable id before (e ∷ es) = IsPackable id before e × ArePackable (id + 1) e es

-- the last of the entries that follow on this one
abbrev pub last_entry : Entry → List Entry → Entry
last_entry before [] = before
last_entry before (e ∷ es) = last_entry e es

-- numbers of which the first says how many follow, each of a kind
pub record IsCountedList (P : ℕ → Type 0) (ns : List ℕ) : Type 0 where
  pub some : 0 < length ns
  pub count : IsWord (first ns)
  pub enough : first ns ≤ length (drop 1 ns)
  pub each : All P (counted_list ns)

-- the log of what is stored
abbrev pub unpacked_log : Cnf → List Stored → ℕ → ℕ → Recorded
unpacked_log F all query clock = record {
  formula = F;
  entries = unpacked (length F.clauses + 1) no_entry all;
  query = query;
  clock = clock;
}

-- what is stored are the entries' bytes, and their log keeps what it owes, with the right counts
pub record IsKept (L : Recorded) (all : List Stored) (used : Bool) (learnt last_query : ℕ) : Type 0 where
  pub stored : all ≡ stored_entries (length L.formula.clauses + 1) no_entry L.entries
  pub packable : ArePackable (length L.formula.clauses + 1) no_entry L.entries
  pub counted : IsCounted L used learnt
  pub last_is : last_query ≡ (last_entry no_entry L.entries).query
  pub clock : L.clock ≡ (last_entry no_entry L.entries).clock
  pub rises : last_query ≤ L.query
