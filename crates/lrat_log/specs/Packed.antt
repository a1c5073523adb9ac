-- An entry as bytes: numbers in groups of 7 bits.
use Rattle.std.specs.Prelude.{ℕ, zero, suc, ◌+◌, ◌-◌, ◌/◌, ◌%◌, nat_lt, if◌then◌else◌, List, [], ◌∷◌, ◌++◌, length, map}
use Rattle.std.specs.List.{flat_map}
use Rattle.cnf_core.specs.Literals.{Literals, code_of}
use Rattle.lrat_log.specs.declared.kind.Kind.{Kind}
use Rattle.lrat_log.specs.declared.kind.Kind.TheVariants.{Learnt, Unit as UnitKind, Core, Empty, Import}
use Rattle.lrat_log.specs.Entries.{Entry, Recorded, no_entry, entry_at}

-- a number in groups of 7 bits, the lowest first, with 128 added to all bytes but the last: so many bytes at most, and
-- one more
abbrev pub groups : ℕ → ℕ → List ℕ
groups zero n = n ∷ []
groups (suc more) n = if nat_lt n 128 then n ∷ [] else (n % 128 + 128) ∷ groups more (n / 128)

-- a number below 2 ^ 64 takes ten bytes at most
unfoldable pub packed_number : ℕ → List ℕ
packed_number n = groups 9 n

-- the number of a kind
abbrev pub kind_number : Kind → ℕ
kind_number Learnt = 0
kind_number UnitKind = 1
kind_number Core = 2
kind_number Empty = 3
kind_number Import = 4

-- how many literals there are, and each by its packed form: the variable twice, and 1 more for a negation
abbrev pub literal_numbers : Literals → List ℕ
literal_numbers c = length c ∷ map code_of c

-- how many hints there are, and how far below this id each is
abbrev pub hint_numbers : ℕ → List ℕ → List ℕ
hint_numbers id hints = length hints ∷ map (λ h. id - h) hints

-- the numbers of an entry under its id: its kind, its query number and its clock less those of the entry before, its
-- literals and its hints
abbrev pub entry_numbers : ℕ → Entry → Entry → List ℕ
entry_numbers id before e =
    kind_number e.kind ∷ (e.query - before.query) ∷ (e.clock - before.clock) ∷ (literal_numbers e.literals ++ hint_numbers id e.hints)

abbrev pub packed_numbers : List ℕ → List ℕ
packed_numbers ns = flat_map packed_number ns

abbrev pub packed_entry : ℕ → Entry → Entry → List ℕ
packed_entry id before e = packed_numbers (entry_numbers id before e)

-- the entry before a place, with the query number and the clock 0 before the first
abbrev pub entry_before : Recorded → ℕ → Entry
entry_before L zero = no_entry
entry_before L (suc i) = entry_at L i

-- the id of an entry
abbrev pub id_at : Recorded → ℕ → ℕ
id_at L i = length L.formula.clauses + 1 + i

-- the packed bytes of an entry
abbrev pub entry_bytes : Recorded → ℕ → List ℕ
entry_bytes L i = packed_entry (id_at L i) (entry_before L i) (entry_at L i)
