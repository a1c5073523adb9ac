-- What is stored of a log's entry, by its place.
use Rattle.std.proofs.Common.{◌≡◌, ℕ, zero, suc, ◌+◌, ◌<◌, Bool, List, length, refl, ap, ◌∙◌, subst, arith}
use Rattle.lrat_log.specs.Entries.{Entry, Recorded, no_entry, entry_at}
use Rattle.lrat_log.specs.Packed.{entry_before, id_at}
use Rattle.lrat_log.specs.Steps.Paged.{Stored, stored_at}
use Rattle.lrat_log.specs.Steps.Unpacked.{stored_entry, IsPackable, IsKept}
use Rattle.lrat_log.proofs.Unpacking.{entry_behind, count_stored, stored_is, packable_is}

-- a log that keeps what it owes over these byte strings
pub record Keeps (L : Recorded) (all : List Stored) : Type 0 where
  pub used : Bool
  pub learnt : ℕ
  pub last_query : ℕ
  pub kept : IsKept L all used learnt last_query

pub keeps_of : (L K : Recorded) (all : List Stored) (used : Bool) (learnt last_query : ℕ) → K ≡ L
    → IsKept K all used learnt last_query → Keeps L all
keeps_of L K all used learnt last_query same kept = record {
  used = used;
  learnt = learnt;
  last_query = last_query;
  kept = subst (λ (M : Recorded). IsKept M all used learnt last_query) same kept;
}

behind_is : (L : Recorded) (i : ℕ) → entry_behind no_entry L.entries i ≡ entry_before L i
behind_is L zero = refl
behind_is L (suc i) = refl

pub place_stored : (L : Recorded) (all : List Stored) (i : ℕ) → Keeps L all → i < length L.entries → i < length all
place_stored L all i keeps below =
    omega (
      arith,
      ap (λ (ss : List Stored). length ss) keeps.kept.stored,
      count_stored (length L.formula.clauses + 1) no_entry L.entries,
    )

pub entry_stored : (L : Recorded) (all : List Stored) (i : ℕ) → Keeps L all → i < length L.entries
    → stored_at all i ≡ stored_entry (id_at L i) (entry_before L i) (entry_at L i)
entry_stored L all i keeps below =
    ap (λ (ss : List Stored). stored_at ss i) keeps.kept.stored
    ∙ stored_is (length L.formula.clauses + 1) (id_at L i) no_entry L.entries i below refl
    ∙ ap (λ (b : Entry). stored_entry (id_at L i) b (entry_at L i)) (behind_is L i)

pub packable_stored : (L : Recorded) (all : List Stored) (i : ℕ) → Keeps L all → i < length L.entries
    → IsPackable (id_at L i) (entry_before L i) (entry_at L i)
packable_stored L all i keeps below =
    subst (λ (b : Entry). IsPackable (id_at L i) b (entry_at L i)) (behind_is L i)
    (packable_is (length L.formula.clauses + 1) (id_at L i) no_entry L.entries i below refl keeps.kept.packable)
