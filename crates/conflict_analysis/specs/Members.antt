-- What hints may name: the live clauses of an arena, and the root literals that were proved as units.
use Rattle.std.specs.Prelude.{◌≡◌, ◌⊎◌, ℕ, ◌<◌, List, [], ◌∷◌, length, Some, Contains}
use Rattle.cnf_core.specs.Literals.{Literals}
use Rattle.clause_arena.specs.Entries.{Entries, entry_at, IsLive}
use Rattle.trail_core.specs.declared.entry.Assigned.{Assigned}
use Rattle.trail_core.specs.declared.entry.Reason.TheVariants.{Unit as ByUnit}
use Rattle.trail_core.specs.Trails.{assigned_at}
use Rattle.lrat_lines.specs.Sets.{IsSameSet}
use Rattle.lrat_lines.specs.Propagation.{Known, IsRup}
use Rattle.lrat_lines.specs.Tight.{IsKnown}

-- the clause of a live reference, under its id
pub record IsLiveClause (a : Entries) (id : ℕ) (c : Literals) : Type 0 where
  pub reference : ℕ
  pub live : IsLive a reference
  pub has_id : (entry_at a reference).id ≡ id
  pub has_lits : (entry_at a reference).lits ≡ c

-- the clause of one root literal, under the id of the unit that is its reason
pub record IsRootUnit (es : List Assigned) (id : ℕ) (c : Literals) : Type 0 where
  pub place : ℕ
  pub within : place < length es
  pub at_root : (assigned_at es place).level ≡ 0
  pub reason : (assigned_at es place).reason ≡ ByUnit id
  pub has_lits : (assigned_at es place).lit ∷ [] ≡ c

abbrev pub IsMember : Entries → List Assigned → ℕ → Literals → Type 0
IsMember a es id c = IsLiveClause a id c ⊎ IsRootUnit es id c

-- the map has this set under the id
pub record HasClause (known : Known) (id : ℕ) (c : Literals) : Type 0 where
  pub set : Literals
  pub is_known : known id ≡ Some set
  pub same : IsSameSet set c

-- a map that has them all; it may have more. There is one only where those that share an id are one set
abbrev pub IsMapOf : Entries → List Assigned → Known → Type 0
IsMapOf a es known = (id : ℕ) (c : Literals) → IsMember a es id c → HasClause known id c

-- hints that such a map knows, and that prove the clause by reverse unit propagation
pub record IsProof (known : Known) (hints : List ℕ) (c : Literals) : Type 0 where
  pub ids : (hint : ℕ) → Contains hints hint → IsKnown known hint
  pub shows : IsRup known hints c
