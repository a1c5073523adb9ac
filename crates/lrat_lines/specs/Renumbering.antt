-- Proofs whose clauses have new numbers, and whose literals have new names.
use Rattle.std.specs.Prelude.{◌≡◌, ◌⊎◌, ℕ, ◌+◌, ◌<◌, ◌≤◌, nat_le, if◌then◌else◌, List, [], ◌∷◌, length, map, flat_map, Some, Contains}
use Rattle.cnf_core.specs.Literals.{Literal, Literals, negated}
use Rattle.cnf_core.specs.Formulas.{Cnf}
use Rattle.lrat_lines.specs.declared.line.Line.{Line}
use Rattle.lrat_lines.specs.declared.line.Line.TheVariants.{Add, Delete}
use Rattle.lrat_lines.specs.Propagation.{Known, IsSameKnown}
use Rattle.lrat_lines.specs.Proofs.{Progress, start}

-- the line with its ids by their numbers
abbrev pub renumbered : (ℕ → ℕ) → Line → Line
renumbered number (Add id c hints) = Add (number id) c (map number hints)
renumbered number (Delete id ids) = Delete (number id) (map number ids)

-- the line with its literals by their names
abbrev pub renamed : (Literal → Literal) → Line → Line
renamed name (Add id c hints) = Add id (map name c) hints
renamed name (Delete id ids) = Delete id ids

-- both
abbrev pub translated : (ℕ → ℕ) → (Literal → Literal) → List Line → List Line
translated number name lines = map (λ line. renamed name (renumbered number line)) lines

-- different literals have different names, and a negation's name is the negation of the name
pub record IsRenaming (name : Literal → Literal) : Type 0 where
  pub apart : (k l : Literal) → name k ≡ name l → k ≡ l
  pub negates : (l : Literal) → name (negated l) ≡ negated (name l)

-- where a set is known by the id, it is known there by the id's number, with the names of its literals
abbrev pub IsCarried : Known → Known → (ℕ → ℕ) → (Literal → Literal) → ℕ → Type 0
IsCarried known there number name id = (c : Literals) → known id ≡ Some c → IsSameKnown (Some (map name c)) (there (number id))

-- the id under which the line adds a clause
abbrev pub added_id : Line → List ℕ
added_id (Add id c hints) = id ∷ []
added_id (Delete id ids) = []

-- the id is that of a clause of the formula, or of one that the lines add
abbrev pub IsIdOf : Cnf → List Line → ℕ → Type 0
IsIdOf F lines id = ((0 < id) × (id ≤ length F.clauses)) ⊎ Contains (flat_map added_id lines) id

-- numbers and names by which the lines of a proof over F may follow on a progress over G: the numbers of its ids
-- rise, those of the formula's clauses lead to these clauses, and the others are new
pub record MayFollow (F : Cnf) (lines : List Line) (G : Cnf) (progress : Progress) (number : ℕ → ℕ) (name : Literal → Literal)
    : Type 0 where
  pub renaming : IsRenaming name
  pub within : (l : Literal) → l.var ≤ F.vars → (name l).var ≤ G.vars
  pub inputs : (id : ℕ) → IsCarried (start F).known progress.known number name id
  pub rises : (i j : ℕ) → IsIdOf F lines i → IsIdOf F lines j → i < j → number i < number j
  pub new : (i : ℕ) → IsIdOf F lines i → length F.clauses < i → progress.top < number i

-- ids above this one move up by so many
abbrev pub shifted_id : ℕ → ℕ → ℕ → ℕ
shifted_id last by id = if nat_le id last then id else id + by
