-- Which learnt clauses are new: no clause of the formula, and none that was learnt before in the same epoch of the
-- query, is a part of them.
use Rattle.std.specs.Prelude.{ℕ, suc, ◌<◌, ◌≤◌, ◌==◌, Bool, ◌&&◌, List, length, drop, map, filter, Contains}
use Rattle.cnf_core.specs.Literals.{Literal, Literals, negated}
use Rattle.cnf_core.specs.Formulas.{Cnf}
use Rattle.cnf_core.specs.Epochs.{epoch_start}
use Rattle.lrat_lines.specs.Sets.{IsSubset}
use Rattle.lrat_log.specs.Entries.{Entry, is_learnt}

-- no literal stands in the clause together with its negation
abbrev pub HasNoComplements : Literals → Type 0
HasNoComplements c = (l : Literal) → Contains c l → Contains c (negated l) → ⊥

-- whether the entry was learnt in the query
abbrev pub is_learnt_in : ℕ → Entry → Bool
is_learnt_in query e = is_learnt e.kind && (e.query == query)

-- the clauses that were learnt in the query, in order
abbrev pub learnt_in : List Entry → ℕ → List Literals
learnt_in es query = map (λ e. e.literals) (filter (is_learnt_in query) es)

-- where these clauses were learnt in a query so far, the next one is compared with this one: it was learnt in the
-- same epoch
pub record IsPeer (learnt : List Literals) (d : Literals) : Type 0 where
  pub epoch : ℕ
  pub begun : epoch_start epoch ≤ length learnt
  pub unended : length learnt < epoch_start (suc epoch)
  pub member : Contains (drop (epoch_start epoch) learnt) d

-- a clause may be learnt in the query after these entries
pub record IsFresh (F : Cnf) (before : List Entry) (query : ℕ) (c : Literals) : Type 0 where
  pub some : 0 < length c
  pub plain : HasNoComplements c
  pub no_input : (d : Literals) → Contains F.clauses d → IsSubset d c → ⊥
  pub no_learnt : (d : Literals) → IsPeer (learnt_in before query) d → IsSubset d c → ⊥
