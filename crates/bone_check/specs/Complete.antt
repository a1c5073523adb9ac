-- Complete evidence: a proof and a witness that leave nothing of an answer open.
use Rattle.std.specs.Prelude.{◌≡◌, ◌⊎◌, ℕ, ◌<◌, IsTrue, List, length, map, All, AllPairs, Contains}
use Rattle.cnf_core.specs.Literals.{Literal, Literals, value_of}
use Rattle.cnf_core.specs.Formulas.{Cnf, IsAgainst, is_shown}
use Rattle.lrat_lines.specs.declared.line.Line.{Line}
use Rattle.lrat_lines.specs.Proofs.{Proves}
use Rattle.lrat_lines.specs.Printed.{IsPrintable, IsInMemory}
use Rattle.model_store.specs.Stores.{Store, HoldsModels, model_at}
use Rattle.model_store.specs.Witnesses.{IsInRange, witness_in}
use Rattle.model_store.specs.declared.witness.Witness.{Witness}

-- a proof that is accepted from the formula alone, and whose numbers its text can have
pub record IsWritableProof (F : Cnf) (lines : List Line) : Type 0 where
  pub accepted : Proves F lines
  pub printable : All IsPrintable lines
  pub in_memory : All IsInMemory lines

-- the drop names a stored model, or its flip, that is a model of the formula and gives the variable the value opposite to
-- that in the first one
pub record HasOpposite (F : Cnf) (s : Store) (w : Witness) : Type 0 where
  pub range : IsInRange s w
  pub against : IsAgainst F (witness_in s w) w.var (value_of (model_at s 0) w.var)

-- models of the formula, at least one, and drops that rise by variable, each with a model against it; each shown variable
-- has a drop or is that of one of the literals
pub record IsCompleteWitness (F : Cnf) (fixed : Literals) (s : Store) (drops : List Witness) : Type 0 where
  pub formula : s.formula ≡ F
  pub models : HoldsModels s
  pub some : 0 < length s.models
  pub rise : AllPairs (λ (w u : Witness). w.var < u.var) drops
  pub opposite : All (HasOpposite F s) drops
  pub covers : (x : ℕ) → IsTrue (is_shown F x)
      → Contains (map (λ (w : Witness). w.var) drops) x ⊎ Contains (map (λ (l : Literal). l.var) fixed) x
