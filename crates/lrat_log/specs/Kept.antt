-- What a log keeps: each entry follows from the formula and the entries before it, learnt clauses are
-- fresh with tight hints, and clocks never fall.
use Rattle.std.specs.Prelude.{ℕ, ◌≤◌, not, IsTrue, List, length, All}
use Rattle.cnf_core.specs.Literals.{Literals, AreWithin}
use Rattle.cnf_core.specs.Formulas.{Cnf, Entails}
use Rattle.lrat_lines.specs.Propagation.{IsRup}
use Rattle.lrat_lines.specs.Prefixes.{EachAfter}
use Rattle.lrat_lines.specs.Tidy.{IsHint}
use Rattle.lrat_lines.specs.Tight.{IsTight}
use Rattle.lrat_log.specs.Entries.{Entry, Recorded, HasLengthOf, is_learnt, is_import, id_after, known_after}
use Rattle.lrat_log.specs.Fresh.{IsFresh}

-- a clause may be written after these entries with these hints
pub record IsShown (F : Cnf) (before : List Entry) (hints : List ℕ) (c : Literals) : Type 0 where
  pub within : AreWithin F.vars c
  pub hints_before : All (IsHint (id_after F before)) hints
  pub proved : IsRup (known_after F before) hints c

-- the entry may stand after these
pub record IsNext (F : Cnf) (before : List Entry) (e : Entry) : Type 0 where
  pub size : HasLengthOf e.kind e.literals
  pub within : IsTrue (not (is_import e.kind)) → AreWithin F.vars e.literals
  pub hints_before : All (IsHint (id_after F before)) e.hints
  pub proved : IsTrue (not (is_import e.kind)) → IsRup (known_after F before) e.hints e.literals
  pub fresh : IsTrue (is_learnt e.kind) → IsFresh F before e.query e.literals
  pub tight : IsTrue (is_learnt e.kind) → IsTight (known_after F before) e.hints e.literals
  pub imported : IsTrue (is_import e.kind) → All (Entails F) e.literals
  pub later : All (λ b. b.clock ≤ e.clock) before

-- each entry may stand after those before it
abbrev pub EachNext : Cnf → List Entry → Type 0
EachNext F es = EachAfter (IsNext F) es

-- what every log keeps
pub record IsLog (L : Recorded) : Type 0 where
  pub each_next : EachNext L.formula L.entries
  pub queries : All (λ e. e.query ≤ L.query) L.entries
  pub few_queries : L.query ≤ length L.entries
  pub clocks : All (λ e. e.clock ≤ L.clock) L.entries
