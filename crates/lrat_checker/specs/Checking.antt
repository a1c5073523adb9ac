-- Which formula and lines a checker stands for, and what it answers to a line.
use Rattle.std.specs.Prelude.{◌≡◌, ◌↔◌, ℕ, Bool, false, IsTrue, List, [], ◌∷◌, ◌++◌, Result, Ok, Err, slice_index_or}
use Rattle.std.specs.Ordering.{nat_cmp}
use Rattle.std.specs.Map.{lookup}
use Rattle.std.specs.BTreeMap.{is_at}
use Rattle.cnf_core.specs.Literals.{Literal, Literals, code_of}
use Rattle.cnf_core.specs.Formulas.{Cnf}
use Rattle.lrat_lines.specs.declared.line.Line.{Line}
use Rattle.lrat_lines.specs.Propagation.{Known}
use Rattle.lrat_lines.specs.Proofs.{Progress, checked, IsReached}
use Rattle.lrat_checker.specs.declared.refused.Refused.{Refused}
use Rattle.lrat_checker.specs.Refusals.{IsRefusal, refusal_in}

-- what a checker keeps: the number of variables, the greatest id so far, the sets that are known with
-- their ids, which literals were reached as units, by codes, and whether the empty set was
pub record Kept : Type 0 where
  pub vars : ℕ
  pub top : ℕ
  pub known : List (ℕ × Literals)
  pub units : List Bool
  pub empty : Bool

-- the sets, by their ids
abbrev pub known_of : List (ℕ × Literals) → Known
known_of entries id = lookup (is_at (nat_cmp id)) entries

-- the checker stands for the formula and these lines: none of them is refused, it is as far as they
-- lead, and it has just the units and the empty set that they reach
pub record StandsFor (kept : Kept) (F : Cnf) (lines : List Line) : Type 0 where
  pub progress : Progress
  pub taken : checked F lines ≡ Ok progress
  pub vars : kept.vars ≡ F.vars
  pub top : kept.top ≡ progress.top
  pub known : (id : ℕ) → known_of kept.known id ≡ progress.known id
  pub units : (l : Literal) → IsTrue (slice_index_or kept.units (code_of l) false) ↔ IsReached F lines (l ∷ [])
  pub empty : IsTrue kept.empty ↔ IsReached F lines []

-- what an answer to one more line says: the line is taken, or it is refused just so
abbrev pub Answers : Cnf → List Line → Line → Kept → Result (Unit {0}) Refused → Type 0
Answers F lines line new (Ok done) = StandsFor new F (lines ++ line ∷ [])
Answers F lines line new (Err refused) = IsRefusal refused (refusal_in (checked F (lines ++ line ∷ [])))
