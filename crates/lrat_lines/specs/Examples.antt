-- Proofs over a small formula, worked by the definitions: 1 or 2; 1 or -2, over two variables. And lines, read.
use Rattle.std.specs.Prelude.{◌≡◌, ℕ, true, false, List, [], ◌∷◌, Err, Ok, codes}
use Rattle.cnf_core.specs.Literals.{Literal}
use Rattle.cnf_core.specs.Formulas.{Cnf, empty_formula}
use Rattle.lrat_lines.specs.declared.line.Line.{Line}
use Rattle.lrat_lines.specs.declared.line.Line.TheVariants.{Add, Delete}
use Rattle.lrat_lines.specs.declared.line.LineEnd.TheVariants.{BadToken, NotEnded, NegativeHint}
use Rattle.lrat_lines.specs.Propagation.{IdNotRising, VarRange, UnknownHint, NotUnit, NoConflict}
use Rattle.lrat_lines.specs.Proofs.{checked, Proves}
use Rattle.lrat_lines.specs.Grammar.{line_of}

abbrev pub positive : ℕ → Literal
positive v = record { var = v; positive = true }

abbrev pub negative : ℕ → Literal
negative v = record { var = v; positive = false }

abbrev pub implied_one : Cnf
implied_one = record (empty_formula 2) {
  clauses = (positive 1 ∷ positive 2 ∷ []) ∷ (positive 1 ∷ negative 2 ∷ []) ∷ [];
}

-- 1 follows from both clauses
abbrev pub one_by : ℕ → List ℕ → Line
one_by id hints = Add id (positive 1 ∷ []) hints

pub record ProofsAreWorked : Type 0 where
  pub both : Proves implied_one (one_by 3 (1 ∷ 2 ∷ []) ∷ [])
  pub first_alone : checked implied_one (one_by 3 (1 ∷ []) ∷ []) ≡ Err NoConflict
  pub second_alone : checked implied_one (one_by 3 (2 ∷ []) ∷ []) ≡ Err NoConflict
  pub used_id : checked implied_one (one_by 2 (1 ∷ 2 ∷ []) ∷ []) ≡ Err (IdNotRising 2)
  pub no_such_variable : checked implied_one (Add 3 (positive 3 ∷ []) [] ∷ []) ≡ Err (VarRange (positive 3))
  pub always_true : Proves implied_one (Add 3 (positive 1 ∷ negative 1 ∷ []) [] ∷ [])
  pub two_open : checked implied_one (Add 3 [] (1 ∷ []) ∷ []) ≡ Err (NotUnit 1)
  pub deleted : checked implied_one (one_by 3 (1 ∷ 2 ∷ []) ∷ Delete 4 (1 ∷ []) ∷ one_by 5 (1 ∷ 2 ∷ []) ∷ [])
      ≡ Err (UnknownHint 1)
  pub not_there_yet : checked implied_one (one_by 3 (3 ∷ []) ∷ []) ≡ Err (UnknownHint 3)

pub record LinesAreWorked : Type 0 where
  pub addition : line_of (codes "3 1 0 1 2 0") ≡ Ok (one_by 3 (1 ∷ 2 ∷ []))
  pub deletion : line_of (codes "5 d 1 2 0") ≡ Ok (Delete 5 (1 ∷ 2 ∷ []))
  pub blanks_and_zeros : line_of (codes " 003  -02\t00 1\r000 ") ≡ Ok (Add 3 (negative 2 ∷ []) (1 ∷ []))
  pub negative_hint : line_of (codes "3 1 0 -1 2 0") ≡ Err NegativeHint
  pub negative_zero_hint : line_of (codes "3 1 0 -0 2 0") ≡ Err BadToken
  pub negative_deleted_id : line_of (codes "5 d -1 0") ≡ Err BadToken
  pub no_hints_end : line_of (codes "3 1 0 1 2") ≡ Err NotEnded
  pub no_tokens : line_of (codes " ") ≡ Err NotEnded
  pub token_too_many : line_of (codes "3 1 0 1 2 0 4") ≡ Err BadToken
  pub id_is_zero : line_of (codes "0 1 0 1 0") ≡ Err BadToken
  pub variable_too_large : line_of (codes "3 1048577 0 1 0") ≡ Err BadToken
