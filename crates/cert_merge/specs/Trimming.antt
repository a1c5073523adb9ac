-- What is left of a proof that is trimmed to some literals.
use Rattle.std.specs.Prelude.{◌≡◌, ◌⊎◌, ◌↔◌, ℕ, ◌+◌, ◌-◌, ◌<◌, nat_le, Bool, true, false, not, ◌&&◌, ◌||◌, IsTrue, if◌then◌else◌, List, [], ◌∷◌, length, map, take, count_by, slice_index_or, Contains}
use Rattle.std.specs.List.{list_any, list_all}
use Rattle.cnf_core.specs.Literals.{Literal, Literals}
use Rattle.cnf_core.specs.Formulas.{Cnf}
use Rattle.lrat_lines.specs.declared.line.Line.{Line}
use Rattle.lrat_lines.specs.declared.line.Line.TheVariants.{Delete}
use Rattle.lrat_lines.specs.Sets.{is_same}
use Rattle.lrat_lines.specs.Tidy.{clause_of, hints_of}
use Rattle.lrat_lines.specs.Renumbering.{renumbered}

-- whether the set has no literal, and whether it has just this one
abbrev pub is_empty : Literals → Bool
is_empty [] = true
is_empty (l ∷ ls) = false

abbrev pub is_just : Literal → Literals → Bool
is_just l c = not (is_empty c) && list_all (is_same l) c

-- whether the lines add the empty clause, and the clause of just this literal
abbrev pub have_empty : List Line → Bool
have_empty lines = list_any (λ line. is_empty (clause_of line)) lines

abbrev pub have_unit : List Line → Literal → Bool
have_unit lines l = list_any (λ line. is_just l (clause_of line)) lines

abbrev pub HasUnits : List Line → Literals → Type 0
HasUnits lines keep = (l : Literal) → Contains keep l → IsTrue (have_unit lines l)

-- whether a line with this clause is kept for its own sake: it is the first that adds the empty clause, or that of just
-- one of the literals
abbrev pub is_root : Literals → List Line → Literals → Bool
is_root keep before c =
    (is_empty c && not (have_empty before)) || list_any (λ l. is_just l c && not (have_unit before l)) keep

abbrev pub is_marked : List Bool → ℕ → Bool
is_marked marks k = slice_index_or marks k false

abbrev pub no_line : Line
no_line = Delete 0 []

abbrev pub line_at : List Line → ℕ → Line
line_at lines k = slice_index_or lines k no_line

-- the line at a place is a hint of a marked line
pub record IsHintOfMarked (F : Cnf) (lines : List Line) (marks : List Bool) (k : ℕ) : Type 0 where
  pub line : ℕ
  pub within : line < length lines
  pub marked : IsTrue (is_marked marks line)
  pub hint : Contains (hints_of (line_at lines line)) (length F.clauses + 1 + k)

-- the marks of the lines that are needed: those kept for their own sake, and the hints of those that are needed. Hints
-- are below their line, so there is just one such list of marks
pub record AreNeeded (F : Cnf) (lines : List Line) (keep : Literals) (marks : List Bool) : Type 0 where
  pub count : length marks ≡ length lines
  pub each : (k : ℕ) → k < length lines
      → IsTrue (is_marked marks k) ↔ (IsTrue (is_root keep (take k lines) (clause_of (line_at lines k))) ⊎ IsHintOfMarked F lines marks k)

-- the elements that are marked
abbrev pub picked : {X : Type 0} → List Bool → List X → List X
picked [] xs = []
picked (m ∷ ms) [] = []
picked (m ∷ ms) (x ∷ xs) = if m then x ∷ picked ms xs else picked ms xs

-- the id behind the formula's clauses and the marked lines before it
abbrev pub id_among : Cnf → List Bool → ℕ → ℕ
id_among F marks id =
    if nat_le id (length F.clauses) then id
    else length F.clauses + 1 + count_by (λ m. m) (take (id - (length F.clauses + 1)) marks)

-- the marked lines, with new ids
abbrev pub trimmed : Cnf → List Bool → List Line → List Line
trimmed F marks lines = map (renumbered (id_among F marks)) (picked marks lines)

-- just the lines that are needed
pub record IsTrimmed (F : Cnf) (lines : List Line) (keep : Literals) (kept : List Line) : Type 0 where
  pub marks : List Bool
  pub are_needed : AreNeeded F lines keep marks
  pub lines_are : kept ≡ trimmed F marks lines
