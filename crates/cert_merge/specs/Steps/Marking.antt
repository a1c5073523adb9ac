-- How far lines are marked that are needed.
use Rattle.std.specs.Prelude.{◌≡◌, ◌⊎◌, ◌↔◌, ℕ, ◌+◌, ◌*◌, ◌<◌, ◌≤◌, Bool, false, not, ◌&&◌, IsTrue, List, ◌∷◌, length, take, slice_index_or, count_by, All, Contains}
use Rattle.cnf_core.specs.Literals.{Literal, Literals, code_of}
use Rattle.cnf_core.specs.Formulas.{Cnf}
use Rattle.lrat_lines.specs.declared.line.Line.{Line}
use Rattle.lrat_lines.specs.declared.line.Line.TheVariants.{Add, Delete}
use Rattle.lrat_lines.specs.Sets.{has}
use Rattle.lrat_lines.specs.Tidy.{clause_of, hints_of, IsHint}
use Rattle.cert_merge.specs.Trimming.{have_empty, have_unit, is_root, is_marked, line_at}

-- the literal's packed form is one of so many
abbrev pub HasPlace : ℕ → Literal → Type 0
HasPlace codes l = code_of l < codes

-- which clauses are looked for behind these lines: the empty one unless they add it, and those of the literals to be
-- kept that they don't
pub record IsLookingFor (keep : Literals) (before : List Line) (units : List Bool) (empty : Bool) : Type 0 where
  pub empty_is : empty ≡ not (have_empty before)
  pub units_are : (l : Literal) → slice_index_or units (code_of l) false ≡ (has keep l && not (have_unit before l))

-- the marks of the lines that are kept for their own sake
pub record AreRoots (keep : Literals) (lines : List Line) (marks : List Bool) : Type 0 where
  pub count : length marks ≡ length lines
  pub each : (k : ℕ) → k < length lines → is_marked marks k ≡ is_root keep (take k lines) (clause_of (line_at lines k))

-- the line at a place is a hint of a marked line from here on
pub record IsHintFrom (F : Cnf) (lines : List Line) (marks : List Bool) (from k : ℕ) : Type 0 where
  pub line : ℕ
  pub behind : from ≤ line
  pub within : line < length lines
  pub marked : IsTrue (is_marked marks line)
  pub hint : Contains (hints_of (line_at lines line)) (length F.clauses + 1 + k)

-- the lines from here on have marked their hints
pub record AreNeededFrom (F : Cnf) (lines : List Line) (keep : Literals) (from : ℕ) (marks : List Bool) : Type 0 where
  pub count : length marks ≡ length lines
  pub each : (k : ℕ) → k < length lines
      → IsTrue (is_marked marks k) ↔ (IsTrue (is_root keep (take k lines) (clause_of (line_at lines k))) ⊎ IsHintFrom F lines marks from k)

-- the hints are marked too
pub record AreHintsMarked (inputs : ℕ) (hints : List ℕ) (old new : List Bool) : Type 0 where
  pub count : length new ≡ length old
  pub each : (k : ℕ) → k < length old → IsTrue (is_marked new k) ↔ (IsTrue (is_marked old k) ⊎ Contains hints (inputs + 1 + k))

-- the new ids of lines: behind the formula's clauses and the marked lines before them
pub record AreNewIds (inputs : ℕ) (marks : List Bool) (ids : List ℕ) : Type 0 where
  pub count : length ids ≡ length marks
  pub each : (k : ℕ) (d : ℕ) → k < length marks → slice_index_or ids k d ≡ inputs + 1 + count_by (λ m. m) (take k marks)

-- all ids of a line
abbrev pub ids_of : Line → List ℕ
ids_of (Add id c hints) = id ∷ hints
ids_of (Delete id ids) = id ∷ ids

-- all ids of the line are below this one
abbrev pub AreIdsWithin : ℕ → Line → Type 0
AreIdsWithin bound line = All (λ id. id < bound) (ids_of line)

-- hints of a line are below it
abbrev pub AreHintsBelow : Cnf → List Line → Type 0
AreHintsBelow F lines = (k : ℕ) → k < length lines → All (IsHint (length F.clauses + 1 + k)) (hints_of (line_at lines k))

-- the literals of the lines' clauses are over the formula's variables
abbrev pub HaveClausesPlaces : Cnf → List Line → Type 0
HaveClausesPlaces F lines = All (λ line. All (HasPlace (2 * F.vars + 2)) (clause_of line)) lines
