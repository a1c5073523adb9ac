-- Tidy proofs: additions alone, whose ids follow on those of the formula's clauses and rise by one.
use Rattle.std.specs.Prelude.{◌≡◌, ◌↔◌, ℕ, ◌+◌, ◌<◌, ◌≤◌, List, [], length, All}
use Rattle.cnf_core.specs.Literals.{Literals}
use Rattle.cnf_core.specs.Formulas.{Cnf}
use Rattle.lrat_lines.specs.declared.line.Line.{Line}
use Rattle.lrat_lines.specs.declared.line.Line.TheVariants.{Add, Delete}
use Rattle.lrat_lines.specs.Propagation.{IsRup}
use Rattle.lrat_lines.specs.Proofs.{numbered, reached}
use Rattle.lrat_lines.specs.Prefixes.{EachAfter}

-- the clause that the line adds, and the hints that show it; at a deletion none
abbrev pub clause_of : Line → Literals
clause_of (Add id c hints) = c
clause_of (Delete id ids) = []

abbrev pub hints_of : Line → List ℕ
hints_of (Add id c hints) = hints
hints_of (Delete id ids) = []

-- the hint is the id of a clause before this id
pub record IsHint (id hint : ℕ) : Type 0 where
  pub low : 0 < hint
  pub high : hint < id

-- the line adds a clause under this id, by hints below it
pub record IsTidyLine (id : ℕ) (line : Line) : Type 0 where
  pub addition : line ≡ Add id (clause_of line) (hints_of line)
  pub hints_before : All (IsHint id) (hints_of line)

-- the id of the line that follows
abbrev pub next_id : Cnf → List Line → ℕ
next_id F before = length F.clauses + 1 + length before

abbrev pub IsTidy : Cnf → List Line → Type 0
IsTidy F lines = EachAfter (λ before line. IsTidyLine (next_id F before) line) lines

-- the line may follow on these in a tidy proof: each id is the place of a clause among those that are reached
pub record IsLineAfter (F : Cnf) (before : List Line) (line : Line) : Type 0 where
  pub tidy : IsTidyLine (next_id F before) line
  pub within : All (λ l. l.var ≤ F.vars) (clause_of line)
  pub shown : IsRup (numbered (reached F before)) (hints_of line) (clause_of line)
