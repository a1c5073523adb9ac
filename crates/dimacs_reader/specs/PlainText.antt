-- The one plain spelling of a formula, and the texts that are one.
use Rattle.std.specs.Prelude.{◌≡◌, ℕ, ◌+◌, true, if◌then◌else◌, List, [], ◌∷◌, ◌++◌, length}
use Rattle.std.specs.Prelude.{Option, Some, None, codes, decimal, flat_map}
use Rattle.cnf_core.specs.Literals.{Literals, Assignment}
use Rattle.cnf_core.specs.Formulas.{Cnf, IsFormula}
use Rattle.cnf_core.specs.Spelling.{literal_text}

-- the first line: the number of variables, and that of clauses
abbrev pub header_line : Cnf → List ℕ
header_line F =
    codes "p cnf " ++ decimal F.vars ++ codes " " ++ decimal (length F.clauses) ++ codes "\n"

-- the line of a clause: each literal with a space behind it, and then 0
abbrev pub clause_line : Literals → List ℕ
clause_line c = flat_map (λ l. literal_text l ++ codes " ") c ++ codes "0\n"

-- the marked variables, of which the first mark is that of the variable v
abbrev pub marked_from : ℕ → Assignment → Literals
marked_from v [] = []
marked_from v (m ∷ ms) =
    if m then record { var = v; positive = true } ∷ marked_from (v + 1) ms else marked_from (v + 1) ms

-- the show line, where the formula was told what to show: the variables as those of a clause
abbrev pub show_line : Option Assignment → List ℕ
show_line None = []
show_line (Some marks) = codes "c p show " ++ clause_line (marked_from 1 marks)

-- the first line, the show line where there is one, and then a line for each clause
abbrev pub plain_text : Cnf → List ℕ
plain_text F = header_line F ++ (show_line F.shown ++ flat_map clause_line F.clauses)

-- the text is the plain spelling of the formula
pub record IsPlain (text : List ℕ) (F : Cnf) : Type 0 where
  pub spelled : text ≡ plain_text F
  pub formula : IsFormula F
