-- The text of an answer. Every line ends with a line feed.
use Rattle.std.specs.Prelude.{◌≢◌, ℕ, List, [], ◌∷◌, ◌++◌, All, codes}
use Rattle.std.specs.List.{flat_map}
use Rattle.cnf_core.specs.Literals.{Literal, Literals, Assignment, RisesByVar}
use Rattle.cnf_core.specs.Spelling.{literal_text}
use Rattle.cnf_core.specs.Formulas.{Cnf, models, shown_backbone}
use Rattle.answer_text.specs.declared.answer.Answer.{Answer}
use Rattle.answer_text.specs.declared.answer.Answer.TheVariants.{Unsat, Sat, Partial, Unknown}

-- one line for a literal: a letter, a space, and the literal's number
abbrev pub literal_line : ℕ → Literal → List ℕ
literal_line letter l = letter ∷ codes " " ++ literal_text l ++ codes "\n"

abbrev pub literal_lines : ℕ → Literals → List ℕ
literal_lines letter lits = flat_map (literal_line letter) lits

-- the lines of the literals that are known to be in the backbone: the letter `b`
abbrev pub fixed_lines : Literals → List ℕ
fixed_lines fixed = literal_lines 98 fixed

-- the lines of the literals that may be in it: the letter `u`
abbrev pub still_lines : Literals → List ℕ
still_lines still = literal_lines 117 still

-- the verdict, both groups of lines, and the end line
abbrev pub groups_text : List ℕ → Literals → Literals → List ℕ
groups_text verdict fixed still = verdict ++ fixed_lines fixed ++ still_lines still ++ codes "b 0\n"

abbrev pub unsat_text : List ℕ
unsat_text = codes "s UNSATISFIABLE\n"

abbrev pub sat_text : Literals → List ℕ
sat_text fixed = groups_text (codes "s SATISFIABLE\n") fixed []

-- what is known of a backbone: the literals that are in it, and those that may be
abbrev pub partial_text : Literals → Literals → List ℕ
partial_text fixed still = groups_text (codes "s PARTIAL\n") fixed still

abbrev pub unknown_text : List ℕ
unknown_text = codes "s UNKNOWN\n"

-- the text of an answer
abbrev pub text_of : Answer → List ℕ
text_of Unsat = unsat_text
text_of (Sat fixed) = sat_text fixed.items
text_of (Partial fixed still) = partial_text fixed.items still.items
text_of Unknown = unknown_text

-- no variable stands in both lists
abbrev pub SharesNoVar : Literals → Literals → Type 0
SharesNoVar fixed still = All (λ k. All (λ l. k.var ≢ l.var) still) fixed

pub record IsPartialInOrder (fixed still : Literals) : Type 0 where
  pub fixed_rises : RisesByVar fixed
  pub still_rises : RisesByVar still
  pub apart : SharesNoVar fixed still

-- the literals of each list rise strictly by variable, and the lists share no variable
abbrev pub IsInOrder : Answer → Type 0
IsInOrder Unsat = Unit {0}
IsInOrder (Sat fixed) = RisesByVar fixed.items
IsInOrder (Partial fixed still) = IsPartialInOrder fixed.items still.items
IsInOrder Unknown = Unit {0}

-- the text that a list of models and the literals to be named make
abbrev pub verdict_text : List Assignment → Literals → List ℕ
verdict_text [] fixed = unsat_text
verdict_text (a ∷ more) fixed = sat_text fixed

-- the answer of a formula: that it has no model, or the members of its backbone whose variables are shown
unfoldable pub answer_text : Cnf → List ℕ
answer_text F = verdict_text (models F) (shown_backbone F)
