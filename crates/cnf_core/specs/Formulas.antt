-- Formulas, their models, what they entail, and their backbones.
use Rattle.std.specs.Prelude.{◌≡◌, ℕ, zero, suc, ◌+◌, ◌^◌, ◌<◌, ◌≤◌, ◌&&◌, nat_lt, nat_le, Bool, true, false, not, IsTrue, if◌then◌else◌, Option, Some, None, IsSome, List, [], ◌∷◌, ◌++◌, length, replicate, All, filter}
use Rattle.std.specs.List.{list_all, flat_map, sum_by}
use Rattle.cnf_core.specs.Literals.{Literal, Literals, Assignment, is_true, clause_true, all_true, value_of, with_value, AreWithin}

-- a formula in conjunctive normal form over the variables 1 to vars, and the variables that are asked
-- for: all of them, or those whose mark is true
pub record Cnf : Type 0 where
  pub vars : ℕ
  pub clauses : List Literals
  pub shown : Option Assignment

-- the formula without clauses, which shows all its variables
abbrev pub empty_formula : ℕ → Cnf
empty_formula n = record { vars = n; clauses = []; shown = None }

-- the formula with one clause more
abbrev pub with_clause : Cnf → Literals → Cnf
with_clause F c = record F { clauses = F.clauses ++ c ∷ [] }

-- whether marks, where there are any, have the variable
abbrev pub is_marked : Option Assignment → ℕ → Bool
is_marked None v = true
is_marked (Some marks) v = value_of marks v

-- whether the variable is one of the formula's and shown
abbrev pub is_shown : Cnf → ℕ → Bool
is_shown F v = nat_lt 0 v && (nat_le v F.vars && is_marked F.shown v)

-- the marks, or none of n variables where there were no marks
abbrev pub marks_of : ℕ → Option Assignment → Assignment
marks_of n None = replicate n false
marks_of n (Some marks) = marks

-- the formula that shows just what it was told to show
abbrev pub restricted : Cnf → Cnf
restricted F = record F { shown = Some (marks_of F.vars F.shown) }

-- the formula that shows one variable more
abbrev pub showing : Cnf → ℕ → Cnf
showing F v = record F { shown = Some (with_value (marks_of F.vars F.shown) v true) }

-- the formula was told what to show
abbrev pub IsRestricted : Cnf → Type 0
IsRestricted F = IsSome F.shown

-- the assignment with one value more, false and then true
abbrev pub both_ways : Assignment → List Assignment
both_ways a = (a ++ false ∷ []) ∷ (a ++ true ∷ []) ∷ []

-- every list of n truth values
unfoldable pub assignments : ℕ → List Assignment
assignments zero = [] ∷ []
assignments (suc n) = flat_map both_ways (assignments n)

-- the assignments that make every clause true
unfoldable pub models : Cnf → List Assignment
models F = filter (λ a. all_true a F.clauses) (assignments F.vars)

-- the assignment has a value for each variable, and makes every clause true
pub record IsModel (F : Cnf) (a : Assignment) : Type 0 where
  pub values : length a ≡ F.vars
  pub satisfied : IsTrue (all_true a F.clauses)

-- whether the literal is true in every model
unfoldable pub entails : Cnf → Literal → Bool
entails F l = list_all (λ a. is_true a l) (models F)

-- whether the clause is true in every model
unfoldable pub entails_clause : Cnf → Literals → Bool
entails_clause F c = list_all (λ a. clause_true a c) (models F)

abbrev pub Entails : Cnf → Literal → Type 0
Entails F l = IsTrue (entails F l)

abbrev pub EntailsClause : Cnf → Literals → Type 0
EntailsClause F c = IsTrue (entails_clause F c)

-- the literal of the variable v that every model makes true, if there is one
unfoldable pub backbone_at : Cnf → ℕ → Literals
backbone_at F v =
    if entails F (record { var = v; positive = true }) then record { var = v; positive = true } ∷ []
    else (if entails F (record { var = v; positive = false }) then record { var = v; positive = false } ∷ [] else [])

-- the literals of the variables 1 to n that every model makes true
unfoldable pub backbone_upto : Cnf → ℕ → Literals
backbone_upto F zero = []
backbone_upto F (suc n) = backbone_upto F n ++ backbone_at F (suc n)

-- the backbone of a formula that has a model: the literals true in all its models, by variable
unfoldable pub backbone : Cnf → Literals
backbone F = backbone_upto F F.vars

-- the members of the backbone whose variables are shown
unfoldable pub shown_backbone : Cnf → Literals
shown_backbone F = filter (λ l. is_shown F l.var) (backbone F)

-- the literal of the variable v that the assignment makes true
abbrev pub true_literal : Assignment → ℕ → Literal
true_literal a v = record { var = v; positive = value_of a v }

-- those of the variables 1 to n
unfoldable pub true_literals : Assignment → ℕ → Literals
true_literals a zero = []
true_literals a (suc n) = true_literals a n ++ true_literal a (suc n) ∷ []

-- a is a model that gives the variable v the value opposite to p
pub record IsAgainst (F : Cnf) (a : Assignment) (v : ℕ) (p : Bool) : Type 0 where
  pub is_model : IsModel F a
  pub opposite : value_of a v ≡ not p

-- how many literals the clauses have together
abbrev pub literal_count : List Literals → ℕ
literal_count cs = sum_by length cs

-- the clause may be added: its variables are the formula's, and the limits leave room
pub record HasRoom (F : Cnf) (c : Literals) : Type 0 where
  pub within : AreWithin F.vars c
  pub clauses_left : length F.clauses < 2 ^ 21
  pub literals_left : literal_count F.clauses + length c ≤ 2 ^ 23

-- the formula is within the limits, its clauses have its variables alone, and each variable has a mark
-- where there are marks
pub record IsFormula (F : Cnf) : Type 0 where
  pub vars_limit : F.vars ≤ 2 ^ 20
  pub clauses_limit : length F.clauses ≤ 2 ^ 21
  pub literals_limit : literal_count F.clauses ≤ 2 ^ 23
  pub within : All (AreWithin F.vars) F.clauses
  pub marks : length (marks_of F.vars F.shown) ≡ F.vars
