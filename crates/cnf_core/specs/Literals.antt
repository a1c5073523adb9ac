-- Literals, clauses, assignments, and what an assignment makes true.
use Rattle.std.specs.Prelude.{◌≡◌, ℕ, ◌+◌, ◌-◌, ◌*◌, ◌/◌, ◌%◌, ◌==◌, ◌<◌, ◌≤◌, ℤ, pos, unsigned_abs, ◌⊎◌, ◌^◌, Bool, not, if◌then◌else◌, List, All, AllPairs, slice_index_or, slice_set, false}
use Rattle.std.specs.List.{list_any, list_all}
use Rattle.std.proofs.Common.{arith}
use Rattle.std.proofs.Math.IntN.{neg_ℤ}

-- a variable, counted from 1, as it stands or negated
pub record Literal : Type 0 where
  pub var : ℕ
  pub positive : Bool

-- a clause is a list of literals, of which one has to be true
abbrev pub Literals : Type 0
Literals = List Literal

-- an assignment gives variable 1 its first value, variable 2 its second, and so on
abbrev pub Assignment : Type 0
Assignment = List Bool

-- the literal of the same variable and the other sign
abbrev pub negated : Literal → Literal
negated l = record { var = l.var; positive = not l.positive }

-- the number that DIMACS writes for a literal: v for the variable v, and -v for its negation
abbrev pub number_of : Literal → ℤ
number_of l = if l.positive then pos l.var else neg_ℤ (pos l.var)

-- no literal is written so: 0, and what is past the largest variable
abbrev pub IsNoLiteral : ℤ → Type 0
IsNoLiteral z = (unsigned_abs z ≡ 0) ⊎ (2 ^ 20 < unsigned_abs z)

-- the packed form: the variable twice, and 1 more for a negation
abbrev pub code_of : Literal → ℕ
code_of l = 2 * l.var + (if l.positive then 0 else 1)

-- the literal of a packed form
abbrev pub literal_of_code : ℕ → Literal
literal_of_code code = record { var = code / 2; positive = code % 2 == 0 }

-- the packed form gives the literal, and the literal the packed form
pub code_of-literal_of_code : (code : ℕ) → code_of (literal_of_code code) ≡ code
code_of-literal_of_code code = grind arith

-- the value that an assignment gives a variable
abbrev pub value_of : Assignment → ℕ → Bool
value_of a v = slice_index_or a (v - 1) false

-- the assignment with the value of one variable set
abbrev pub with_value : Assignment → ℕ → Bool → Assignment
with_value a v value = slice_set a (v - 1) value

-- whether the literal is true
abbrev pub is_true : Assignment → Literal → Bool
is_true a l = if l.positive then value_of a l.var else not (value_of a l.var)

-- whether some literal of the clause is true
abbrev pub clause_true : Assignment → Literals → Bool
clause_true a c = list_any (is_true a) c

-- whether every clause is true
abbrev pub all_true : Assignment → List Literals → Bool
all_true a cs = list_all (clause_true a) cs

-- the literal's variable is one of 1 to n
pub record IsWithin (n : ℕ) (l : Literal) : Type 0 where
  pub low : 0 < l.var
  pub high : l.var ≤ n

-- every literal's variable is one of 1 to n
abbrev pub AreWithin : ℕ → Literals → Type 0
AreWithin n c = All (IsWithin n) c

-- the literals rise strictly by their variables
abbrev pub RisesByVar : Literals → Type 0
RisesByVar c = AllPairs (λ k l. k.var < l.var) c
