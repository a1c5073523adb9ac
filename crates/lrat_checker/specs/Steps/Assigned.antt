-- Literals that are taken to be true, and a table of those that are false.
use Rattle.std.specs.Prelude.{◌≡◌, ℕ, ◌+◌, ◌*◌, ◌<◌, Bool, false, if◌then◌else◌, List, [], ◌∷◌, length, All, slice_index_or}
use Rattle.std.specs.List.{list_all}
use Rattle.cnf_core.specs.Literals.{Literal, Literals, negated, code_of}
use Rattle.lrat_lines.specs.Sets.{is_same, has}
use Rattle.lrat_checker.specs.declared.assignment.Open.{Open}
use Rattle.lrat_checker.specs.declared.assignment.Open.TheVariants.{Never, Single, Several}

-- the true literals in order, where codes below a number have a place in the table
pub record Assigned : Type 0 where
  pub codes : ℕ
  pub trues : Literals

abbrev pub assigned : ℕ → Literals → Assigned
assigned codes trues = record { codes = codes; trues = trues }

-- the literal and its negation have a place
abbrev pub HasPlace : ℕ → Literal → Type 0
HasPlace codes l = 2 * l.var + 1 < codes

-- the table has each literal that is false, and each true one has its place
pub record IsTable (falses : List Bool) (trues : Literals) : Type 0 where
  pub tells : (l : Literal) → slice_index_or falses (code_of l) false ≡ has trues (negated l)
  pub placed : All (HasPlace (length falses)) trues

-- which literals are left of those that are not false: none, a single one however often, or several
abbrev pub open_of : Literals → Open
open_of [] = Never
open_of (l ∷ ls) = if list_all (is_same l) ls then Single l else Several

-- the same with one literal more that is not false
abbrev pub opened : Open → Literal → Open
opened Never l = Single l
opened (Single k) l = if is_same k l then Single k else Several
opened Several l = Several
