-- Clauses that lie one behind the other.
use Rattle.std.specs.Prelude.{◌≡◌, ◌+◌, ◌-◌, ◌≤◌, List, [], ◌∷◌, ◌++◌, length, take, drop, All}
use Rattle.cnf_core.specs.Literals.{Literals}
use Rattle.local_search.specs.declared.flat.Span.{Span}

-- the literals of a span
abbrev pub part_of : Literals → Span → Literals
part_of lits s = take (s.end - s.start) (drop s.start lits)

-- each span lies among the literals
abbrev pub AreSpans : Literals → List Span → Type 0
AreSpans lits spans = All (λ s. (s.start ≤ s.end) × (s.end ≤ length lits)) spans

-- one clause more, which lies behind the others
pub record IsLaid (c lits : Literals) (spans : List Span) (lits' : Literals) (spans' : List Span) : Type 0 where
  pub literals : lits' ≡ lits ++ c
  pub listed : spans' ≡ spans ++ record { start = length lits; end = length lits + length c } ∷ []
