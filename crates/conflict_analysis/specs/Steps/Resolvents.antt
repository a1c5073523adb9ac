-- Resolvents as predicates on literals, and the hints that derive them, the last one taken first.
use Rattle.std.specs.Prelude.{◌≡◌, ◌≢◌, ℕ, ◌<◌, Bool, true, List, Contains}
use Rattle.cnf_core.specs.Literals.{Literal, Literals, negated}
use Rattle.trail_core.specs.declared.entry.Assigned.{Assigned}
use Rattle.trail_core.specs.Trails.{assigned_at}
use Rattle.lrat_lines.specs.Propagation.{Known}
use Rattle.lrat_lines.specs.Tight.{StandsIn, IsTightFrom}

-- the literals contradict none of the first entries
abbrev pub IsApart : List Assigned → ℕ → Literals → Type 0
IsApart es top trues = (l : Literal) (q : ℕ) → Contains trues l → q < top → (assigned_at es q).lit ≢ negated l

-- wherever the literals of the resolvent are false, and no entry before the top is, the hints show a
-- clause with no needless one, and each literal of the resolvent stands in one of their sets
pub record Derives (known : Known) (es : List Assigned) (top : ℕ) (D : Literal → Type 0) (hints : List ℕ) : Type 0 where
  pub tight : (trues : Literals) → IsApart es top trues → ((x : Literal) → D x → Contains trues (negated x))
      → IsTightFrom known trues hints
  pub used : (x : Literal) → D x → StandsIn known hints x

-- the literal is false by an entry before this place whose variable was met: it isn't resolved yet
pub record IsLeft (es : List Assigned) (end : ℕ) (seen : ℕ → Bool) (x : Literal) : Type 0 where
  pub place : ℕ
  pub before : place < end
  pub lit : (assigned_at es place).lit ≡ negated x
  pub met : seen (assigned_at es place).lit.var ≡ true
