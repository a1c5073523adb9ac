-- What is taken to be true where a clause is to be shown.
use Rattle.std.specs.Prelude.{◌≡◌, Bool, true, false, map}
use Rattle.cnf_core.specs.Literals.{Literals, negated}
use Rattle.lrat_lines.specs.Sets.{has_complements}

-- the answer is whether the clause has a literal and its negation; where it has none, the negations
-- of its literals are true
abbrev pub Assumes : Literals → Literals → Bool → Type 0
Assumes c trues true = has_complements c ≡ true
Assumes c trues false = (has_complements c ≡ false) × (trues ≡ map negated c)
