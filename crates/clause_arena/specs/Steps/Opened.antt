-- The first start of an arena is written with its first clause.
use Rattle.std.specs.Prelude.{ℕ, List, [], ◌∷◌}

-- the starts, with the first one
abbrev pub opened : List ℕ → List ℕ
opened [] = 0 ∷ []
opened (s ∷ ss) = s ∷ ss
