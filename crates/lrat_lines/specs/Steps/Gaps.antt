-- Bytes that begin with a token.
use Rattle.std.specs.Prelude.{◌≡◌, ℕ, false, List, [], ◌∷◌}
use Rattle.lrat_lines.specs.Tokens.{is_gap}

-- there is no byte, or the first is no gap
abbrev pub BeginsPlain : List ℕ → Type 0
BeginsPlain [] = Unit {0}
BeginsPlain (b ∷ bs) = is_gap b ≡ false
