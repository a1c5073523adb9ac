-- A text cut into lines, and a line into tokens. Every piece carries the place of its first byte.
use Rattle.std.specs.Prelude.{ℕ, ◌+◌, ◌==◌, Bool, true, false, ◌||◌, if◌then◌else◌, List, []}
use Rattle.std.specs.Prelude.{◌∷◌, length, map, filter}

-- bytes that stand at a place of a text
pub record Piece : Type 0 where
  pub place : ℕ
  pub bytes : List ℕ

abbrev pub piece_at : ℕ → List ℕ → Piece
piece_at place bytes = record { place = place; bytes = bytes }

-- a line ends at a line feed, or where the text ends
abbrev pub is_line_feed : ℕ → Bool
is_line_feed b = b == 10

-- a blank is a space, a tab or a carriage return
abbrev pub is_blank : ℕ → Bool
is_blank b = (b == 32) || (b == 9) || (b == 13)

-- the bytes before the first that passes the test
abbrev pub before : (ℕ → Bool) → List ℕ → List ℕ
before test [] = []
before test (b ∷ bs) = if test b then [] else b ∷ before test bs

-- behind each byte that passes the test, the piece up to the next such byte
abbrev pub pieces_behind : (ℕ → Bool) → ℕ → List ℕ → List Piece
pieces_behind test place [] = []
pieces_behind test place (b ∷ bs) =
    if test b then
    record { place = place + 1; bytes = before test bs } ∷ pieces_behind test (place + 1) bs
    else pieces_behind test (place + 1) bs

-- the pieces between the bytes that pass the test
abbrev pub pieces : (ℕ → Bool) → Piece → List Piece
pieces test p =
    record { place = p.place; bytes = before test p.bytes } ∷ pieces_behind test p.place p.bytes

abbrev pub is_filled_list : List ℕ → Bool
is_filled_list [] = false
is_filled_list (b ∷ bs) = true

-- whether the piece has a byte
abbrev pub is_filled : Piece → Bool
is_filled p = is_filled_list p.bytes

-- a line: its tokens, which are its longest runs of bytes that are no blanks, and the place of its
-- line feed, or of the text's end
pub record Line : Type 0 where
  pub tokens : List Piece
  pub end : ℕ

abbrev pub line_of : Piece → Line
line_of p = record {
  tokens = filter is_filled (pieces is_blank p);
  end = p.place + length p.bytes;
}

-- the lines of a text, of which there is always one
abbrev pub lines : List ℕ → List Line
lines text = map line_of (pieces is_line_feed (record { place = 0; bytes = text }))
