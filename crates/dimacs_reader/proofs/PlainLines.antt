-- The lines of a plain text: their tokens, and what they are read as.
use Rattle.std.proofs.Common.{◌≡◌, ℕ, ◌<◌, ◌+◌, true, List, [], ◌∷◌, ◌++◌, length, refl, ap, ◌∙◌, arith}
use Rattle.std.specs.Prelude.{filter}
use Rattle.dimacs_reader.specs.Pieces.{Piece, is_filled, is_filled_list, is_blank, pieces}
use Rattle.dimacs_reader.proofs.PlainPieces.{NonePass, piece, pieces_cut, pieces_uncut}

-- the tokens of the bytes
abbrev pub words : ℕ → List ℕ → List Piece
words place bs = filter is_filled (pieces is_blank (piece place bs))

is_filled-piece : (w : List ℕ) → 0 < length w → is_filled_list w ≡ true
is_filled-piece [] filled = absurd (omega arith)
is_filled-piece (b ∷ bs) filled = refl

-- a word before a space is the first token
pub words_more : (place : ℕ) (w : List ℕ) (more : List ℕ) → 0 < length w → NonePass is_blank w
    → words place (w ++ 32 ∷ more) ≡ piece place w ∷ words (place + (length w + 1)) more
words_more place w more filled word =
    ap (filter is_filled) (pieces_cut is_blank place w 32 more word refl) ∙ rw (is_filled-piece w filled)

-- the last token
pub words_last : (place : ℕ) (w : List ℕ) → 0 < length w → NonePass is_blank w → words place w ≡ piece place w ∷ []
words_last place w filled word = ap (filter is_filled) (pieces_uncut is_blank place w word) ∙ rw (is_filled-piece w filled)
