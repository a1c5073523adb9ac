-- Where a text is cut into pieces, and what of it is left.
use Rattle.std.proofs.Common.{◌≡◌, ℕ, ◌+◌, Bool, true, false, List, [], ◌∷◌, ◌++◌, length, refl, ap, ◌∙◌, arith}
use Rattle.std.specs.List.{list_any}
use Rattle.std.proofs.lemmas.Bool.{or_parts}
use Rattle.dimacs_reader.specs.Pieces.{Piece, before, pieces_behind, pieces}

-- no byte passes the test
abbrev pub NonePass : (ℕ → Bool) → List ℕ → Type 0
NonePass test [] = Unit {0}
NonePass test (b ∷ bs) = (test b ≡ false) × NonePass test bs

pub none_pass : (test : ℕ → Bool) (bs : List ℕ) → list_any test bs ≡ false → NonePass test bs
none_pass test [] none = tt
none_pass test (b ∷ bs) none = let parts = or_parts (test b) (list_any test bs) none in (parts.0, none_pass test bs parts.1)

pub NonePass-append : (test : ℕ → Bool) (xs ys : List ℕ) → NonePass test xs → NonePass test ys → NonePass test (xs ++ ys)
NonePass-append test [] ys front back = back
NonePass-append test (x ∷ xs) ys front back = (front.0, NonePass-append test xs ys front.1 back)

abbrev pub piece : ℕ → List ℕ → Piece
piece place bytes = record { place = place; bytes = bytes }

before_cut : (test : ℕ → Bool) (bs : List ℕ) (b : ℕ) (more : List ℕ) → NonePass test bs → test b ≡ true → before test (bs ++ b ∷ more) ≡ bs
before_cut test [] b more none cut = rw cut
before_cut test (c ∷ cs) b more none cut = rw (none.0, before_cut test cs b more none.1 cut)

behind_cut : (test : ℕ → Bool) (place : ℕ) (bs : List ℕ) (b : ℕ) (more : List ℕ) → NonePass test bs → test b ≡ true
    → pieces_behind test place (bs ++ b ∷ more) ≡ pieces test (piece (place + (length bs + 1)) more)
behind_cut test place [] b more none cut = rw cut
behind_cut test place (c ∷ cs) b more none cut =
    rw (none.0, behind_cut test (place + 1) cs b more none.1 cut) (ap (λ p. pieces test (piece p more)) (omega arith))

-- the first piece ends before the first byte that passes, and the others are those of the bytes behind it
pub pieces_cut : (test : ℕ → Bool) (place : ℕ) (bs : List ℕ) (b : ℕ) (more : List ℕ) → NonePass test bs → test b ≡ true
    → pieces test (piece place (bs ++ b ∷ more)) ≡ piece place bs ∷ pieces test (piece (place + (length bs + 1)) more)
pieces_cut test place bs b more none cut =
    ap (λ x. piece place x ∷ pieces_behind test place (bs ++ b ∷ more)) (before_cut test bs b more none cut)
    ∙ ap (λ ps. piece place bs ∷ ps) (behind_cut test place bs b more none cut)

before_all : (test : ℕ → Bool) (bs : List ℕ) → NonePass test bs → before test bs ≡ bs
before_all test [] none = refl
before_all test (c ∷ cs) none = rw (none.0, before_all test cs none.1)

behind_none : (test : ℕ → Bool) (place : ℕ) (bs : List ℕ) → NonePass test bs → pieces_behind test place bs ≡ []
behind_none test place [] none = refl
behind_none test place (c ∷ cs) none = rw (none.0, behind_none test (place + 1) cs none.1)

-- where no byte passes there is one piece
pub pieces_uncut : (test : ℕ → Bool) (place : ℕ) (bs : List ℕ) → NonePass test bs → pieces test (piece place bs) ≡ piece place bs ∷ []
pieces_uncut test place bs none =
    ap (λ x. piece place x ∷ pieces_behind test place bs) (before_all test bs none)
    ∙ ap (λ ps. piece place bs ∷ ps) (behind_none test place bs none)
