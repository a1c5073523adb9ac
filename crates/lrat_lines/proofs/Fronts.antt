-- A text that only grew.
use Rattle.std.proofs.Common.{◌≡◌, ℕ, ◌≤◌, List, ◌++◌, length, take, sym, ap, ◌∙◌, arith, length-append}
use Rattle.std.proofs.lemmas.List.{take_at, take-take}

-- what is at the front of a longer text's front is at the front of the text
pub front_kept : (old piece middle new : List ℕ) → middle ≡ old ++ piece → take (length middle) new ≡ middle
    → take (length old) new ≡ old
front_kept old piece middle new is kept =
    let shorter : length old ≤ length middle = omega (arith, ap length is, length-append old piece) in
    sym (take-take (length old) (length middle) new shorter)
    ∙ ap (take (length old)) (kept ∙ is)
    ∙ take_at old piece (length old) (omega arith)
