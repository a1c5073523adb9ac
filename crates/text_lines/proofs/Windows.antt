-- Parts of the bytes that lie in memory.
use Rattle.std.proofs.Common.{◌≡◌, ℕ, ◌+◌, ◌-◌, ◌≤◌, List, ◌++◌, length, take, drop, sym, ◌∙◌, ap, arith, take-append-drop, length-take}
use Rattle.std.proofs.lemmas.List.{drop-drop, drop-take, take_at, take-take}

-- what is behind some bytes of a part that ends at a place
pub part_behind : (xs : List ℕ) (from to n skipped : ℕ) (part : List ℕ) → take (to - from) (drop from xs) ≡ part → n + skipped ≤ length part
    → take (to - (from + n + skipped)) (drop (from + n + skipped) xs) ≡ drop (n + skipped) part
part_behind xs from to n skipped part is le =
    let short : length part ≤ to - from = omega (arith, ap length is, length-take (to - from) (drop from xs)) in
    let place : from + n + skipped ≡ from + (n + skipped) = omega arith in
    let size : to - from ≡ (n + skipped) + (to - (from + n + skipped)) = omega arith in
    ap (λ (m : ℕ). take (to - (from + n + skipped)) (drop m xs)) place
    ∙ ap (λ (rest : List ℕ). take (to - (from + n + skipped)) rest) (sym (drop-drop (n + skipped) from xs))
    ∙ sym (drop-take (n + skipped) (to - (from + n + skipped)) (drop from xs))
    ∙ sym (ap (λ (m : ℕ). drop (n + skipped) (take m (drop from xs))) size)
    ∙ ap (drop (n + skipped)) is

-- the first bytes are some and some behind them
take_sum : (n m : ℕ) (xs : List ℕ) → take (n + m) xs ≡ take n xs ++ take m (drop n xs)
take_sum n m xs =
    sym (take-append-drop n (take (n + m) xs))
    ∙ ap (λ (front : List ℕ). front ++ drop n (take (n + m) xs)) (take-take n (n + m) xs (omega arith))
    ∙ ap (λ (rest : List ℕ). take n xs ++ rest) (drop-take n m xs)

-- a part that ends where more bytes were read
pub part_more : (old new : List ℕ) (len next filled count : ℕ) (ahead : List ℕ) → length new ≡ len → take filled new ≡ take filled old
    → next ≤ filled → take (filled - next) (drop next old) ≡ ahead
    → take (filled + count - next) (drop next (take len (new ++ drop (length new) old))) ≡ ahead ++ take count (drop filled new)
part_more old new len next filled count ahead size same le is =
    let part : take (filled - next) (drop next new) ≡ ahead =
    sym (drop-take next (filled - next) new)
    ∙ ap (λ (m : ℕ). drop next (take m new)) (to_end next filled le)
    ∙ ap (drop next) same
    ∙ ap (λ (m : ℕ). drop next (take m old)) (sym (to_end next filled le))
    ∙ drop-take next (filled - next) old ∙ is in
    let length_is : filled + count - next ≡ (filled - next) + count = omega (arith, le) in
    ap (λ (all : List ℕ). take (filled + count - next) (drop next all)) (take_at new (drop (length new) old) len size)
    ∙ ap (λ (n : ℕ). take n (drop next new)) length_is
    ∙ take_sum (filled - next) count (drop next new)
    ∙ ap (λ (front : List ℕ). front ++ take count (drop (filled - next) (drop next new))) part
    ∙ ap (λ (rest : List ℕ). ahead ++ take count rest) (drop-drop (filled - next) next new ∙ ap (λ (n : ℕ). drop n new) (to_end next filled le))
  where
    to_end : (a b : ℕ) → a ≤ b → a + (b - a) ≡ b
    to_end a b low = omega (arith, low)
