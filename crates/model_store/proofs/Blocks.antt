-- The assignments of a block, and of two blocks in a row.
use Rattle.std.proofs.Common.{◌≡◌, ℕ, zero, suc, ◌+◌, ◌*◌, ◌<◌, ◌≤◌, List, [], ◌∷◌, ◌++◌, length, get_or, drop, refl, sym, ap, ◌∙◌, append_assoc, append-nil, arith}
use Rattle.std.proofs.Math.Nat.{mul-le-mul_left}
use Rattle.std.proofs.Math.Seq.{drop-append-add}
use Rattle.std.proofs.lemmas.List.{length-drop, drop-append-le}
use Rattle.std.proofs.lemmas.List.FromFn.{length-map-range_with_len, get_or-map-range_with_len, map-range_with_len_more}
use Rattle.cnf_core.specs.Literals.{Assignment}
use Rattle.model_store.specs.Steps.Packed.{words_for, unpacked, all_unpacked}
use Rattle.model_store.proofs.Words.{map-range_same, unpacked-append}

-- the words of the values are enough
pub words_for_enough : (n : ℕ) → n ≤ 64 * words_for n
words_for_enough n = omega arith

pub length-all_unpacked : (words : List ℕ) (n count : ℕ) → length (all_unpacked words n count) ≡ count
unfolding all_unpacked
length-all_unpacked words n count =
    length-map-range_with_len (λ m. unpacked (drop (words_for n * m) words) n) 0 count

pub all_unpacked-zero : (words : List ℕ) (n : ℕ) → all_unpacked words n 0 ≡ []
unfolding all_unpacked
all_unpacked-zero words n = refl

pub all_unpacked-more : (words : List ℕ) (n count : ℕ)
    → all_unpacked words n (count + 1) ≡ all_unpacked words n count ++ unpacked (drop (words_for n * count) words) n ∷ []
unfolding all_unpacked
all_unpacked-more words n count =
    map-range_with_len_more (λ m. unpacked (drop (words_for n * m) words) n) 0 count count (omega arith)

-- the assignment at a place
pub all_unpacked_at : (words : List ℕ) (n count m : ℕ) (d : Assignment) → m < count
    → get_or (all_unpacked words n count) m d ≡ unpacked (drop (words_for n * m) words) n
unfolding all_unpacked
all_unpacked_at words n count m d below =
    get_or-map-range_with_len (λ k. unpacked (drop (words_for n * k) words) n) 0 count m m d below (omega arith)

-- the words from the place of an assignment on, and those of that assignment, are within the block
pub place_within : (w count m : ℕ) → m < count → w * m + w ≤ w * count
place_within w count m below =
    let next : m + 1 ≤ count = omega arith in
    omega (arith, mul-le-mul_left w next)

-- an assignment of the first block
front_at : (xs ys : List ℕ) (n w count m : ℕ) → n ≤ 64 * w → length xs ≡ w * count → m < count
    → unpacked (drop (w * m) (xs ++ ys)) n ≡ unpacked (drop (w * m) xs) n
front_at xs ys n w count m enough whole below =
    let within : w * m + w ≤ w * count = place_within w count m below in
    let start : w * m ≤ length xs = omega arith in
    let room : n ≤ 64 * length (drop (w * m) xs) = omega (arith, length-drop (w * m) xs) in
    ap (λ (zs : List ℕ). unpacked zs n) (drop-append-le (w * m) xs ys start)
    ∙ unpacked-append (drop (w * m) xs) ys n room

-- an assignment of the second block
back_at : (xs ys : List ℕ) (n w count m : ℕ) → length xs ≡ w * count
    → unpacked (drop (w * (count + m)) (xs ++ ys)) n ≡ unpacked (drop (w * m) ys) n
back_at xs ys n w count m whole =
    let place : w * (count + m) ≡ length xs + w * m = omega arith in
    ap (λ (k : ℕ). unpacked (drop k (xs ++ ys)) n) place
    ∙ ap (λ (zs : List ℕ). unpacked zs n) (drop-append-add xs ys (w * m))

front_all : (xs ys : List ℕ) (n count : ℕ) → length xs ≡ words_for n * count
    → all_unpacked (xs ++ ys) n count ≡ all_unpacked xs n count
unfolding all_unpacked
front_all xs ys n count whole =
    map-range_same (λ m. unpacked (drop (words_for n * m) (xs ++ ys)) n)
    (λ m. unpacked (drop (words_for n * m) xs) n) count []
    (λ m below. front_at xs ys n (words_for n) count m (words_for_enough n) whole below)

-- two blocks in a row have the assignments of both
pub all_unpacked-append : (xs ys : List ℕ) (n count more : ℕ) → length xs ≡ words_for n * count
    → all_unpacked (xs ++ ys) n (count + more) ≡ all_unpacked xs n count ++ all_unpacked ys n more
all_unpacked-append xs ys n count zero whole =
    ap (λ (k : ℕ). all_unpacked (xs ++ ys) n k) (omega arith)
    ∙ front_all xs ys n count whole
    ∙ sym (append-nil (all_unpacked xs n count))
    ∙ ap (λ (zs : List Assignment). all_unpacked xs n count ++ zs) (sym (all_unpacked-zero ys n))
all_unpacked-append xs ys n count (suc more) whole =
    let before : all_unpacked (xs ++ ys) n (count + more) ≡ all_unpacked xs n count ++ all_unpacked ys n more =
    all_unpacked-append xs ys n count more whole in
    let last = back_at xs ys n (words_for n) count more whole in
    let left : all_unpacked (xs ++ ys) n (count + suc more)
    ≡ all_unpacked (xs ++ ys) n (count + more) ++ unpacked (drop (words_for n * (count + more)) (xs ++ ys)) n ∷ [] =
    ap (λ (k : ℕ). all_unpacked (xs ++ ys) n k) (omega arith) ∙ all_unpacked-more (xs ++ ys) n (count + more) in
    let right : all_unpacked ys n (suc more)
    ≡ all_unpacked ys n more ++ unpacked (drop (words_for n * more) ys) n ∷ [] =
    ap (λ (k : ℕ). all_unpacked ys n k) (omega arith) ∙ all_unpacked-more ys n more in
    rw (left, before, last, right, append_assoc) refl
