-- Numbers in groups of 7 bits, and back.
use Rattle.std.proofs.Common.{◌≡◌, ℕ, zero, suc, ◌+◌, ◌-◌, ◌*◌, ◌/◌, ◌%◌, ◌^◌, ◌<◌, ◌≤◌, ltb, List, [], ◌∷◌, ◌++◌, length, drop}
use Rattle.std.proofs.Common.{get_or, refl, sym, ap, ◌∙◌, ⊎_elim, arith}
use Rattle.std.specs.Prelude.{All}
use Rattle.std.proofs.lemmas.Bool.{cases_lt, lt-ltb, le-ltb, cond-true, cond-false}
use Rattle.std.proofs.lemmas.List.{append_assoc, drop_more, drop_all, append-nil}
use Rattle.std.proofs.lemmas.List.Elements.{All-head, All-tail}
use Rattle.lrat_log.specs.Packed.{groups, packed_number, packed_numbers}
use Rattle.lrat_log.specs.Steps.Unpacked.{low_group, values, first, IsWord}

-- so many numbers have at most this many groups, and one more
abbrev top : ℕ → ℕ
top zero = 128
top (suc more) = 128 * top more

-- a number that is one byte
pub one_group : (more n : ℕ) → n < 128 → groups more n ≡ n ∷ []
one_group zero n small = refl
one_group (suc more) n small = cond-true (ltb n 128) (n ∷ []) ((n % 128 + 128) ∷ groups more (n / 128)) (lt-ltb n 128 small)

-- the lowest group of a longer one
more_groups : (more n : ℕ) → 128 ≤ n → groups (suc more) n ≡ (n % 128 + 128) ∷ groups more (n / 128)
more_groups more n large = cond-false (ltb n 128) (n ∷ []) ((n % 128 + 128) ∷ groups more (n / 128)) (le-ltb n 128 large)

-- what is left of a number's groups
pub record HasGroups (bytes whole : List ℕ) (left : ℕ) : Type 0 where
  pub more : ℕ
  pub is : bytes ++ groups more left ≡ whole
  pub fits : left < top more

pub groups_begin : (bytes : List ℕ) (n : ℕ) → n < 2 ^ 64 → HasGroups bytes (bytes ++ packed_number n) n
unfolding packed_number
groups_begin bytes n word = record { more = 9; is = refl; fits = omega arith }

pub groups_next : (bytes whole : List ℕ) (n : ℕ) → HasGroups bytes whole n → 128 ≤ n
    → HasGroups (bytes ++ (n % 128 + 128) ∷ []) whole (n / 128)
groups_next bytes whole n has large = step has.more has.is has.fits
  where
    step : (more : ℕ) → bytes ++ groups more n ≡ whole → n < top more
        → HasGroups (bytes ++ (n % 128 + 128) ∷ []) whole (n / 128)
    step zero is fits = absurd (omega arith)
    step (suc more) is fits = record {
      more = more;
      is = append_assoc bytes ((n % 128 + 128) ∷ []) (groups more (n / 128))
          ∙ ap (λ (x : List ℕ). bytes ++ x) (sym (more_groups more n large))
          ∙ is;
      fits = omega arith;
    }

pub groups_end : (bytes whole : List ℕ) (n : ℕ) → HasGroups bytes whole n → n < 128 → bytes ++ n ∷ [] ≡ whole
groups_end bytes whole n has small = ap (λ (x : List ℕ). bytes ++ x) (sym (one_group has.more n small)) ∙ has.is

-- the number of one byte, and of a group before others

values_one : (b : ℕ) (bs : List ℕ) → b < 128 → values (b ∷ bs) ≡ b ∷ values bs
values_one b bs small = cond-true (ltb b 128) (b ∷ values bs) (low_group (b - 128) (values bs)) (lt-ltb b 128 small)

values_more : (b : ℕ) (bs : List ℕ) → 128 ≤ b → values (b ∷ bs) ≡ low_group (b - 128) (values bs)
values_more b bs large = cond-false (ltb b 128) (b ∷ values bs) (low_group (b - 128) (values bs)) (le-ltb b 128 large)

values_groups : (more n : ℕ) (rest : List ℕ) → n < top more → values (groups more n ++ rest) ≡ n ∷ values rest
values_groups zero n rest fits = values_one n rest fits
values_groups (suc more) n rest fits = ⊎_elim
    (λ (small : n < 128). ap (λ (x : List ℕ). values (x ++ rest)) (one_group (suc more) n small) ∙ values_one n rest small)
    (λ (large : 128 ≤ n).
    let whole : n % 128 + 128 - 128 + 128 * (n / 128) ≡ n = omega arith in
    ap (λ (x : List ℕ). values (x ++ rest)) (more_groups more n large)
    ∙ values_more (n % 128 + 128) (groups more (n / 128) ++ rest) (omega arith)
    ∙ ap (low_group (n % 128 + 128 - 128)) (values_groups more (n / 128) rest (omega arith))
    ∙ ap (λ (x : ℕ). x ∷ values rest) whole)
    (cases_lt n 128)

pub values_number : (n : ℕ) (rest : List ℕ) → n < 2 ^ 64 → values (packed_number n ++ rest) ≡ n ∷ values rest
unfolding packed_number
values_number n rest word = values_groups 9 n rest (omega arith)

-- numbers come back out of their bytes
pub values_numbers : (ns : List ℕ) (rest : List ℕ) → All IsWord ns → values (packed_numbers ns ++ rest) ≡ ns ++ values rest
values_numbers [] rest words = refl
values_numbers (n ∷ ns) rest words =
    ap values (append_assoc (packed_number n) (packed_numbers ns) rest)
    ∙ values_number n (packed_numbers ns ++ rest) (All-head IsWord n ns words)
    ∙ ap (λ (x : List ℕ). n ∷ x) (values_numbers ns rest (All-tail IsWord n ns words))

pub values_packed : (ns : List ℕ) → All IsWord ns → values (packed_numbers ns) ≡ ns
values_packed ns words =
    ap values (sym (append-nil (packed_numbers ns))) ∙ values_numbers ns [] words ∙ append-nil ns

-- a walk over the groups of a number

first_low : (g : ℕ) (ns : List ℕ) → first (low_group g ns) ≡ g + 128 * first ns
first_low g [] = omega arith
first_low g (n ∷ ns) = refl

rest_low : (g : ℕ) (ns : List ℕ) → drop 1 (low_group g ns) ≡ drop 1 ns
rest_low g [] = refl
rest_low g (n ∷ ns) = refl

-- the byte here ends the number
pub first_ends : (bytes : List ℕ) (k : ℕ) → k < length bytes → get_or bytes k 0 < 128
    → (first (values (drop k bytes)) ≡ get_or bytes k 0) × (drop 1 (values (drop k bytes)) ≡ values (drop (k + 1) bytes))
first_ends bytes k below small =
    let is : values (drop k bytes) ≡ get_or bytes k 0 ∷ values (drop (k + 1) bytes) =
    ap values (drop_more bytes k 0 below) ∙ values_one (get_or bytes k 0) (drop (k + 1) bytes) small in
    (ap first is, ap (drop 1) is)

-- or has more groups behind it
pub first_goes_on : (bytes : List ℕ) (k : ℕ) → k < length bytes → 128 ≤ get_or bytes k 0
    → (first (values (drop k bytes)) ≡ get_or bytes k 0 - 128 + 128 * first (values (drop (k + 1) bytes)))
    × (drop 1 (values (drop k bytes)) ≡ drop 1 (values (drop (k + 1) bytes)))
first_goes_on bytes k below large =
    let b = get_or bytes k 0 in
    let is : values (drop k bytes) ≡ low_group (b - 128) (values (drop (k + 1) bytes)) =
    ap values (drop_more bytes k 0 below) ∙ values_more b (drop (k + 1) bytes) large in (
      ap first is ∙ first_low (b - 128) (values (drop (k + 1) bytes)),
      ap (drop 1) is ∙ rest_low (b - 128) (values (drop (k + 1) bytes)),
    )

pub none_left : (bytes : List ℕ) (k : ℕ) → length bytes ≤ k → values (drop k bytes) ≡ []
none_left bytes k past = ap values (drop_all k bytes past)
