-- Truth values packed into words of 64 bits.
use Rattle.std.specs.Prelude.{◌≡◌, ℕ, ◌+◌, ◌*◌, ◌/◌, ◌%◌, ◌<◌, ◌==◌, Bool, false, List, map, take, drop, length, slice_index, slice_index_or}
use Rattle.std.specs.Int.{bit_at}
use Rattle.std.specs.List.{range_with_len}
use Rattle.cnf_core.specs.Literals.{Assignment}

-- how many words n values take
abbrev pub words_for : ℕ → ℕ
words_for n = (n + 63) / 64

-- the truth value of bit k of a block of words
abbrev pub bit_value : List ℕ → ℕ → Bool
bit_value words k = bit_at (slice_index words (k / 64)) (k % 64) == 1

-- the n values whose bits are the first of the block
unfoldable pub unpacked : List ℕ → ℕ → Assignment
unpacked words n = map (bit_value words) (range_with_len 0 n)

-- so many assignments of n values, each with whole words of its own
unfoldable pub all_unpacked : List ℕ → ℕ → ℕ → List Assignment
all_unpacked words n count = map (λ m. unpacked (drop (words_for n * m) words) n) (range_with_len 0 count)

-- the word has the values from variable 64 j + 1 on, as far as there are any
abbrev pub HasValues : Assignment → ℕ → ℕ → Type 0
HasValues a j word = (k : ℕ) → k < 64 → 64 * j + k < length a
    → (bit_at word k == 1) ≡ slice_index_or a (64 * j + k) false

-- the block has gained just the words of the values
pub record AppendsValues (old new : List ℕ) (a : Assignment) : Type 0 where
  pub front : take (length old) new ≡ old
  pub count : length new ≡ length old + words_for (length a)
  pub values : unpacked (drop (length old) new) (length a) ≡ a
