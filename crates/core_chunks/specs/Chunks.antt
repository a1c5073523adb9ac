-- The open variables of seen words, and the parts of them that a query asks about.
use Rattle.std.specs.Prelude.{◌≡◌, ℕ, zero, suc, ◌+◌, ◌-◌, ◌/◌, ◌^◌, ◌<◌, ◌≤◌, min, nat_eq, Bool, List, ◌++◌, length, take, filter, bit_and, slice_index}
use Rattle.std.specs.List.{flat_map, range_with_len}
use Rattle.cnf_core.specs.Literals.{Literals}
use Rattle.board_core.specs.Words.{open_at, times, vars_of}

-- the open bits of a word: alive and not fixed
abbrev pub open_mask : ℕ → ℕ
open_mask w = bit_and (bit_and w (18446744073709551615 - w / 4294967296)) 4294967295

-- the open variables of a group, and those of so many groups from the first on
abbrev pub open_in : List ℕ → ℕ → List ℕ
open_in ws g = vars_of g (open_mask (slice_index ws g))

abbrev pub open_in_groups : List ℕ → ℕ → ℕ → List ℕ
open_in_groups ws first count = flat_map (open_in ws) (range_with_len first count)

-- the first open variables, at most so many: rising within a group, with the groups from one on to the last, and
-- then from 0 on
abbrev pub block_of : List ℕ → ℕ → ℕ → List ℕ
block_of ws first size = take size (open_in_groups ws first (length ws - first) ++ open_in_groups ws 0 first)

abbrev pub is_open : List ℕ → ℕ → Bool
is_open ws x = nat_eq (open_at ws x) 1

-- the literals whose variables are open
abbrev pub chunk_of : List ℕ → Literals → Literals
chunk_of ws core = filter (λ l. is_open ws l.var) core

-- how many of the variables 1 to n are open
unfoldable pub open_count : List ℕ → ℕ → ℕ
open_count ws zero = 0
open_count ws (suc n) = open_count ws n + open_at ws (suc n)

-- each is a word of 64 bits, and has no open bit past the variable n
pub record AreSeen (ws : List ℕ) (n : ℕ) : Type 0 where
  pub fits : (g : ℕ) → slice_index ws g < 2 ^ 64
  pub within : (x : ℕ) → n < x → open_at ws x ≡ 0

-- a block has open variables alone, each once, and as many of them as it may, or all
pub record IsBlockOf (ws : List ℕ) (n size : ℕ) (block : List ℕ) : Type 0 where
  pub once : (x : ℕ) → times x block ≤ open_at ws x
  pub within : (x : ℕ) → 1 ≤ times x block → (0 < x) × (x ≤ n)
  pub count : length block ≡ min size (open_count ws n)

-- over all words of at most n variables, places and sizes
abbrev pub BlocksAreOpen : Type 0
BlocksAreOpen = (ws : List ℕ) (n first size : ℕ) → AreSeen ws n → first ≤ length ws → IsBlockOf ws n size (block_of ws first size)
