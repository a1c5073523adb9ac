-- The words of groups. Bits are numbers, 0 or 1.
use Rattle.std.specs.Prelude.{ℕ, zero, suc, ◌+◌, ◌-◌, ◌*◌, ◌/◌, ◌%◌, ◌<◌, ◌≤◌, nat_eq, List, [], ◌∷◌, ◌++◌, bit_and, bit_or, bit_xor, slice_index}
use Rattle.std.specs.Int.{bit_at}
use Rattle.std.specs.List.{count_by}
use Rattle.cnf_core.specs.Formulas.{Cnf}
use Rattle.board_core.specs.Subjects.{candidate}
use Rattle.board_core.specs.declared.view.Stamped.{Stamped}

-- 1 where the variable is alive
abbrev pub alive : List ℕ → ℕ → ℕ
alive ws zero = 0
alive ws (suc c) = bit_at (slice_index ws (c / 32)) (c % 32)

-- 1 where the variable is fixed
abbrev pub fixed : List ℕ → ℕ → ℕ
fixed ws zero = 0
fixed ws (suc c) = bit_at (slice_index ws (c / 32)) (32 + c % 32)

-- 1 where the variable is open: alive and not fixed
abbrev pub open_at : List ℕ → ℕ → ℕ
open_at ws x = alive ws x - fixed ws x

-- the first word is the other or an earlier one: it has all alive bits of the other, and no further fixed ones
abbrev pub Earlier : ℕ → ℕ → Type 0
Earlier a b = (i : ℕ) → i < 32 → (bit_at b i ≤ bit_at a i) × (bit_at a (32 + i) ≤ bit_at b (32 + i))

-- the group's word has bits of candidates alone
abbrev pub Inside : Cnf → ℕ → ℕ → Type 0
Inside F g w = (i : ℕ) → i < 32
    → (bit_at w i ≤ candidate F (suc (32 * g + i))) × (bit_at w (32 + i) ≤ candidate F (suc (32 * g + i)))

-- the word without the mask's alive bits, and with its fixed bits
abbrev pub without : ℕ → ℕ → ℕ
without w mask = bit_and w (18446744073709551615 - mask)

abbrev pub with_fixed : ℕ → ℕ → ℕ
with_fixed w mask = bit_or w (mask * 4294967296)

-- the bits of the mask that the first clears, and that the second sets
abbrev pub cleared : ℕ → ℕ → ℕ
cleared w mask = bit_and w mask

abbrev pub newly : ℕ → ℕ → ℕ
newly w mask = bit_xor mask (bit_and mask (w / 4294967296))

-- alive in both, and fixed in either
abbrev pub met : ℕ → ℕ → ℕ
met a b = bit_or (bit_and (bit_and a b) 4294967295) (bit_and (bit_or a b) 18446744069414584320)

abbrev pub met_words : List ℕ → List ℕ → List ℕ
met_words [] bs = []
met_words (a ∷ xs) [] = []
met_words (a ∷ xs) (b ∷ ys) = met a b ∷ met_words xs ys

-- the variable where the bit is 1
abbrev pub var_if : ℕ → ℕ → List ℕ
var_if zero x = []
var_if (suc _) x = x ∷ []

-- the variables from x on whose bit is 1 among the k lowest of the mask
unfoldable pub vars_from : ℕ → ℕ → ℕ → List ℕ
vars_from zero x mask = []
vars_from (suc k) x mask = var_if (mask % 2) x ++ vars_from k (suc x) (mask / 2)

-- the variables of the group's mask, in rising order
unfoldable pub vars_of : ℕ → ℕ → List ℕ
vars_of g mask = vars_from 32 (suc (32 * g)) mask

-- how often the list has the variable
abbrev pub times : ℕ → List ℕ → ℕ
times x xs = count_by (λ y. nat_eq y x) xs

-- how often the list has it with a stamp
abbrev pub named : ℕ → List Stamped → ℕ
named x ps = count_by (λ (p : Stamped). nat_eq p.var x) ps

-- the word of k bits from the lowest on that say which variables from x on are candidates
unfoldable pub word_from : Cnf → ℕ → ℕ → ℕ
word_from F x zero = 0
word_from F x (suc k) = candidate F x + 2 * word_from F (suc x) k

-- the group's word where all candidates are alive and none is fixed
unfoldable pub opening_word : Cnf → ℕ → ℕ
opening_word F g = word_from F (suc (32 * g)) 32
