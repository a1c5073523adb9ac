-- The words of the generator, one after the other, and what a word means.
use Rattle.std.specs.Prelude.{ℕ, ◌%◌, ◌==◌, Bool}
use Rattle.rand_core.specs.Pcg32Seed.{pcg32_seed}
use Rattle.rand_pcg.specs.Lcg.{Lcg}
use Rattle.rand_pcg.specs.Pcg.{pcg32, pcg32_of_seed}

-- the generator that a number seeds
unfoldable pub seeded : ℕ → Lcg
seeded seed = pcg32_of_seed (pcg32_seed 16 seed)

-- the next word, of 32 bits
unfoldable pub word : Lcg → ℕ
word g = (pcg32 g).0

-- the generator after that word
unfoldable pub after : Lcg → Lcg
after g = (pcg32 g).1

abbrev pub is_odd : ℕ → Bool
is_odd n = n % 2 == 1
