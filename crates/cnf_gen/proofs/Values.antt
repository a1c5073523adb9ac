-- The hidden values, one after the other.
use Rattle.std.proofs.Common.{◌≡◌, ℕ, zero, suc, ◌+◌, Bool, [], ◌∷◌, ◌++◌, length, refl, ap, add-one, length-append, arith}
use Rattle.cnf_core.specs.Literals.{Assignment}
use Rattle.rand_pcg.specs.Lcg.{Lcg}
use Rattle.cnf_gen.specs.Draws.{word, after, is_odd}
use Rattle.cnf_gen.specs.Planted.{values_drawn}

pub values_none : (g : Lcg) → ([], g) ≡ values_drawn 0 g
unfolding values_drawn
values_none g = refl

pub values_more : (n : ℕ) (start now then : Lcg) (values more : Assignment) (w : ℕ) (value : Bool)
    → (values, now) ≡ values_drawn n start → w ≡ word now → value ≡ is_odd w → more ≡ values ++ value ∷ [] → then ≡ after now
    → (more, then) ≡ values_drawn (n + 1) start
unfolding values_drawn
values_more n start now then values more w value drawn is_word is_value pushed rest =
    rw (add-one, pushed, is_value, is_word, rest)
    (ap (λ (p : Assignment × Lcg). (p.0 ++ is_odd (word p.1) ∷ [], after p.1)) drawn)

pub length-values_drawn : (n : ℕ) (g : Lcg) → length (values_drawn n g).0 ≡ n
unfolding values_drawn
length-values_drawn zero g = refl
length-values_drawn (suc n) g = omega (arith, length-append {A = Bool}, length-values_drawn n g)
