-- The table of weights while it is filled.
use Rattle.std.proofs.Common.{◌≡◌, ◌≢◌, ℕ, ◌+◌, ◌^◌, ◌<◌, List, length, set, get_or, sym, ◌∙◌, subst, ⊎_elim, length-set, get_or-set_same, get_or-set_other, arith}
use Rattle.std.proofs.lemmas.Bool.{cases_eq}
use Rattle.local_search.specs.Weights.{weight_of}

-- so many weights were written
pub record AreWritten (table : List ℕ) (n : ℕ) : Type 0 where
  pub each : length table ≡ 256
  pub weights : (b : ℕ) → b < n → get_or table b 0 ≡ weight_of b
  pub limit : (b : ℕ) → b < n → get_or table b 0 < 2 ^ 31

pub weighed_more : (table : List ℕ) (n weight : ℕ) → length table ≡ 256 → n < 256
    → ((b : ℕ) → b < n → get_or table b 0 ≡ weight_of b) → ((b : ℕ) → b < n → get_or table b 0 < 2 ^ 31)
    → weight ≡ weight_of n → weight < 2 ^ 31 → AreWritten (set table n weight) (n + 1)
weighed_more table n weight each below weights limit is low = record {
  each = length-set table n weight ∙ each;
  weights = λ b before.
      ⊎_elim
      (λ (own : b ≡ n).
      subst (λ (k : ℕ). get_or (set table n weight) k 0 ≡ weight_of k) (sym own) (here ∙ is))
      (λ (other : b ≢ n). get_or-set_other table n b weight 0 other ∙ weights b (omega arith))
      (cases_eq b n);
  limit = λ b before.
      ⊎_elim
      (λ (own : b ≡ n). subst (λ (k : ℕ). get_or (set table n weight) k 0 < 2 ^ 31) (sym own) (subst (λ (k : ℕ). k < 2 ^ 31) (sym here) low))
      (λ (other : b ≢ n). subst (λ (k : ℕ). k < 2 ^ 31) (sym (get_or-set_other table n b weight 0 other)) (limit b (omega arith)))
      (cases_eq b n);
}
  where
    here : get_or (set table n weight) n 0 ≡ weight
    here = get_or-set_same table n weight 0 (omega (arith, each, below))
