-- Clauses of two and three literals over different variables are clean.
use Rattle.std.proofs.Common.{◌≡◌, ◌≢◌, ℕ, zero, suc, ◌<◌, [], ◌∷◌, get_or, refl, sym, arith}
use Rattle.cnf_core.specs.Literals.{Literal, IsWithin}
use Rattle.clause_arena.specs.Entries.{no_literal}
use Rattle.watch_lists.specs.Clauses.{IsClean}

within_three : (n : ℕ) (a b c : Literal) → IsWithin n a → IsWithin n b → IsWithin n c → (i : ℕ) → i < 3
    → IsWithin n (get_or (a ∷ b ∷ c ∷ []) i no_literal)
within_three n a b c p q r zero lt = p
within_three n a b c p q r (suc zero) lt = q
within_three n a b c p q r (suc (suc zero)) lt = r
within_three n a b c p q r (suc (suc (suc i))) lt = absurd (omega (arith, lt))

distinct_three : (a b c : Literal) → a.var ≢ b.var → a.var ≢ c.var → b.var ≢ c.var → (i j : ℕ) → i < 3 → j < 3
    → (get_or (a ∷ b ∷ c ∷ []) i no_literal).var ≡ (get_or (a ∷ b ∷ c ∷ []) j no_literal).var → i ≡ j
distinct_three a b c ab ac bc zero zero lt less e = refl
distinct_three a b c ab ac bc zero (suc zero) lt less e = absurd (ab e)
distinct_three a b c ab ac bc zero (suc (suc zero)) lt less e = absurd (ac e)
distinct_three a b c ab ac bc zero (suc (suc (suc j))) lt less e = absurd (omega (arith, less))
distinct_three a b c ab ac bc (suc zero) zero lt less e = absurd (ab (sym e))
distinct_three a b c ab ac bc (suc zero) (suc zero) lt less e = refl
distinct_three a b c ab ac bc (suc zero) (suc (suc zero)) lt less e = absurd (bc e)
distinct_three a b c ab ac bc (suc zero) (suc (suc (suc j))) lt less e = absurd (omega (arith, less))
distinct_three a b c ab ac bc (suc (suc zero)) zero lt less e = absurd (ac (sym e))
distinct_three a b c ab ac bc (suc (suc zero)) (suc zero) lt less e = absurd (bc (sym e))
distinct_three a b c ab ac bc (suc (suc zero)) (suc (suc zero)) lt less e = refl
distinct_three a b c ab ac bc (suc (suc zero)) (suc (suc (suc j))) lt less e = absurd (omega (arith, less))
distinct_three a b c ab ac bc (suc (suc (suc i))) j lt less e = absurd (omega (arith, lt))

pub clean_three : (n : ℕ) (a b c : Literal) → IsWithin n a → IsWithin n b → IsWithin n c
    → a.var ≢ b.var → a.var ≢ c.var → b.var ≢ c.var → IsClean n (a ∷ b ∷ c ∷ [])
clean_three n a b c p q r ab ac bc = record {
  within = within_three n a b c p q r;
  distinct = distinct_three a b c ab ac bc;
}

within_two : (n : ℕ) (a b : Literal) → IsWithin n a → IsWithin n b → (i : ℕ) → i < 2 → IsWithin n (get_or (a ∷ b ∷ []) i no_literal)
within_two n a b p q zero lt = p
within_two n a b p q (suc zero) lt = q
within_two n a b p q (suc (suc i)) lt = absurd (omega (arith, lt))

distinct_two : (a b : Literal) → a.var ≢ b.var → (i j : ℕ) → i < 2 → j < 2
    → (get_or (a ∷ b ∷ []) i no_literal).var ≡ (get_or (a ∷ b ∷ []) j no_literal).var → i ≡ j
distinct_two a b ab zero zero lt less e = refl
distinct_two a b ab zero (suc zero) lt less e = absurd (ab e)
distinct_two a b ab zero (suc (suc j)) lt less e = absurd (omega (arith, less))
distinct_two a b ab (suc zero) zero lt less e = absurd (ab (sym e))
distinct_two a b ab (suc zero) (suc zero) lt less e = refl
distinct_two a b ab (suc zero) (suc (suc j)) lt less e = absurd (omega (arith, less))
distinct_two a b ab (suc (suc i)) j lt less e = absurd (omega (arith, lt))

pub clean_two : (n : ℕ) (a b : Literal) → IsWithin n a → IsWithin n b → a.var ≢ b.var → IsClean n (a ∷ b ∷ [])
clean_two n a b p q ab = record { within = within_two n a b p q; distinct = distinct_two a b ab }
