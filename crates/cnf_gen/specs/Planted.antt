-- The formula that three numbers give: clauses of three different variables each, drawn so that the values that
-- were drawn before them are a model.
use Rattle.std.specs.Prelude.{ℕ, zero, suc, ◌+◌, ◌-◌, ◌/◌, ◌%◌, min, max, nat_le, Bool, if◌then◌else◌, None, List, [], ◌∷◌, ◌++◌}
use Rattle.cnf_core.specs.Literals.{Literal, Literals, Assignment, negated, clause_true}
use Rattle.cnf_core.specs.Formulas.{Cnf}
use Rattle.rand_pcg.specs.Lcg.{Lcg}
use Rattle.cnf_gen.specs.Draws.{seeded, word, after, is_odd}

-- the values of n variables, each true where its word is odd, and the generator after them
unfoldable pub values_drawn : ℕ → Lcg → Assignment × Lcg
values_drawn zero g = ([], g)
values_drawn (suc n) g =
    let before = values_drawn n g in
    (before.0 ++ is_odd (word before.1) ∷ [], after before.1)

-- a number's place among all, where one place is left out
abbrev pub past : ℕ → ℕ → ℕ
past left_out place = if nat_le left_out place then place + 1 else place

-- the places of a clause's variables among n, from 0: the second differs from the first, and the third from both
abbrev pub second_at : ℕ → ℕ → ℕ → ℕ
second_at n a w = (a + 1 + w % (n - 1)) % n

abbrev pub third_at : ℕ → ℕ → ℕ → ℕ → ℕ
third_at n a b w = past (max a b) (past (min a b) (w % (n - 2)))

-- the literal of the variable at a place
abbrev pub literal_at : ℕ → Bool → Literal
literal_at place positive = record { var = place + 1; positive = positive }

-- the clause of three literals, with the first one negated where none of them is true
abbrev pub mended : Assignment → Literal → Literal → Literal → Literals
mended values p q r =
    if clause_true values (p ∷ q ∷ r ∷ []) then p ∷ q ∷ r ∷ [] else negated p ∷ q ∷ r ∷ []

-- the clause of four words: one for each variable, and one whose lowest bits are the signs
abbrev pub clause_of_words : ℕ → Assignment → ℕ → ℕ → ℕ → ℕ → Literals
clause_of_words n values w₁ w₂ w₃ w₄ =
    let a = w₁ % n in
    let b = second_at n a w₂ in
    let c = third_at n a b w₃ in
    mended values (literal_at a (is_odd w₄)) (literal_at b (is_odd (w₄ / 2))) (literal_at c (is_odd (w₄ / 4)))

-- the generator after the four words of a clause
abbrev pub after_four : Lcg → Lcg
after_four g = after (after (after (after g)))

-- the next clause over n variables
unfoldable pub clause_drawn : ℕ → Assignment → Lcg → Literals
clause_drawn n values g =
    clause_of_words n values (word g) (word (after g)) (word (after (after g))) (word (after (after (after g))))

-- the next m clauses, and the generator after them
unfoldable pub clauses_drawn : ℕ → ℕ → Assignment → Lcg → List Literals × Lcg
clauses_drawn zero n values g = ([], g)
clauses_drawn (suc m) n values g =
    let before = clauses_drawn m n values g in
    (before.0 ++ clause_drawn n values before.1 ∷ [], after_four before.1)

-- the values that are drawn first, one for each variable
abbrev pub hidden_values : ℕ → ℕ → Assignment
hidden_values n seed = (values_drawn n (seeded seed)).0

-- the formula of n variables and m clauses, which shows all its variables
abbrev pub planted_of : ℕ → ℕ → ℕ → Cnf
planted_of n m seed =
    let values = values_drawn n (seeded seed) in
    record { vars = n; clauses = (clauses_drawn m n values.0 values.1).0; shown = None }
