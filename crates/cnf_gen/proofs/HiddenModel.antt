-- The hidden values are a model.
use Rattle.std.proofs.Common.{◌≡◌, ◌||◌, ℕ, zero, suc, Bool, true, false, not, if◌then◌else◌, [], ◌∷◌, refl, ◌∙◌}
use Rattle.std.proofs.lemmas.List.Folds.{list_all-append}
use Rattle.cnf_core.specs.Literals.{Assignment, Literal, negated, is_true, clause_true, all_true}
use Rattle.cnf_core.specs.Formulas.{IsModel}
use Rattle.cnf_core.proofs.Truth.{is_true-negated}
use Rattle.rand_pcg.specs.Lcg.{Lcg}
use Rattle.cnf_gen.specs.Draws.{seeded}
use Rattle.cnf_gen.specs.Planted.{mended, clause_drawn, clauses_drawn, hidden_values, planted_of, values_drawn}
use Rattle.cnf_gen.proofs.Values.{length-values_drawn}

mended_true : (values : Assignment) (p q r : Literal) → clause_true values (mended values p q r) ≡ true
mended_true values p q r = by_truth (clause_true values (p ∷ q ∷ r ∷ [])) refl
  where
    first_or_negated : (x rest : Bool) → (x || rest) ≡ false → (not x || rest) ≡ true
    first_or_negated true rest none = cc
    first_or_negated false rest none = refl

    by_truth : (b : Bool) → clause_true values (p ∷ q ∷ r ∷ []) ≡ b
        → clause_true values (if b then p ∷ q ∷ r ∷ [] else negated p ∷ q ∷ r ∷ []) ≡ true
    by_truth true holds = holds
    by_truth false fails = rw (is_true-negated values p) (first_or_negated (is_true values p) (clause_true values (q ∷ r ∷ [])) fails)

clause_drawn_true : (n : ℕ) (values : Assignment) (g : Lcg) → clause_true values (clause_drawn n values g) ≡ true
unfolding clause_drawn
clause_drawn_true n values g = mended_true values _ _ _

all_drawn_true : (m n : ℕ) (values : Assignment) (g : Lcg) → all_true values (clauses_drawn m n values g).0 ≡ true
unfolding clauses_drawn
all_drawn_true zero n values g = refl
all_drawn_true (suc m) n values g =
    let before = (clauses_drawn m n values g).0 in
    let now = (clauses_drawn m n values g).1 in
    list_all-append (clause_true values) before (clause_drawn n values now ∷ [])
    ∙ rw (all_drawn_true m n values g, clause_drawn_true n values now) refl

pub hidden_is_model : (n m seed : ℕ) → IsModel (planted_of n m seed) (hidden_values n seed)
hidden_is_model n m seed = record {
  values = length-values_drawn n (seeded seed);
  satisfied = all_drawn_true m n (values_drawn n (seeded seed)).0 (values_drawn n (seeded seed)).1;
}
