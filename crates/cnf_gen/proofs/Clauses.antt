-- The clauses of a formula, one after the other.
use Rattle.std.proofs.Common.{◌≡◌, ◌<◌, ◌≤◌, ℕ, ◌+◌, ◌^◌, List, Option, None, [], ◌∷◌, ◌++◌, length, refl, ap, ◌∙◌, add-one, length-append, arith}
use Rattle.std.proofs.lemmas.List.Sums.{sum_by-append}
use Rattle.cnf_core.specs.Literals.{Assignment, Literals, AreWithin}
use Rattle.cnf_core.specs.Formulas.{Cnf, empty_formula, with_clause, HasRoom}
use Rattle.rand_pcg.specs.Lcg.{Lcg}
use Rattle.cnf_gen.specs.Draws.{seeded}
use Rattle.cnf_gen.specs.Planted.{clause_drawn, clauses_drawn, after_four, values_drawn, planted_of}
use Rattle.cnf_gen.specs.Steps.Drawn.{IsDrawn}
use Rattle.cnf_gen.proofs.Values.{length-values_drawn}

pub clauses_none : (values : Assignment) (start : Lcg) (F : Cnf) → F ≡ empty_formula (length values) → IsDrawn values start 0 F start
unfolding clauses_drawn
clauses_none values start F is = rw is (record {
  vars_are = refl;
  all_shown = refl;
  drawn = refl;
  count = refl;
  literals = refl;
})

-- one clause more fits
pub clauses_room : (values : Assignment) (start now : Lcg) (i m : ℕ) (F : Cnf) (c : Literals) → IsDrawn values start i F now
    → i < m → m ≤ 2 ^ 21 → length c ≡ 3 → AreWithin (length values) c → HasRoom F c
clauses_room values start now i m F c is below limit three within = record {
  within = rw is.vars_are within;
  clauses_left = omega (arith, is.count);
  literals_left = omega (arith, is.literals);
}

pub clauses_more : (values : Assignment) (start now then : Lcg) (i : ℕ) (F G : Cnf) (c : Literals) → IsDrawn values start i F now
    → c ≡ clause_drawn (length values) values now → then ≡ after_four now → length c ≡ 3 → G ≡ with_clause F c
    → IsDrawn values start (i + 1) G then
unfolding clauses_drawn
clauses_more values start now then i F G c is drawn rest three added = rw (added, rest) (record {
  vars_are = is.vars_are;
  all_shown = is.all_shown;
  drawn = rw (add-one, drawn)
      (ap (λ (p : List Literals × Lcg). (p.0 ++ clause_drawn (length values) values p.1 ∷ [], after_four p.1)) is.drawn);
  count = omega (arith, is.count, length-append F.clauses (c ∷ []));
  literals = omega (arith, is.literals, sum_by-append length F.clauses (c ∷ []));
})

abbrev formula_of : ℕ → List Literals → Option Assignment → Cnf
formula_of n cs shown = record { vars = n; clauses = cs; shown = shown }

-- the formula whose clauses are all drawn
pub clauses_all : (values : Assignment) (start now : Lcg) (i m : ℕ) (F : Cnf) → IsDrawn values start i F now → i ≡ m
    → F ≡ record { vars = length values; clauses = (clauses_drawn m (length values) values start).0; shown = None }
clauses_all values start now i m F is all =
    let clauses_are : F.clauses ≡ (clauses_drawn m (length values) values start).0 =
    ap (λ (p : List Literals × Lcg). p.0) is.drawn ∙ ap (λ k. (clauses_drawn k (length values) values start).0) all in
    ap (λ n. formula_of n F.clauses F.shown) is.vars_are
    ∙ (ap (λ cs. formula_of (length values) cs F.shown) clauses_are
    ∙ ap (λ shown. formula_of (length values) (clauses_drawn m (length values) values start).0 shown) is.all_shown)

-- with the hidden values it is the planted one
pub clauses_planted : (n m seed : ℕ) (values : Assignment) (now : Lcg) (F : Cnf) → (values, now) ≡ values_drawn n (seeded seed)
    → F ≡ formula_of (length values) (clauses_drawn m (length values) values now).0 None → F ≡ planted_of n m seed
clauses_planted n m seed values now F drawn is =
    is
    ∙ (ap (λ (p : Assignment × Lcg). formula_of (length p.0) (clauses_drawn m (length p.0) p.0 p.1).0 None) drawn
    ∙ ap (λ k. formula_of k (clauses_drawn m k (values_drawn n (seeded seed)).0 (values_drawn n (seeded seed)).1).0 None)
    (length-values_drawn n (seeded seed)))
