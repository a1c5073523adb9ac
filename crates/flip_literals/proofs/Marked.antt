-- The marks over the clauses read so far, and what they say of flips over all clauses.
use Rattle.std.proofs.Common.{◌≡◌, ◌≢◌, ℕ, ◌-◌, ◌<◌, ◌≤◌, Bool, true, false, not, if◌then◌else◌, ◌⊎◌, IsTrue, List, [], ◌∷◌, ◌++◌, length, replicate, All, Contains, refl, sym, ap, ◌∙◌, subst, ⊎_elim, inl, inr, length-set, arith}
use Rattle.std.proofs.lemmas.Bool.{cases_eq, both_ways, true_from_ne_false}
use Rattle.std.proofs.lemmas.List.{get_or-replicate, length-replicate}
use Rattle.std.proofs.lemmas.List.Elements.{Contains-append_left, Contains-append_cases, Contains-push}
use Rattle.cnf_core.specs.Literals.{Literal, Literals, Assignment, value_of, with_value, is_true, AreWithin}
use Rattle.cnf_core.specs.Formulas.{Cnf, IsModel, true_literal}
use Rattle.cnf_core.specs.Laws.{IsCriticalFor}
use Rattle.cnf_core.proofs.Lists.{Contains-cons_cases, Contains-nil}
use Rattle.cnf_core.proofs.Truth.{value_of-with_value, value_of-with_value_other, true_literal_of_is_true}
use Rattle.cnf_core.proofs.Flips.{flipped_model}
use Rattle.model_check.specs.Flips.{flipped}
use Rattle.flip_literals.specs.Critical.{MarksCritical}
use Rattle.flip_literals.specs.Steps.Supports.{RestsOn}

-- one of the clauses rests on the variable's true literal alone
pub record IsNeeded (a : Assignment) (v : ℕ) (cs : List Literals) : Type 0 where
  pub clause : Literals
  pub here : Contains cs clause
  pub critical : IsCriticalFor a (true_literal a v) clause

-- the marks are on exactly where a clause needs the variable
pub record AreMarked (n : ℕ) (a : Assignment) (cs : List Literals) (marks : List Bool) : Type 0 where
  pub each : length marks ≡ n
  pub sound : (v : ℕ) → 0 < v → v ≤ n → IsTrue (value_of marks v) → IsNeeded a v cs
  pub whole : (v : ℕ) → 0 < v → v ≤ n → IsNeeded a v cs → IsTrue (value_of marks v)

pub marked-nil : (n : ℕ) (a : Assignment) → AreMarked n a [] (replicate n false)
marked-nil n a = record {
  each = length-replicate n false;
  sound = λ v low high on.
      let below : v - 1 < n = omega arith in
      absurd (both_ways (value_of (replicate n false) v) (get_or-replicate n (v - 1) false false below) on);
  whole = λ v low high needed. absurd (Contains-nil needed.clause needed.here);
}

needed_more : (a : Assignment) (v : ℕ) (cs : List Literals) (c : Literals) → IsNeeded a v cs
    → IsNeeded a v (cs ++ c ∷ [])
needed_more a v cs c needed = record {
  clause = needed.clause;
  here = Contains-append_left cs (c ∷ []) needed.clause needed.here;
  critical = needed.critical;
}

needed_cases : (a : Assignment) (v : ℕ) (cs : List Literals) (c : Literals) → IsNeeded a v (cs ++ c ∷ [])
    → IsNeeded a v cs ⊎ IsCriticalFor a (true_literal a v) c
needed_cases a v cs c needed =
    ⊎_elim
    (λ (before : Contains cs needed.clause).
    inl (record { clause = needed.clause; here = before; critical = needed.critical }))
    (λ (last : Contains (c ∷ []) needed.clause).
    ⊎_elim
    (λ (is : c ≡ needed.clause).
    inr (subst (λ d. IsCriticalFor a (true_literal a v) d) (sym is) needed.critical))
    (λ (past : Contains [] needed.clause). absurd (Contains-nil needed.clause past))
    (Contains-cons_cases c [] needed.clause last))
    (Contains-append_cases cs (c ∷ []) needed.clause needed.here)

pub true_literal_holds : (a : Assignment) (v : ℕ) → IsTrue (is_true a (true_literal a v))
true_literal_holds a v = by_value (value_of a v)
  where
    by_value : (value : Bool) → (if value then value else not value) ≡ true
    by_value true = refl
    by_value false = refl

-- a clause that rests on no literal
pub marked-none : (n : ℕ) (a : Assignment) (cs : List Literals) (c : Literals) (marks : List Bool)
    → AreMarked n a cs marks → ((l : Literal) → RestsOn a c l → ⊥) → AreMarked n a (cs ++ c ∷ []) marks
marked-none n a cs c marks so_far none = record {
  each = so_far.each;
  sound = λ v low high on. needed_more a v cs c (so_far.sound v low high on);
  whole = λ v low high needed. ⊎_elim
      (λ (before : IsNeeded a v cs). so_far.whole v low high before)
      (λ (last : IsCriticalFor a (true_literal a v) c).
      absurd (none (true_literal a v) (record { holds = true_literal_holds a v; critical = last })))
      (needed_cases a v cs c needed);
}

-- a clause that rests on the literal
pub marked-some : (n : ℕ) (a : Assignment) (cs : List Literals) (c : Literals) (marks : List Bool) (l : Literal)
    → AreMarked n a cs marks → RestsOn a c l → 0 < l.var → l.var ≤ n
    → AreMarked n a (cs ++ c ∷ []) (with_value marks l.var true)
marked-some n a cs c marks l so_far rests low_l high_l =
    let within : l.var ≤ length marks = omega (arith, so_far.each) in
    let set_there : value_of (with_value marks l.var true) l.var ≡ true =
    value_of-with_value marks l.var true low_l within in
    let own : (v : ℕ) → l.var ≡ v → IsTrue (value_of (with_value marks l.var true) v) =
    λ v is. subst (λ w. IsTrue (value_of (with_value marks l.var true) w)) is set_there
    in
    let is_own : IsCriticalFor a (true_literal a l.var) c =
    subst (λ k. IsCriticalFor a k c) (sym (true_literal_of_is_true a l rests.holds)) rests.critical in
    record {
      each = length-set marks (l.var - 1) true ∙ so_far.each;
      sound = λ v low high on. ⊎_elim
          (λ (is : l.var ≡ v). record {
            clause = c;
            here = Contains-push cs c;
            critical = subst (λ w. IsCriticalFor a (true_literal a w) c) is is_own;
          })
          (λ (other : l.var ≢ v).
          needed_more a v cs c
          (so_far.sound v low high
          (sym (value_of-with_value_other marks l.var v true low_l low (λ e. other (sym e))) ∙ on)))
          (cases_eq l.var v);
      whole = λ v low high needed. ⊎_elim
          (λ (is : l.var ≡ v). own v is)
          (λ (other : l.var ≢ v).
          ⊎_elim
          (λ (before : IsNeeded a v cs).
          value_of-with_value_other marks l.var v true low_l low (λ e. other (sym e)) ∙ so_far.whole v low high before)
          (λ (last : IsCriticalFor a (true_literal a v) c).
          absurd (other (ap (λ (k : Literal). k.var) (last.alone l rests.critical.present rests.holds))))
          (needed_cases a v cs c needed))
          (cases_eq l.var v);
    }

-- over all clauses of a formula the marks tell the flips that leave no model
pub critical_marked : (F : Cnf) (a : Assignment) (marks : List Bool) → All (AreWithin F.vars) F.clauses
    → IsModel F a → AreMarked F.vars a F.clauses marks → MarksCritical F a marks
critical_marked F a marks within model marked =
    let unmarked : (v : ℕ) → 0 < v → v ≤ F.vars → value_of marks v ≡ false → IsModel F (flipped a v) =
    λ v low high off. (flipped_model F a v low high within model).1
    (λ c here critical. both_ways (value_of marks v) off
    (marked.whole v low high (record { clause = c; here = here; critical = critical })))
    in
    record {
      each = marked.each;
      marked = λ v low high. (
        λ on flips.
            let needed = marked.sound v low high on in
            (flipped_model F a v low high within model).0 flips needed.clause needed.here needed.critical,
        λ none. true_from_ne_false (value_of marks v) (λ off. none (unmarked v low high off)),
      );
      unmarked = unmarked;
    }
