-- The small run, worked.
use Rattle.std.proofs.Common.{◌≡◌, ◌≢◌, ℕ, zero, suc, ◌+◌, ◌*◌, ◌||◌, Bool, true, false, [], ◌∷◌, refl, sym, ◌∙◌, subst, ⊎_elim, arith}
use Rattle.std.specs.Int.{bit_at}
use Rattle.std.proofs.lemmas.Bool.{cases_eq}
use Rattle.std.proofs.lemmas.Nat.Bits.{bit_at-pow_other, bit_at-suc, bit_at-zero}
use Rattle.cnf_core.specs.Literals.{with_value, clause_true, is_true}
use Rattle.cnf_core.proofs.Lists.{passes_of_list_all, Contains-head}
use Rattle.cnf_core.proofs.Models.{entails_by}
use Rattle.board_core.specs.Subjects.{candidate, Opposed, Entailed}
use Rattle.board_core.specs.Words.{word_from, opening_word, vars_from, vars_of}
use Rattle.board_core.specs.Boards.{EachOf}
use Rattle.board_core.specs.Example.{given, denied, two_units, phases, subject, RunIsWorked}

may_drop_one : EachOf subject (Opposed subject) 0 1
unfolding candidate Opposed
may_drop_one zero within set_bit = (refl, (with_value phases 1 false, record { is_model = record { values = refl; satisfied = refl }; opposite = refl }))
may_drop_one (suc i) within set_bit =
    let none : bit_at 1 (suc i) ≡ 0 = bit_at-suc 1 i ∙ bit_at-zero i in
    absurd (omega arith)

given_entailed : Entailed subject 32
unfolding Entailed
given_entailed =
    entails_by two_units given (λ a model.
    alone (is_true a given) (passes_of_list_all (clause_true a) two_units.clauses (given ∷ []) model.satisfied (Contains-head (given ∷ []) ((denied ∷ []) ∷ []))))
  where
    alone : (b : Bool) → (b || false) ≡ true → b ≡ true
    alone true is = refl
    alone false is = is

may_fix_last : EachOf subject (Entailed subject) 0 2147483648
unfolding candidate
may_fix_last i within set_bit =
    ⊎_elim
    (λ (here : i ≡ 31). subst (λ (k : ℕ). (candidate two_units (suc (32 * 0 + k)) ≡ 1) × Entailed subject (suc (32 * 0 + k))) (sym here) (refl, given_entailed))
    (λ (other : i ≢ 31). let none : bit_at 2147483648 i ≡ 0 = bit_at-pow_other 31 i other in absurd (omega arith))
    (cases_eq i 31)

pub run_is_worked : RunIsWorked
unfolding candidate word_from opening_word vars_from vars_of
run_is_worked = record {
  model = record { values = refl; satisfied = refl };
  lawful = (
    record { within = omega arith; unspent = refl; group = omega arith },
    (
      record { loads = record { within = omega arith; unspent = refl; group = omega arith }; limit = omega arith; each = may_drop_one },
      (
        omega arith,
        (
          record { loads = record { within = omega arith; unspent = refl; group = omega arith }; limit = omega arith; each = may_fix_last },
          (record { within = omega arith; unspent = refl; out = omega arith }, tt),
        ),
      ),
    ),
  );
  countable = (omega arith, (tt, (tt, (tt, (tt, tt)))));
  words = refl;
  drops = refl;
  fixes = refl;
}
