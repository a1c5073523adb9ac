-- What is looked for in a formula gives what the table asks.
use Rattle.std.proofs.Common.{◌≡◌, ℕ, ◌||◌, Bool, true, false, not, [], ◌∷◌, Contains, true≢false, refl, sym, ap}
use mathlib.Core.Bool.{beq}
use Rattle.cnf_core.specs.Literals.{Literal, Assignment, value_of, is_true, clause_true}
use Rattle.cnf_core.specs.Formulas.{Cnf, is_shown, Entails, true_literal}
use Rattle.cnf_core.proofs.Models.{entails_by}
use Rattle.cnf_core.proofs.Lists.{passes_of_list_all}
use Rattle.board_core.specs.Subjects.{about, flag, candidate, Opposed, Entailed}
use Rattle.table_cases.specs.Cases.{IsCase, IsOne}

pub candidate_of : (F : Cnf) (x : ℕ) → is_shown F x ≡ true → candidate F x ≡ 1
unfolding candidate
candidate_of F x shown = ap flag shown

pub opposed_one : (F : Cnf) (phases other : Assignment) (x : ℕ) → IsCase F phases other → candidate F x ≡ 1
    → value_of other x ≡ not (value_of phases x) → IsOne (about F phases) (Opposed (about F phases)) x
unfolding Opposed
opposed_one F phases other x is shown apart = record {
  candidate = shown;
  holds = (other, record { is_model = is.other_model; opposite = apart });
}

-- a literal that is a clause is entailed
pub unit_entailed : (F : Cnf) (l : Literal) → Contains F.clauses (l ∷ []) → Entails F l
unit_entailed F l here =
    entails_by F l (λ a model.
    let holds : clause_true a (l ∷ []) ≡ true = passes_of_list_all (clause_true a) F.clauses (l ∷ []) model.satisfied here in
    alone (is_true a l) holds)
  where
    alone : (b : Bool) → (b || false) ≡ true → b ≡ true
    alone true is = refl
    alone false is = is

pub given_one : (F : Cnf) (phases : Assignment) (x : ℕ) → candidate F x ≡ 1 → Contains F.clauses (true_literal phases x ∷ [])
    → IsOne (about F phases) (Entailed (about F phases)) x
unfolding Entailed
given_one F phases x shown here = record { candidate = shown; holds = unit_entailed F (true_literal phases x) here }

pub differ : (a b : Bool) → not (beq a b) ≡ true → b ≡ not a
differ true true ne = absurd (true≢false (sym ne))
differ true false ne = refl
differ false true ne = refl
differ false false ne = absurd (true≢false (sym ne))
