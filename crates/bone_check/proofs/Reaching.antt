-- The tests of what a proof reaches, and what is entailed by it.
use Rattle.std.proofs.Common.{◌≡◌, ◌↔◌, Bool, true, false, IsTrue, List, [], ◌∷◌, Contains, refl, subst, ⊎_elim}
use Rattle.std.specs.List.{list_all}
use Rattle.std.proofs.lemmas.Bool.{and_parts, and_from, or_cases, both_ways}
use Rattle.cnf_core.specs.Literals.{Literal, Literals, is_true}
use Rattle.cnf_core.specs.Formulas.{Cnf, models, Entails, EntailsClause}
use Rattle.cnf_core.proofs.Lists.{Contains-head, Contains-nil, Contains-cons_cases, list_any_of_member, member_of_list_any, list_all_of_members, passes_of_list_all}
use Rattle.cnf_core.proofs.Models.{models-nil, entails_by, entails_clause_at}
use Rattle.lrat_lines.specs.declared.line.Line.{Line}
use Rattle.lrat_lines.specs.Sets.{is_same, has, IsSameSet}
use Rattle.lrat_lines.specs.Proofs.{Proves, reached, IsReached}
use Rattle.lrat_lines.proofs.LiteralSets.{is_same-true, is_same_of_equal, Contains_of_has, has_of_Contains}
use Rattle.lrat_lines.proofs.Entailment.{reached_is_entailed}
use Rattle.lrat_lines.proofs.SameSets.{same_test}
use Rattle.bone_check.specs.Proving.{is_just, has_none, has_unit, has_empty}

-- a set that has a literal and no other is that of just this literal
same_of_just : (l : Literal) (c : Literals) → IsTrue (is_just l c) → IsSameSet (l ∷ []) c
same_of_just l c just =
    let parts = and_parts (has c l) (list_all (is_same l) c) just in
    record {
      forth = λ x there. ⊎_elim
          (λ (is : l ≡ x). subst (λ (y : Literal). Contains c y) is (Contains_of_has c l parts.0))
          (λ (none : Contains [] x). absurd (Contains-nil x none))
          (Contains-cons_cases l [] x there);
      back = λ x there.
          subst (λ (y : Literal). Contains (l ∷ []) y) (is_same-true l x (passes_of_list_all (is_same l) c x parts.1 there))
          (Contains-head l []);
    }

just_of_same : (l : Literal) (c : Literals) → IsSameSet (l ∷ []) c → IsTrue (is_just l c)
just_of_same l c same =
    and_from (has c l) (list_all (is_same l) c)
    (has_of_Contains c l (same.forth l (Contains-head l [])))
    (list_all_of_members (is_same l) c (λ x there. ⊎_elim
    (λ (is : l ≡ x). is_same_of_equal l x is)
    (λ (none : Contains [] x). absurd (Contains-nil x none))
    (Contains-cons_cases l [] x (same.back x there))))

pub has_unit_is : (F : Cnf) (lines : List Line) (l : Literal) → IsTrue (has_unit F lines l) ↔ IsReached F lines (l ∷ [])
unfolding has_unit
has_unit_is F lines l = (
  λ some.
      let (c, there, just) = member_of_list_any (is_just l) (reached F lines) some in
      record { set = c; member = there; same = same_of_just l c just },
  λ is. list_any_of_member (is_just l) (reached F lines) is.set is.member (just_of_same l is.set is.same),
)

same_of_none : (c : Literals) → IsTrue (has_none c) → IsSameSet [] c
same_of_none [] none = record { forth = λ x there. there; back = λ x there. there }
same_of_none (l ∷ ls) none = absurd (cc)

none_of_same : (c : Literals) → IsSameSet [] c → IsTrue (has_none c)
none_of_same [] same = refl
none_of_same (l ∷ ls) same = absurd (Contains-nil l (same.back l (Contains-head l ls)))

pub has_empty_is : (F : Cnf) (lines : List Line) → IsTrue (has_empty F lines) ↔ IsReached F lines []
unfolding has_empty
has_empty_is F lines = (
  λ some.
      let (c, there, none) = member_of_list_any has_none (reached F lines) some in
      record { set = c; member = there; same = same_of_none c none },
  λ is. list_any_of_member has_none (reached F lines) is.set is.member (none_of_same is.set is.same),
)

-- a literal that an accepted proof reaches is entailed
pub unit_entailed : (F : Cnf) (lines : List Line) (l : Literal) → Proves F lines → IsTrue (has_unit F lines l) → Entails F l
unit_entailed F lines l proves unit =
    let clause : EntailsClause F (l ∷ []) = reached_is_entailed F lines (l ∷ []) proves ((has_unit_is F lines l).0 unit) in
    entails_by F l (λ a model. ⊎_elim
    (λ (holds : is_true a l ≡ true). holds)
    (λ (wrong : false ≡ true). absurd (cc))
    (or_cases (is_true a l) false (entails_clause_at F (l ∷ []) a clause model)))

-- where it reaches the empty clause, there is no model
pub no_models : (F : Cnf) (lines : List Line) → Proves F lines → IsTrue (has_empty F lines) → models F ≡ []
no_models F lines proves empty =
    models-nil F (λ a model.
    both_ways false refl (entails_clause_at F [] a (reached_is_entailed F lines [] proves ((has_empty_is F lines).0 empty)) model))

-- a test that tells it is the definition
pub has_unit_told : (F : Cnf) (lines : List Line) (l : Literal) (b : Bool) → IsTrue b ↔ IsReached F lines (l ∷ []) → b ≡ has_unit F lines l
has_unit_told F lines l b told =
    let is = has_unit_is F lines l in
    same_test b (has_unit F lines l) (λ holds. is.1 (told.0 holds)) (λ holds. told.1 (is.0 holds))

pub has_empty_told : (F : Cnf) (lines : List Line) (b : Bool) → IsTrue b ↔ IsReached F lines [] → b ≡ has_empty F lines
has_empty_told F lines b told =
    let is = has_empty_is F lines in
    same_test b (has_empty F lines) (λ holds. is.1 (told.0 holds)) (λ holds. told.1 (is.0 holds))
