-- The shown members of the backbone, and why its members determine it.
use Rattle.std.proofs.Common.{◌≡◌, suc, ◌<◌, ◌&&◌, nat_lt, nat_le, Bool, true, false, IsTrue, if◌then◌else◌, [], ◌∷◌, List, Contains, filter, refl, sym, ap, ◌∙◌, subst, ⊎_elim, arith}
use Rattle.std.proofs.lemmas.Bool.{and_parts}
use Rattle.std.proofs.lemmas.List.Kept.{AllPairs-filter}
use Rattle.cnf_core.specs.Literals.{Literal, Literals, IsWithin, AreWithin, RisesByVar}
use Rattle.cnf_core.specs.Formulas.{Cnf, entails, is_marked, is_shown, backbone, shown_backbone, true_literals}
use Rattle.cnf_core.specs.Laws.{BackboneDetermined, ShownBackboneInOneModel, ShownBackboneByMembers, ShownBackboneDetermined}
use Rattle.cnf_core.proofs.Lists.{Contains-head, Contains-tail, Contains-cons_cases, Contains-nil, Contains-filter, kept_of_Contains-filter}
use Rattle.cnf_core.proofs.Backbones.{backbone_of_model, backbone_rises, Contains-backbone, entailed_of_backbone, is_backbone}

-- what passes both of two filters
filter_step : {X : Type 0} (p q : X → Bool) (x : X) (rest all : List X) (a b : Bool) → p x ≡ a → q x ≡ b
    → filter p rest ≡ all
    → filter p (if q x then x ∷ rest else rest) ≡ (if p x && q x then x ∷ all else all)
filter_step p q x rest all true true p_is q_is same = rw (q_is, p_is, same) refl
filter_step p q x rest all true false p_is q_is same = rw (q_is, p_is, same) refl
filter_step p q x rest all false true p_is q_is same = rw (q_is, p_is, same) refl
filter_step p q x rest all false false p_is q_is same = rw (q_is, p_is, same) refl

filter_both : {X : Type 0} (p q : X → Bool) (xs : List X) → filter p (filter q xs) ≡ filter (λ x. p x && q x) xs
filter_both p q [] = refl
filter_both p q (x ∷ xs) =
    filter_step p q x (filter q xs) (filter (λ y. p y && q y) xs) (p x) (q x) refl refl (filter_both p q xs)

-- the first of rising literals is below the others
head_below : (x : Literal) (xs : Literals) (y : Literal) → RisesByVar (x ∷ xs) → Contains xs y → x.var < y.var
head_below x xs y rises (k, lt, is) =
    subst (λ (z : Literal). x.var < z.var) is (rises 0 (suc k) y (omega arith) (omega arith))

tail_rises : (x : Literal) (xs : Literals) → RisesByVar (x ∷ xs) → RisesByVar xs
tail_rises x xs rises i j d before within = rises (suc i) (suc j) d (omega arith) (omega arith)

-- lists that rise and have the same members are equal
pub rising_determined : (xs ys : Literals) → RisesByVar xs → RisesByVar ys
    → ((l : Literal) → Contains xs l → Contains ys l) → ((l : Literal) → Contains ys l → Contains xs l) → xs ≡ ys
rising_determined [] [] up down there back = refl
rising_determined [] (y ∷ ys) up down there back = absurd (Contains-nil y (back y (Contains-head y ys)))
rising_determined (x ∷ xs) [] up down there back = absurd (Contains-nil x (there x (Contains-head x xs)))
rising_determined (x ∷ xs) (y ∷ ys) up down there back =
    let first : x ≡ y =
    ⊎_elim (λ (is : y ≡ x). sym is)
    (λ (later : Contains ys x). ⊎_elim (λ (is : x ≡ y). is)
    (λ (other : Contains xs y).
    let low = head_below y ys x down later in
    let high = head_below x xs y up other in
    absurd (omega arith))
    (Contains-cons_cases x xs y (back y (Contains-head y ys))))
    (Contains-cons_cases y ys x (there x (Contains-head x xs)))
    in
    let onward : (l : Literal) → Contains xs l → Contains ys l =
    λ l here. ⊎_elim
    (λ (is : y ≡ l).
    let low : x.var < l.var = head_below x xs l up here in
    let same : x.var ≡ l.var = ap (λ (k : Literal). k.var) (first ∙ is) in
    absurd (omega arith))
    (λ (later : Contains ys l). later)
    (Contains-cons_cases y ys l (there l (Contains-tail x xs l here)))
    in
    let backward : (l : Literal) → Contains ys l → Contains xs l =
    λ l here. ⊎_elim
    (λ (is : x ≡ l).
    let low : y.var < l.var = head_below y ys l down here in
    let same : y.var ≡ l.var = ap (λ (k : Literal). k.var) (sym first ∙ is) in
    absurd (omega arith))
    (λ (later : Contains xs l). later)
    (Contains-cons_cases x xs l (back l (Contains-tail y ys l here)))
    in
    let rest : xs ≡ ys = rising_determined xs ys (tail_rises x xs up) (tail_rises y ys down) onward backward in
    cc

within_of : (F : Cnf) (xs : Literals) (l : Literal) → AreWithin F.vars xs → Contains xs l → IsWithin F.vars l
within_of F xs l within (k, lt, is) = subst (λ (z : Literal). IsWithin F.vars z) is (within k l lt)

pub backbone_determined : BackboneDetermined
backbone_determined F a fixed model is =
    let own = is_backbone F a model in
    rising_determined fixed (backbone F) is.rises own.rises
    (λ l here. let within = within_of F fixed l is.within here in (own.just l within).1 ((is.just l within).0 here))
    (λ l here. let within = within_of F (backbone F) l own.within here in (is.just l within).1 ((own.just l within).0 here))

-- a shown variable is one of the formula's
pub shown_within : (F : Cnf) (l : Literal) → IsTrue (is_shown F l.var) → IsWithin F.vars l
shown_within F l shown =
    let parts = and_parts (nat_lt 0 l.var) (nat_le l.var F.vars && is_marked F.shown l.var) shown in
    let more = and_parts (nat_le l.var F.vars) (is_marked F.shown l.var) parts.1 in
    record { low = grind (arith, parts.0); high = grind (arith, more.0) }

pub shown_of_model : ShownBackboneInOneModel
unfolding shown_backbone
shown_of_model F a model =
    ap (filter (λ (l : Literal). is_shown F l.var)) (backbone_of_model F a model)
    ∙ filter_both (λ (l : Literal). is_shown F l.var) (entails F) (true_literals a F.vars)

pub is_shown_backbone : ShownBackboneByMembers
unfolding shown_backbone
is_shown_backbone F a model = record {
  rises = AllPairs-filter (λ (k l : Literal). k.var < l.var) (λ (l : Literal). is_shown F l.var) (backbone F) (backbone_rises F);
  just = λ l. (
    λ here. let kept = kept_of_Contains-filter (λ (k : Literal). is_shown F k.var) (backbone F) l here in
        (kept.passes, (entailed_of_backbone F l kept.member).entailed),
    λ both. Contains-filter (λ (k : Literal). is_shown F k.var) (backbone F) l
        (Contains-backbone F a l model (shown_within F l both.0) both.1) both.0,
  );
}

pub shown_backbone_determined : ShownBackboneDetermined
shown_backbone_determined F a fixed model is =
    let own = is_shown_backbone F a model in
    rising_determined fixed (shown_backbone F) is.rises own.rises
    (λ l here. (own.just l).1 ((is.just l).0 here))
    (λ l here. (is.just l).1 ((own.just l).0 here))
