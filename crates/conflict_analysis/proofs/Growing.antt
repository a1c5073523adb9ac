-- Which variables were met, after literals more.
use Rattle.std.proofs.Common.{◌≡◌, ◌≢◌, ℕ, ◌+◌, ◌<◌, ◌≤◌, ◌==◌, Bool, true, List, [], ◌∷◌, ◌++◌, length, get_or, set, take, Contains, sym}
use Rattle.std.proofs.Common.{ap, ◌∙◌, subst, inl, inr, ⊎_elim}
use Rattle.std.proofs.lemmas.Bool.{cases_eq, eq-eqb}
use Rattle.std.proofs.lemmas.List.{get_or-set_same, get_or-set_other, take_more, take_all}
use Rattle.std.proofs.lemmas.List.Elements.{Contains-push, Contains-push_cases, Contains-append_left, Contains-get_or}
use Rattle.cnf_core.specs.Literals.{Literal, Literals}
use Rattle.cnf_core.proofs.Lists.{Contains-head, Contains-nil, Contains-cons_cases}
use Rattle.conflict_analysis.specs.Steps.Walks.{HasVar, IsGrown}

-- one variable's stamp is set
pub mark_grown : (stamps : List ℕ) (stamp : ℕ) (x : Literal) → x.var < length stamps
    → IsGrown (x ∷ []) (λ v. get_or stamps v 0 == stamp) (λ v. get_or (set stamps x.var stamp) v 0 == stamp)
mark_grown stamps stamp x fits = record {
  kept = λ v was. ⊎_elim
      (λ (is : v ≡ x.var). marked v is)
      (λ (other : v ≢ x.var). ap (λ (s : ℕ). s == stamp) (get_or-set_other stamps x.var v stamp 0 other) ∙ was)
      (cases_eq v x.var);
  marked = λ y there. ⊎_elim
      (λ (is : x ≡ y). marked y.var (ap (λ (l : Literal). l.var) (sym is)))
      (λ (none : Contains [] y). absurd (Contains-nil y none))
      (Contains-cons_cases x [] y there);
  only = λ v is_met. ⊎_elim
      (λ (is : v ≡ x.var). inr (record { literal = x; member = Contains-head x []; var = sym is }))
      (λ (other : v ≢ x.var). inl (sym (ap (λ (s : ℕ). s == stamp) (get_or-set_other stamps x.var v stamp 0 other)) ∙ is_met))
      (cases_eq v x.var);
}
  where
    marked : (v : ℕ) → v ≡ x.var → (get_or (set stamps x.var stamp) v 0 == stamp) ≡ true
    marked v is = eq-eqb (get_or (set stamps x.var stamp) v 0) stamp
        (ap (λ (u : ℕ). get_or (set stamps x.var stamp) u 0) is ∙ get_or-set_same stamps x.var stamp 0 fits)

pub grown_nothing : (seen : ℕ → Bool) → IsGrown [] seen seen
grown_nothing seen = record {
  kept = λ v was. was;
  marked = λ y there. absurd (Contains-nil y there);
  only = λ v was. inl was;
}

var_before : (c : Literals) (x : Literal) (v : ℕ) → HasVar c v → HasVar (c ++ x ∷ []) v
var_before c x v h = record { literal = h.literal; member = Contains-append_left c (x ∷ []) h.literal h.member; var = h.var }

-- one literal more is met
pub grown_push : (c : Literals) (x : Literal) (s0 s1 s2 : ℕ → Bool) → IsGrown c s0 s1 → IsGrown (x ∷ []) s1 s2
    → IsGrown (c ++ x ∷ []) s0 s2
grown_push c x s0 s1 s2 first second = record {
  kept = λ v was. second.kept v (first.kept v was);
  marked = λ y there. ⊎_elim
      (λ (old : Contains c y). second.kept y.var (first.marked y old))
      (λ (is : x ≡ y). second.marked y (subst (λ (l : Literal). Contains (x ∷ []) l) is (Contains-head x [])))
      (Contains-push_cases c x y there);
  only = λ v is_met. ⊎_elim
      (λ (was : s1 v ≡ true). ⊎_elim
      (λ (at_first : s0 v ≡ true). inl at_first)
      (λ (h : HasVar c v). inr (var_before c x v h))
      (first.only v was))
      (λ (h : HasVar (x ∷ []) v). ⊎_elim
      (λ (is : x ≡ h.literal). inr (record { literal = x; member = Contains-push c x; var = ap (λ (l : Literal). l.var) is ∙ h.var }))
      (λ (none : Contains [] h.literal). absurd (Contains-nil h.literal none))
      (Contains-cons_cases x [] h.literal h.member))
      (second.only v is_met);
}

-- one literal more was met before
pub grown_skip : (c : Literals) (x : Literal) (s0 s1 : ℕ → Bool) → IsGrown c s0 s1 → s1 x.var ≡ true
    → IsGrown (c ++ x ∷ []) s0 s1
grown_skip c x s0 s1 first is_met = record {
  kept = first.kept;
  marked = λ y there. ⊎_elim
      (λ (old : Contains c y). first.marked y old)
      (λ (is : x ≡ y). subst (λ (l : Literal). s1 l.var ≡ true) is is_met)
      (Contains-push_cases c x y there);
  only = λ v now. ⊎_elim
      (λ (at_first : s0 v ≡ true). inl at_first)
      (λ (h : HasVar c v). inr (var_before c x v h))
      (first.only v now);
}

-- the same over a list that is walked along
pub grown_more : (c : Literals) (i : ℕ) (x : Literal) (s0 s1 s2 : ℕ → Bool) → i < length c → x ≡ get_or c i x
    → IsGrown (take i c) s0 s1 → IsGrown (x ∷ []) s1 s2 → IsGrown (take (i + 1) c) s0 s2
grown_more c i x s0 s1 s2 lt is first second =
    subst (λ (d : Literals). IsGrown d s0 s2)
    (sym (take_more c i x lt ∙ ap (λ (y : Literal). take i c ++ y ∷ []) (sym is)))
    (grown_push (take i c) x s0 s1 s2 first second)

pub grown_past : (c : Literals) (i : ℕ) (x : Literal) (s0 s1 : ℕ → Bool) → i < length c → x ≡ get_or c i x
    → IsGrown (take i c) s0 s1 → s1 x.var ≡ true → IsGrown (take (i + 1) c) s0 s1
grown_past c i x s0 s1 lt is first is_met =
    subst (λ (d : Literals). IsGrown d s0 s1)
    (sym (take_more c i x lt ∙ ap (λ (y : Literal). take i c ++ y ∷ []) (sym is)))
    (grown_skip (take i c) x s0 s1 first is_met)

pub grown_all : (c : Literals) (i : ℕ) (s0 s1 : ℕ → Bool) → length c ≤ i → IsGrown (take i c) s0 s1 → IsGrown c s0 s1
grown_all c i s0 s1 past g = subst (λ (d : Literals). IsGrown d s0 s1) (take_all i c past) g

pub element_is_member : (c : Literals) (i : ℕ) (x : Literal) → i < length c → x ≡ get_or c i x → Contains c x
element_is_member c i x lt is = subst (λ (y : Literal). Contains c y) (sym is) (Contains-get_or c i x lt)
