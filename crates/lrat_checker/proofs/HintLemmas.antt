-- A clause whose negation is taken to be true, and hints that are followed.
use Rattle.std.proofs.Common.{◌≡◌, ◌≢◌, ℕ, ◌+◌, ◌<◌, Bool, true, false, not, ◌||◌, ◌&&◌, ◌==◌, if◌then◌else◌, List, [], ◌∷◌, ◌++◌, Contains}
use Rattle.std.proofs.Common.{Option, Some, None, map, length, take, drop, get_or, inl, inr, refl, sym, ap, ◌∙◌, subst, take-append-drop}
use Rattle.std.proofs.lemmas.Bool.{false_from_ne_true, both_ways, cases_Bool}
use Rattle.std.proofs.lemmas.List.{take_more, drop_more, map_more, drop_all}
use Rattle.std.proofs.lemmas.List.Elements.{Contains-get_or, Contains-push_cases, Contains-append_left}
use Rattle.cnf_core.specs.Literals.{Literal, Literals, negated}
use Rattle.cnf_core.proofs.Lists.{member_of_list_any, list_any_of_member}
use Rattle.lrat_lines.specs.Sets.{is_same, has, has_complements}
use Rattle.lrat_lines.specs.Propagation.{Known, Refusal, UnknownHint, NotUnit, open_literals, by_hints, by_set}
use Rattle.lrat_lines.proofs.LiteralSets.{is_same-true, is_same_of_equal, Contains_of_has, has_of_Contains}
use Rattle.lrat_checker.specs.declared.assignment.Open.TheVariants.{Never, Single, Several}
use Rattle.lrat_checker.specs.Steps.Assigned.{open_of}
use Rattle.lrat_checker.proofs.TableLemmas.{negated-negated, negated_back}
use Rattle.lrat_checker.proofs.OpenLemmas.{by_open-never, by_open-single, by_open-several}

same_signs : (p q : Bool) → (if not p then not q else not (not q)) ≡ (if p then q else not q)
same_signs true true = refl
same_signs true false = refl
same_signs false q = refl

has-map_negated : (p : Literals) (k : Literal) → has (map negated p) (negated k) ≡ has p k
has-map_negated [] k = refl
has-map_negated (l ∷ p) k =
    ap (λ (b : Bool). ((k.var == l.var) && b) || has (map negated p) (negated k)) (same_signs k.positive l.positive)
    ∙ ap (λ (b : Bool). is_same k l || b) (has-map_negated p k)

-- a literal whose negation is among those before it
pub complement_found : (c : Literals) (i : ℕ) (x : Literal) → i < length c → x ≡ get_or c i x
    → has (map negated (take i c)) (negated (negated x)) ≡ true → has_complements c ≡ true
complement_found c i x lt is found =
    let before : has (take i c) (negated x) ≡ true = sym (has-map_negated (take i c) (negated x)) ∙ found in
    let here : Contains c x = subst (λ (y : Literal). Contains c y) (sym is) (Contains-get_or c i x lt) in
    let other : Contains c (negated x) =
    subst (λ (d : Literals). Contains d (negated x)) (take-append-drop i c)
    (Contains-append_left (take i c) (drop i c) (negated x) (Contains_of_has (take i c) (negated x) before)) in
    list_any_of_member (λ (l : Literal). has c (negated l)) c x here (has_of_Contains c (negated x) other)

not_own_negation : (l : Literal) → negated l ≡ l → ⊥
not_own_negation l is = by_sign l.positive (ap (λ (k : Literal). k.positive) is)
  where
    by_sign : (p : Bool) → not p ≡ p → ⊥
    by_sign true wrong = cc
    by_sign false wrong = cc

no_complement_push : (p : Literals) (x : Literal) → has_complements p ≡ false → has p (negated x) ≡ false
    → has_complements (p ++ x ∷ []) ≡ false
no_complement_push p x none apart = false_from_ne_true (has_complements (p ++ x ∷ [])) (λ some.
    let (k, there, both) = member_of_list_any (λ (l : Literal). has (p ++ x ∷ []) (negated l)) (p ++ x ∷ []) some in
    let other = Contains_of_has (p ++ x ∷ []) (negated k) both in
    elim (Contains-push_cases p x k there) [
      | inl first ↦ elim (Contains-push_cases p x (negated k) other) [
        | inl second ↦ both_ways (has_complements p) none
            (list_any_of_member (λ (l : Literal). has p (negated l)) p k first (has_of_Contains p (negated k) second))
        | inr last ↦ both_ways (has p (negated x)) apart
            (has_of_Contains p (negated x) (subst (λ (m : Literal). Contains p m) (negated_back k x (sym last)) first))
      ]
      | inr is ↦ elim (Contains-push_cases p x (negated k) other) [
        | inl second ↦ both_ways (has p (negated x)) apart
            (has_of_Contains p (negated x) (subst (λ (m : Literal). Contains p (negated m)) (sym is) second))
        | inr last ↦ not_own_negation k (sym last ∙ is)
      ]
    ])

pub no_complement_more : (c : Literals) (i : ℕ) (x : Literal) → i < length c → x ≡ get_or c i x
    → has_complements (take i c) ≡ false → has (map negated (take i c)) (negated (negated x)) ≡ false
    → has_complements (take (i + 1) c) ≡ false
no_complement_more c i x lt is none apart =
    ap has_complements (take_more c i x lt)
    ∙ ap (λ (y : Literal). has_complements (take i c ++ y ∷ [])) (sym is)
    ∙ no_complement_push (take i c) x none (sym (has-map_negated (take i c) (negated x)) ∙ apart)

pub assumed_more : (c : Literals) (i : ℕ) (x : Literal) → i < length c → x ≡ get_or c i x
    → map negated (take i c) ++ negated x ∷ [] ≡ map negated (take (i + 1) c)
assumed_more c i x lt is =
    ap (λ (y : Literal). map negated (take i c) ++ negated y ∷ []) is ∙ sym (map_more negated c i x lt)

-- hints, one after another
at_hint : (known : Known) (hints : List ℕ) (i d : ℕ) (trues : Literals) → i < length hints
    → by_hints known (drop i hints) trues
    ≡ by_set (get_or hints i d) trues (by_hints known (drop (i + 1) hints)) (known (get_or hints i d))
at_hint known hints i d trues lt = ap (λ (hs : List ℕ). by_hints known hs trues) (drop_more hints i d lt)

pub hint_unknown : (known : Known) (hints : List ℕ) (i d : ℕ) (trues : Literals) → i < length hints
    → known (get_or hints i d) ≡ None → by_hints known (drop i hints) trues ≡ Some (UnknownHint (get_or hints i d))
hint_unknown known hints i d trues lt is =
    at_hint known hints i d trues lt
    ∙ ap (by_set (get_or hints i d) trues (by_hints known (drop (i + 1) hints))) is

pub hint_proves : (known : Known) (hints : List ℕ) (i d : ℕ) (trues c : Literals) → i < length hints
    → known (get_or hints i d) ≡ Some c → open_of (open_literals trues c) ≡ Never
    → by_hints known (drop i hints) trues ≡ None
hint_proves known hints i d trues c lt is kind =
    at_hint known hints i d trues lt
    ∙ ap (by_set (get_or hints i d) trues (by_hints known (drop (i + 1) hints))) is
    ∙ by_open-never (get_or hints i d) trues (by_hints known (drop (i + 1) hints)) (open_literals trues c) kind

pub hint_adds : (known : Known) (hints : List ℕ) (i d : ℕ) (trues c : Literals) (l : Literal) → i < length hints
    → known (get_or hints i d) ≡ Some c → open_of (open_literals trues c) ≡ Single l
    → by_hints known (drop i hints) trues ≡ by_hints known (drop (i + 1) hints) (trues ++ l ∷ [])
hint_adds known hints i d trues c l lt is kind =
    at_hint known hints i d trues lt
    ∙ ap (by_set (get_or hints i d) trues (by_hints known (drop (i + 1) hints))) is
    ∙ by_open-single (get_or hints i d) trues (by_hints known (drop (i + 1) hints)) (open_literals trues c) l kind

pub hint_no_unit : (known : Known) (hints : List ℕ) (i d : ℕ) (trues c : Literals) → i < length hints
    → known (get_or hints i d) ≡ Some c → open_of (open_literals trues c) ≡ Several
    → by_hints known (drop i hints) trues ≡ Some (NotUnit (get_or hints i d))
hint_no_unit known hints i d trues c lt is kind =
    at_hint known hints i d trues lt
    ∙ ap (by_set (get_or hints i d) trues (by_hints known (drop (i + 1) hints))) is
    ∙ by_open-several (get_or hints i d) trues (by_hints known (drop (i + 1) hints)) (open_literals trues c) kind
