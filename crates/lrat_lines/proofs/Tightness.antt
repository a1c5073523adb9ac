-- When a hint shows a clause, when it adds a literal, and what tight hints give.
use Rattle.std.proofs.Common.{◌≡◌, ◌≢◌, ◌⊎◌, ℕ, true, not, List, [], ◌∷◌, ◌++◌, Option, Some, None, Contains, map, inl, inr, refl, sym, ap}
use Rattle.std.proofs.Common.{◌∙◌, subst, ⊎_elim}
use Rattle.std.specs.List.{list_all}
use Rattle.std.proofs.lemmas.Bool.{cases_Bool, both_ways, not-true}
use Rattle.cnf_core.specs.Literals.{Literal, Literals, negated}
use Rattle.cnf_core.proofs.Lists.{Contains-head, Contains-tail, Contains-cons_cases, Contains-nil, nil_without_members, Contains-filter}
use Rattle.cnf_core.proofs.Lists.{kept_of_Contains-filter, list_all_of_members}
use Rattle.lrat_lines.specs.Sets.{is_same, has, has_complements}
use Rattle.lrat_lines.specs.Propagation.{Known, Refusal, open_literals, by_open, by_set, by_hints, IsRup}
use Rattle.lrat_lines.specs.Tight.{IsKnown, ShowsAt, AddsAt, IsTightFrom, IsTight}
use Rattle.lrat_lines.proofs.LiteralSets.{is_same-true, is_same_of_equal, has_of_Contains, has-false}

-- a literal is another or not
pub same_or_not : (k l : Literal) → (k ≡ l) ⊎ (k ≢ l)
same_or_not k l = elim (cases_Bool (is_same k l)) [
  | inl same ↦ inl (is_same-true k l same)
  | inr other ↦ inr (λ is. both_ways (is_same k l) other (is_same_of_equal k l is))
]

-- a literal that stays open is not false
open_is_not_false : (trues c : Literals) (x : Literal) → Contains (open_literals trues c) x → Contains trues (negated x) → ⊥
open_is_not_false trues c x there fails =
    let kept = kept_of_Contains-filter (λ (l : Literal). not (has trues (negated l))) c x there in
    both_ways (has trues (negated x)) (not-true (has trues (negated x)) kept.passes) (has_of_Contains trues (negated x) fails)

open_is_member : (trues c : Literals) (x : Literal) → Contains (open_literals trues c) x → Contains c x
open_is_member trues c x there = (kept_of_Contains-filter (λ (l : Literal). not (has trues (negated l))) c x there).member

-- a set whose literals are all false shows
pub shows : (known : Known) (trues : Literals) (hint : ℕ) (c : Literals) → known hint ≡ Some c
    → ((x : Literal) → Contains c x → Contains trues (negated x)) → ShowsAt known trues hint
shows known trues hint c is_known all = record {
  set = c;
  is_known = is_known;
  none_open = nil_without_members (open_literals trues c) (λ x there.
      open_is_not_false trues c x there (all x (open_is_member trues c x there)));
}

-- a list whose members are all the same begins with that literal, and goes on with doubles of it
record IsDoubled (os : Literals) (l : Literal) : Type 0 where
  doubles : Literals
  is : os ≡ l ∷ doubles
  same : list_all (is_same l) doubles ≡ true

doubled : (os : Literals) (l : Literal) → Contains os l → ((x : Literal) → Contains os x → x ≡ l) → IsDoubled os l
doubled [] l there only = absurd (Contains-nil l there)
doubled (k ∷ os) l there only = record {
  doubles = os;
  is = ap (λ (m : Literal). m ∷ os) (only k (Contains-head k os));
  same = list_all_of_members (is_same l) os (λ x later. is_same_of_equal l x (sym (only x (Contains-tail k os x later))));
}

-- a set whose other literals are all false adds the one that is not
pub adds : (known : Known) (trues : Literals) (hint : ℕ) (c : Literals) (l : Literal) → known hint ≡ Some c
    → Contains c l → (Contains trues (negated l) → ⊥)
    → ((x : Literal) → Contains c x → x ≢ l → Contains trues (negated x)) → AddsAt known trues hint l
adds known trues hint c l is_known member holds others =
    let stays : Contains (open_literals trues c) l =
    Contains-filter (λ (k : Literal). not (has trues (negated k))) c l member (ap not (has-false trues (negated l) holds)) in
    let only : (x : Literal) → Contains (open_literals trues c) x → x ≡ l =
    λ x there. ⊎_elim
    (λ (same : x ≡ l). same)
    (λ (other : x ≢ l). absurd (open_is_not_false trues c x there (others x (open_is_member trues c x there) other)))
    (same_or_not x l) in
    let d = doubled (open_literals trues c) l stays only in
    record { set = c; is_known = is_known; doubles = d.doubles; one_open = d.is; same = d.same }

-- what the checker does at such hints
shown_here : (known : Known) (trues : Literals) (h : ℕ) (rest : Literals → Option Refusal) → ShowsAt known trues h
    → by_set h trues rest (known h) ≡ None
shown_here known trues h rest s =
    ap (by_set h trues rest) s.is_known ∙ ap (by_open h trues rest) s.none_open

added_here : (known : Known) (trues : Literals) (h : ℕ) (rest : Literals → Option Refusal) (l : Literal) → AddsAt known trues h l
    → by_set h trues rest (known h) ≡ rest (trues ++ l ∷ [])
added_here known trues h rest l a =
    ap (by_set h trues rest) a.is_known ∙ ap (by_open h trues rest) a.one_open
    ∙ rw a.same refl

-- tight hints show the clause
tight_from_shows : (known : Known) (hints : List ℕ) (trues : Literals) → IsTightFrom known trues hints
    → by_hints known hints trues ≡ None
unfolding IsTightFrom
tight_from_shows known [] trues none = absurd none
tight_from_shows known (h ∷ hs) trues tight = elim tight [
  | inl last ↦ shown_here known trues h (by_hints known hs) last.1
  | inr more ↦ added_here known trues h (by_hints known hs) more.0 more.1
      ∙ tight_from_shows known hs (trues ++ more.0 ∷ []) more.3
]

pub tight_is_rup : (known : Known) (hints : List ℕ) (c : Literals) → IsTight known hints c → IsRup known hints c
tight_is_rup known hints c tight = elim (cases_Bool (has_complements c)) [
  | inl both ↦ rw both refl
  | inr plain ↦ rw plain (tight_from_shows known hints (map negated c) tight.steps)
]

-- each of tight hints is known
tight_from_known : (known : Known) (hints : List ℕ) (trues : Literals) (hint : ℕ) → IsTightFrom known trues hints
    → Contains hints hint → IsKnown known hint
unfolding IsTightFrom
tight_from_known known [] trues hint none there = absurd none
tight_from_known known (h ∷ hs) trues hint tight there =
    elim (Contains-cons_cases h hs hint there) [
      | inl is ↦ elim tight [
        | inl last ↦ record { set = last.1.set; is_known = ap known (sym is) ∙ last.1.is_known }
        | inr more ↦ record { set = more.1.set; is_known = ap known (sym is) ∙ more.1.is_known }
      ]
      | inr later ↦ elim tight [
        | inl last ↦ absurd (Contains-nil hint (subst (λ (ks : List ℕ). Contains ks hint) last.0 later))
        | inr more ↦ tight_from_known known hs (trues ++ more.0 ∷ []) hint more.3 later
      ]
    ]

pub tight_known : (known : Known) (hints : List ℕ) (c : Literals) (hint : ℕ) → IsTight known hints c
    → Contains hints hint → IsKnown known hint
tight_known known hints c hint tight there = tight_from_known known hints (map negated c) hint tight.steps there
