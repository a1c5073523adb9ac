-- How hints derive resolvents: each new hint is taken before those that are there.
use Rattle.std.proofs.Common.{◌≡◌, ◌≢◌, ◌⊎◌, ℕ, ◌<◌, ◌≤◌, List, [], ◌∷◌, ◌++◌, length, Contains, map, refl, sym, ◌∙◌, subst, inl, inr}
use Rattle.std.proofs.Common.{⊎_elim, arith}
use Rattle.std.proofs.lemmas.List.Elements.{Contains-push, Contains-push_cases, Contains-append_left}
use Rattle.cnf_core.specs.Literals.{Literal, Literals, negated}
use Rattle.cnf_core.proofs.Lists.{Contains-head, Contains-tail, Contains-cons_cases}
use Rattle.trail_core.specs.declared.entry.Assigned.{Assigned}
use Rattle.trail_core.specs.Trails.{TrailState, assigned_at, IsTrail}
use Rattle.lrat_lines.specs.Propagation.{Known}
use Rattle.lrat_lines.specs.Tight.{StandsIn, ShowsAt, AddsAt, IsTightFrom, IsTight}
use Rattle.lrat_lines.proofs.Tightness.{same_or_not, shows, adds}
use Rattle.conflict_analysis.specs.Members.{HasClause}
use Rattle.conflict_analysis.specs.Steps.Resolvents.{IsApart, Derives}
use Rattle.conflict_analysis.proofs.Literals.{negated-negated, negation_back, not_both_true}

last_hint : (known : Known) (trues : Literals) (h : ℕ) → ShowsAt known trues h → IsTightFrom known trues (h ∷ [])
unfolding IsTightFrom
last_hint known trues h s = inl (refl, s)

next_hint : (known : Known) (trues : Literals) (h : ℕ) (hs : List ℕ) (l : Literal) → AddsAt known trues h l
    → StandsIn known hs (negated l) → IsTightFrom known (trues ++ l ∷ []) hs → IsTightFrom known trues (h ∷ hs)
unfolding IsTightFrom
next_hint known trues h hs l a used rest = inr (l, a, used, rest)

pub stands_first : (known : Known) (h : ℕ) (hs : List ℕ) (c : Literals) (x : Literal) → HasClause known h c → Contains c x
    → StandsIn known (h ∷ hs) x
stands_first known h hs c x has there = record {
  hint = h;
  listed = Contains-head h hs;
  set = has.set;
  is_known = has.is_known;
  member = has.same.back x there;
}

pub stands_later : (known : Known) (h : ℕ) (hs : List ℕ) (x : Literal) → StandsIn known hs x → StandsIn known (h ∷ hs) x
stands_later known h hs x s = record {
  hint = s.hint;
  listed = Contains-tail h hs s.hint s.listed;
  set = s.set;
  is_known = s.is_known;
  member = s.member;
}

-- a clause by itself
pub derives_clause : (known : Known) (es : List Assigned) (top h : ℕ) (c : Literals) → HasClause known h c
    → Derives known es top (Contains c) (h ∷ [])
derives_clause known es top h c has = record {
  tight = λ trues apart all. last_hint known trues h
      (shows known trues h has.set has.is_known (λ x there. all x (has.same.forth x there)));
  used = λ x there. stands_first known h [] c x has there;
}

-- the same literals, said in another way
pub derives_same : (known : Known) (es : List Assigned) (top : ℕ) (D E : Literal → Type 0) (hints : List ℕ)
    → ((x : Literal) → D x → E x) → ((x : Literal) → E x → D x)
    → Derives known es top D hints → Derives known es top E hints
derives_same known es top D E hints forth back d = record {
  tight = λ trues apart all. d.tight trues apart (λ x in_d. all x (forth x in_d));
  used = λ x in_e. d.used x (back x in_e);
}

apart_push : (t : TrailState) (top q : ℕ) (trues : Literals) (l : Literal) → IsTrail t → top ≤ length t.entries → q < top
    → (assigned_at t.entries q).lit ≡ l → IsApart t.entries top trues → IsApart t.entries top (trues ++ l ∷ [])
apart_push t top q trues l trail fits before is apart k j there lt wrong =
    ⊎_elim
    (λ (old : Contains trues k). apart k j old lt wrong)
    (λ (new : l ≡ k). not_both_true t q j k trail (omega arith) (omega arith) (is ∙ new) wrong)
    (Contains-push_cases trues l k there)

-- one step of resolution, on the literal of an entry before the top: the resolvent with its negation,
-- and a clause with it, give what is in either besides
pub derives_more : (known : Known) (t : TrailState) (top q h : ℕ) (c : Literals) (l : Literal) (D E : Literal → Type 0)
    (hints : List ℕ) → IsTrail t → top ≤ length t.entries → q < top → (assigned_at t.entries q).lit ≡ l
    → HasClause known h c → Contains c l → D (negated l)
    → ((x : Literal) → D x → x ≢ negated l → E x) → ((x : Literal) → Contains c x → x ≢ l → E x)
    → ((x : Literal) → E x → D x ⊎ Contains c x)
    → Derives known t.entries top D hints → Derives known t.entries top E (h ∷ hints)
derives_more known t top q h c l D E hints trail fits before is has member pivot from_d from_c parts d = record {
  tight = λ trues apart all. next_hint known trues h hints l
      (adds known trues h has.set l has.is_known (has.same.back l member)
      (λ denied. apart (negated l) q denied before (is ∙ sym (negated-negated l)))
      (λ x there other. all x (from_c x (has.same.forth x there) other)))
      (d.used (negated l) pivot)
      (d.tight (trues ++ l ∷ []) (apart_push t top q trues l trail fits before is apart)
      (λ x in_d. ⊎_elim
      (λ (same : x ≡ negated l).
      subst (λ (k : Literal). Contains (trues ++ l ∷ []) k) (negation_back x l same) (Contains-push trues l))
      (λ (other : x ≢ negated l). Contains-append_left trues (l ∷ []) (negated x) (all x (from_d x in_d other)))
      (same_or_not x (negated l))));
  used = λ x in_e. ⊎_elim
      (λ (in_d : D x). stands_later known h hints x (d.used x in_d))
      (λ (in_c : Contains c x). stands_first known h hints c x has in_c)
      (parts x in_e);
}

member_of_map : (c : Literals) (k : Literal) → Contains (map negated c) k → Contains c (negated k)
member_of_map [] k (i, lt, is) = absurd (omega arith)
member_of_map (l ∷ c) k there = ⊎_elim
    (λ (is : negated l ≡ k). subst (λ (m : Literal). Contains (l ∷ c) m) (negation_back k l (sym is)) (Contains-head l c))
    (λ (later : Contains (map negated c) k). Contains-tail l c (negated k) (member_of_map c k later))
    (Contains-cons_cases (negated l) (map negated c) k there)

map_of_member : (c : Literals) (x : Literal) → Contains c x → Contains (map negated c) (negated x)
map_of_member [] x (i, lt, is) = absurd (omega arith)
map_of_member (l ∷ c) x there = ⊎_elim
    (λ (is : l ≡ x). subst (λ (m : Literal). Contains (map negated (l ∷ c)) (negated m)) is (Contains-head (negated l) (map negated c)))
    (λ (later : Contains c x). Contains-tail (negated l) (map negated c) (negated x) (map_of_member c x later))
    (Contains-cons_cases l c x there)

-- a clause that is derived, and contradicts no entry before the top where it is false, has tight hints
pub tight_of_derives : (known : Known) (es : List Assigned) (top : ℕ) (c : Literals) (hints : List ℕ)
    → ((x : Literal) (q : ℕ) → Contains c x → q < top → (assigned_at es q).lit ≢ x)
    → Derives known es top (Contains c) hints → IsTight known hints c
tight_of_derives known es top c hints apart d = record {
  steps = d.tight (map negated c)
      (λ l q there lt. apart (negated l) q (member_of_map c l there) lt)
      (λ x there. map_of_member c x there);
  used = d.used;
}
