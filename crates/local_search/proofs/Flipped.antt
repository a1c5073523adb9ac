-- What a flip does to the tallies.
use Rattle.std.proofs.Common.{◌≡◌, ◌≢◌, ℕ, ◌+◌, ◌*◌, ◌^◌, ◌<◌, ◌≤◌, Bool, true, false, not, if◌then◌else◌, nat_eq, IsTrue, List, [], ◌∷◌, length, take, set, get_or, refl, sym, ap, ◌∙◌, subst, ⊎_elim, length-set, get_or-set_same, get_or-set_other, arith}
use Rattle.std.specs.List.{sum_by}
use Rattle.std.proofs.lemmas.Bool.{cases_eq}
use Rattle.std.proofs.lemmas.List.Sums.{sum_by_more, sum_by_more_le, sum_by-cons, sum_by-le, sum_by-le-sum_by}
use Rattle.std.proofs.lemmas.List.Elements.{All-head, All-tail, All-get_or, All-weaker}
use Rattle.cnf_core.specs.Literals.{Literal, Literals, Assignment, negated, code_of, value_of, is_true, IsWithin, AreWithin}
use Rattle.cnf_core.proofs.Truth.{value_of-with_value, value_of-with_value_other, is_true-negated, is_true_same, is_true_flipped}
use Rattle.model_check.specs.Flips.{flipped}
use Rattle.local_search.specs.Tallies.{tally_at, no_tally}
use Rattle.local_search.specs.Steps.Listed.{hit, hits, at_place}
use Rattle.local_search.specs.Steps.States.{AddsPlaces, CanLower, CanRaise}
use Rattle.local_search.specs.declared.counts.Tally.{Tally}
use Rattle.local_search.proofs.Cleaning.{same_code, apart_codes}

-- one place more, at which there was one literal more before
pub lower_more : (var : ℕ) (places : List ℕ) (i p : ℕ) (now first : List Tally) (t new : Tally)
    → AddsPlaces var (take i places) now first → i < length places → p ≡ get_or places i 0 → p < length now
    → t ≡ tally_at now p → new.count + 1 ≡ t.count → new.sum + var ≡ t.sum
    → AddsPlaces var (take (i + 1) places) (set now p new) first
lower_more var places i p now first t new a below p_is inside t_is count sum = record {
  each = length-set now p new ∙ a.each;
  count = λ q within.
      let more = sum_by_more (at_place q 1) places i 0 below in
      ⊎_elim
      (λ (own : q ≡ p).
      let one : at_place q 1 (get_or places i 0) ≡ 1 = at_own q 1 (get_or places i 0) (sym p_is ∙ sym own) in
      let new_there = ap (λ (u : Tally). u.count) (tally_own q own) in
      let old_there = ap (λ (u : Tally). u.count) (t_is ∙ ap (tally_at now) (sym own)) in
      omega (arith, more, one, new_there, old_there, a.count q (omega (arith, length-set now p new)), count))
      (λ (other : q ≢ p).
      let none : at_place q 1 (get_or places i 0) ≡ 0 = at_other q 1 (get_or places i 0) (λ same. other (sym same ∙ sym p_is)) in
      let same = ap (λ (u : Tally). u.count) (get_or-set_other now p q new no_tally other) in
      omega (arith, more, none, same, a.count q (omega (arith, length-set now p new))))
      (cases_eq q p);
  sum = λ q within.
      let more = sum_by_more (at_place q var) places i 0 below in
      ⊎_elim
      (λ (own : q ≡ p).
      let one : at_place q var (get_or places i 0) ≡ var = at_own q var (get_or places i 0) (sym p_is ∙ sym own) in
      let new_there = ap (λ (u : Tally). u.sum) (tally_own q own) in
      let old_there = ap (λ (u : Tally). u.sum) (t_is ∙ ap (tally_at now) (sym own)) in
      omega (arith, more, one, new_there, old_there, a.sum q (omega (arith, length-set now p new)), sum))
      (λ (other : q ≢ p).
      let none : at_place q var (get_or places i 0) ≡ 0 = at_other q var (get_or places i 0) (λ same. other (sym same ∙ sym p_is)) in
      let same = ap (λ (u : Tally). u.sum) (get_or-set_other now p q new no_tally other) in
      omega (arith, more, none, same, a.sum q (omega (arith, length-set now p new))))
      (cases_eq q p);
}
  where
    at_own : (q w x : ℕ) → x ≡ q → at_place q w x ≡ w
    at_own q w x own = grind arith

    at_other : (q w x : ℕ) → x ≢ q → at_place q w x ≡ 0
    at_other q w x other = grind arith

    tally_own : (q : ℕ) → q ≡ p → tally_at (set now p new) q ≡ new
    tally_own q own = ap (tally_at (set now p new)) own ∙ get_or-set_same now p new no_tally inside

-- what is taken is there, and what is given has room
pub lower_room : (var : ℕ) (places : List ℕ) (i p : ℕ) (now first : List Tally) (t : Tally) → CanLower var places first
    → AddsPlaces var (take i places) now first → i < length places → p ≡ get_or places i 0 → t ≡ tally_at now p → (1 ≤ t.count) × (var ≤ t.sum)
lower_room var places i p now first t can a below p_is t_is =
    let inside : get_or places i 0 < length first = All-get_or (λ (q : ℕ). q < length first) places i 0 below can.inside in
    let within : p < length now = omega (arith, p_is, inside, a.each) in
    let more = sum_by_more_le (at_place p 1) places i 0 below in
    let more_sum = sum_by_more_le (at_place p var) places i 0 below in
    let one : at_place p 1 (get_or places i 0) ≡ 1 = at_own p 1 (get_or places i 0) (sym p_is) in
    let one_sum : at_place p var (get_or places i 0) ≡ var = at_own p var (get_or places i 0) (sym p_is) in
    let count_is = ap (λ (u : Tally). u.count) t_is in
    let sum_is = ap (λ (u : Tally). u.sum) t_is in (
      omega (arith, more, one, count_is, a.count p within, can.count p (omega (arith, within, a.each))),
      omega (arith, more_sum, one_sum, sum_is, a.sum p within, can.sum p (omega (arith, within, a.each))),
    )
  where
    at_own : (q w x : ℕ) → x ≡ q → at_place q w x ≡ w
    at_own q w x own = grind arith

pub raise_room : (var : ℕ) (places : List ℕ) (i p : ℕ) (first now : List Tally) (t : Tally) → CanRaise var places first
    → AddsPlaces var (take i places) first now → i < length places → p ≡ get_or places i 0 → t ≡ tally_at now p
    → (t.count + 1 < 2 ^ 32) × (t.sum + var < 2 ^ 64)
raise_room var places i p first now t can a below p_is t_is =
    let inside : get_or places i 0 < length first = All-get_or (λ (q : ℕ). q < length first) places i 0 below can.inside in
    let within : p < length first = omega (arith, p_is, inside) in
    let more = sum_by_more_le (at_place p 1) places i 0 below in
    let more_sum = sum_by_more_le (at_place p var) places i 0 below in
    let one : at_place p 1 (get_or places i 0) ≡ 1 = at_own p 1 (get_or places i 0) (sym p_is) in
    let one_sum : at_place p var (get_or places i 0) ≡ var = at_own p var (get_or places i 0) (sym p_is) in
    let count_is = ap (λ (u : Tally). u.count) t_is in
    let sum_is = ap (λ (u : Tally). u.sum) t_is in (
      omega (arith, more, one, count_is, a.count p within, can.count p within),
      omega (arith, more_sum, one_sum, sum_is, a.sum p within, can.sum p within),
    )
  where
    at_own : (q w x : ℕ) → x ≡ q → at_place q w x ≡ w
    at_own q w x own = grind arith

-- what a true literal counts, by its variable
abbrev pub weighed : Assignment → (ℕ → ℕ) → Literal → ℕ
weighed a g l = if is_true a l then g l.var else 0

-- one literal, where the variable of t is flipped, which was true
weighed_one : (a : Assignment) (g : ℕ → ℕ) (t l : Literal) → 0 < t.var → t.var ≤ length a → IsTrue (is_true a t) → 0 < l.var
    → weighed (flipped a t.var) g l + hit (code_of t) (g t.var) l ≡ weighed a g l + hit (code_of (negated t)) (g t.var) l
weighed_one a g t l low high holds low_l =
    ⊎_elim
    (λ (own : code_of l ≡ code_of t).
    subst (λ (k : Literal). weighed (flipped a t.var) g k + hit (code_of t) (g t.var) k ≡ weighed a g k + hit (code_of (negated t)) (g t.var) k)
    (same_code t l (sym own)) at_own)
    (λ (not_own : code_of l ≢ code_of t).
    ⊎_elim
    (λ (other : code_of l ≡ code_of (negated t)).
    subst (λ (k : Literal). weighed (flipped a t.var) g k + hit (code_of t) (g t.var) k ≡ weighed a g k + hit (code_of (negated t)) (g t.var) k)
    (same_code (negated t) l (sym other)) at_negated)
    (λ (not_other : code_of l ≢ code_of (negated t)).
    let apart : l.var ≢ t.var = apart_codes l t not_own not_other in
    let same : weighed (flipped a t.var) g l ≡ weighed a g l =
    ap (λ (b : Bool). if b then g l.var else 0)
    (is_true_same a (flipped a t.var) l (value_of-with_value_other a t.var l.var (not (value_of a t.var)) low low_l apart)) in
    omega (arith, same, hit_none (code_of t) (g t.var) l not_own, hit_none (code_of (negated t)) (g t.var) l not_other))
    (cases_eq (code_of l) (code_of (negated t))))
    (cases_eq (code_of l) (code_of t))
  where
    hit_none : (code w : ℕ) (k : Literal) → code_of k ≢ code → hit code w k ≡ 0
    hit_none code w k other = grind arith

    hit_one : (w : ℕ) (k : Literal) → hit (code_of k) w k ≡ w
    hit_one w k = grind arith

    codes_apart : (k : Literal) → code_of k ≢ code_of (negated k)
    codes_apart k = by_sign k.var k.positive
      where
        by_sign : (v : ℕ) (p : Bool) → 2 * v + (if p then 0 else 1) ≢ 2 * v + (if not p then 0 else 1)
        by_sign v true same = omega arith
        by_sign v false same = omega arith

    turned : (k : Literal) → k.var ≡ t.var → is_true (flipped a t.var) k ≡ not (is_true a k)
    turned k own = is_true_flipped a (flipped a t.var) k
        (subst (λ (v : ℕ). value_of (flipped a t.var) v ≡ not (value_of a v)) (sym own)
        (value_of-with_value a t.var (not (value_of a t.var)) low high))

    at_own : weighed (flipped a t.var) g t + hit (code_of t) (g t.var) t ≡ weighed a g t + hit (code_of (negated t)) (g t.var) t
    at_own =
        let after : weighed (flipped a t.var) g t ≡ 0 = ap (λ (b : Bool). if b then g t.var else 0) (turned t refl ∙ ap not holds) in
        let before : weighed a g t ≡ g t.var = ap (λ (b : Bool). if b then g t.var else 0) holds in
        omega (arith, after, before, hit_one (g t.var) t, hit_none (code_of (negated t)) (g t.var) t (codes_apart t))

    at_negated : weighed (flipped a t.var) g (negated t) + hit (code_of t) (g t.var) (negated t)
        ≡ weighed a g (negated t) + hit (code_of (negated t)) (g t.var) (negated t)
    at_negated =
        let fails : is_true a (negated t) ≡ false = is_true-negated a t ∙ ap not holds in
        let after : weighed (flipped a t.var) g (negated t) ≡ g t.var =
        ap (λ (b : Bool). if b then g t.var else 0) (turned (negated t) refl ∙ ap not fails) in
        let before : weighed a g (negated t) ≡ 0 = ap (λ (b : Bool). if b then g t.var else 0) fails in
        omega (
          arith,
          after,
          before,
          hit_one (g t.var) (negated t),
          hit_none (code_of t) (g t.var) (negated t) (λ same. codes_apart t (sym same)),
        )

-- and all literals of a clause
pub weighed_all : (a : Assignment) (g : ℕ → ℕ) (t : Literal) (c : Literals) → 0 < t.var → t.var ≤ length a → IsTrue (is_true a t)
    → AreWithin (length a) c
    → sum_by (weighed (flipped a t.var) g) c + hits (code_of t) (g t.var) c ≡ sum_by (weighed a g) c + hits (code_of (negated t)) (g t.var) c
weighed_all a g t [] low high holds within = refl
weighed_all a g t (l ∷ c) low high holds within =
    let one = weighed_one a g t l low high holds (All-head (IsWithin (length a)) l c within).low in
    let rest = weighed_all a g t c low high holds (All-tail (IsWithin (length a)) l c within) in
    omega (
      arith,
      sum_by-cons (weighed (flipped a t.var) g) l c,
      sum_by-cons (hit (code_of t) (g t.var)) l c,
      sum_by-cons (weighed a g) l c,
      sum_by-cons (hit (code_of (negated t)) (g t.var)) l c,
      one,
      rest,
    )

-- a true literal counts as often as it stands there at least
pub hits_true : (a : Assignment) (g : ℕ → ℕ) (t : Literal) (c : Literals) → IsTrue (is_true a t)
    → hits (code_of t) (g t.var) c ≤ sum_by (weighed a g) c
hits_true a g t c holds = sum_by-le-sum_by (hit (code_of t) (g t.var)) (weighed a g) c (λ l. one l)
  where
    hit_none : (code w : ℕ) (k : Literal) → code_of k ≢ code → hit code w k ≡ 0
    hit_none code w k other = grind arith

    hit_one : (w : ℕ) (k : Literal) → hit (code_of k) w k ≡ w
    hit_one w k = grind arith

    one : (l : Literal) → hit (code_of t) (g t.var) l ≤ weighed a g l
    one l =
        ⊎_elim
        (λ (own : code_of l ≡ code_of t).
        subst (λ (k : Literal). hit (code_of t) (g t.var) k ≤ weighed a g k) (same_code t l (sym own))
        (omega (arith, hit_one (g t.var) t, ap (λ (b : Bool). if b then g t.var else 0) holds)))
        (λ (other : code_of l ≢ code_of t). omega (arith, hit_none (code_of t) (g t.var) l other))
        (cases_eq (code_of l) (code_of t))

-- no weight is more than so much a literal
pub weighed_low : (a : Assignment) (g : ℕ → ℕ) (m n : ℕ) (c : Literals) → ((v : ℕ) → v ≤ n → g v ≤ m) → AreWithin n c
    → sum_by (weighed a g) c ≤ length c * m
weighed_low a g m n c most within =
    sum_by-le (weighed a g) m c
    (All-weaker (IsWithin n) (λ (l : Literal). weighed a g l ≤ m) (λ l here. one l (most l.var here.high)) c within)
  where
    one : (l : Literal) → g l.var ≤ m → weighed a g l ≤ m
    one l low = by_value (is_true a l)
      where
        by_value : (b : Bool) → (if b then g l.var else 0) ≤ m
        by_value true = low
        by_value false = omega arith

pub hits_low : (code w m : ℕ) (c : Literals) → w ≤ m → hits code w c ≤ length c * m
hits_low code w m c low = sum_by-le (hit code w) m c (λ k d below. one (get_or c k d))
  where
    one : (l : Literal) → hit code w l ≤ m
    one l = by_value (nat_eq (code_of l) code)
      where
        by_value : (b : Bool) → (if b then w else 0) ≤ m
        by_value true = low
        by_value false = omega arith
