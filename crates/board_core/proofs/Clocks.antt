-- Each kind of event keeps the rule of the clocks.
use Rattle.std.proofs.Common.{◌≡◌, ◌≢◌, ℕ, zero, suc, ◌+◌, ◌-◌, ◌<◌, ◌≤◌, min, max, Bool, cond, List, [], ◌∷◌, ◌++◌, length, get_or, refl, sym, ap, ◌∙◌, subst, ⊎_elim, arith}
use Rattle.std.specs.Prelude.{nat_lt, bit_or, slice_index, slice_set, All, fold}
use Rattle.std.specs.List.{sum_by}
use Rattle.std.proofs.lemmas.Bool.{cases_eq, eq-eqb, ne_eqb, lt-ltb}
use Rattle.std.proofs.lemmas.List.{length-set, get_or-set_same, get_or-set_other}
use Rattle.std.proofs.lemmas.List.Elements.{All-nil, All-cons, All-head, All-tail, All-append, All-push, All-weaker}
use Rattle.std.proofs.lemmas.List.Sums.{sum_by-cons, sum_by-append, get_or-le-sum_by, sum_by-set}
use Rattle.board_core.specs.Subjects.{About}
use Rattle.board_core.specs.Words.{fixed, times, named}
use Rattle.board_core.specs.Boards.{State, spent_view, view_at, origin_of, parent, child, joined, stamped, told, publish_view, origin_view, top, MayPublish}
use Rattle.board_core.specs.Rules.{BoardRule, ClockRule, Agrees, published_count}
use Rattle.board_core.specs.declared.view.Stamped.{Stamped}
use Rattle.board_core.specs.declared.view.View.{View}
use Rattle.board_core.proofs.Bits.{times-append}
use Rattle.board_core.proofs.Lists.{at_set, at_push, sum_set}
use Rattle.board_core.proofs.Seats.{sum_split, sum_join, each_joined}

pub named-append : (x : ℕ) (ps qs : List Stamped) → named x (ps ++ qs) ≡ named x ps + named x qs
named-append x ps qs = sum_by-append _ ps qs

-- a step of one view that publishes and imports nothing, and takes away no fix
pub clocks_step : (a : About) (s : State) (ws : List ℕ) (id : ℕ) (u : View) → ClockRule a s → id < length s.views
    → u.published ≡ (view_at s.views id).published → u.imports ≡ (view_at s.views id).imports
    → ((x : ℕ) → times x (view_at s.views id).fixes ≤ times x u.fixes)
    → ClockRule a (record { words = ws; origins = s.origins; views = slice_set s.views id u })
clocks_step a s ws id u clocks within published imports more = record {
  size = clocks.size;
  stamps = clocks.stamps;
  published_once = λ x low high.
      omega (arith, clocks.published_once x low high, ap (named x) published, sum_set (λ (v : View). named x v.published) s.views id u spent_view within);
  fixed = λ j x. at_set (λ (v : View). named x v.published ≤ times x v.fixes) s.views id j u spent_view within
      (λ _. omega (arith, ap (named x) published, more x, clocks.fixed id x))
      (λ _. clocks.fixed j x);
  published = λ j. at_set (λ (v : View). All (Agrees s.origins) v.published) s.views id j u spent_view within
      (λ _. subst (λ (ps : List Stamped). All (Agrees s.origins) ps) (sym published) (clocks.published id))
      (λ _. clocks.published j);
  imports = λ j. at_set (λ (v : View). All (Agrees s.origins) v.imports) s.views id j u spent_view within
      (λ _. subst (λ (ps : List Stamped). All (Agrees s.origins) ps) (sym imports) (clocks.imports id))
      (λ _. clocks.imports j);
}

pub clocks_split : (a : About) (s : State) (ws : List ℕ) → ClockRule a s → 0 < length s.views
    → ClockRule a (record { words = ws; origins = s.origins; views = slice_set s.views 0 (parent (view_at s.views 0)) ++ child (view_at s.views 0) ∷ [] })
clocks_split a s ws clocks some =
    let each : (P : View → Type 0) → P (child (view_at s.views 0)) → P (parent (view_at s.views 0)) → ((j : ℕ) → P (view_at s.views j)) → (j : ℕ)
    → P (view_at (slice_set s.views 0 (parent (view_at s.views 0)) ++ child (view_at s.views 0) ∷ []) j) =
    λ P new root rest j. at_push P (slice_set s.views 0 (parent (view_at s.views 0))) (child (view_at s.views 0)) spent_view j (λ _. new)
    (λ _. at_set P s.views 0 j (parent (view_at s.views 0)) spent_view some (λ _. root) (λ _. rest j)) in
    record {
      size = clocks.size;
      stamps = clocks.stamps;
      published_once = λ x low high.
          omega (arith, clocks.published_once x low high, sum_split (λ (v : View). named x v.published) s.views (parent (view_at s.views 0)) (child (view_at s.views 0)) some);
      fixed = λ j x. each (λ v. named x v.published ≤ times x v.fixes) (omega arith) (clocks.fixed 0 x) (λ k. clocks.fixed k x) j;
      published = each (λ v. All (Agrees s.origins) v.published) (All-nil (Agrees s.origins)) (clocks.published 0) clocks.published;
      imports = each (λ v. All (Agrees s.origins) v.imports) (All-nil (Agrees s.origins)) (clocks.imports 0) clocks.imports;
    }

pub clocks_join : (a : About) (s : State) (ws : List ℕ) (id : ℕ) → ClockRule a s → id < length s.views → 0 < id
    → ClockRule a (record {
      words = ws;
      origins = s.origins;
      views = slice_set (slice_set s.views 0 (joined (view_at s.views 0) (view_at s.views id))) id spent_view;
    })
clocks_join a s ws id clocks within apart =
    let u : View = joined (view_at s.views 0) (view_at s.views id) in record {
      size = clocks.size;
      stamps = clocks.stamps;
      published_once = λ x low high. omega (
        arith,
        clocks.published_once x low high,
        named-append x (view_at s.views 0).published (view_at s.views id).published,
        sum_join (λ (v : View). named x v.published) s.views id (joined (view_at s.views 0) (view_at s.views id)) within apart refl,
      );
      fixed = λ j x. each_joined (λ _ v. named x v.published ≤ times x v.fixes) s.views id (joined (view_at s.views 0) (view_at s.views id)) within apart (omega arith)
          (omega (
            arith,
            clocks.fixed 0 x,
            clocks.fixed id x,
            named-append x (view_at s.views 0).published (view_at s.views id).published,
            times-append x (view_at s.views 0).fixes (view_at s.views id).fixes,
          ))
          (λ k _. clocks.fixed k x) j;
      published = each_joined (λ _ v. All (Agrees s.origins) v.published) s.views id (joined (view_at s.views 0) (view_at s.views id)) within apart
          (All-nil (Agrees s.origins))
          (All-append (Agrees s.origins) (view_at s.views 0).published (view_at s.views id).published (clocks.published 0) (clocks.published id))
          (λ k _. clocks.published k);
      imports = each_joined (λ _ v. All (Agrees s.origins) v.imports) s.views id (joined (view_at s.views 0) (view_at s.views id)) within apart
          (All-nil (Agrees s.origins))
          (All-append (Agrees s.origins) (view_at s.views 0).imports (view_at s.views id).imports (clocks.imports 0) (clocks.imports id))
          (λ k _. clocks.imports k);
    }

-- Sums of what is smaller at each view.
pub sum_below : (f h : View → ℕ) (vs : List View) → ((j : ℕ) → f (view_at vs j) ≤ h (view_at vs j)) → sum_by f vs ≤ sum_by h vs
sum_below f h [] all = omega arith
sum_below f h (v ∷ vs) all =
    let first : f v ≤ h v = all 0 in
    omega (arith, sum_by-cons f v vs, sum_by-cons h v vs, first, sum_below f h vs (λ j. all (suc j)))

pub sum_gap : (f h : View → ℕ) (vs : List View) (id : ℕ) → id < length vs → f (view_at vs id) < h (view_at vs id)
    → ((j : ℕ) → f (view_at vs j) ≤ h (view_at vs j)) → sum_by f vs < sum_by h vs
sum_gap f h [] id within gap all = absurd (omega arith)
sum_gap f h (v ∷ vs) zero within gap all =
    let first : f v < h v = gap in
    omega (arith, sum_by-cons f v vs, sum_by-cons h v vs, first, sum_below f h vs (λ j. all (suc j)))
sum_gap f h (v ∷ vs) (suc id) within gap all =
    let first : f v ≤ h v = all 0 in
    omega (arith, sum_by-cons f v vs, sum_by-cons h v vs, first, sum_gap f h vs id (omega arith) gap (λ j. all (suc j)))

-- a variable that some view fixed is fixed
pub fixed_by : (a : About) (s : State) (id x : ℕ) → BoardRule a s → id < length s.views → times x (view_at s.views id).fixes ≤ fixed s.words x
fixed_by a s id x rule within =
    omega (arith, rule.fixed_once x, get_or-le-sum_by (λ (v : View). times x v.fixes) s.views id spent_view within)

-- what a lawful publish finds is 0
pub unpublished : (a : About) (s : State) (id x stamp : ℕ) → BoardRule a s → ClockRule a s → id < length s.views
    → fixed s.words x ≤ 1 → 0 < x → x ≤ a.formula.vars → MayPublish (view_at s.views id) x stamp → origin_of s.origins x ≡ 0
unpublished a s id x stamp rule clocks within bit low high may =
    let gap : sum_by (λ (v : View). named x v.published) s.views < sum_by (λ (v : View). times x v.fixes) s.views =
    sum_gap (λ (v : View). named x v.published) (λ (v : View). times x v.fixes) s.views id within
    (omega (arith, may.unpublished, may.fixed)) (λ j. clocks.fixed j x) in
    omega (arith, gap, rule.fixed_once x, clocks.published_once x low high)

-- the greatest stamp is no greater than all are
pub top_below : (ps : List Stamped) (n m : ℕ) → n ≤ m → All (λ (p : Stamped). p.stamp ≤ m) ps → fold (λ k (p : Stamped). max k p.stamp) n ps ≤ m
top_below [] n m low all = low
top_below (p ∷ ps) n m low all =
    let first : p.stamp ≤ m = All-head (λ (q : Stamped). q.stamp ≤ m) p ps all in
    top_below ps (max n p.stamp) m (omega arith) (All-tail (λ (q : Stamped). q.stamp ≤ m) p ps all)

pub top_published : (a : About) (s : State) (id : ℕ) → ClockRule a s → top (view_at s.views id).imports ≤ published_count s.origins
top_published a s id clocks =
    top_below (view_at s.views id).imports 0 (published_count s.origins) (omega arith)
    (All-weaker (Agrees s.origins) (λ (p : Stamped). p.stamp ≤ published_count s.origins)
    (λ p agrees.
    let is = agrees.is in
    let bound = (clocks.stamps p.var (omega arith)).1 in omega arith)
    (view_at s.views id).imports (clocks.imports id))

-- a pair still agrees after another variable got its origin word
agrees_set : (os : List ℕ) (x w : ℕ) (p : Stamped) → 0 < x → origin_of os x ≡ 0 → Agrees os p → Agrees (slice_set os (x - 1) w) p
agrees_set os x w p low free agrees =
    let positive = agrees.low in
    let is = agrees.is in record {
      low = agrees.low;
      high = let high = agrees.high in omega (arith, length-set os (x - 1) w);
      is = get_or-set_other os (x - 1) (p.var - 1) w 0
          (λ (e : p.var - 1 ≡ x - 1). let same : origin_of os p.var ≡ origin_of os x = ap (λ (k : ℕ). get_or os k 0) e in omega arith)
          ∙ agrees.is;
      some = agrees.some;
    }

abbrev mark : Bool → ℕ
mark b = cond b 1 0

named_one_same : (x stamp : ℕ) → named x (stamped x stamp ∷ []) ≡ 1
named_one_same x stamp = rw (eq-eqb x x refl) refl

named_one_other : (y x stamp : ℕ) → x ≢ y → named y (stamped x stamp ∷ []) ≡ 0
named_one_other y x stamp other = rw (ne_eqb x y other) refl

count_set : (os : List ℕ) (k w : ℕ) → k < length os → slice_index os k ≡ 0 → 0 < w
    → published_count (slice_set os k w) ≡ published_count os + 1
count_set os k w within free some =
    let new : mark (nat_lt 0 w) ≡ 1 = ap mark (lt-ltb 0 w some) in
    let old : mark (nat_lt 0 (slice_index os k)) ≡ 0 = ap (λ (n : ℕ). mark (nat_lt 0 n)) free in
    omega (arith, sum_by-set (λ (n : ℕ). mark (nat_lt 0 n)) os k w 0 within, new, old)

-- the state after a publish, at an origin word that was 0
published_at : (a : About) (s : State) (ws : List ℕ) (id x stamp : ℕ) → ClockRule a s → id < length s.views → 0 < x → x ≤ a.formula.vars
    → origin_of s.origins x ≡ 0 → MayPublish (view_at s.views id) x stamp
    → ClockRule a (record {
      words = ws;
      origins = slice_set s.origins (x - 1) (stamp + 1);
      views = slice_set s.views id (publish_view x stamp (view_at s.views id));
    })
published_at a s ws id x stamp clocks within low high free may =
    let os : List ℕ = s.origins in
    let size = clocks.size in
    let inside : x - 1 < length s.origins = omega arith in
    let more : published_count (slice_set s.origins (x - 1) (stamp + 1)) ≡ published_count s.origins + 1 =
    count_set s.origins (x - 1) (stamp + 1) inside free (omega arith) in
    let kept : (ps : List Stamped) → All (Agrees s.origins) ps → All (Agrees (slice_set s.origins (x - 1) (stamp + 1))) ps =
    All-weaker (Agrees s.origins) (Agrees (slice_set s.origins (x - 1) (stamp + 1))) (λ p agrees. agrees_set s.origins x (stamp + 1) p low free agrees) in
    let own : Agrees (slice_set s.origins (x - 1) (stamp + 1)) (stamped x stamp) = record {
      low = low;
      high = omega (arith, length-set s.origins (x - 1) (stamp + 1));
      is = get_or-set_same s.origins (x - 1) (stamp + 1) 0 inside;
      some = may.low;
    } in
    record {
      size = length-set s.origins (x - 1) (stamp + 1) ∙ clocks.size;
      stamps = λ y. at_set (λ (w : ℕ). 0 < w → (2 ≤ w) × (w ≤ published_count (slice_set s.origins (x - 1) (stamp + 1)) + 1))
          s.origins (x - 1) (y - 1) (stamp + 1) 0 inside
          (λ _ _. (let least = may.low in omega arith, omega (arith, may.high, more, top_published a s id clocks)))
          (λ _ some. let old = clocks.stamps y some in (old.0, omega (arith, old.1, more)));
      published_once = λ y low_y high_y.
          let total = sum_set (λ (v : View). named y v.published) s.views id (publish_view x stamp (view_at s.views id)) spent_view within in
          let parts = named-append y (view_at s.views id).published (stamped x stamp ∷ []) in
          let old = clocks.published_once y low_y high_y in
          at_set (λ (w : ℕ). sum_by (λ (v : View). named y v.published) (slice_set s.views id (publish_view x stamp (view_at s.views id))) ≡ min 1 w)
          s.origins (x - 1) (y - 1) (stamp + 1) 0 inside
          (λ here.
          let same : x ≡ y = omega arith in
          let one : named y (stamped x stamp ∷ []) ≡ 1 = subst (λ (z : ℕ). named z (stamped x stamp ∷ []) ≡ 1) same (named_one_same x stamp) in
          let zero_before : origin_of s.origins y ≡ 0 = subst (λ (z : ℕ). origin_of s.origins z ≡ 0) same free in
          omega arith)
          (λ other.
          let none : named y (stamped x stamp ∷ []) ≡ 0 = named_one_other y x stamp (λ (e : x ≡ y). other (omega arith)) in
          omega arith);
      fixed = λ j y. at_set (λ (v : View). named y v.published ≤ times y v.fixes) s.views id j (publish_view x stamp (view_at s.views id)) spent_view within
          (λ _.
          let parts = named-append y (view_at s.views id).published (stamped x stamp ∷ []) in
          let old = clocks.fixed id y in
          ⊎_elim
          (λ (same : x ≡ y).
          let one : named y (stamped x stamp ∷ []) ≡ 1 = subst (λ (z : ℕ). named z (stamped x stamp ∷ []) ≡ 1) same (named_one_same x stamp) in
          let none : named y (view_at s.views id).published ≡ 0 = subst (λ (z : ℕ). named z (view_at s.views id).published ≡ 0) same may.unpublished in
          let some : 1 ≤ times y (view_at s.views id).fixes = subst (λ (z : ℕ). 1 ≤ times z (view_at s.views id).fixes) same may.fixed in
          omega arith)
          (λ (other : x ≢ y). let none = named_one_other y x stamp other in omega arith)
          (cases_eq x y))
          (λ _. clocks.fixed j y);
      published = λ j. at_set (λ (v : View). All (Agrees (slice_set s.origins (x - 1) (stamp + 1))) v.published) s.views id j
          (publish_view x stamp (view_at s.views id)) spent_view within
          (λ _. All-push (Agrees (slice_set s.origins (x - 1) (stamp + 1))) (view_at s.views id).published (stamped x stamp)
          (kept (view_at s.views id).published (clocks.published id)) own)
          (λ _. kept (view_at s.views j).published (clocks.published j));
      imports = λ j. at_set (λ (v : View). All (Agrees (slice_set s.origins (x - 1) (stamp + 1))) v.imports) s.views id j
          (publish_view x stamp (view_at s.views id)) spent_view within
          (λ _. kept (view_at s.views id).imports (clocks.imports id))
          (λ _. kept (view_at s.views j).imports (clocks.imports j));
    }

pub clocks_publish : (a : About) (s : State) (ws : List ℕ) (id x stamp : ℕ) → ClockRule a s → id < length s.views → 0 < x → x ≤ a.formula.vars
    → origin_of s.origins x ≡ 0 → MayPublish (view_at s.views id) x stamp
    → ClockRule a (record {
      words = ws;
      origins = slice_set s.origins (x - 1) (bit_or (origin_of s.origins x) (stamp + 1));
      views = slice_set s.views id (publish_view x stamp (view_at s.views id));
    })
clocks_publish a s ws id x stamp clocks within low high free may =
    subst (λ (w : ℕ). ClockRule a (record {
      words = ws;
      origins = slice_set s.origins (x - 1) (bit_or w (stamp + 1));
      views = slice_set s.views id (publish_view x stamp (view_at s.views id));
    })) (sym free) (published_at a s ws id x stamp clocks within low high free may)

-- what an origin word tells agrees with it
pub told_agrees : (a : About) (s : State) (x w : ℕ) → ClockRule a s → 0 < x → x ≤ a.formula.vars → origin_of s.origins x ≡ w
    → All (Agrees s.origins) (told x w)
told_agrees a s x zero clocks low high is = All-nil (Agrees s.origins)
told_agrees a s x (suc stamp) clocks low high is =
    let size = clocks.size in
    All-cons (Agrees s.origins) (stamped x stamp) [] (record {
      low = low;
      high = omega arith;
      is = let e : suc stamp ≡ stamp + 1 = omega arith in is ∙ e;
      some = let least = (clocks.stamps x (omega arith)).0 in omega arith;
    }) (All-nil (Agrees s.origins))

pub clocks_origin : (a : About) (s : State) (ws : List ℕ) (id x : ℕ) → ClockRule a s → id < length s.views → 0 < x → x ≤ a.formula.vars
    → ClockRule a (record {
      words = ws;
      origins = s.origins;
      views = slice_set s.views id (origin_view x (origin_of s.origins x) (view_at s.views id));
    })
clocks_origin a s ws id x clocks within low high = record {
  size = clocks.size;
  stamps = clocks.stamps;
  published_once = λ y low_y high_y. omega (
    arith,
    clocks.published_once y low_y high_y,
    sum_set (λ (v : View). named y v.published) s.views id (origin_view x (origin_of s.origins x) (view_at s.views id)) spent_view within,
  );
  fixed = λ j y. at_set (λ (v : View). named y v.published ≤ times y v.fixes) s.views id j
      (origin_view x (origin_of s.origins x) (view_at s.views id)) spent_view within
      (λ _. clocks.fixed id y) (λ _. clocks.fixed j y);
  published = λ j. at_set (λ (v : View). All (Agrees s.origins) v.published) s.views id j
      (origin_view x (origin_of s.origins x) (view_at s.views id)) spent_view within
      (λ _. clocks.published id) (λ _. clocks.published j);
  imports = λ j. at_set (λ (v : View). All (Agrees s.origins) v.imports) s.views id j
      (origin_view x (origin_of s.origins x) (view_at s.views id)) spent_view within
      (λ _. All-append (Agrees s.origins) (view_at s.views id).imports (told x (origin_of s.origins x)) (clocks.imports id)
      (told_agrees a s x (origin_of s.origins x) clocks low high refl))
      (λ _. clocks.imports j);
}
