-- Steps of a walk joined, and how many variables wait.
use Rattle.std.proofs.Common.{◌≡◌, ◌≢◌, ℕ, ◌+◌, ◌-◌, ◌*◌, ◌<◌, ◌≤◌, Bool, true, false, not, List, [], ◌∷◌, ◌++◌, length, Contains, take, get_or, IsTrue, refl, sym, ap, ◌∙◌, subst, ⊎_elim, length-set, length-append, arith}
use mathlib.Core.Bool.{beq}
use Rattle.std.proofs.lemmas.Bool.{cases_eq, true≢false}
use Rattle.std.proofs.lemmas.List.{take_more, get_or_append_left}
use Rattle.std.proofs.lemmas.List.Elements.{All-push, All-contains, Contains-append_left, Contains-push}
use Rattle.cnf_core.specs.Literals.{Assignment, value_of, with_value}
use Rattle.cnf_core.proofs.Truth.{value_of-with_value_other}
use Rattle.cnf_core.specs.Formulas.{IsModel}
use Rattle.model_check.specs.Flips.{flipped}
use Rattle.flip_literals.specs.declared.holds.Holds.{Holds}
use Rattle.flip_literals.specs.Listings.{Listing}
use Rattle.flip_literals.specs.Walks.{AreVars, IsWalked, differences}
use Rattle.flip_literals.specs.Steps.Passes.{Tells, IsFlipped}
use Rattle.flip_literals.specs.Steps.Marking.{IsListed, IsMarkedIn}
use Rattle.flip_literals.specs.Steps.Holding.{IsMade, IsHolding, IsAsBefore, IsFlip, IsWork}
use Rattle.flip_literals.proofs.Walked.{walked-same, walked-more, walked-flip, flips, IsPassing}
use Rattle.std.specs.Vec.{vec_len, vec_capacity}

pub differences-most : (first a : Assignment) → differences first a ≤ length first
differences-most [] a = omega arith
differences-most (x ∷ first) [] = omega arith
differences-most (true ∷ first) (true ∷ a) = omega (arith, differences-most first a)
differences-most (true ∷ first) (false ∷ a) = omega (arith, differences-most first a)
differences-most (false ∷ first) (true ∷ a) = omega (arith, differences-most first a)
differences-most (false ∷ first) (false ∷ a) = omega (arith, differences-most first a)

pub made_before : (n : ℕ) (h k : Holds) → IsMade n h → IsAsBefore h k → IsMade n k
made_before n h k made same = record {
  each = same.each ∙ made.each;
  begins = same.begins ∙ made.begins;
  marks = ap length same.listed ∙ made.marks;
  vars = rw same.flipped made.vars;
  room = rw same.flipped made.room;
}

pub holding_before : (o : Listing) (h k : Holds) (a : Assignment) → IsHolding o h a → IsAsBefore h k → IsHolding o k a
holding_before o h k a holding same = record {
  made = made_before o.formula.vars h k holding.made same;
  is_model = holding.is_model;
  flips = rw same.flipped holding.flips;
}

pub flip-none : (o : Listing) (h k : Holds) (a : Assignment) → IsHolding o h a → IsAsBefore h k → IsFlip o h a k a
flip-none o h k a holding same = record {
  holding = holding_before o h k a holding same;
  listed = same.listed;
  flips = rw same.flipped (omega arith);
  more = omega arith;
}

pub work-none : (o : Listing) (h k : Holds) (a : Assignment) → IsHolding o h a → IsAsBefore h k → IsWork o h a k a
work-none o h k a holding same = record {
  flip = flip-none o h k a holding same;
  walked = λ candidates listed. walked-same o candidates a holding.is_model;
}

before_itself : (h : Holds) → IsAsBefore h h
before_itself h = record { each = refl; begins = refl; listed = refl; flipped = refl }

pub work-same : (o : Listing) (h : Holds) (a : Assignment) → IsHolding o h a → IsWork o h a h a
work-same o h a holding = work-none o h h a holding (before_itself h)

pub work-more : (o : Listing) (h k m : Holds) (a b d : Assignment) → IsWork o h a k b → IsWork o k b m d → IsWork o h a m d
work-more o h k m a b d first second = record {
  flip = record {
    holding = second.flip.holding;
    listed = second.flip.listed ∙ first.flip.listed;
    flips = omega (arith, first.flip.flips, second.flip.flips);
    more = omega (arith, first.flip.more, second.flip.more);
  };
  walked = λ candidates listed.
      walked-more o candidates a b d (first.walked candidates listed)
      (second.walked candidates (subst (λ (marks : List Bool). IsMarkedIn marks candidates) (sym first.flip.listed) listed));
}

-- one flip of a marked variable, or none
pub work-flip : (o : Listing) (h k m : Holds) (a b : Assignment) (v : ℕ) (flips : Bool) → IsHolding o h a → IsAsBefore h k
    → IsListed h.listed v → IsFlip o k a m b → Tells o v a b flips → IsWork o h a m b
work-flip o h k m a b v flips holding same listed flip tells = record {
  flip = record {
    holding = flip.holding;
    listed = flip.listed ∙ same.listed;
    flips = omega (arith, flip.flips, ap (λ (vs : List ℕ). length vs) (ap (λ (f : _). f.items) same.flipped));
    more = flip.more;
  };
  walked = walked flips tells;
}
  where
    walked : (flips : Bool) → Tells o v a b flips → (candidates : List ℕ) → IsMarkedIn h.listed candidates
        → IsWalked o candidates a b
    walked true tells candidates all =
        subst (IsWalked o candidates a) (sym tells.is)
        (walked-flip o candidates a v holding.is_model.values listed.low
        (subst (λ n. v ≤ n) holding.made.marks listed.high) (all v listed) tells.first
        (subst (IsModel o.formula) tells.is tells.is_model))
    walked false tells candidates all =
        subst (IsWalked o candidates a) (sym tells.same) (walked-same o candidates a holding.is_model)

-- further flips of candidates in a pass that has flipped one
pub passing-worked : (o : Listing) (vs : List ℕ) (i : ℕ) (h k : Holds) (a b d : Assignment) → IsPassing o vs i a b true
    → IsMarkedIn h.listed vs → IsWork o h b k d → IsPassing o vs i a d true
passing-worked o vs i h k a b d so_far listed work = record {
  walked = walked-more o vs a b d so_far.walked (work.walked vs listed);
  told = omega (arith, so_far.told, work.flip.more);
}

-- one candidate more is marked
pub marked-more : (marks : List Bool) (vs : List ℕ) (i v : ℕ) → IsMarkedIn marks (take i vs) → i < length vs → v ≡ get_or vs i 0
    → 0 < v → IsMarkedIn (with_value marks v true) (take (i + 1) vs)
marked-more marks vs i v so_far below is low w listed =
    let more : take (i + 1) vs ≡ take i vs ++ v ∷ [] =
    take_more vs i 0 below ∙ ap (λ (n : ℕ). take i vs ++ n ∷ []) (sym is) in
    subst (λ (us : List ℕ). Contains us w) (sym more)
    (⊎_elim
    (λ (own : w ≡ v). subst (λ u. Contains (take i vs ++ v ∷ []) u) (sym own) (Contains-push (take i vs) v))
    (λ (other : w ≢ v).
    Contains-append_left (take i vs) (v ∷ []) w
    (so_far w
    (record {
      low = listed.low;
      high = omega (arith, listed.high, length-set marks (v - 1) true);
      marked = subst (λ (b : Bool). IsTrue b) (value_of-with_value_other marks v w true low listed.low other) listed.marked;
    })))
    (cases_eq w v))

-- one variable more waits
pub flip-pushed : (o : Listing) (h k m : Holds) (a b : Assignment) (v : ℕ) → IsHolding o h a → IsAsBefore h k
    → IsFlipped o v a b → 0 < v → v ≤ o.formula.vars → length m.holders.items ≡ length k.holders.items
    → length m.begins.items ≡ length k.begins.items → m.listed ≡ k.listed
    → m.flipped.items ≡ k.flipped.items ++ v ∷ [] → vec_capacity m.flipped ≡ vec_capacity k.flipped → IsFlip o h a m b
flip-pushed o h k m a b v holding same flip low high each begins listed items room =
    let kept = holding_before o h k a holding same in
    let long : length m.flipped.items ≡ length k.flipped.items + 1 = omega (arith, ap (λ (vs : List ℕ). length vs) items, length-append k.flipped.items (v ∷ [])) in
    let was : length k.flipped.items ≡ length h.flipped.items = ap (λ (f : _). length f.items) same.flipped in
    record {
      holding = record {
        made = record {
          each = each ∙ kept.made.each;
          begins = begins ∙ kept.made.begins;
          marks = ap length listed ∙ kept.made.marks;
          vars = rw items (All-push (λ (w : ℕ). (0 < w) × (w ≤ o.formula.vars)) k.flipped.items v kept.made.vars (low, high));
          room = omega (arith, room, kept.made.room);
        };
        is_model = flip.is_model;
        flips = omega (arith, long, kept.flips, flip.more);
      };
      listed = listed ∙ same.listed;
      flips = omega (arith, long, was, flip.more);
      more = omega (arith, flip.more);
    }

-- there is room for one variable more
pub flip-room : (o : Listing) (h k : Holds) (a b : Assignment) (v : ℕ) → IsHolding o h a → IsAsBefore h k → IsFlipped o v a b
    → length o.first ≡ o.formula.vars → vec_len k.flipped ≡ length k.flipped.items → vec_len k.flipped < vec_capacity k.flipped
flip-room o h k a b v holding same flip each long =
    let kept = holding_before o h k a holding same in
    omega (arith, kept.made.room, kept.flips, flip.more, differences-most o.first b, each, long)

popped_vars : (n : ℕ) (rest : List ℕ) (v : ℕ) → AreVars n (rest ++ v ∷ []) → AreVars n rest
popped_vars n rest v all k d below =
    let long : k < length (rest ++ v ∷ []) = omega (arith, below, length-append rest (v ∷ [])) in
    subst (λ (w : ℕ). (0 < w) × (w ≤ n)) (get_or_append_left rest (v ∷ []) d k below) (all k d long)

-- the last one that waits
pub last_var : (n : ℕ) (rest : List ℕ) (v : ℕ) → AreVars n (rest ++ v ∷ []) → (0 < v) × (v ≤ n)
last_var n rest v all = All-contains (λ (w : ℕ). (0 < w) × (w ≤ n)) (rest ++ v ∷ []) v all (Contains-push rest v)

-- one variable less waits
pub work-popped : (o : Listing) (h k m : Holds) (a b : Assignment) (rest : List ℕ) (v : ℕ) → IsWork o h a k b
    → m.holders ≡ k.holders → m.begins ≡ k.begins → m.listed ≡ k.listed → k.flipped.items ≡ rest ++ v ∷ [] → m.flipped.items ≡ rest
    → vec_capacity m.flipped ≡ vec_capacity k.flipped → IsWork o h a m b
work-popped o h k m a b rest v work holders begins listed was is room = record {
  flip = record {
    holding = record {
      made = record {
        each = ap (λ (f : _). length f.items) holders ∙ work.flip.holding.made.each;
        begins = ap (λ (f : _). length f.items) begins ∙ work.flip.holding.made.begins;
        marks = ap length listed ∙ work.flip.holding.made.marks;
        vars = rw is (popped_vars o.formula.vars rest v (rw was at work.flip.holding.made.vars));
        room = omega (arith, room, work.flip.holding.made.room);
      };
      is_model = work.flip.holding.is_model;
      flips = omega (arith, shorter, work.flip.holding.flips);
    };
    listed = listed ∙ work.flip.listed;
    flips = omega (arith, shorter, work.flip.flips);
    more = work.flip.more;
  };
  walked = work.walked;
}
  where
    shorter : length m.flipped.items + 1 ≡ length k.flipped.items
    shorter = omega (arith, ap (λ (vs : List ℕ). length vs) was, ap (λ (vs : List ℕ). length vs) is, length-append rest (v ∷ []))

same_of : (x y : Bool) → not (beq x y) ≡ false → x ≡ y
same_of true true e = refl
same_of false false e = refl
same_of true false e = absurd (true≢false e)
same_of false true e = absurd (true≢false e)

-- a variable that is set to the other value
pub flip-told : (o : Listing) (a m : Assignment) (v : ℕ) (value first : Bool) → IsModel o.formula a
    → length o.first ≡ o.formula.vars → 0 < v → v ≤ o.formula.vars → value ≡ value_of a v → first ≡ value_of o.first v
    → not (beq value first) ≡ false → IsModel o.formula (flipped a v) → m ≡ with_value a v (not value) → IsFlipped o v a m
flip-told o a m v value first model each low high own other same free is =
    subst (IsFlipped o v a) (sym (is ∙ ap (λ (b : Bool). with_value a v (not b)) own))
    (flips o a v each model.values low high (sym own ∙ same_of value first same ∙ other) free)

-- each flip adds one that waits, and leaves one less to flip
pub follow-smaller : (o : Listing) (k m q : Holds) (b d : Assignment) (rest : List ℕ) (v : ℕ) → k.flipped.items ≡ rest ++ v ∷ []
    → m.flipped.items ≡ rest → IsWork o m b q d
    → 2 * (length o.first - differences o.first d) + length q.flipped.items < 2 * (length o.first - differences o.first b) + length k.flipped.items
follow-smaller o k m q b d rest v was is work =
    let shorter : length m.flipped.items + 1 ≡ length k.flipped.items = omega (arith, ap (λ (vs : List ℕ). length vs) was, ap (λ (vs : List ℕ). length vs) is, length-append rest (v ∷ [])) in
    omega (arith, shorter, work.flip.flips, work.flip.more, differences-most o.first d)
