-- What was kept of one clause: each literal of it once, and no two of one variable.
use Rattle.std.proofs.Common.{◌≡◌, ◌≢◌, ℕ, ◌+◌, ◌*◌, ◌<◌, ◌≤◌, Bool, true, false, not, if◌then◌else◌, IsTrue, List, [], ◌∷◌, ◌++◌, length, All, Contains, take, drop, set, get_or, refl, sym, ap, ◌∙◌, subst, ⊎_elim, length-set, get_or-set_same, get_or-set_other, arith}
use Rattle.std.specs.List.{list_any}
use Rattle.std.proofs.lemmas.Bool.{cases_eq, both_ways}
use Rattle.std.proofs.lemmas.List.{length_push, take_more, take-append-drop, take_all, get_or_default}
use Rattle.std.proofs.lemmas.List.Elements.{Contains-push, Contains-push_cases, Contains-append_left, Contains-get_or, All-get_or}
use Rattle.std.proofs.lemmas.List.Quantifiers.{all_pairs_push}
use Rattle.cnf_core.specs.Literals.{Literal, Literals, Assignment, negated, code_of, is_true, clause_true}
use Rattle.cnf_core.proofs.Lists.{list_any_of_member, member_of_list_any}
use Rattle.cnf_core.proofs.Truth.{literal_of, is_true-negated}
use Rattle.local_search.specs.Steps.Kept.{Fits, AreStamps, HasSame, IsKept, WasKept, IsPut, IsKeptToo}

-- a literal of another packed form
pub apart_codes : (l m : Literal) → code_of l ≢ code_of m → code_of l ≢ code_of (negated m) → l.var ≢ m.var
apart_codes l m other opposite same = by_signs l.positive m.positive other opposite
  where
    by_signs : (p q : Bool) → (2 * l.var + (if p then 0 else 1) ≢ 2 * m.var + (if q then 0 else 1))
        → (2 * l.var + (if p then 0 else 1) ≢ 2 * m.var + (if not q then 0 else 1)) → ⊥
    by_signs true true other opposite = other (omega arith)
    by_signs true false other opposite = opposite (omega arith)
    by_signs false true other opposite = opposite (omega arith)
    by_signs false false other opposite = other (omega arith)

-- literals of one packed form are the same
pub same_code : (l m : Literal) → code_of l ≡ code_of m → l ≡ m
same_code l m same = by_parts l.var m.var l.positive m.positive same
  where
    by_parts : (v w : ℕ) (p q : Bool) → 2 * v + (if p then 0 else 1) ≡ 2 * w + (if q then 0 else 1)
        → literal_of v p ≡ literal_of w q
    by_parts v w true true e = let is : v ≡ w = omega arith in ap (λ (x : ℕ). literal_of x true) is
    by_parts v w true false e = absurd (omega arith)
    by_parts v w false true e = absurd (omega arith)
    by_parts v w false false e = let is : v ≡ w = omega arith in ap (λ (x : ℕ). literal_of x false) is

-- a literal that was kept already
kept_again : (n round : ℕ) (read : Literals) (seen : List ℕ) (kept : Literals) (l : Literal) → IsKept n round read seen kept
    → get_or seen (code_of l) 0 ≡ round → IsKept n round (read ++ l ∷ []) seen kept
kept_again n round read seen kept l k stamp = record {
  stamps = k.stamps;
  stamped = k.stamped;
  marked = k.marked;
  sound = λ m here. Contains-append_left read (l ∷ []) m (k.sound m here);
  whole = λ m here.
      ⊎_elim
      (λ (before : Contains read m). k.whole m before)
      (λ (own : l ≡ m). subst (λ (x : Literal). Contains kept x) own (k.stamped l stamp))
      (Contains-push_cases read l m here);
  apart = k.apart;
  shorter = omega (arith, k.shorter, length_push read l);
}

-- a literal that is kept now
kept_now : (n round : ℕ) (read : Literals) (seen : List ℕ) (kept : Literals) (l : Literal) → IsKept n round read seen kept
    → get_or seen (code_of l) 0 ≢ round → get_or seen (code_of (negated l)) 0 ≢ round → code_of l < n
    → IsKept n round (read ++ l ∷ []) (set seen (code_of l) round) (kept ++ l ∷ [])
kept_now n round read seen kept l k fresh plain fits = record {
  stamps = record { each = length-set seen (code_of l) round ∙ k.stamps.each; low = low };
  stamped = stamped;
  marked = marked;
  sound = λ m here.
      ⊎_elim
      (λ (before : Contains kept m). Contains-append_left read (l ∷ []) m (k.sound m before))
      (λ (own : l ≡ m). subst (λ (x : Literal). Contains (read ++ l ∷ []) x) own (Contains-push read l))
      (Contains-push_cases kept l m here);
  whole = λ m here.
      ⊎_elim
      (λ (before : Contains read m). Contains-append_left kept (l ∷ []) m (k.whole m before))
      (λ (own : l ≡ m). subst (λ (x : Literal). Contains (kept ++ l ∷ []) x) own (Contains-push kept l))
      (Contains-push_cases read l m here);
  apart = all_pairs_push (λ (x y : Literal). x.var ≢ y.var) kept l k.apart
      (λ i d below. other_var (get_or kept i d) (Contains-get_or kept i d below));
  shorter = omega (arith, k.shorter, length_push read l, length_push kept l);
}
  where
    other_var : (m : Literal) → Contains kept m → m.var ≢ l.var
    other_var m here = apart_codes m l
        (λ same. fresh (subst (λ code. get_or seen code 0 ≡ round) same (k.marked m here)))
        (λ same. plain (subst (λ code. get_or seen code 0 ≡ round) same (k.marked m here)))

    own : get_or (set seen (code_of l) round) (code_of l) 0 ≡ round
    own = get_or-set_same seen (code_of l) round 0 (omega (arith, k.stamps.each))

    low : (code : ℕ) → get_or (set seen (code_of l) round) code 0 < round + 1
    low code =
        ⊎_elim
        (λ (is : code ≡ code_of l). let at : get_or (set seen (code_of l) round) code 0 ≡ round =
        subst (λ x. get_or (set seen (code_of l) round) x 0 ≡ round) (sym is) own in omega arith)
        (λ (other : code ≢ code_of l). omega (arith, get_or-set_other seen (code_of l) code round 0 other, k.stamps.low code))
        (cases_eq code (code_of l))

    stamped : (m : Literal) → get_or (set seen (code_of l) round) (code_of m) 0 ≡ round → Contains (kept ++ l ∷ []) m
    stamped m is =
        ⊎_elim
        (λ (same : code_of m ≡ code_of l).
        subst (λ (x : Literal). Contains (kept ++ l ∷ []) x) (same_code l m (sym same)) (Contains-push kept l))
        (λ (other : code_of m ≢ code_of l).
        Contains-append_left kept (l ∷ []) m
        (k.stamped m (sym (get_or-set_other seen (code_of l) (code_of m) round 0 other) ∙ is)))
        (cases_eq (code_of m) (code_of l))

    marked : (m : Literal) → Contains (kept ++ l ∷ []) m → get_or (set seen (code_of l) round) (code_of m) 0 ≡ round
    marked m here =
        ⊎_elim
        (λ (before : Contains kept m).
        ⊎_elim
        (λ (same : code_of m ≡ code_of l).
        subst (λ x. get_or (set seen (code_of l) round) x 0 ≡ round) (sym same) own)
        (λ (other : code_of m ≢ code_of l).
        get_or-set_other seen (code_of l) (code_of m) round 0 other ∙ k.marked m before)
        (cases_eq (code_of m) (code_of l)))
        (λ (is : l ≡ m). subst (λ (x : Literal). get_or (set seen (code_of l) round) (code_of x) 0 ≡ round) is own)
        (Contains-push_cases kept l m here)

pub kept-more : (n round : ℕ) (read : Literals) (seen : List ℕ) (kept : Literals) (l : Literal) (seen' : List ℕ) (kept' : Literals)
    → IsKept n round read seen kept → get_or seen (code_of (negated l)) 0 ≢ round → code_of l < n
    → IsKeptToo l round seen kept seen' kept' → IsKept n round (read ++ l ∷ []) seen' kept'
kept-more n round read seen kept l seen' kept' k plain fits too =
    ⊎_elim
    (λ (was : WasKept l round seen kept seen' kept'). rw (was.same_stamps, was.same) (kept_again n round read seen kept l k was.stamp))
    (λ (put : IsPut l round seen kept seen' kept'). rw (put.stamps, put.more) (kept_now n round read seen kept l k put.fresh plain fits))
    too

-- lists with the same members have a member that passes at the same tests
same_any : {X : Type 0} (p : X → Bool) (xs ys : List X) → ((x : X) → Contains xs x → Contains ys x)
    → ((x : X) → Contains ys x → Contains xs x) → list_any p xs ≡ list_any p ys
same_any p xs ys there back =
    same_truth (list_any p xs) (list_any p ys)
    (λ some. let (x, here, passes) = member_of_list_any p xs some in list_any_of_member p ys x (there x here) passes)
    (λ some. let (x, here, passes) = member_of_list_any p ys some in list_any_of_member p xs x (back x here) passes)
  where
    same_truth : (b d : Bool) → (IsTrue b → IsTrue d) → (IsTrue d → IsTrue b) → b ≡ d
    same_truth true true f g = refl
    same_truth true false f g = absurd (both_ways false refl (f refl))
    same_truth false true f g = absurd (both_ways false refl (g refl))
    same_truth false false f g = refl

-- the whole clause was read
pub clean-whole : (n round : ℕ) (c : Literals) (i : ℕ) (seen : List ℕ) (kept : Literals) → IsKept n round (take i c) seen kept
    → length c ≤ i → HasSame c kept
clean-whole n round c i seen kept k all =
    let is : take i c ≡ c = take_all i c all in
    let at : IsKept n round c seen kept = subst (λ (r : Literals). IsKept n round r seen kept) is k in
    record {
      same = λ a. same_any (is_true a) kept c at.sound at.whole;
      sound = at.sound;
      apart = at.apart;
      shorter = at.shorter;
    }

contained_of_take : (i : ℕ) (c : Literals) (m : Literal) → Contains (take i c) m → Contains c m
contained_of_take i c m here =
    subst (λ (d : Literals). Contains d m) (take-append-drop i c) (Contains-append_left (take i c) (drop i c) m here)

-- a literal whose negation was kept
pub clean-always : (n round : ℕ) (c : Literals) (i : ℕ) (seen : List ℕ) (kept : Literals) (l : Literal)
    → IsKept n round (take i c) seen kept → i < length c → l ≡ get_or c i l → get_or seen (code_of (negated l)) 0 ≡ round
    → (a : Assignment) → IsTrue (clause_true a c)
clean-always n round c i seen kept l k below is stamp a =
    let own : Contains c l = subst (λ (x : Literal). Contains c x) (sym is) (Contains-get_or c i l below) in
    let other : Contains c (negated l) = contained_of_take i c (negated l) (k.sound (negated l) (k.stamped (negated l) stamp)) in
    by_value (is_true a l) refl own other
  where
    by_value : (b : Bool) → is_true a l ≡ b → Contains c l → Contains c (negated l) → IsTrue (clause_true a c)
    by_value true holds own other = list_any_of_member (is_true a) c l own holds
    by_value false fails own other = list_any_of_member (is_true a) c (negated l) other (is_true-negated a l ∙ ap not fails)

-- the literal that was read fits, and its stamp is what was read
pub fits_at : (n : ℕ) (c : Literals) (i : ℕ) (l : Literal) → All (Fits n) c → i < length c → l ≡ get_or c i l → Fits n l
fits_at n c i l fits below is = subst (Fits n) (sym is) (All-get_or (Fits n) c i l below fits)

pub stamp_read : (n bound : ℕ) (seen : List ℕ) (l : Literal) (code x : ℕ) → AreStamps bound n seen → code_of l < n → code ≡ code_of l
    → x ≡ get_or seen code x → get_or seen (code_of l) 0 ≡ x
stamp_read n bound seen l code x stamps fits code_is is =
    let at : x ≡ get_or seen (code_of l) x = subst (λ k. x ≡ get_or seen k x) code_is is in
    sym (at ∙ get_or_default seen (code_of l) x 0 (omega (arith, stamps.each)))

-- the next literal of the clause
pub kept-step : (n round : ℕ) (c : Literals) (i : ℕ) (seen : List ℕ) (kept : Literals) (l : Literal) (code x : ℕ) (seen' : List ℕ)
    (kept' : Literals) → All (Fits n) c → IsKept n round (take i c) seen kept → i < length c → l ≡ get_or c i l
    → code ≡ code_of (negated l) → x ≡ get_or seen code x → x ≢ round → IsKeptToo l round seen kept seen' kept'
    → IsKept n round (take (i + 1) c) seen' kept'
kept-step n round c i seen kept l code x seen' kept' fits k below is code_is x_is other too =
    let here = fits_at n c i l fits below is in
    let stamp = stamp_read n (round + 1) seen (negated l) code x k.stamps here.other code_is x_is in
    let more : take (i + 1) c ≡ take i c ++ l ∷ [] =
    take_more c i l below ∙ ap (λ (m : Literal). take i c ++ m ∷ []) (sym is) in
    rw more
    (kept-more n round (take i c) seen kept l seen' kept' k (λ same. other (sym stamp ∙ same)) here.own too)

pub always-step : (n round : ℕ) (c : Literals) (i : ℕ) (seen : List ℕ) (kept : Literals) (l : Literal) (code x : ℕ)
    → All (Fits n) c → IsKept n round (take i c) seen kept → i < length c → l ≡ get_or c i l
    → code ≡ code_of (negated l) → x ≡ get_or seen code x → x ≡ round → (a : Assignment) → IsTrue (clause_true a c)
always-step n round c i seen kept l code x fits k below is code_is x_is same =
    let here = fits_at n c i l fits below is in
    let stamp = stamp_read n (round + 1) seen (negated l) code x k.stamps here.other code_is x_is in
    clean-always n round c i seen kept l k below is (stamp ∙ same)
