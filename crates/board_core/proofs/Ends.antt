-- The opening meets the rules, and what the root knows where no other view is left.
use Rattle.std.proofs.Common.{◌≡◌, ◌≢◌, ℕ, zero, suc, ◌+◌, ◌-◌, ◌*◌, ◌/◌, ◌%◌, ◌^◌, ◌<◌, ◌≤◌, Bool, true, false, cond, List, [], ◌∷◌, length, replicate, refl, sym, ap, ◌∙◌, subst, ⊎_elim, arith, true≢false, Contains}
use Rattle.std.specs.Prelude.{nat_lt, nat_eq, not, ◌&&◌, slice_index, All}
use Rattle.std.specs.Int.{bit_at}
use Rattle.std.specs.List.{sum_by}
use Rattle.std.proofs.lemmas.Bool.{cases_eq, cases_lt, ne_eqb}
use Rattle.std.proofs.lemmas.List.{length-replicate, get_or-replicate, get_or_past}
use Rattle.std.proofs.lemmas.List.FromFn.{get_or-map-range_with_len, length-map-range_with_len}
use Rattle.std.proofs.lemmas.List.Elements.{All-nil, All-contains}
use Rattle.std.proofs.lemmas.List.Sums.{sum_by-cons, count_by-le-length}
use Rattle.std.proofs.Math.Pow.{pow_mono}
use Rattle.std.proofs.Math.Nat.{pow-suc}
use mir.Val.{bool_byte}
use Rattle.std.proofs.lemmas.Nat.Bits.{bit_at-lt, bit_at-suc, bit_at_lowest, bit_at-zero}
use Rattle.cnf_core.specs.Literals.{IsWithin}
use Rattle.cnf_core.specs.Formulas.{Cnf, is_shown}
use Rattle.cnf_core.proofs.Lists.{Contains-head, Contains-tail}
use Rattle.cnf_core.proofs.Shown.{shown_within}
use Rattle.board_core.specs.Subjects.{About, groups, flag, candidate, Entailed}
use Rattle.board_core.specs.Words.{alive, fixed, Inside, newly, times, named, word_from, opening_word}
use Rattle.board_core.specs.Boards.{State, spent_view, view_at, origin_of, opening_words, root_view, opening}
use Rattle.board_core.specs.Rules.{AreWords, Fits, child_at, AreTrue, BoardRule, ClockRule, Agrees, IsSound, Tells}
use Rattle.board_core.specs.declared.view.Stamped.{Stamped}
use Rattle.board_core.specs.declared.view.View.{View}
use Rattle.board_core.proofs.Steps.{earlier_refl}
use Rattle.board_core.proofs.Seats.{no_child}
use Rattle.board_core.proofs.Bits.{newly_bit}
use Rattle.board_core.proofs.Clocks.{sum_below}

pub flag-lt : (b : Bool) → flag b < 2
flag-lt true = omega arith
flag-lt false = omega arith

pub candidate-lt : (F : Cnf) (x : ℕ) → candidate F x < 2
unfolding candidate
candidate-lt F x = flag-lt (is_shown F x)

-- a candidate is one of the formula's variables
pub candidate_within : (F : Cnf) (x : ℕ) → 1 ≤ candidate F x → IsWithin F.vars (record { var = x; positive = true })
unfolding candidate
candidate_within F x some = shown_within F (record { var = x; positive = true }) (by_test (is_shown F x) some)
  where
    by_test : (b : Bool) → 1 ≤ flag b → b ≡ true
    by_test true some = refl
    by_test false some = absurd (omega arith)

pub candidate_past : (F : Cnf) (x : ℕ) → F.vars < x → candidate F x ≡ 0
candidate_past F x past =
    ⊎_elim (λ (h : candidate F x < 1). omega arith)
    (λ (h : 1 ≤ candidate F x). let high = (candidate_within F x h).high in absurd (omega arith))
    (cases_lt (candidate F x) 1)

-- The bits of an opening word.
pub word_from_bit : (F : Cnf) (x k i y : ℕ) → i < k → x + i ≡ y → bit_at (word_from F x k) i ≡ candidate F y
unfolding word_from
word_from_bit F x zero i y within is = absurd (omega arith)
word_from_bit F x (suc k) zero y within is =
    let same : x ≡ y = omega arith in
    let one : candidate F x < 2 = candidate-lt F x in
    let e : candidate F x ≡ candidate F y = ap (candidate F) same in
    omega (arith, bit_at_lowest (candidate F x + 2 * word_from F (suc x) k), one, e)
word_from_bit F x (suc k) (suc i) y within is =
    let one : candidate F x < 2 = candidate-lt F x in
    let half : (candidate F x + 2 * word_from F (suc x) k) / 2 ≡ word_from F (suc x) k = omega arith in
    bit_at-suc (candidate F x + 2 * word_from F (suc x) k) i
    ∙ ap (λ (n : ℕ). bit_at n i) half ∙ word_from_bit F (suc x) k i y (omega arith) (omega arith)

pub word_from_above : (F : Cnf) (x k i : ℕ) → k ≤ i → bit_at (word_from F x k) i ≡ 0
unfolding word_from
word_from_above F x zero i past = bit_at-zero i
word_from_above F x (suc k) zero past = absurd (omega arith)
word_from_above F x (suc k) (suc i) past =
    let one : candidate F x < 2 = candidate-lt F x in
    let half : (candidate F x + 2 * word_from F (suc x) k) / 2 ≡ word_from F (suc x) k = omega arith in
    bit_at-suc (candidate F x + 2 * word_from F (suc x) k) i
    ∙ ap (λ (n : ℕ). bit_at n i) half ∙ word_from_above F (suc x) k i (omega arith)

pub opening_alive : (F : Cnf) (g i : ℕ) → i < 32 → bit_at (opening_word F g) i ≡ candidate F (suc (32 * g + i))
unfolding opening_word
opening_alive F g i within = word_from_bit F (suc (32 * g)) 32 i (suc (32 * g + i)) within (omega arith)

pub opening_fixed : (F : Cnf) (g i : ℕ) → bit_at (opening_word F g) (32 + i) ≡ 0
unfolding opening_word
opening_fixed F g i = word_from_above F (suc (32 * g)) 32 (32 + i) (omega arith)

opening_at : (F : Cnf) (g : ℕ) → g < groups F.vars → slice_index (opening_words F) g ≡ opening_word F g
opening_at F g low = get_or-map-range_with_len (opening_word F) 0 (groups F.vars) g g 0 low (omega arith)

pub opening_are_words : (a : About) → AreWords a (opening_words a.formula)
opening_are_words a = record {
  size = length-map-range_with_len (opening_word a.formula) 0 (groups a.formula.vars);
  inside = λ g low. subst (λ (w : ℕ). Inside a.formula g w) (sym (opening_at a.formula g low))
      (λ i within. (omega (arith, opening_alive a.formula g i within), omega (arith, opening_fixed a.formula g i)));
}

-- a variable past the groups
past_groups : (F : Cnf) (c : ℕ) → groups F.vars ≤ c / 32 → F.vars < suc c
past_groups F c past = omega arith

pub opening_alive_at : (F : Cnf) (x : ℕ) → alive (opening_words F) x ≡ candidate F x
unfolding candidate
opening_alive_at F zero = refl
opening_alive_at F (suc c) =
    ⊎_elim
    (λ (low : c / 32 < groups F.vars).
    let place : 32 * (c / 32) + c % 32 ≡ c = omega arith in
    ap (λ (w : ℕ). bit_at w (c % 32)) (opening_at F (c / 32) low)
    ∙ opening_alive F (c / 32) (c % 32) (omega arith) ∙ ap (λ (k : ℕ). candidate F (suc k)) place)
    (λ (past : groups F.vars ≤ c / 32).
    ap (λ (w : ℕ). bit_at w (c % 32)) (get_or_past (opening_words F) (c / 32) 0
    (omega (arith, length-map-range_with_len (opening_word F) 0 (groups F.vars))))
    ∙ bit_at-zero (c % 32) ∙ sym (candidate_past F (suc c) (past_groups F c past)))
    (cases_lt (c / 32) (groups F.vars))

pub opening_fixed_at : (F : Cnf) (x : ℕ) → fixed (opening_words F) x ≡ 0
opening_fixed_at F zero = refl
opening_fixed_at F (suc c) =
    ⊎_elim
    (λ (low : c / 32 < groups F.vars).
    ap (λ (w : ℕ). bit_at w (32 + c % 32)) (opening_at F (c / 32) low) ∙ opening_fixed F (c / 32) (c % 32))
    (λ (past : groups F.vars ≤ c / 32).
    ap (λ (w : ℕ). bit_at w (32 + c % 32)) (get_or_past (opening_words F) (c / 32) 0
    (omega (arith, length-map-range_with_len (opening_word F) 0 (groups F.vars))))
    ∙ bit_at-zero (32 + c % 32))
    (cases_lt (c / 32) (groups F.vars))

-- every place behind the root is spent at the opening
opening_views : (a : About) (P : ℕ → View → Type 0) → P 0 (root_view a) → ((j : ℕ) → P (suc j) spent_view) → (j : ℕ) → P j (view_at (root_view a ∷ []) j)
opening_views a P root rest zero = root
opening_views a P root rest (suc j) = rest j

pub opens : (a : About) → BoardRule a (opening a)
opens a = record {
  words = opening_are_words a;
  truth = record {
    against = λ x is gone. let all = opening_alive_at a.formula x in absurd (omega arith);
    entailed = λ x is here. let none = opening_fixed_at a.formula x in absurd (omega arith);
  };
  views = opening_views a (λ j v. v.spent ≡ false → Fits a (opening_words a.formula) j v)
      (λ _. record {
        about = refl;
        number = refl;
        seen = opening_are_words a;
        loaded = opening_are_words a;
        loads_length = length-replicate (groups a.formula.vars) 0;
        looks_length = length-replicate a.formula.vars 0;
        loaded_seen = λ g _. earlier_refl (slice_index (opening_words a.formula) g);
        seen_word = λ g _. earlier_refl (slice_index (opening_words a.formula) g);
      })
      (λ j is. absurd (true≢false is));
  spent = opening_views a (λ j v. v.spent ≡ true → v ≡ spent_view) (λ is. absurd (true≢false (sym is))) (λ j _. refl);
  dropped_once = λ x. let all = opening_alive_at a.formula x in omega (arith, all);
  fixed_once = λ x. sym (opening_fixed_at a.formula x);
  rooted = record {
    root = refl;
    next = refl;
    out = opening_views a (λ j v. 0 ≡ flag (nat_lt 0 j && not v.spent)) refl (λ j. sym (no_child (root_view a ∷ []) (suc j) (omega arith)));
  };
}

origin_opening : (n x : ℕ) → origin_of (replicate n 0) x ≡ 0
origin_opening n x =
    ⊎_elim (λ (low : x - 1 < n). get_or-replicate n (x - 1) 0 0 low)
    (λ (past : n ≤ x - 1). get_or_past (replicate n 0) (x - 1) 0 (omega (arith, length-replicate {A = ℕ} n 0)))
    (cases_lt (x - 1) n)

pub clocks_open : (a : About) → ClockRule a (opening a)
clocks_open a = record {
  size = length-replicate a.formula.vars 0;
  stamps = λ x some. let none = origin_opening a.formula.vars x in absurd (omega arith);
  published_once = λ x low high. let none = origin_opening a.formula.vars x in omega (arith, none);
  fixed = λ j x. opening_views a (λ k v. named x v.published ≤ times x v.fixes) (omega arith) (λ k. omega arith) j;
  published = opening_views a (λ j v. All (Agrees (replicate a.formula.vars 0)) v.published) (All-nil (Agrees (replicate a.formula.vars 0)))
      (λ j. All-nil (Agrees (replicate a.formula.vars 0)));
  imports = opening_views a (λ j v. All (Agrees (replicate a.formula.vars 0)) v.imports) (All-nil (Agrees (replicate a.formula.vars 0)))
      (λ j. All-nil (Agrees (replicate a.formula.vars 0)));
}

-- What the rules tell of words and origin words.
pub fixed_candidate : (a : About) (ws : List ℕ) (x : ℕ) → AreWords a ws → fixed ws x ≤ candidate a.formula x
fixed_candidate a ws zero words = omega arith
fixed_candidate a ws (suc c) words =
    ⊎_elim
    (λ (low : c / 32 < groups a.formula.vars).
    let place : 32 * (c / 32) + c % 32 ≡ c = omega arith in
    let bits = (words.inside (c / 32) low (c % 32) (omega arith)).1 in
    let same : candidate a.formula (suc (32 * (c / 32) + c % 32)) ≡ candidate a.formula (suc c) = ap (λ (k : ℕ). candidate a.formula (suc k)) place in
    omega arith)
    (λ (past : groups a.formula.vars ≤ c / 32).
    let none : fixed ws (suc c) ≡ 0 = ap (λ (w : ℕ). bit_at w (32 + c % 32)) (get_or_past ws (c / 32) 0 (omega (arith, words.size))) ∙ bit_at-zero (32 + c % 32) in
    omega arith)
    (cases_lt (c / 32) (groups a.formula.vars))

-- what a word says is so
pub word_sound : (a : About) (ws : List ℕ) (g : ℕ) → AreWords a ws → AreTrue a ws → g < groups a.formula.vars → IsSound a g (slice_index ws g)
word_sound a ws g words truth low =
    let at : (i : ℕ) → i < 32 → ((32 * g + i) / 32 ≡ g) × ((32 * g + i) % 32 ≡ i) = λ i within. (omega arith, omega arith) in record {
      inside = words.inside g low;
      against = λ i within is gone. truth.against (suc (32 * g + i)) is
          (ap (λ (h : ℕ). bit_at (slice_index ws h) ((32 * g + i) % 32)) (at i within).0 ∙ ap (bit_at (slice_index ws g)) (at i within).1 ∙ gone);
      entailed = λ i within is here. truth.entailed (suc (32 * g + i)) is
          (ap (λ (h : ℕ). bit_at (slice_index ws h) (32 + (32 * g + i) % 32)) (at i within).0
          ∙ ap (λ (k : ℕ). bit_at (slice_index ws g) (32 + k)) (at i within).1 ∙ here);
    }

-- a variable that was imported is fixed, and entailed
pub imported_fixed : (a : About) (s : State) (x : ℕ) → BoardRule a s → ClockRule a s → 0 < x → x ≤ a.formula.vars → 0 < origin_of s.origins x
    → 1 ≤ fixed s.words x
imported_fixed a s x rule clocks low high some =
    omega (
      arith,
      clocks.published_once x low high,
      rule.fixed_once x,
      sum_below (λ (v : View). named x v.published) (λ (v : View). times x v.fixes) s.views (λ j. clocks.fixed j x),
    )

pub origin_entailed : (a : About) (s : State) (x : ℕ) → BoardRule a s → ClockRule a s → 0 < x → x ≤ a.formula.vars → 0 < origin_of s.origins x
    → Entailed a x
origin_entailed a s x rule clocks low high some =
    let here = imported_fixed a s x rule clocks low high some in
    let most = fixed_candidate a s.words x rule.words in
    let one = candidate-lt a.formula x in
    rule.truth.entailed x (omega arith) (omega arith)

-- Closing.
sum_spent : (f : View → ℕ) (vs : List View) → f spent_view ≡ 0 → ((j : ℕ) → j < length vs → view_at vs j ≡ spent_view) → sum_by f vs ≡ 0
sum_spent f [] none all = refl
sum_spent f (v ∷ vs) none all =
    let first : f v ≡ f spent_view = ap f (all 0 (omega arith)) in
    omega (arith, sum_by-cons f v vs, first, none, sum_spent f vs none (λ j low. all (suc j) (omega arith)))

sum_alone : (f : View → ℕ) (vs : List View) → f spent_view ≡ 0 → ((j : ℕ) → 0 < j → view_at vs j ≡ spent_view) → sum_by f vs ≡ f (view_at vs 0)
sum_alone f [] none all = sym none
sum_alone f (v ∷ vs) none all =
    let rest : sum_by f vs ≡ 0 = sum_spent f vs none (λ j _. all (suc j) (omega arith)) in
    omega (arith, sum_by-cons f v vs, rest)

-- where no view is out, all behind the root are spent
alone : (a : About) (s : State) → BoardRule a s → (view_at s.views 0).out ≡ [] → (j : ℕ) → 0 < j → view_at s.views j ≡ spent_view
alone a s rule none zero behind = absurd (omega arith)
alone a s rule none (suc j) behind =
    let empty : child_at s.views (suc j) ≡ 0 = sym (rule.rooted.out (suc j)) ∙ ap (times (suc j)) none in
    rule.spent (suc j) (by_test (view_at s.views (suc j)).spent (ap (λ b. flag (b && not (view_at s.views (suc j)).spent)) (sym (later j)) ∙ empty))
  where
    later : (k : ℕ) → nat_lt 0 (suc k) ≡ true
    later k = grind arith

    by_test : (b : Bool) → flag (true && not b) ≡ 0 → b ≡ true
    by_test true is = refl
    by_test false is = absurd (omega arith)

-- a variable that the list names has a stamp there
pub record IsNamed (x : ℕ) (ps : List Stamped) : Type 0 where
  pub pair : Stamped
  pub among : Contains ps pair
  pub var : pair.var ≡ x

abbrev mark : Bool → ℕ
mark b = cond b 1 0

pub named_at : (x : ℕ) (ps : List Stamped) → 1 ≤ named x ps → IsNamed x ps
named_at x [] some = absurd (omega arith)
named_at x (p ∷ ps) some =
    ⊎_elim
    (λ (same : p.var ≡ x). record { pair = p; among = Contains-head p ps; var = same })
    (λ (other : p.var ≢ x).
    let none : mark (nat_eq p.var x) ≡ 0 = ap mark (ne_eqb p.var x other) in
    let found = named_at x ps (omega (arith, sum_by-cons (λ (q : Stamped). mark (nat_eq q.var x)) p ps, none)) in
    record { pair = found.pair; among = Contains-tail p ps found.pair found.among; var = found.var })
    (cases_eq p.var x)

-- pairs that agree with the same origin words are equal where their variables are
same_pair : (os : List ℕ) (p q : Stamped) → Agrees os p → Agrees os q → p.var ≡ q.var → p ≡ q
same_pair os p q left right var =
    let word : origin_of os p.var ≡ origin_of os q.var = ap (origin_of os) var in
    let ls = left.is in
    let rs = right.is in
    let stamp : p.stamp ≡ q.stamp = omega arith in
    λ i. record { var = var i; stamp = stamp i }

pub closes : (a : About) (s : State) → BoardRule a s → ClockRule a s → (view_at s.views 0).out ≡ [] → Tells a s.words (view_at s.views 0)
closes a s rule clocks none =
    let root = rule.rooted.root in
    let fits = rule.views 0 root in
    let rest : (j : ℕ) → 0 < j → view_at s.views j ≡ spent_view = alone a s rule none in record {
      words = rule.words;
      truth = rule.truth;
      later = fits.seen_word;
      drops = λ x. omega (arith, rule.dropped_once x, sum_alone (λ (v : View). times x v.drops) s.views refl rest);
      fixes = λ x. omega (arith, rule.fixed_once x, sum_alone (λ (v : View). times x v.fixes) s.views refl rest);
      imports = λ p here.
          let agrees = All-contains (Agrees s.origins) (view_at s.views 0).imports p (clocks.imports 0) here in
          let low = agrees.low in
          let high = agrees.high in
          let size = clocks.size in
          let is = agrees.is in
          let within : p.var ≤ a.formula.vars = omega arith in
          let one : 1 ≤ named p.var (view_at s.views 0).published =
          omega (arith, clocks.published_once p.var low within, sum_alone (λ (v : View). named p.var v.published) s.views refl rest) in
          let found = named_at p.var (view_at s.views 0).published one in
          subst (λ q. Contains (view_at s.views 0).published q)
          (same_pair s.origins found.pair p
          (All-contains (Agrees s.origins) (view_at s.views 0).published found.pair (clocks.published 0) found.among) agrees found.var)
          found.among;
    }

-- a bit that a view sets is none of a variable that it has imported
pub own_win : (a : About) (s : State) (id g mask i : ℕ) → BoardRule a s → ClockRule a s → i < 32
    → bit_at (newly (slice_index s.words g) mask) i ≡ 1 → named (suc (32 * g + i)) (view_at s.views id).imports ≡ 0
own_win a s id g mask i rule clocks within won =
    ⊎_elim
    (λ (none : named (suc (32 * g + i)) (view_at s.views id).imports < 1). omega arith)
    (λ (some : 1 ≤ named (suc (32 * g + i)) (view_at s.views id).imports).
    let x : ℕ = suc (32 * g + i) in
    let found = named_at (suc (32 * g + i)) (view_at s.views id).imports some in
    let agrees = All-contains (Agrees s.origins) (view_at s.views id).imports found.pair (clocks.imports id) found.among in
    let is : origin_of s.origins (suc (32 * g + i)) ≡ found.pair.stamp + 1 = ap (origin_of s.origins) (sym found.var) ∙ agrees.is in
    let size = clocks.size in
    let high = agrees.high in
    let var = found.var in
    let fixed_is = imported_fixed a s (suc (32 * g + i)) rule clocks (omega arith) (omega arith) (omega arith) in
    let group : (32 * g + i) / 32 ≡ g = omega arith in
    let place : (32 * g + i) % 32 ≡ i = omega arith in
    let bit : fixed s.words (suc (32 * g + i)) ≡ bit_at (slice_index s.words g) (32 + i) =
    ap (λ (h : ℕ). bit_at (slice_index s.words h) (32 + (32 * g + i) % 32)) group ∙ ap (λ (k : ℕ). bit_at (slice_index s.words g) (32 + k)) place in
    absurd (omega (arith, newly_bit (slice_index s.words g) mask i, bit_at-lt mask i, bit_at-lt (slice_index s.words g) (32 + i))))
    (cases_lt (named (suc (32 * g + i)) (view_at s.views id).imports) 1)

-- what an origin word tells
pub origin_tells : (a : About) (s : State) (x : ℕ) → BoardRule a s → ClockRule a s → 0 < x → x ≤ a.formula.vars → 0 < origin_of s.origins x
    → (2 ≤ origin_of s.origins x) × (origin_of s.origins x ≤ a.formula.vars + 1) × Entailed a x
origin_tells a s x rule clocks low high some =
    let stamp = clocks.stamps x some in
    let size = clocks.size in
    (stamp.0, omega (arith, stamp.1, count_by-le-length (λ (w : ℕ). nat_lt 0 w) s.origins), origin_entailed a s x rule clocks low high some)

-- The code's loop, from a group's last variable down.
pub word_from-lt : (F : Cnf) (x k : ℕ) → word_from F x k < 2 ^ k
unfolding word_from
word_from-lt F x zero = omega arith
word_from-lt F x (suc k) =
    let one = candidate-lt F x in
    let double : 2 ^ suc k ≡ 2 * 2 ^ k = omega (arith, pow-suc 2 k) in
    omega (arith, one, double, word_from-lt F (suc x) k)

pub word_fits : (F : Cnf) (x k n : ℕ) → n ≡ word_from F x k → k ≤ 32 → n ≤ 4294967296
word_fits F x k n is low =
    let most : 2 ^ k ≤ 2 ^ 32 = pow_mono low in
    omega (arith, word_from-lt F x k, most)

pub word_more : (F : Cnf) (last done word bit : ℕ) → word ≡ word_from F (last + 1 - done) done → done ≤ last
    → bit ≡ candidate F (last - done) → 2 * word + bit ≡ word_from F (last + 1 - (done + 1)) (done + 1)
unfolding word_from candidate
word_more F last done word bit is low bit_is =
    let start : last + 1 - (done + 1) ≡ last - done = omega arith in
    let next : suc (last - done) ≡ last + 1 - done = omega arith in
    let more : done + 1 ≡ suc done = omega arith in
    let step : word_from F (last - done) (suc done) ≡ flag (is_shown F (last - done)) + 2 * word_from F (suc (last - done)) done = refl in
    let same : word_from F (suc (last - done)) done ≡ word_from F (last + 1 - done) done = ap (λ (k : ℕ). word_from F k done) next in
    let goal_is : word_from F (last + 1 - (done + 1)) (done + 1) ≡ word_from F (last - done) (suc done) =
    ap (λ (k : ℕ). word_from F k (done + 1)) start ∙ ap (λ (k : ℕ). word_from F (last - done) k) more in
    omega (arith, is, bit_is, step, same, goal_is)

pub word_begins : (F : Cnf) (x : ℕ) → 0 ≡ word_from F x 0
unfolding word_from
word_begins F x = refl

pub word_whole : (F : Cnf) (group last word done : ℕ) → last ≡ 32 * group + 32 → done ≡ 32
    → word ≡ word_from F (last + 1 - done) done → word ≡ opening_word F group
unfolding opening_word
word_whole F group last word done last_is all is =
    let start : last + 1 - done ≡ suc (32 * group) = omega arith in
    is ∙ ap (λ (k : ℕ). word_from F k done) start ∙ ap (λ (k : ℕ). word_from F (suc (32 * group)) k) all

pub byte_flag : (b : Bool) → bool_byte b ≡ flag b
byte_flag true = refl
byte_flag false = refl
