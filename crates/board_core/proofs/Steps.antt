-- One step of one view on one group's word keeps the rule.
use Rattle.std.proofs.Common.{◌≡◌, ◌≢◌, ℕ, zero, suc, ◌+◌, ◌*◌, ◌/◌, ◌%◌, ◌<◌, ◌≤◌, ◌⊎◌, Bool, true, false, List, [], ◌∷◌, length, get_or, set, refl, sym, ap, ◌∙◌, subst, ⊎_elim, arith, true≢false}
use Rattle.std.specs.Prelude.{nat_lt, not, ◌&&◌, slice_index, slice_set}
use Rattle.std.specs.Int.{bit_at}
use Rattle.std.proofs.lemmas.Bool.{cases_eq, cases_lt}
use Rattle.std.proofs.lemmas.List.{length-set, get_or-set_same, get_or-set_other}
use Rattle.board_core.specs.Subjects.{About, groups, flag, candidate, Opposed, Entailed}
use Rattle.board_core.specs.Words.{alive, fixed, Earlier, Inside, times}
use Rattle.board_core.specs.Boards.{State, spent_view, view_at, stepped}
use Rattle.board_core.specs.Rules.{AreEarlier, AreWords, Fits, child_at, IsRooted, BoardRule}
use Rattle.board_core.specs.declared.view.View.{View}
use Rattle.board_core.proofs.Lists.{at_set, sum_set}

-- a variable's group and bit
pub group_of : (c g i : ℕ) → c / 32 ≡ g → c % 32 ≡ i → 32 * g + i ≡ c
group_of c g i group bit = omega arith

-- a place with a view that isn't spent is within the list
pub seated : (vs : List View) (id : ℕ) → (view_at vs id).spent ≡ false → id < length vs
seated [] zero unspent = absurd (true≢false unspent)
seated [] (suc id) unspent = absurd (true≢false unspent)
seated (v ∷ vs) zero unspent = omega arith
seated (v ∷ vs) (suc id) unspent = let before : id < length vs = seated vs id unspent in omega arith

pub earlier_refl : (w : ℕ) → Earlier w w
earlier_refl w i within = (omega arith, omega arith)

pub earlier_trans : (a b c : ℕ) → Earlier a b → Earlier b c → Earlier a c
earlier_trans a b c first second i within =
    let p = first i within in let q = second i within in (omega arith, omega arith)

-- Words after a write to one group.
pub alive_set : (ws : List ℕ) (g w c : ℕ) (P : ℕ → Type 0) → g < length ws
    → (c / 32 ≡ g → P (bit_at w (c % 32))) → (c / 32 ≢ g → P (alive ws (suc c))) → P (alive (slice_set ws g w) (suc c))
alive_set ws g w c P within here there =
    at_set (λ (u : ℕ). P (bit_at u (c % 32))) ws g (c / 32) w 0 within here there

pub fixed_set : (ws : List ℕ) (g w c : ℕ) (P : ℕ → Type 0) → g < length ws
    → (c / 32 ≡ g → P (bit_at w (32 + c % 32))) → (c / 32 ≢ g → P (fixed ws (suc c))) → P (fixed (slice_set ws g w) (suc c))
fixed_set ws g w c P within here there =
    at_set (λ (u : ℕ). P (bit_at u (32 + c % 32))) ws g (c / 32) w 0 within here there

pub are_words_set : (a : About) (ws : List ℕ) (g w : ℕ) → AreWords a ws → Inside a.formula g w → AreWords a (slice_set ws g w)
are_words_set a ws g w words inside = record {
  size = length-set ws g w ∙ words.size;
  inside = λ h within.
      let size = words.size in
      ⊎_elim
      (λ (low : g < length ws). at_set (λ (u : ℕ). Inside a.formula h u) ws g h w 0 low
      (λ same. subst (λ (k : ℕ). Inside a.formula k w) (sym same) inside) (λ _. words.inside h within))
      (λ (high : length ws ≤ g). subst (λ (u : ℕ). Inside a.formula h u)
      (sym (get_or-set_other ws g h w 0 (λ (e : h ≡ g). omega arith))) (words.inside h within))
      (cases_lt g (length ws));
}

pub are_earlier_set : (n : ℕ) (xs ys : List ℕ) (g w u : ℕ) → g < length xs → g < length ys → AreEarlier n xs ys → Earlier w u
    → AreEarlier n (slice_set xs g w) (slice_set ys g u)
are_earlier_set n xs ys g w u within within_b all here h low =
    ⊎_elim
    (λ (same : h ≡ g).
    let left : get_or (set xs g w) h 0 ≡ w = ap (λ (k : ℕ). get_or (set xs g w) k 0) same ∙ get_or-set_same xs g w 0 within in
    let right : get_or (set ys g u) h 0 ≡ u = ap (λ (k : ℕ). get_or (set ys g u) k 0) same ∙ get_or-set_same ys g u 0 within_b in
    subst (λ (p : ℕ). Earlier p (get_or (set ys g u) h 0)) (sym left) (subst (λ (q : ℕ). Earlier w q) (sym right) here))
    (λ (other : h ≢ g).
    subst (λ (p : ℕ). Earlier p (get_or (set ys g u) h 0)) (sym (get_or-set_other xs g h w 0 other))
    (subst (λ (q : ℕ). Earlier (get_or xs h 0) q) (sym (get_or-set_other ys g h u 0 other)) (all h low)))
    (cases_eq h g)

-- the words of a list on, where only the other's changed and became later
pub are_earlier_on : (n : ℕ) (xs ys : List ℕ) (g w : ℕ) → g < length ys → g < n → AreEarlier n xs ys → Earlier (slice_index ys g) w
    → AreEarlier n xs (slice_set ys g w)
are_earlier_on n xs ys g w within low all later h below =
    at_set (λ (u : ℕ). Earlier (slice_index xs h) u) ys g h w 0 within
    (λ same. subst (λ (k : ℕ). Earlier (slice_index xs k) w) (sym same)
    (earlier_trans (slice_index xs g) (slice_index ys g) w (all g low) later))
    (λ _. all h below)

-- What a step on one word owes: the word was `old`, becomes w, and the view v becomes u.
pub record Moves (a : About) (ws : List ℕ) (id g w : ℕ) (v u : View) : Type 0 where
  pub later : Earlier (slice_index ws g) w
  pub inside : Inside a.formula g w
  pub against : (i : ℕ) → i < 32 → candidate a.formula (suc (32 * g + i)) ≡ 1 → bit_at w i ≡ 0
      → (bit_at (slice_index ws g) i ≡ 0) ⊎ Opposed a (suc (32 * g + i))
  pub entailed : (i : ℕ) → i < 32 → candidate a.formula (suc (32 * g + i)) ≡ 1 → bit_at w (32 + i) ≡ 1
      → (bit_at (slice_index ws g) (32 + i) ≡ 1) ⊎ Entailed a (suc (32 * g + i))
  pub unspent : u.spent ≡ false
  pub next : u.next ≡ v.next
  pub out : u.out ≡ v.out
  pub fits : Fits a (slice_set ws g w) id u
  pub drops : (x : ℕ) → times x u.drops + alive (slice_set ws g w) x ≡ times x v.drops + alive ws x
  pub fixes : (x : ℕ) → times x u.fixes + fixed ws x ≡ times x v.fixes + fixed (slice_set ws g w) x

-- the views but one, after a word became later
fits_on : (a : About) (ws : List ℕ) (id g w : ℕ) (v : View) → g < groups a.formula.vars → length ws ≡ groups a.formula.vars
    → Earlier (slice_index ws g) w → Fits a ws id v → Fits a (slice_set ws g w) id v
fits_on a ws id g w v low size later fits =
    record {
      about = fits.about;
      number = fits.number;
      seen = fits.seen;
      loaded = fits.loaded;
      loads_length = fits.loads_length;
      looks_length = fits.looks_length;
      loaded_seen = fits.loaded_seen;
      seen_word = are_earlier_on (groups a.formula.vars) v.seen ws g w (omega arith) low fits.seen_word later;
    }

-- a child is a child after a view changed that stays unspent
pub child_set : (vs : List View) (id : ℕ) (v : View) (j : ℕ) → id < length vs → (view_at vs id).spent ≡ v.spent
    → child_at (slice_set vs id v) j ≡ child_at vs j
child_set vs id v j within same =
    at_set (λ (u : View). flag (nat_lt 0 j && not u.spent) ≡ child_at vs j) vs id j v spent_view within
    (λ here. ap (λ (b : Bool). flag (nat_lt 0 j && not b)) (sym same ∙ ap (λ (k : ℕ). (view_at vs k).spent) (sym here)))
    (λ _. refl)

pub rooted_set : (vs : List View) (id : ℕ) (v : View) → id < length vs → (view_at vs id).spent ≡ false → v.spent ≡ false
    → v.next ≡ (view_at vs id).next → v.out ≡ (view_at vs id).out → IsRooted vs → IsRooted (slice_set vs id v)
rooted_set vs id v within was unspent next out rooted =
    let kept : (view_at (slice_set vs id v) 0).out ≡ (view_at vs 0).out =
    at_set (λ (u : View). u.out ≡ (view_at vs 0).out) vs id 0 v spent_view within
    (λ here. out ∙ ap (λ (k : ℕ). (view_at vs k).out) (sym here)) (λ _. refl) in
    record {
      root = at_set (λ (u : View). u.spent ≡ false) vs id 0 v spent_view within (λ _. unspent) (λ _. rooted.root);
      next = at_set (λ (u : View). u.next ≡ length vs) vs id 0 v spent_view within
          (λ here. next ∙ ap (λ (k : ℕ). (view_at vs k).next) (sym here) ∙ rooted.next) (λ _. rooted.next)
          ∙ sym (length-set vs id v);
      out = λ j. ap (times j) kept ∙ rooted.out j ∙ sym (child_set vs id v j within (was ∙ sym unspent));
    }

-- the new truth at one variable
truth_against : (a : About) (s : State) (id g w : ℕ) (u : View) → BoardRule a s → g < groups a.formula.vars
    → Moves a s.words id g w (view_at s.views id) u
    → (c : ℕ) → candidate a.formula (suc c) ≡ 1 → alive (slice_set s.words g w) (suc c) ≡ 0 → Opposed a (suc c)
truth_against a s id g w u rule low moves c is =
    let size = rule.words.size in
    alive_set s.words g w c (λ (b : ℕ). b ≡ 0 → Opposed a (suc c)) (omega arith)
    (λ here gone.
    let place : 32 * g + c % 32 ≡ c = group_of c g (c % 32) here refl in
    let cand : candidate a.formula (suc (32 * g + c % 32)) ≡ 1 = ap (λ (k : ℕ). candidate a.formula (suc k)) place ∙ is in
    ⊎_elim
    (λ (before : bit_at (slice_index s.words g) (c % 32) ≡ 0).
    rule.truth.against (suc c) is (ap (λ (h : ℕ). bit_at (slice_index s.words h) (c % 32)) here ∙ before))
    (λ (opposed : Opposed a (suc (32 * g + c % 32))). subst (λ (k : ℕ). Opposed a (suc k)) place opposed)
    (moves.against (c % 32) (omega arith) cand gone))
    (λ _ gone. rule.truth.against (suc c) is gone)

truth_entailed : (a : About) (s : State) (id g w : ℕ) (u : View) → BoardRule a s → g < groups a.formula.vars
    → Moves a s.words id g w (view_at s.views id) u
    → (c : ℕ) → candidate a.formula (suc c) ≡ 1 → fixed (slice_set s.words g w) (suc c) ≡ 1 → Entailed a (suc c)
truth_entailed a s id g w u rule low moves c is =
    let size = rule.words.size in
    fixed_set s.words g w c (λ (b : ℕ). b ≡ 1 → Entailed a (suc c)) (omega arith)
    (λ here gone.
    let place : 32 * g + c % 32 ≡ c = group_of c g (c % 32) here refl in
    let cand : candidate a.formula (suc (32 * g + c % 32)) ≡ 1 = ap (λ (k : ℕ). candidate a.formula (suc k)) place ∙ is in
    ⊎_elim
    (λ (before : bit_at (slice_index s.words g) (32 + c % 32) ≡ 1).
    rule.truth.entailed (suc c) is (ap (λ (h : ℕ). bit_at (slice_index s.words h) (32 + c % 32)) here ∙ before))
    (λ (entailed : Entailed a (suc (32 * g + c % 32))). subst (λ (k : ℕ). Entailed a (suc k)) place entailed)
    (moves.entailed (c % 32) (omega arith) cand gone))
    (λ _ gone. rule.truth.entailed (suc c) is gone)

pub candidate_zero : (a : About) → candidate a.formula 0 ≡ 0
unfolding candidate
candidate_zero a = refl

-- a view's step keeps the rule
pub keeps_step : (a : About) (s : State) (id g w : ℕ) (u : View) → BoardRule a s → g < groups a.formula.vars
    → (view_at s.views id).spent ≡ false → Moves a s.words id g w (view_at s.views id) u
    → BoardRule a (stepped s id g w u)
keeps_step a s id g w u rule low unspent moves =
    let within : id < length s.views = seated s.views id unspent in
    let none : candidate a.formula 0 ≡ 0 = candidate_zero a in record {
      words = are_words_set a s.words g w rule.words moves.inside;
      truth = record {
        against = λ (x : ℕ). elim x as (λ (y : ℕ). candidate a.formula y ≡ 1 → alive (slice_set s.words g w) y ≡ 0 → Opposed a y) [
          | zero ↦ λ is gone. absurd (omega arith)
          | suc c ↦ truth_against a s id g w u rule low moves c
        ];
        entailed = λ (x : ℕ). elim x as (λ (y : ℕ). candidate a.formula y ≡ 1 → fixed (slice_set s.words g w) y ≡ 1 → Entailed a y) [
          | zero ↦ λ is gone. absurd (omega arith)
          | suc c ↦ truth_entailed a s id g w u rule low moves c
        ];
      };
      views = λ j. at_set (λ (v : View). v.spent ≡ false → Fits a (slice_set s.words g w) j v) s.views id j u spent_view within
          (λ here _. subst (λ (k : ℕ). Fits a (slice_set s.words g w) k u) (sym here) moves.fits)
          (λ _ unspent_there. fits_on a s.words j g w (view_at s.views j) low rule.words.size moves.later (rule.views j unspent_there));
      spent = λ j. at_set (λ (v : View). v.spent ≡ true → v ≡ spent_view) s.views id j u spent_view within
          (λ here is. absurd (true≢false (sym is ∙ moves.unspent)))
          (λ _. rule.spent j);
      dropped_once = λ x.
          let total = sum_set (λ (v : View). times x v.drops) s.views id u spent_view within in
          omega (arith, total, rule.dropped_once x, moves.drops x);
      fixed_once = λ x.
          let total = sum_set (λ (v : View). times x v.fixes) s.views id u spent_view within in
          omega (arith, total, rule.fixed_once x, moves.fixes x);
      rooted = rooted_set s.views id u within unspent moves.unspent moves.next moves.out rule.rooted;
    }
