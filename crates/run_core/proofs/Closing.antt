-- What the closed words tell of the literals that are fixed, and of the backbone.
use Rattle.std.proofs.Common.{◌≡◌, ℕ, zero, suc, ◌+◌, ◌/◌, ◌%◌, ◌<◌, ◌≤◌, true≢false, Bool, true, false, List, [], ◌∷◌, ◌++◌, refl}
use Rattle.std.proofs.Common.{sym, ap, ◌∙◌, ⊎_elim, arith, cond}
use Rattle.std.specs.Prelude.{◌≢◌, ◌==◌, ◌&&◌, IsTrue, filter, All, Contains}
use Rattle.std.proofs.lemmas.Bool.{cases_eq, cases_lt, eq-eqb, ne_eqb}
use Rattle.std.proofs.lemmas.List.{append-nil}
use Rattle.std.proofs.lemmas.List.Kept.{AllPairs-filter}
use Rattle.std.proofs.lemmas.List.Quantifiers.{all_pairs_push}
use Rattle.std.proofs.lemmas.List.Elements.{All-nil, All-push, All-contains, filter-append}
use Rattle.cnf_core.specs.Literals.{Literal, Literals, Assignment, value_of, IsWithin, RisesByVar}
use Rattle.cnf_core.specs.Formulas.{Cnf, IsModel, is_shown, Entails, entails, true_literal, true_literals, shown_backbone}
use Rattle.cnf_core.proofs.Lists.{kept_of_Contains-filter, Contains-filter}
use Rattle.cnf_core.proofs.Models.{entails-against}
use Rattle.cnf_core.proofs.Truth.{true_literals_within, Contains-true_literals, true_literals-more, true_literals-zero}
use Rattle.cnf_core.proofs.Shown.{shown_of_model, shown_within}
use Rattle.board_core.specs.Subjects.{About, flag, candidate, Opposed, Entailed}
use Rattle.board_core.specs.Words.{fixed, open_at}
use Rattle.board_core.specs.Laws.{fixed_literals, NoneOpen}
use Rattle.board_core.specs.Rules.{Tells}
use Rattle.board_core.specs.declared.view.View.{View}
use Rattle.board_core.proofs.Ends.{candidate_past, fixed_candidate}

-- Candidates.
pub candidate_of_shown : (F : Cnf) (x : ℕ) → IsTrue (is_shown F x) → candidate F x ≡ 1
unfolding candidate
candidate_of_shown F x shown = ap flag shown

pub shown_of_candidate : (F : Cnf) (x : ℕ) → candidate F x ≡ 1 → IsTrue (is_shown F x)
unfolding candidate
shown_of_candidate F x one = by_test (is_shown F x) refl
  where
    by_test : (b : Bool) → is_shown F x ≡ b → IsTrue (is_shown F x)
    by_test true is = is
    by_test false is = absurd (let none : flag (is_shown F x) ≡ 0 = ap flag is in omega (arith, none, one))

pub record IsVar (F : Cnf) (x : ℕ) : Type 0 where
  pub low : 0 < x
  pub high : x ≤ F.vars

pub var_of_candidate : (F : Cnf) (x : ℕ) → candidate F x ≡ 1 → IsVar F x
var_of_candidate F x one =
    let within = shown_within F (record { var = x; positive = true }) (shown_of_candidate F x one) in
    record { low = within.low; high = within.high }

pub conflict : (a : About) (x : ℕ) → Opposed a x → Entailed a x → ⊥
unfolding Opposed Entailed
conflict a x opposed entailed =
    true≢false (sym entailed ∙ entails-against a.formula opposed.0 x (value_of a.phases x) opposed.1)

pub entails_of_entailed : (a : About) (x : ℕ) → Entailed a x → Entails a.formula (true_literal a.phases x)
unfolding Entailed
entails_of_entailed a x is = is

-- Fixed literals.
phase_literals : (phases : Assignment) (n : ℕ) → All (λ (l : Literal). l ≡ true_literal phases l.var) (true_literals phases n)
unfolding true_literals
phase_literals phases zero = All-nil (λ (l : Literal). l ≡ true_literal phases l.var)
phase_literals phases (suc n) =
    All-push (λ (l : Literal). l ≡ true_literal phases l.var) (true_literals phases n) (true_literal phases (suc n)) (phase_literals phases n) refl

eqb_eq : (m n : ℕ) → (m == n) ≡ true → m ≡ n
eqb_eq m n is =
    ⊎_elim (λ (same : m ≡ n). same) (λ (other : m ≢ n). absurd (true≢false (sym is ∙ ne_eqb m n other))) (cases_eq m n)

pub record IsFixedIn (phases : Assignment) (ws : List ℕ) (n : ℕ) (l : Literal) : Type 0 where
  pub phase : l ≡ true_literal phases l.var
  pub is_fixed : fixed ws l.var ≡ 1
  pub low : 0 < l.var
  pub high : l.var ≤ n

pub fixed_in : (phases : Assignment) (ws : List ℕ) (n : ℕ) (l : Literal) → Contains (fixed_literals phases ws n) l → IsFixedIn phases ws n l
fixed_in phases ws n l here =
    let kept = kept_of_Contains-filter (λ (k : Literal). fixed ws k.var == 1) (true_literals phases n) l here in
    let within = All-contains (IsWithin n) (true_literals phases n) l (true_literals_within phases n) kept.member in record {
      phase = All-contains (λ (k : Literal). k ≡ true_literal phases k.var) (true_literals phases n) l (phase_literals phases n) kept.member;
      is_fixed = eqb_eq (fixed ws l.var) 1 kept.passes;
      low = within.low;
      high = within.high;
    }

pub fixed_there : (phases : Assignment) (ws : List ℕ) (n x : ℕ) → 0 < x → x ≤ n → fixed ws x ≡ 1
    → Contains (fixed_literals phases ws n) (true_literal phases x)
fixed_there phases ws n x low high is =
    Contains-filter (λ (k : Literal). fixed ws k.var == 1) (true_literals phases n) (true_literal phases x)
    (Contains-true_literals phases n x low high) (eq-eqb (fixed ws x) 1 is)

-- the closed words show nothing open where a view of before saw nothing
pub open_before : (a : About) (ws : List ℕ) (v : View) (x : ℕ) → Tells a ws v → x ≤ a.formula.vars → open_at ws x ≤ open_at v.seen x
open_before a ws v zero tells high = omega arith
open_before a ws v (suc c) tells high =
    let bits = tells.later (c / 32) (omega arith) (c % 32) (omega arith) in
    omega (arith, bits.0, bits.1)

pub none_after : (a : About) (ws : List ℕ) (v : View) → Tells a ws v → NoneOpen v.seen → NoneOpen ws
none_after a ws v tells none x =
    ⊎_elim
    (λ (past : a.formula.vars < x). omega (arith, tells.drops x, candidate_past a.formula x past))
    (λ (high : x ≤ a.formula.vars). omega (arith, open_before a ws v x tells high, none x))
    (cases_lt a.formula.vars x)

-- Where none is open, the fixed literals are the shown members of the backbone.
test_hidden : (a : About) (ws : List ℕ) (v : View) (x : ℕ) → Tells a ws v → is_shown a.formula x ≡ false
    → (fixed ws x == 1) ≡ (is_shown a.formula x && entails a.formula (true_literal a.phases x))
unfolding candidate
test_hidden a ws v x tells hidden =
    let none : candidate a.formula x ≡ 0 = ap flag hidden in
    let most = fixed_candidate a ws x tells.words in
    ne_eqb (fixed ws x) 1 (omega arith)
    ∙ sym (ap (λ (b : Bool). b && entails a.formula (true_literal a.phases x)) hidden)

test_shown : (a : About) (ws : List ℕ) (v : View) (x : ℕ) → Tells a ws v → open_at ws x ≡ 0 → is_shown a.formula x ≡ true
    → (fixed ws x == 1) ≡ (is_shown a.formula x && entails a.formula (true_literal a.phases x))
unfolding candidate Opposed Entailed
test_shown a ws v x tells closed shown =
    let one : candidate a.formula x ≡ 1 = ap flag shown in
    let both : (b : Bool) → entails a.formula (true_literal a.phases x) ≡ b
    → (is_shown a.formula x && entails a.formula (true_literal a.phases x)) ≡ b =
    λ b is. ap (λ (c : Bool). c && entails a.formula (true_literal a.phases x)) shown ∙ is in
    ⊎_elim
    (λ (here : fixed ws x ≡ 1). eq-eqb (fixed ws x) 1 here ∙ sym (both true (tells.truth.entailed x one here)))
    (λ (free : fixed ws x ≢ 1).
    let most = fixed_candidate a ws x tells.words in
    let opposed = tells.truth.against x one (omega arith) in
    ne_eqb (fixed ws x) 1 free ∙ sym (both false (entails-against a.formula opposed.0 x (value_of a.phases x) opposed.1)))
    (cases_eq (fixed ws x) 1)

same_test : (a : About) (ws : List ℕ) (v : View) (x : ℕ) → Tells a ws v → open_at ws x ≡ 0
    → (fixed ws x == 1) ≡ (is_shown a.formula x && entails a.formula (true_literal a.phases x))
same_test a ws v x tells closed = by_test (is_shown a.formula x) refl
  where
    by_test : (b : Bool) → is_shown a.formula x ≡ b → (fixed ws x == 1) ≡ (is_shown a.formula x && entails a.formula (true_literal a.phases x))
    by_test true shown = test_shown a ws v x tells closed shown
    by_test false hidden = test_hidden a ws v x tells hidden

same_kept : (p q : Literal → Bool) (phases : Assignment) (n : ℕ) → ((x : ℕ) → p (true_literal phases x) ≡ q (true_literal phases x))
    → filter p (true_literals phases n) ≡ filter q (true_literals phases n)
unfolding true_literals
same_kept p q phases zero same = refl
same_kept p q phases (suc n) same =
    let last : Literals = true_literal phases (suc n) ∷ [] in
    rw (filter-append p (true_literals phases n) last, filter-append q (true_literals phases n) last, same_kept p q phases n same, same (suc n)) refl

pub backbone_fixed : (a : About) (ws : List ℕ) (v : View) → Tells a ws v → IsModel a.formula a.phases → NoneOpen ws
    → fixed_literals a.phases ws a.formula.vars ≡ shown_backbone a.formula
backbone_fixed a ws v tells model none =
    same_kept (λ (l : Literal). fixed ws l.var == 1) (λ (l : Literal). is_shown a.formula l.var && entails a.formula l) a.phases a.formula.vars
    (λ x. same_test a ws v x tells (none x))
    ∙ sym (shown_of_model a.formula a.phases model)

-- One variable more.
fixed_append : (phases : Assignment) (ws : List ℕ) (n : ℕ)
    → fixed_literals phases ws (n + 1) ≡ fixed_literals phases ws n ++ filter (λ (l : Literal). fixed ws l.var == 1) (true_literal phases (n + 1) ∷ [])
fixed_append phases ws n =
    ap (filter (λ (l : Literal). fixed ws l.var == 1)) (true_literals-more phases n)
    ∙ filter-append (λ (l : Literal). fixed ws l.var == 1) (true_literals phases n) (true_literal phases (n + 1) ∷ [])

pub fixed_more : (phases : Assignment) (ws : List ℕ) (n : ℕ) → (fixed ws (n + 1) == 1) ≡ true
    → fixed_literals phases ws (n + 1) ≡ fixed_literals phases ws n ++ true_literal phases (n + 1) ∷ []
fixed_more phases ws n is =
    fixed_append phases ws n
    ∙ ap (λ (b : Bool). fixed_literals phases ws n ++ cond b (true_literal phases (n + 1) ∷ []) []) is

pub fixed_same : (phases : Assignment) (ws : List ℕ) (n : ℕ) → (fixed ws (n + 1) == 1) ≡ false
    → fixed_literals phases ws (n + 1) ≡ fixed_literals phases ws n
fixed_same phases ws n is =
    fixed_append phases ws n
    ∙ ap (λ (b : Bool). fixed_literals phases ws n ++ cond b (true_literal phases (n + 1) ∷ []) []) is
    ∙ append-nil (fixed_literals phases ws n)

pub fixed_none : (phases : Assignment) (ws : List ℕ) → fixed_literals phases ws 0 ≡ []
fixed_none phases ws = ap (filter (λ (l : Literal). fixed ws l.var == 1)) (true_literals-zero phases)

literals_rise : (phases : Assignment) (n : ℕ) → RisesByVar (true_literals phases n)
unfolding true_literals
literals_rise phases zero = λ i j d before within. absurd (omega (arith, within))
literals_rise phases (suc n) =
    all_pairs_push (λ (k l : Literal). k.var < l.var) (true_literals phases n) (true_literal phases (suc n)) (literals_rise phases n)
    (λ k d low. let high = (true_literals_within phases n k d low).high in omega (arith, high))

pub fixed_rise : (phases : Assignment) (ws : List ℕ) (n : ℕ) → RisesByVar (fixed_literals phases ws n)
fixed_rise phases ws n =
    AllPairs-filter (λ (k l : Literal). k.var < l.var) (λ (l : Literal). fixed ws l.var == 1) (true_literals phases n) (literals_rise phases n)
