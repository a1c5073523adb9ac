-- What a report that isn't complete tells as text.
use Rattle.std.proofs.Common.{◌≡◌, ◌≢◌, ℕ, zero, suc, ◌+◌, ◌-◌, ◌<◌, ◌≤◌, ◌⊎◌, inl, inr, Bool, true, false, not, ◌&&◌, ◌||◌, ◌==◌, IsTrue, cond, List, [], ◌∷◌, ◌++◌, length, map, filter, take, replicate, All, Contains, refl, sym, ap, ◌∙◌, subst, ⊎_elim, arith, true≢false}
use Rattle.std.specs.Prelude.{slice_index_or}
use Rattle.std.proofs.lemmas.Bool.{and_parts, and_from, both_ways, false_from_ne_true, or_cases, or_left, or_right}
use Rattle.std.proofs.lemmas.List.Kept.{AllPairs-filter}
use Rattle.std.proofs.lemmas.List.Quantifiers.{all_pairs_push}
use Rattle.std.proofs.lemmas.List.Elements.{All-contains, All-contains_itself, All-head, All-tail, All-weaker, All-get_or, filter-append, Contains-append_cases, Contains-append_left, Contains-append_right}
use Rattle.std.proofs.lemmas.List.Folds.{list_any_more}
use Rattle.std.proofs.lemmas.List.{append-nil, length-set, length-replicate, get_or-replicate}
use Rattle.cnf_core.specs.Literals.{Literal, Literals, Assignment, RisesByVar, IsWithin, value_of, with_value}
use Rattle.cnf_core.specs.Formulas.{Cnf, IsModel, Entails, entails, is_shown, shown_backbone, true_literal, true_literals}
use Rattle.cnf_core.proofs.Lists.{Contains-head, Contains-tail, Contains-cons_cases, Contains-nil, Contains-filter, kept_of_Contains-filter, list_any_of_member, member_of_list_any}
use Rattle.cnf_core.proofs.Truth.{true_literals_within, Contains-true_literals, true_literal_of_is_true, true_literals-zero, true_literals-more, value_of-with_value, value_of-with_value_other}
use Rattle.cnf_core.proofs.Models.{entails_at, entails-against}
use Rattle.cnf_core.proofs.Shown.{shown_within, is_shown_backbone}
use Rattle.answer_text.specs.AnswerText.{IsPartialInOrder, SharesNoVar}
use Rattle.model_store.specs.Stores.{model_at}
use Rattle.model_store.specs.Witnesses.{witness_in}
use Rattle.model_store.specs.declared.witness.Witness.{Witness}
use Rattle.run_core.specs.declared.outcome.Report.{Report}
use Rattle.run_core.specs.Outcomes.{IsReport, IsComplete, IsDropped, IsFixed, IsOpen, IsUnfinished, HasDrop, HasFix}
use Rattle.backbone_main.specs.Texts.{IsKnownPart, IsWitnessOf, HasLiteralOf}
use Rattle.witness_text.specs.WitnessText.{store_text}
use Rattle.backbone_main.specs.Steps.Open.{has_var, is_dropped, is_fixed, is_open, open_literals, IsMarked, is_unmarked}

-- a member of the images, and what it is the image of
record IsImage {X Y : Type 0} (f : X → Y) (xs : List X) (y : Y) : Type 0 where
  pub source : X
  pub member : Contains xs source
  pub is : f source ≡ y

image_of : {X Y : Type 0} (f : X → Y) (xs : List X) (y : Y) → Contains (map f xs) y → IsImage f xs y
image_of f [] y here = absurd (Contains-nil y here)
image_of f (x ∷ xs) y here =
    ⊎_elim
    (λ (is : f x ≡ y). record { source = x; member = Contains-head x xs; is = is })
    (λ (later : Contains (map f xs) y).
    let rest = image_of f xs y later in
    record { source = rest.source; member = Contains-tail x xs rest.source rest.member; is = rest.is })
    (Contains-cons_cases (f x) (map f xs) y here)

image_in : {X Y : Type 0} (f : X → Y) (xs : List X) (x : X) → Contains xs x → Contains (map f xs) (f x)
image_in f [] x here = absurd (Contains-nil x here)
image_in f (y ∷ xs) x here =
    ⊎_elim
    (λ (is : y ≡ x). subst (λ (z : _). Contains (map f (y ∷ xs)) (f z)) is (Contains-head (f y) (map f xs)))
    (λ (later : Contains xs x). Contains-tail (f y) (map f xs) (f x) (image_in f xs x later))
    (Contains-cons_cases y xs x here)

-- the test of a list for a variable
has_var_of : {X : Type 0} (var : X → ℕ) (xs : List X) (x : ℕ) → Contains (map var xs) x → IsTrue (has_var var xs x)
has_var_of var xs x here =
    let image = image_of var xs x here in
    let passes : IsTrue (var image.source == x) = grind (arith, image.is) in
    list_any_of_member (λ y. var y == x) xs image.source image.member passes

var_of : {X : Type 0} (var : X → ℕ) (xs : List X) (x : ℕ) → IsTrue (has_var var xs x) → IsImage var xs x
var_of var xs x has =
    let (y, there, passes) = member_of_list_any (λ y. var y == x) xs has in
    record { source = y; member = there; is = grind (arith, passes) }

contains_of : {X : Type 0} (var : X → ℕ) (xs : List X) (x : ℕ) → IsTrue (has_var var xs x) → Contains (map var xs) x
contains_of var xs x has =
    let image = var_of var xs x has in
    subst (λ (y : ℕ). Contains (map var xs) y) image.is (image_in var xs image.source image.member)

-- the literals that an assignment makes true rise
pub true_literals_rise : (a : Assignment) (n : ℕ) → RisesByVar (true_literals a n)
unfolding true_literals
true_literals_rise a zero = λ i j d before within. absurd (omega arith)
true_literals_rise a (suc n) =
    all_pairs_push (λ (k l : Literal). k.var < l.var) (true_literals a n) (true_literal a (suc n)) (true_literals_rise a n)
    (λ k d within.
    let low = All-get_or (IsWithin n) (true_literals a n) k d within (true_literals_within a n) in
    let high : _ ≤ n = low.high in
    omega arith)

-- the first model of a report is one
pub first_is_model : (F : Cnf) (r : Report) → IsReport F r → IsModel F (model_at r.models 0)
first_is_model F r report = All-get_or (IsModel F) r.models.models 0 [] report.some report.models

-- the test of what is open
open_of : (F : Cnf) (r : Report) (x : ℕ) → IsOpen F r x → IsTrue (is_open F r x)
open_of F r x is =
    let none : (is_dropped r x || is_fixed r x) ≡ false =
    false_from_ne_true (is_dropped r x || is_fixed r x) (λ some.
    ⊎_elim
    (λ (dropped : IsTrue (is_dropped r x)). is.not_dropped (contains_of (λ (w : Witness). w.var) r.drops.items x dropped))
    (λ (fixed : IsTrue (is_fixed r x)). is.not_fixed (contains_of (λ (l : Literal). l.var) r.fixes.items x fixed))
    (or_cases (is_dropped r x) (is_fixed r x) some))
    in
    and_from (is_shown F x) (not (is_dropped r x || is_fixed r x)) is.shown (ap not none)

-- what is negated isn't so
clash : (b : Bool) → IsTrue (not b) → IsTrue b → ⊥
clash true off on = true≢false (sym off)
clash false off on = true≢false (sym on)

is_open_by : (F : Cnf) (r : Report) (x : ℕ) → IsTrue (is_open F r x) → IsOpen F r x
is_open_by F r x passes =
    let parts = and_parts (is_shown F x) (not (is_dropped r x || is_fixed r x)) passes in
    record {
      shown = parts.0;
      not_dropped = λ here. clash (is_dropped r x || is_fixed r x) parts.1
          (or_left (is_dropped r x) (is_fixed r x) (has_var_of (λ (w : Witness). w.var) r.drops.items x here));
      not_fixed = λ here. clash (is_dropped r x || is_fixed r x) parts.1
          (or_right (is_dropped r x) (is_fixed r x) (has_var_of (λ (l : Literal). l.var) r.fixes.items x here));
    }

-- the literal of an open variable stands among the open ones
open_member : (F : Cnf) (r : Report) (x : ℕ) → IsOpen F r x → Contains (open_literals F r) (true_literal (model_at r.models 0) x)
open_member F r x is =
    let a = model_at r.models 0 in
    let within = shown_within F (true_literal a x) is.shown in
    Contains-filter (λ l. is_open F r l.var) (true_literals a F.vars) (true_literal a x)
    (Contains-true_literals a F.vars x within.low within.high) (open_of F r x is)

-- every open literal is of an open variable
open_vars : (F : Cnf) (r : Report) (l : Literal) → Contains (open_literals F r) l → IsOpen F r l.var
open_vars F r l here =
    is_open_by F r l.var (kept_of_Contains-filter (λ k. is_open F r k.var) (true_literals (model_at r.models 0) F.vars) l here).passes

-- two entailed literals of one variable are the same
entailed_once : (F : Cnf) (a : Assignment) (k l : Literal) → IsModel F a → Entails F k → Entails F l → k.var ≡ l.var → k ≡ l
entailed_once F a k l model one other same =
    let here = true_literal_of_is_true a k (entails_at F k a one model) in
    let there = true_literal_of_is_true a l (entails_at F l a other model) in
    sym here ∙ ap (true_literal a) same ∙ there

-- a shown member of the backbone is fixed or open
member_cases : (F : Cnf) (r : Report) (l : Literal) → IsReport F r → Contains (shown_backbone F) l
    → Contains r.fixes.items l ⊎ Contains (open_literals F r) l
member_cases F r l report here =
    let a = model_at r.models 0 in
    let model = first_is_model F r report in
    let both = ((is_shown_backbone F a model).just l).0 here in
    let phase = true_literal_of_is_true a l (entails_at F l a both.1 model) in
    ⊎_elim
    (λ (fixed : IsTrue (is_fixed r l.var)).
    let image = var_of (λ (k : Literal). k.var) r.fixes.items l.var fixed in
    let is : IsFixed F r.models image.source = All-contains (IsFixed F r.models) r.fixes.items image.source report.fixed image.member in
    let same = entailed_once F a image.source l model is.entailed both.1 image.is in
    inl (subst (λ (k : Literal). Contains r.fixes.items k) same image.member))
    (λ (free : is_fixed r l.var ≡ false).
    let open_here : IsOpen F r l.var = record {
      shown = both.0;
      not_dropped = λ dropped.
          (let image = image_of (λ (w : Witness). w.var) r.drops.items l.var dropped in
          let is : IsDropped F r.models image.source =
          All-contains (IsDropped F r.models) r.drops.items image.source report.dropped image.member in
          let wrong = entails-against F (witness_in r.models image.source) image.source.var (value_of a image.source.var) is.witness.against in
          let right : Entails F (true_literal a image.source.var) =
          subst (λ (k : Literal). Entails F k) (sym phase ∙ ap (true_literal a) (sym image.is)) both.1 in
          both_ways (entails F (true_literal a image.source.var)) wrong right);
      not_fixed = λ fixed. both_ways (is_fixed r l.var) free (has_var_of (λ (k : Literal). k.var) r.fixes.items l.var fixed);
    } in
    inr (subst (λ (k : Literal). Contains (open_literals F r) k) phase (open_member F r l.var open_here)))
    (cases (is_fixed r l.var))
  where
    cases : (b : Bool) → IsTrue b ⊎ (b ≡ false)
    cases true = inl refl
    cases false = inr refl

some_of : (xs : Literals) (l : Literal) → Contains xs l → 0 < length xs
some_of [] l here = absurd (Contains-nil l here)
some_of (x ∷ xs) l here = omega arith

apart_of : (F : Cnf) (r : Report) → SharesNoVar r.fixes.items (open_literals F r)
apart_of F r =
    let still = open_literals F r in
    let Apart : Literal → Literal → Type 0 = λ k l. k.var ≢ l.var in
    let each : (k : Literal) → Contains r.fixes.items k → (l : Literal) → Contains still l → Apart k l =
    λ k fixed l here same. (open_vars F r l here).not_fixed
    (subst (λ (x : ℕ). HasFix r x) same (image_in (λ (j : Literal). j.var) r.fixes.items k fixed))
    in
    All-weaker (Contains r.fixes.items) (λ k. All (Apart k) still) (λ k fixed.
    All-weaker (Contains still) (Apart k) (each k fixed) still (All-contains_itself still))
    r.fixes.items (All-contains_itself r.fixes.items)

pub partial_in_order : (F : Cnf) (r : Report) → IsReport F r → IsPartialInOrder r.fixes.items (open_literals F r)
partial_in_order F r report = record {
  fixed_rises = report.fixes_rise;
  still_rises = AllPairs-filter (λ (k l : Literal). k.var < l.var) (λ l. is_open F r l.var)
      (true_literals (model_at r.models 0) F.vars) (true_literals_rise (model_at r.models 0) F.vars);
  apart = apart_of F r;
}

pub known_part : (F : Cnf) (r : Report) → IsUnfinished F r → IsKnownPart F r.fixes.items (open_literals F r)
known_part F r unfinished =
    let report = unfinished.report in
    let a = model_at r.models 0 in
    let model = first_is_model F r report in
    record {
      in_order = partial_in_order F r report;
      some = some_of (open_literals F r) _ (open_member F r unfinished.var unfinished.is_open);
      members = All-weaker (IsFixed F r.models) (Contains (shown_backbone F)) (λ l is. ((is_shown_backbone F a model).just l).1 (is.shown, is.entailed)) r.fixes.items report.fixed;
      shown = All-weaker (Contains (open_literals F r)) (λ l. IsTrue (is_shown F l.var)) (λ l here. (open_vars F r l here).shown)
          (open_literals F r) (All-contains_itself (open_literals F r));
      others = λ l here. member_cases F r l report here;
    }

-- ---- the witness of a report

witness_of : (F : Cnf) (r : Report) (named : Literals) → IsReport F r → ((x : ℕ) → HasDrop r x → HasLiteralOf named x → ⊥)
    → ((x : ℕ) → IsTrue (is_shown F x) → HasDrop r x ⊎ HasLiteralOf named x) → IsWitnessOf F named (store_text r.models r.drops.items)
witness_of F r named report apart covers = record {
  store = r.models;
  drops = r.drops.items;
  text_is = refl;
  formula = report.formula;
  some = report.some;
  are_models = report.models;
  rise = report.drops_rise;
  dropped = report.dropped;
  apart = apart;
  covers = covers;
}

pub complete_witness : (F : Cnf) (r : Report) → IsComplete F r → IsWitnessOf F (shown_backbone F ++ []) (store_text r.models r.drops.items)
complete_witness F r is =
    subst (λ (named : Literals). IsWitnessOf F named (store_text r.models r.drops.items))
    (is.backbone ∙ sym (append-nil (shown_backbone F)))
    (witness_of F r r.fixes.items is.report is.report.apart is.covered)

partial_apart : (F : Cnf) (r : Report) → IsReport F r → (x : ℕ) → HasDrop r x
    → HasLiteralOf (r.fixes.items ++ open_literals F r) x → ⊥
partial_apart F r report x dropped named =
    let image = image_of (λ (l : Literal). l.var) (r.fixes.items ++ open_literals F r) x named in
    ⊎_elim
    (λ (fixed : Contains r.fixes.items image.source).
    report.apart x dropped (subst (λ (y : ℕ). HasFix r y) image.is (image_in (λ (l : Literal). l.var) r.fixes.items image.source fixed)))
    (λ (free : Contains (open_literals F r) image.source).
    (open_vars F r image.source free).not_dropped (subst (λ (y : ℕ). HasDrop r y) (sym image.is) dropped))
    (Contains-append_cases r.fixes.items (open_literals F r) image.source image.member)

partial_covers : (F : Cnf) (r : Report) (x : ℕ) → IsTrue (is_shown F x)
    → HasDrop r x ⊎ HasLiteralOf (r.fixes.items ++ open_literals F r) x
partial_covers F r x shown =
    by_tests (is_dropped r x) (is_fixed r x) refl refl
  where
    by_tests : (d f : Bool) → is_dropped r x ≡ d → is_fixed r x ≡ f
        → HasDrop r x ⊎ HasLiteralOf (r.fixes.items ++ open_literals F r) x
    by_tests true f dropped fixed = inl (contains_of (λ (w : Witness). w.var) r.drops.items x dropped)
    by_tests false true dropped fixed =
        let image = var_of (λ (l : Literal). l.var) r.fixes.items x fixed in
        inr (subst (λ (y : ℕ). HasLiteralOf (r.fixes.items ++ open_literals F r) y) image.is
        (image_in (λ (l : Literal). l.var) (r.fixes.items ++ open_literals F r) image.source
        (Contains-append_left r.fixes.items (open_literals F r) image.source image.member)))
    by_tests false false dropped fixed =
        let is : IsOpen F r x = record {
          shown = shown;
          not_dropped = λ here. both_ways (is_dropped r x) dropped (has_var_of (λ (w : Witness). w.var) r.drops.items x here);
          not_fixed = λ here. both_ways (is_fixed r x) fixed (has_var_of (λ (l : Literal). l.var) r.fixes.items x here);
        } in
        let l = true_literal (model_at r.models 0) x in
        inr (image_in (λ (k : Literal). k.var) (r.fixes.items ++ open_literals F r) l
        (Contains-append_right r.fixes.items (open_literals F r) l (open_member F r x is)))

pub partial_witness : (F : Cnf) (r : Report) → IsReport F r
    → IsWitnessOf F (r.fixes.items ++ open_literals F r) (store_text r.models r.drops.items)
partial_witness F r report =
    witness_of F r (r.fixes.items ++ open_literals F r) report (partial_apart F r report) (partial_covers F r)

-- one mark more, as at a step of a loop
marked_at : (a b c v : Bool) (e : Bool) → c ≡ (a || b) → v ≡ cond e true c → v ≡ (a || (b || e))
marked_at true b c v true c_is v_is = v_is
marked_at false true c v true c_is v_is = v_is
marked_at false false c v true c_is v_is = v_is
marked_at true b c v false c_is v_is = v_is ∙ c_is
marked_at false true c v false c_is v_is = v_is ∙ c_is
marked_at false false c v false c_is v_is = v_is ∙ c_is

value_after : (a : Assignment) (v x : ℕ) → 0 < v → v ≤ length a → 0 < x
    → value_of (with_value a v true) x ≡ cond (v == x) true (value_of a x)
value_after a v x low high some = by_test (v == x) refl
  where
    by_test : (t : Bool) → (v == x) ≡ t → value_of (with_value a v true) x ≡ cond t true (value_of a x)
    by_test true is = let same : v ≡ x = grind (arith, is) in
        subst (λ (y : ℕ). value_of (with_value a v true) y ≡ true) same (value_of-with_value a v true low high)
    by_test false is = let other : x ≢ v = grind (arith, is) in
        value_of-with_value_other a v x true low some other

pub marked_more : {X : Type 0} (var : X → ℕ) (xs : List X) (k : ℕ) (d : X) (old new : Assignment) → k < length xs
    → 0 < var (slice_index_or xs k d) → var (slice_index_or xs k d) ≤ length old → IsMarked var (take k xs) old new
    → IsMarked var (take (k + 1) xs) old (with_value new (var (slice_index_or xs k d)) true)
marked_more var xs k d old new within low high is =
    let v = var (slice_index_or xs k d) in
    record {
      size = length-set new (v - 1) true ∙ is.size;
      each = λ x some bound.
          (let high_new : v ≤ length new = omega (arith, is.size) in
          let more = list_any_more (λ y. var y == x) xs k d within in
          marked_at (value_of old x) (has_var var (take k xs) x) (value_of new x) (value_of (with_value new v true) x) (v == x)
          (is.each x some bound) (value_after new v x low high_new some)
          ∙ ap (λ (b : Bool). value_of old x || b) (sym more));
    }

-- marks by both lists on a clean slate tell what is open
pub unmarked_is_open : (F : Cnf) (r : Report) (first second : Assignment)
    → IsMarked (λ (w : Witness). w.var) r.drops.items (replicate F.vars false) first
    → IsMarked (λ (l : Literal). l.var) r.fixes.items first second
    → filter (is_unmarked F second) (true_literals (model_at r.models 0) F.vars) ≡ open_literals F r
unmarked_is_open F r first second drops fixes =
    filter_same (is_unmarked F second) (λ l. is_open F r l.var) (true_literals (model_at r.models 0) F.vars)
    (All-weaker (IsWithin F.vars) (λ l. is_unmarked F second l ≡ is_open F r l.var) each
    (true_literals (model_at r.models 0) F.vars) (true_literals_within (model_at r.models 0) F.vars))
  where
    filter_same : (p q : Literal → Bool) (ls : Literals) → All (λ l. p l ≡ q l) ls → filter p ls ≡ filter q ls
    filter_same p q [] same = refl
    filter_same p q (l ∷ ls) same =
        let first = All-head (λ k. p k ≡ q k) l ls same in
        let rest = filter_same p q ls (All-tail (λ k. p k ≡ q k) l ls same) in
        rw (first, rest) refl

    each : (l : Literal) → IsWithin F.vars l → is_unmarked F second l ≡ is_open F r l.var
    each l within =
        let size : length (replicate F.vars false) ≡ F.vars = length-replicate F.vars false in
        let one = drops.each l.var within.low (omega (arith, within.high, size)) in
        let two = fixes.each l.var within.low (omega (arith, within.high, size, drops.size)) in
        let clean : value_of (replicate F.vars false) l.var ≡ false = get_or-replicate F.vars (l.var - 1) false false (omega (arith, within.low, within.high)) in
        ap (λ (b : Bool). is_shown F l.var && not b)
        (two ∙ ap (λ (b : Bool). b || is_fixed r l.var) (one ∙ ap (λ (b : Bool). b || is_dropped r l.var) clean))

-- the literals without a mark, one variable after another
pub unmarked_none : (F : Cnf) (closed a : Assignment) → filter (is_unmarked F closed) (true_literals a 0) ≡ []
unmarked_none F closed a = ap (filter (is_unmarked F closed)) (true_literals-zero a)

pub unmarked_more : (F : Cnf) (closed a : Assignment) (n : ℕ) → filter (is_unmarked F closed) (true_literals a (n + 1))
    ≡ filter (is_unmarked F closed) (true_literals a n)
    ++ cond (is_unmarked F closed (true_literal a (n + 1))) (true_literal a (n + 1) ∷ []) []
unmarked_more F closed a n =
    ap (filter (is_unmarked F closed)) (true_literals-more a n)
    ∙ filter-append (is_unmarked F closed) (true_literals a n) (true_literal a (n + 1) ∷ [])

pub open_by_marks : (F : Cnf) (r : Report) (vars : ℕ) (clean first second : Assignment) (drops : List Witness) (fixes : Literals)
    → vars ≡ F.vars → clean ≡ replicate vars false → drops ≡ r.drops.items → fixes ≡ r.fixes.items
    → IsMarked (λ (w : Witness). w.var) drops clean first → IsMarked (λ (l : Literal). l.var) fixes first second
    → filter (is_unmarked F second) (true_literals (model_at r.models 0) F.vars) ≡ open_literals F r
open_by_marks F r vars clean first second drops fixes vars_are clean_is drops_are fixes_are one two =
    unmarked_is_open F r first second
    (subst (λ (a : Assignment). IsMarked (λ (w : Witness). w.var) r.drops.items a first)
    (clean_is ∙ ap (λ (n : ℕ). replicate n false) vars_are)
    (subst (λ (ws : List Witness). IsMarked (λ (w : Witness). w.var) ws clean first) drops_are one))
    (subst (λ (ls : Literals). IsMarked (λ (l : Literal). l.var) ls first second) fixes_are two)

pub kept_pushed : (F : Cnf) (closed a : Assignment) (n : ℕ) (before : Literals) (lit : Literal)
    → before ≡ filter (is_unmarked F closed) (true_literals a n) → lit ≡ true_literal a (n + 1) → is_unmarked F closed lit ≡ true
    → before ++ lit ∷ [] ≡ filter (is_unmarked F closed) (true_literals a (n + 1))
kept_pushed F closed a n before lit is lit_is passes =
    let kept = filter (is_unmarked F closed) (true_literals a n) in
    let l = true_literal a (n + 1) in
    ap (λ (xs : Literals). xs ++ lit ∷ []) is ∙ ap (λ (k : Literal). kept ++ k ∷ []) lit_is
    ∙ ap (λ (b : Bool). kept ++ cond b (l ∷ []) []) (sym passes ∙ ap (is_unmarked F closed) lit_is)
    ∙ sym (unmarked_more F closed a n)

pub kept_left : (F : Cnf) (closed a : Assignment) (n : ℕ) (before : Literals) (lit : Literal)
    → before ≡ filter (is_unmarked F closed) (true_literals a n) → lit ≡ true_literal a (n + 1) → is_unmarked F closed lit ≡ false
    → before ≡ filter (is_unmarked F closed) (true_literals a (n + 1))
kept_left F closed a n before lit is lit_is fails =
    let kept = filter (is_unmarked F closed) (true_literals a n) in
    let l = true_literal a (n + 1) in
    is ∙ sym (append-nil kept)
    ∙ ap (λ (b : Bool). kept ++ cond b (l ∷ []) []) (sym fails ∙ ap (is_unmarked F closed) lit_is)
    ∙ sym (unmarked_more F closed a n)
