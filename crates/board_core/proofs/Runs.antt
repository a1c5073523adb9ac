-- Every run keeps both rules, and what follows of the words.
use Rattle.std.proofs.Common.{◌≡◌, ◌≢◌, ℕ, zero, suc, ◌-◌, ◌<◌, ◌≤◌, Bool, true, false, List, [], ◌∷◌, ◌++◌, length, filter, refl, sym, ap, ◌∙◌, subst, ⊎_elim, arith, true≢false}
use Rattle.std.specs.Prelude.{◌==◌, ◌&&◌, slice_index, slice_set}
use Rattle.std.specs.List.{sum_by}
use Rattle.std.proofs.lemmas.Bool.{cases_eq, eq-eqb, ne_eqb}
use Rattle.cnf_core.specs.Literals.{Literal, Literals, Assignment, value_of, IsWithin}
use Rattle.cnf_core.specs.Formulas.{IsModel, entails, is_shown, shown_backbone, true_literal, true_literals}
use Rattle.cnf_core.proofs.Models.{entails-against}
use Rattle.cnf_core.proofs.Shown.{shown_of_model}
use Rattle.board_core.specs.Subjects.{About, about, groups, flag, candidate, Opposed, Entailed}
use Rattle.board_core.specs.Words.{fixed, open_at, Earlier, times, without, with_fixed}
use Rattle.board_core.specs.Boards.{State, view_at, opening, after, after_all, IsLawful, AreLawful, load_view, origin_of}
use Rattle.board_core.specs.Rules.{AreEarlier, AreWords, BoardRule, ClockRule, IsKept}
use Rattle.board_core.specs.Laws.{fixed_literals, NoneOpen, EveryRun}
use Rattle.board_core.specs.declared.view.View.{View}
use Rattle.board_core.specs.declared.event.Event.{Event}
use Rattle.board_core.specs.declared.event.Event.TheVariants.{Load, Drop, Fix, Split, Join, Publish, Origin}
use Rattle.board_core.proofs.Steps.{seated, earlier_refl, earlier_trans, are_earlier_on}
use Rattle.board_core.proofs.Marks.{drop_moves, fix_moves, keeps_load, keeps_drop, keeps_fix}
use Rattle.board_core.proofs.Seats.{keeps_split, keeps_join, keeps_quiet, same_fits, out_place}
use Rattle.board_core.proofs.Clocks.{clocks_step, clocks_split, clocks_join, clocks_publish, clocks_origin, unpublished, fixed_by}
use Rattle.board_core.proofs.Ends.{opens, clocks_open, candidate_within, candidate-lt, fixed_candidate}
use Rattle.std.proofs.lemmas.List.{length-set}
use Rattle.std.proofs.lemmas.List.Elements.{filter-append}
use Rattle.board_core.specs.Boards.{publish_view, origin_view, drop_view, fix_view}
use Rattle.board_core.proofs.Bits.{times-append}
use Rattle.board_core.specs.Words.{vars_of, newly}

-- a variable that a view fixed is one of the formula's, and fixed at most once
pub fixed_within : (a : About) (s : State) (id x : ℕ) → BoardRule a s → id < length s.views → 1 ≤ times x (view_at s.views id).fixes
    → IsWithin a.formula.vars (record { var = x; positive = true })
fixed_within a s id x rule within some =
    candidate_within a.formula x (omega (arith, fixed_by a s id x rule within, fixed_candidate a s.words x rule.words))

pub fixed-le-one : (a : About) (s : State) (x : ℕ) → BoardRule a s → fixed s.words x ≤ 1
fixed-le-one a s x rule = omega (arith, fixed_candidate a s.words x rule.words, candidate-lt a.formula x)

-- each event keeps the rule
pub keeps_after : (a : About) (s : State) (e : Event) → BoardRule a s → IsLawful a s e → BoardRule a (after s e)
keeps_after a s (Load id g) rule may = keeps_load a s id g rule may.group may.unspent
keeps_after a s (Drop id g mask) rule may =
    keeps_drop a s id g mask rule may.loads.group (let small = may.limit in omega arith) may.each may.loads.unspent
keeps_after a s (Fix id g mask) rule may = keeps_fix a s id g mask rule may.loads.group may.each may.loads.unspent
keeps_after a s Split rule may = keeps_split a s s.origins rule
keeps_after a s (Join id) rule may = keeps_join a s s.origins id rule may.unspent (out_place a s id rule may.unspent may.out)
keeps_after a s (Publish id x stamp) rule may =
    keeps_quiet a s _ id (publish_view x stamp (view_at s.views id)) rule may.unspent may.unspent refl refl refl refl
    (same_fits a s.words id (view_at s.views id) (publish_view x stamp (view_at s.views id)) (rule.views id may.unspent) refl refl refl refl refl refl)
keeps_after a s (Origin id x) rule may =
    keeps_quiet a s _ id (origin_view x (origin_of s.origins x) (view_at s.views id)) rule may.unspent may.unspent refl refl refl refl
    (same_fits a s.words id (view_at s.views id) (origin_view x (origin_of s.origins x) (view_at s.views id)) (rule.views id may.unspent) refl refl refl refl refl
    (length-set (view_at s.views id).looks (x - 1) _))

-- and the rule of the clocks
pub clocks_after : (a : About) (s : State) (e : Event) → BoardRule a s → ClockRule a s → IsLawful a s e → ClockRule a (after s e)
clocks_after a s (Load id g) rule clocks may =
    clocks_step a s _ id (load_view g (slice_index s.words g) (view_at s.views id)) clocks may.within refl refl (λ x. omega arith)
clocks_after a s (Drop id g mask) rule clocks may =
    clocks_step a s _ id (drop_view g mask (slice_index s.words g) (view_at s.views id)) clocks may.loads.within refl refl (λ x. omega arith)
clocks_after a s (Fix id g mask) rule clocks may =
    clocks_step a s _ id (fix_view g mask (slice_index s.words g) (view_at s.views id)) clocks may.loads.within refl refl
    (λ x. omega (arith, times-append x (view_at s.views id).fixes (vars_of g (newly (slice_index s.words g) mask))))
clocks_after a s Split rule clocks may = clocks_split a s s.words clocks (seated s.views 0 rule.rooted.root)
clocks_after a s (Join id) rule clocks may = clocks_join a s s.words id clocks may.within (out_place a s id rule may.unspent may.out)
clocks_after a s (Publish id x stamp) rule clocks may =
    let inside = fixed_within a s id x rule may.within may.publishes.fixed in
    clocks_publish a s s.words id x stamp clocks may.within inside.low inside.high
    (unpublished a s id x stamp rule clocks may.within (fixed-le-one a s x rule) inside.low inside.high may.publishes) may.publishes
clocks_after a s (Origin id x) rule clocks may = clocks_origin a s s.words id x clocks may.within may.low may.high

-- no event takes a word back
same_words : (n : ℕ) (ws : List ℕ) → AreEarlier n ws ws
same_words n ws g low = earlier_refl (slice_index ws g)

later_set : (a : About) (ws : List ℕ) (g w : ℕ) → AreWords a ws → g < groups a.formula.vars → Earlier (slice_index ws g) w
    → AreEarlier (groups a.formula.vars) ws (slice_set ws g w)
later_set a ws g w words low later =
    let size = words.size in
    are_earlier_on (groups a.formula.vars) ws ws g w (omega arith) low (same_words (groups a.formula.vars) ws) later

pub later_after : (a : About) (s : State) (e : Event) → BoardRule a s → IsLawful a s e
    → AreEarlier (groups a.formula.vars) s.words (after s e).words
later_after a s (Load id g) rule may = later_set a s.words g (slice_index s.words g) rule.words may.group (earlier_refl (slice_index s.words g))
later_after a s (Drop id g mask) rule may =
    later_set a s.words g (without (slice_index s.words g) mask) rule.words may.loads.group
    (drop_moves a s.words id g mask (view_at s.views id) may.loads.group (let small = may.limit in omega arith) may.each rule.words
    (rule.views id may.loads.unspent) may.loads.unspent).later
later_after a s (Fix id g mask) rule may =
    later_set a s.words g (with_fixed (slice_index s.words g) mask) rule.words may.loads.group
    (fix_moves a s.words id g mask (view_at s.views id) may.loads.group may.each rule.words (rule.views id may.loads.unspent) may.loads.unspent).later
later_after a s Split rule may = same_words (groups a.formula.vars) s.words
later_after a s (Join id) rule may = same_words (groups a.formula.vars) s.words
later_after a s (Publish id x stamp) rule may = same_words (groups a.formula.vars) s.words
later_after a s (Origin id x) rule may = same_words (groups a.formula.vars) s.words

-- Lists of events.
pub kept_after : (a : About) (s : State) (e : Event) → IsKept a s → IsLawful a s e → IsKept a (after s e)
kept_after a s e kept may = record { rule = keeps_after a s e kept.rule may; clocks = clocks_after a s e kept.rule kept.clocks may }

kept_run : (a : About) (s : State) (es : List Event) → IsKept a s → AreLawful a s es → IsKept a (after_all s es)
kept_run a s [] kept may = kept
kept_run a s (e ∷ es) kept may =
    kept_run a (after s e) es (kept_after a s e kept may.0) may.1

later_run : (a : About) (s : State) (es : List Event) → BoardRule a s → AreLawful a s es
    → AreEarlier (groups a.formula.vars) s.words (after_all s es).words
later_run a s [] rule may = same_words (groups a.formula.vars) s.words
later_run a s (e ∷ es) rule may = λ g low.
    earlier_trans (slice_index s.words g) (slice_index (after s e).words g) (slice_index (after_all (after s e) es).words g)
    (later_after a s e rule may.0 g low)
    (later_run a (after s e) es (keeps_after a s e rule may.0) may.1 g low)

later_part : (a : About) (s : State) (front back : List Event) → BoardRule a s → AreLawful a s (front ++ back)
    → AreEarlier (groups a.formula.vars) (after_all s front).words (after_all s (front ++ back)).words
later_part a s [] back rule may = later_run a s back rule may
later_part a s (e ∷ front) back rule may = later_part a (after s e) front back (keeps_after a s e rule may.0) may.1

-- What follows of the rule.
conflict : (a : About) (x : ℕ) → Opposed a x → Entailed a x → ⊥
unfolding Opposed Entailed
conflict a x opposed entailed =
    true≢false (sym entailed ∙ entails-against a.formula opposed.0 x (value_of a.phases x) opposed.1)

pub not_both : (a : About) (s : State) (x : ℕ) → BoardRule a s → 1 ≤ sum_by (λ (v : View). times x v.drops) s.views
    → 1 ≤ sum_by (λ (v : View). times x v.fixes) s.views → ⊥
not_both a s x rule dropped fixes =
    let drops = rule.dropped_once x in
    let fixed_is = rule.fixed_once x in
    let most = fixed_candidate a s.words x rule.words in
    let one = candidate-lt a.formula x in
    conflict a x (rule.truth.against x (omega arith) (omega arith)) (rule.truth.entailed x (omega arith) (omega arith))

-- whether a variable is fixed is whether it is shown and entailed, where none is open
test_hidden : (a : About) (s : State) (x : ℕ) → BoardRule a s → is_shown a.formula x ≡ false
    → (fixed s.words x == 1) ≡ (is_shown a.formula x && entails a.formula (true_literal a.phases x))
unfolding candidate
test_hidden a s x rule hidden =
    let none : candidate a.formula x ≡ 0 = ap flag hidden in
    let most = fixed_candidate a s.words x rule.words in
    ne_eqb (fixed s.words x) 1 (omega arith)
    ∙ sym (ap (λ (b : Bool). b && entails a.formula (true_literal a.phases x)) hidden)

test_shown : (a : About) (s : State) (x : ℕ) → BoardRule a s → open_at s.words x ≡ 0 → is_shown a.formula x ≡ true
    → (fixed s.words x == 1) ≡ (is_shown a.formula x && entails a.formula (true_literal a.phases x))
unfolding candidate Opposed Entailed
test_shown a s x rule closed shown =
    let one : candidate a.formula x ≡ 1 = ap flag shown in
    let both : (b : Bool) → entails a.formula (true_literal a.phases x) ≡ b
    → (is_shown a.formula x && entails a.formula (true_literal a.phases x)) ≡ b =
    λ b is. ap (λ (c : Bool). c && entails a.formula (true_literal a.phases x)) shown ∙ is in
    ⊎_elim
    (λ (here : fixed s.words x ≡ 1). eq-eqb (fixed s.words x) 1 here ∙ sym (both true (rule.truth.entailed x one here)))
    (λ (free : fixed s.words x ≢ 1).
    let most = fixed_candidate a s.words x rule.words in
    let opposed = rule.truth.against x one (omega arith) in
    ne_eqb (fixed s.words x) 1 free ∙ sym (both false (entails-against a.formula opposed.0 x (value_of a.phases x) opposed.1)))
    (cases_eq (fixed s.words x) 1)

same_test : (a : About) (s : State) (x : ℕ) → BoardRule a s → open_at s.words x ≡ 0
    → (fixed s.words x == 1) ≡ (is_shown a.formula x && entails a.formula (true_literal a.phases x))
same_test a s x rule closed = by_test (is_shown a.formula x) refl
  where
    by_test : (b : Bool) → is_shown a.formula x ≡ b → (fixed s.words x == 1) ≡ (is_shown a.formula x && entails a.formula (true_literal a.phases x))
    by_test true shown = test_shown a s x rule closed shown
    by_test false hidden = test_hidden a s x rule hidden

-- two tests that agree on each true literal keep the same of them
same_kept : (p q : Literal → Bool) (phases : Assignment) (n : ℕ) → ((x : ℕ) → p (true_literal phases x) ≡ q (true_literal phases x))
    → filter p (true_literals phases n) ≡ filter q (true_literals phases n)
unfolding true_literals
same_kept p q phases zero same = refl
same_kept p q phases (suc n) same =
    let last : Literals = true_literal phases (suc n) ∷ [] in
    rw (filter-append p (true_literals phases n) last, filter-append q (true_literals phases n) last, same_kept p q phases n same, same (suc n)) refl

pub settled : (a : About) (s : State) → BoardRule a s → IsModel a.formula a.phases → NoneOpen s.words
    → fixed_literals a.phases s.words a.formula.vars ≡ shown_backbone a.formula
settled a s rule model none =
    same_kept (λ (l : Literal). fixed s.words l.var == 1) (λ (l : Literal). is_shown a.formula l.var && entails a.formula l) a.phases a.formula.vars
    (λ x. same_test a s x rule (none x))
    ∙ sym (shown_of_model a.formula a.phases model)

pub every_run : EveryRun
every_run F phases es some model may =
    let a : About = about F phases in
    let kept = kept_run (about F phases) (opening (about F phases)) es (record { rule = opens (about F phases); clocks = clocks_open (about F phases) }) may in
    record {
      rule = kept.rule;
      clocks = kept.clocks;
      later = λ front back is.
          subst (λ (all : List Event). AreEarlier (groups F.vars) (after_all (opening (about F phases)) front).words (after_all (opening (about F phases)) all).words) (sym is)
          (later_part (about F phases) (opening (about F phases)) front back (opens (about F phases))
          (subst (λ (all : List Event). AreLawful (about F phases) (opening (about F phases)) all) is may));
      once = λ x. not_both (about F phases) (after_all (opening (about F phases)) es) x kept.rule;
      settled = settled (about F phases) (after_all (opening (about F phases)) es) kept.rule model;
    }
