-- A load, a drop and a fix are steps that keep the rule.
use Rattle.std.proofs.Common.{◌≡◌, ◌≢◌, ℕ, zero, suc, ◌+◌, ◌-◌, ◌/◌, ◌%◌, ◌<◌, min, false, List, ◌++◌, length, refl, sym, ap, ◌∙◌, subst, inl, inr, ⊎_elim, arith}
use Rattle.std.specs.Prelude.{slice_index, slice_set}
use Rattle.std.specs.Int.{bit_at}
use Rattle.std.proofs.lemmas.Bool.{cases_eq}
use Rattle.std.proofs.lemmas.List.{length-set, set-get_or}
use Rattle.std.proofs.lemmas.Nat.Bits.{bit_at-lt}
use Rattle.board_core.specs.Subjects.{About, groups, Opposed, Entailed}
use Rattle.board_core.specs.Words.{alive, fixed, Earlier, Inside, times, without, with_fixed, cleared, newly, vars_of}
use Rattle.board_core.specs.Boards.{State, view_at, stepped, load_view, drop_view, fix_view, EachOf}
use Rattle.board_core.specs.Rules.{AreEarlier, AreWords, Fits, BoardRule}
use Rattle.board_core.specs.declared.view.View.{View}
use Rattle.board_core.proofs.Bits.{without_alive, without_fixed, with_fixed_alive, with_fixed_fixed, cleared_bit, newly_bit, times-append, times_vars_of, times_vars_else, times_vars_zero}
use Rattle.board_core.proofs.Steps.{earlier_refl, earlier_trans, alive_set, fixed_set, are_words_set, are_earlier_set, are_earlier_on, Moves, keeps_step}

-- Loads.
pub load_moves : (a : About) (ws : List ℕ) (id g : ℕ) (v : View) → g < groups a.formula.vars → AreWords a ws
    → Fits a ws id v → v.spent ≡ false → Moves a ws id g (slice_index ws g) v (load_view g (slice_index ws g) v)
load_moves a ws id g v low words fits unspent =
    let w = slice_index ws g in
    let same : slice_set ws g (slice_index ws g) ≡ ws = set-get_or ws g 0 in
    let size = words.size in
    let seen_size = fits.seen.size in
    let loaded_size = fits.loaded.size in record {
      later = earlier_refl w;
      inside = words.inside g low;
      against = λ i within is gone. inl gone;
      entailed = λ i within is here. inl here;
      unspent = unspent;
      next = refl;
      out = refl;
      fits = record {
        about = fits.about;
        number = fits.number;
        seen = are_words_set a v.seen g w fits.seen (words.inside g low);
        loaded = are_words_set a v.loaded g w fits.loaded (words.inside g low);
        loads_length = length-set v.loads g _ ∙ fits.loads_length;
        looks_length = fits.looks_length;
        loaded_seen = are_earlier_set (groups a.formula.vars) v.loaded v.seen g w w (omega arith) (omega arith) fits.loaded_seen (earlier_refl w);
        seen_word = are_earlier_set (groups a.formula.vars) v.seen ws g w w (omega arith) (omega arith) fits.seen_word (earlier_refl w);
      };
      drops = λ x. ap (λ (us : List ℕ). times x v.drops + alive us x) same;
      fixes = λ x. ap (λ (us : List ℕ). times x v.fixes + fixed us x) (sym same);
    }

-- a view that has seen the new word of a group, where that is a later one
marked_fits : (a : About) (ws : List ℕ) (id g w : ℕ) (v u : View) → g < groups a.formula.vars → AreWords a ws → Fits a ws id v
    → Earlier (slice_index ws g) w → Inside a.formula g w → u.seen ≡ slice_set v.seen g w → u.about ≡ v.about → u.number ≡ v.number
    → u.loaded ≡ v.loaded → u.loads ≡ v.loads → u.looks ≡ v.looks → Fits a (slice_set ws g w) id u
marked_fits a ws id g w v u low words fits later inside seen about number loaded loads looks =
    let size = words.size in
    let seen_size = fits.seen.size in record {
      about = about ∙ fits.about;
      number = number ∙ fits.number;
      seen = subst (λ (us : List ℕ). AreWords a us) (sym seen) (are_words_set a v.seen g w fits.seen inside);
      loaded = subst (λ (us : List ℕ). AreWords a us) (sym loaded) fits.loaded;
      loads_length = ap length loads ∙ fits.loads_length;
      looks_length = ap length looks ∙ fits.looks_length;
      loaded_seen = subst (λ (us : List ℕ). AreEarlier (groups a.formula.vars) us u.seen) (sym loaded)
          (subst (λ (us : List ℕ). AreEarlier (groups a.formula.vars) v.loaded us) (sym seen)
          (are_earlier_on (groups a.formula.vars) v.loaded v.seen g w (omega arith) low fits.loaded_seen
          (earlier_trans (slice_index v.seen g) (slice_index ws g) w (fits.seen_word g low) later)));
      seen_word = subst (λ (us : List ℕ). AreEarlier (groups a.formula.vars) us (slice_set ws g w)) (sym seen)
          (are_earlier_set (groups a.formula.vars) v.seen ws g w w (omega arith) (omega arith) fits.seen_word (earlier_refl w));
    }

-- Drops.
drop_drops : (ws : List ℕ) (g mask : ℕ) (v : View) → g < length ws → mask < 4294967296 → (x : ℕ)
    → times x (v.drops ++ vars_of g (cleared (slice_index ws g) mask)) + alive (slice_set ws g (without (slice_index ws g) mask)) x
    ≡ times x v.drops + alive ws x
drop_drops ws g mask v low small zero =
    omega (arith, times-append 0 v.drops (vars_of g (cleared (slice_index ws g) mask)), times_vars_zero g (cleared (slice_index ws g) mask))
drop_drops ws g mask v low small (suc c) =
    let w : ℕ = slice_index ws g in
    let i : ℕ = c % 32 in
    let within : c % 32 < 32 = omega arith in
    let parts : times (suc c) (v.drops ++ vars_of g (cleared w mask)) ≡ times (suc c) v.drops + times (suc c) (vars_of g (cleared w mask)) =
    times-append (suc c) v.drops (vars_of g (cleared w mask)) in
    alive_set ws g (without w mask) c
    (λ (b : ℕ). times (suc c) (v.drops ++ vars_of g (cleared w mask)) + b ≡ times (suc c) v.drops + alive ws (suc c)) low
    (λ here.
    let was : bit_at (slice_index ws (c / 32)) (c % 32) ≡ bit_at (slice_index ws g) (c % 32) = ap (λ (h : ℕ). bit_at (slice_index ws h) (c % 32)) here in
    let won : times (suc c) (vars_of g (cleared w mask)) ≡ bit_at (cleared w mask) (c % 32) = times_vars_of c g (cleared w mask) here in
    let taken : bit_at (cleared w mask) (c % 32) ≡ min (bit_at w (c % 32)) (bit_at mask (c % 32)) = cleared_bit w mask (c % 32) in
    let left : bit_at (without w mask) (c % 32) ≡ min (bit_at w (c % 32)) (1 - bit_at mask (c % 32)) = without_alive w mask (c % 32) small within in
    let one : bit_at w (c % 32) < 2 = bit_at-lt w (c % 32) in
    let two : bit_at mask (c % 32) < 2 = bit_at-lt mask (c % 32) in
    omega (arith, parts, was, won, taken, left, one, two))
    (λ other.
    let won : times (suc c) (vars_of g (cleared w mask)) ≡ 0 = times_vars_else c g (cleared w mask) other in
    omega (arith, parts, won))

drop_fixes : (ws : List ℕ) (g mask : ℕ) → g < length ws → mask < 4294967296 → (x : ℕ)
    → fixed (slice_set ws g (without (slice_index ws g) mask)) x ≡ fixed ws x
drop_fixes ws g mask low small zero = refl
drop_fixes ws g mask low small (suc c) =
    fixed_set ws g (without (slice_index ws g) mask) c (λ (b : ℕ). b ≡ fixed ws (suc c)) low
    (λ here. without_fixed (slice_index ws g) mask (c % 32) small (omega arith)
    ∙ ap (λ (h : ℕ). bit_at (slice_index ws h) (32 + c % 32)) (sym here))
    (λ _. refl)

pub drop_moves : (a : About) (ws : List ℕ) (id g mask : ℕ) (v : View) → g < groups a.formula.vars → mask < 4294967296
    → EachOf a (Opposed a) g mask → AreWords a ws → Fits a ws id v → v.spent ≡ false
    → Moves a ws id g (without (slice_index ws g) mask) v (drop_view g mask (slice_index ws g) v)
drop_moves a ws id g mask v low small each words fits unspent =
    let w = slice_index ws g in
    let size = words.size in
    let later : Earlier (slice_index ws g) (without (slice_index ws g) mask) = λ i within.
    (omega (arith, without_alive (slice_index ws g) mask i small within), omega (arith, without_fixed (slice_index ws g) mask i small within)) in
    let inside : Inside a.formula g (without (slice_index ws g) mask) = λ i within.
    let was = words.inside g low i within in
    (omega (arith, was.0, without_alive (slice_index ws g) mask i small within), omega (arith, was.1, without_fixed (slice_index ws g) mask i small within)) in
    record {
      later = later;
      inside = inside;
      against = λ i within is gone. ⊎_elim
          (λ (here : bit_at mask i ≡ 1). inr (each i within here).1)
          (λ (other : bit_at mask i ≢ 1). inl (omega (arith, without_alive (slice_index ws g) mask i small within, bit_at-lt mask i, bit_at-lt (slice_index ws g) i)))
          (cases_eq (bit_at mask i) 1);
      entailed = λ i within is here. inl (sym (without_fixed (slice_index ws g) mask i small within) ∙ here);
      unspent = unspent;
      next = refl;
      out = refl;
      fits = marked_fits a ws id g (without (slice_index ws g) mask) v (drop_view g mask (slice_index ws g) v) low words fits later inside refl refl refl refl refl refl;
      drops = drop_drops ws g mask v (omega arith) small;
      fixes = λ x. ap (λ (n : ℕ). times x v.fixes + n) (sym (drop_fixes ws g mask (omega arith) small x));
    }

-- Fixes.
fix_fixes : (ws : List ℕ) (g mask : ℕ) (v : View) → g < length ws → (x : ℕ)
    → times x (v.fixes ++ vars_of g (newly (slice_index ws g) mask)) + fixed ws x
    ≡ times x v.fixes + fixed (slice_set ws g (with_fixed (slice_index ws g) mask)) x
fix_fixes ws g mask v low zero =
    omega (arith, times-append 0 v.fixes (vars_of g (newly (slice_index ws g) mask)), times_vars_zero g (newly (slice_index ws g) mask))
fix_fixes ws g mask v low (suc c) =
    let w : ℕ = slice_index ws g in
    let parts : times (suc c) (v.fixes ++ vars_of g (newly w mask)) ≡ times (suc c) v.fixes + times (suc c) (vars_of g (newly w mask)) =
    times-append (suc c) v.fixes (vars_of g (newly w mask)) in
    fixed_set ws g (with_fixed w mask) c
    (λ (b : ℕ). times (suc c) (v.fixes ++ vars_of g (newly w mask)) + fixed ws (suc c) ≡ times (suc c) v.fixes + b) low
    (λ here.
    let was : bit_at (slice_index ws (c / 32)) (32 + c % 32) ≡ bit_at (slice_index ws g) (32 + c % 32) =
    ap (λ (h : ℕ). bit_at (slice_index ws h) (32 + c % 32)) here in
    let won : times (suc c) (vars_of g (newly w mask)) ≡ bit_at (newly w mask) (c % 32) = times_vars_of c g (newly w mask) here in
    let taken = newly_bit w mask (c % 32) in
    let left = with_fixed_fixed w mask (c % 32) in
    let one : bit_at w (32 + c % 32) < 2 = bit_at-lt w (32 + c % 32) in
    let two : bit_at mask (c % 32) < 2 = bit_at-lt mask (c % 32) in
    omega (arith, parts, was, won, taken, left, one, two))
    (λ other.
    let won : times (suc c) (vars_of g (newly w mask)) ≡ 0 = times_vars_else c g (newly w mask) other in
    omega (arith, parts, won))

fix_drops : (ws : List ℕ) (g mask : ℕ) → g < length ws → (x : ℕ)
    → alive (slice_set ws g (with_fixed (slice_index ws g) mask)) x ≡ alive ws x
fix_drops ws g mask low zero = refl
fix_drops ws g mask low (suc c) =
    alive_set ws g (with_fixed (slice_index ws g) mask) c (λ (b : ℕ). b ≡ alive ws (suc c)) low
    (λ here. with_fixed_alive (slice_index ws g) mask (c % 32) (omega arith)
    ∙ ap (λ (h : ℕ). bit_at (slice_index ws h) (c % 32)) (sym here))
    (λ _. refl)

pub fix_moves : (a : About) (ws : List ℕ) (id g mask : ℕ) (v : View) → g < groups a.formula.vars
    → EachOf a (Entailed a) g mask → AreWords a ws → Fits a ws id v → v.spent ≡ false
    → Moves a ws id g (with_fixed (slice_index ws g) mask) v (fix_view g mask (slice_index ws g) v)
fix_moves a ws id g mask v low each words fits unspent =
    let w = slice_index ws g in
    let size = words.size in
    let later : Earlier (slice_index ws g) (with_fixed (slice_index ws g) mask) = λ i within.
    (omega (arith, with_fixed_alive (slice_index ws g) mask i within), omega (arith, with_fixed_fixed (slice_index ws g) mask i)) in
    let inside : Inside a.formula g (with_fixed (slice_index ws g) mask) = λ i within.
    let was = words.inside g low i within in (
      omega (arith, was.0, with_fixed_alive (slice_index ws g) mask i within),
      ⊎_elim
          (λ (here : bit_at mask i ≡ 1).
          let is = (each i within here).0 in
          omega (arith, is, with_fixed_fixed (slice_index ws g) mask i, bit_at-lt (slice_index ws g) (32 + i)))
          (λ (other : bit_at mask i ≢ 1). omega (arith, was.1, with_fixed_fixed (slice_index ws g) mask i, bit_at-lt mask i))
          (cases_eq (bit_at mask i) 1),
    ) in
    record {
      later = later;
      inside = inside;
      against = λ i within is gone. inl (sym (with_fixed_alive (slice_index ws g) mask i within) ∙ gone);
      entailed = λ i within is set_now. ⊎_elim
          (λ (here : bit_at mask i ≡ 1). inr (each i within here).1)
          (λ (other : bit_at mask i ≢ 1). inl (omega (arith, with_fixed_fixed (slice_index ws g) mask i, bit_at-lt mask i, set_now)))
          (cases_eq (bit_at mask i) 1);
      unspent = unspent;
      next = refl;
      out = refl;
      fits = marked_fits a ws id g (with_fixed (slice_index ws g) mask) v (fix_view g mask (slice_index ws g) v) low words fits later inside refl refl refl refl refl refl;
      drops = λ x. ap (λ (n : ℕ). times x v.drops + n) (fix_drops ws g mask (omega arith) x);
      fixes = fix_fixes ws g mask v (omega arith);
    }

pub keeps_load : (a : About) (s : State) (id g : ℕ) → BoardRule a s → g < groups a.formula.vars → (view_at s.views id).spent ≡ false
    → BoardRule a (stepped s id g (slice_index s.words g) (load_view g (slice_index s.words g) (view_at s.views id)))
keeps_load a s id g rule low unspent =
    keeps_step a s id g (slice_index s.words g) (load_view g (slice_index s.words g) (view_at s.views id)) rule low unspent
    (load_moves a s.words id g (view_at s.views id) low rule.words (rule.views id unspent) unspent)

pub keeps_drop : (a : About) (s : State) (id g mask : ℕ) → BoardRule a s → g < groups a.formula.vars → mask < 4294967296
    → EachOf a (Opposed a) g mask → (view_at s.views id).spent ≡ false
    → BoardRule a (stepped s id g (without (slice_index s.words g) mask) (drop_view g mask (slice_index s.words g) (view_at s.views id)))
keeps_drop a s id g mask rule low small each unspent =
    keeps_step a s id g (without (slice_index s.words g) mask) (drop_view g mask (slice_index s.words g) (view_at s.views id)) rule low unspent
    (drop_moves a s.words id g mask (view_at s.views id) low small each rule.words (rule.views id unspent) unspent)

pub keeps_fix : (a : About) (s : State) (id g mask : ℕ) → BoardRule a s → g < groups a.formula.vars
    → EachOf a (Entailed a) g mask → (view_at s.views id).spent ≡ false
    → BoardRule a (stepped s id g (with_fixed (slice_index s.words g) mask) (fix_view g mask (slice_index s.words g) (view_at s.views id)))
keeps_fix a s id g mask rule low each unspent =
    keeps_step a s id g (with_fixed (slice_index s.words g) mask) (fix_view g mask (slice_index s.words g) (view_at s.views id)) rule low unspent
    (fix_moves a s.words id g mask (view_at s.views id) low each rule.words (rule.views id unspent) unspent)
