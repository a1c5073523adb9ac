-- Each step of a seat keeps the table's rule, and what it tells.
use Rattle.std.proofs.Common.{◌≡◌, ◌≢◌, ℕ, zero, suc, ◌+◌, ◌-◌, ◌*◌, ◌/◌, ◌<◌, ◌≤◌, false, List, [], ◌∷◌, ◌++◌, length, set, take, drop, replicate, refl, sym, ap, ◌∙◌, subst, arith}
use Rattle.std.specs.Prelude.{slice_index, slice_set, bit_and, bit_or}
use Rattle.std.specs.Int.{bit_at, div_ceil}
use mathlib.Core.Option.{Option, some, none, some-injective, some-ne-none}
use lib.ListN.{get_elem?}
use Rattle.std.proofs.lemmas.List.{get_or-take, get_or-drop, get_or-set_same, get_or-set_other, set-get_or, take-set-le, take_all, drop-set-lt, drop-set-add, take_at, drop_at}
use Rattle.std.proofs.lemmas.List.FromFn.{length-map-range_with_len}
use Rattle.cnf_core.specs.Formulas.{Cnf}
use Rattle.atomic_table.specs.Table.{State, Me, keeps, step, Allows, Splits, Joins, opening, Final, Seen}
use Rattle.board_core.specs.Subjects.{About, groups, Opposed, Entailed}
use Rattle.board_core.specs.Words.{Earlier, without, with_fixed, newly, named, opening_word}
use Rattle.board_core.specs.Boards.{spent_view, view_at, origin_of, root_view, opening_words, load_view, drop_view, fix_view, publish_view, origin_view, parent, child, joined, EachOf, MayPublish, State as BoardState}
use Rattle.board_core.specs.Rules.{IsKept, IsView, IsOnce, IsSound, Tells}
use Rattle.board_core.specs.declared.view.View.{View}
use Rattle.board_core.specs.declared.event.Event.TheVariants.{Load, Drop, Fix, Publish, Origin}
use Rattle.board_core.proofs.Steps.{seated}
use Rattle.board_core.proofs.Seats.{keeps_split, keeps_join}
use Rattle.board_core.proofs.Clocks.{clocks_split, clocks_join, unpublished}
use Rattle.board_core.proofs.Ends.{opens, clocks_open, closes, word_sound, own_win, origin_tells}
use Rattle.board_core.proofs.Views.{is_view, is_once}
use Rattle.board_core.proofs.Runs.{kept_after, fixed_within, fixed-le-one}
use Rattle.candidate_words.specs.Seats.{Board, Sitter, Sits, TellsOrigin}
use Rattle.candidate_words.specs.Steps.Tables.{board_of, Holds}
use Rattle.candidate_words.specs.Steps.Plays.{Becomes, Found, Loaded, Dropped, Fixed, var_of, Published, Asked, Looked}

-- a view that is looked up
pub view_from : (vs : List View) (id : ℕ) (v : View) → get_elem? vs id ≡ some v → view_at vs id ≡ v
view_from [] id v is = absurd (some-ne-none v (sym is))
view_from (u ∷ vs) zero v is = some-injective u v is
view_from (u ∷ vs) (suc id) v is = view_from vs id v is

pub take-set : (n : ℕ) (ws : List ℕ) (g w : ℕ) → take n (set ws g w) ≡ set (take n ws) g w
take-set zero ws g w = refl
take-set (suc n) [] g w = refl
take-set (suc n) (u ∷ ws) zero w = refl
take-set (suc n) (u ∷ ws) (suc g) w = ap (λ (us : List ℕ). u ∷ us) (take-set n ws g w)

-- what the rule tells of the word that a seat found, and of its view after the step
found : (a : About) (t : State ℕ View) (id g : ℕ) (me : Me ℕ View) → Holds a t → IsView a me.0 → view_at t.views id ≡ me.0
    → g < groups a.formula.vars → Found me g (slice_index t.words g)
found a t id g me kept is here low =
    let s : BoardState = board_of a t in
    let word : slice_index (take (groups a.formula.vars) t.words) g ≡ slice_index t.words g = get_or-take (groups a.formula.vars) t.words g 0 low in
    let unspent : (view_at t.views id).spent ≡ false = ap (λ (v : View). v.spent) here ∙ is.unspent in record {
      later = subst (λ (v : View). Earlier (slice_index v.seen g) (slice_index t.words g)) here
          (subst (λ (w : ℕ). Earlier (slice_index (view_at t.views id).seen g) w) word ((kept.rule.views id unspent).seen_word g low));
      sound = subst (λ (b : About). IsSound b g (slice_index t.words g)) (sym is.about)
          (subst (λ (w : ℕ). IsSound a g w) word
          (word_sound a (take (groups a.formula.vars) t.words) g kept.rule.words kept.rule.truth low));
    }

becomes : (a : About) (t : State ℕ View) (id : ℕ) (me : Me ℕ View) (u : View) → me.0.about ≡ a → Holds a t → view_at t.views id ≡ u
    → u.spent ≡ false → Becomes me (u, me.1) u
becomes a t id me u about kept here unspent =
    let seat : (view_at t.views id).spent ≡ false = ap (λ (v : View). v.spent) here ∙ unspent in record {
      is = refl;
      view = subst (λ (b : About). IsView b u) (sym about) (subst (λ (v : View). IsView a v) here (is_view a (board_of a t) id kept.rule kept.clocks seat));
      once = subst (λ (b : About). IsOnce b u) (sym about) (subst (λ (v : View). IsOnce a v) here (is_once a (board_of a t) id kept.rule seat));
    }

-- a step on a group's word
moved : (a : About) (t : State ℕ View) (id g w : ℕ) (homes : List (Option ℕ)) (u : View) → g < groups a.formula.vars
    → IsKept a (record {
      words = slice_set (take (groups a.formula.vars) t.words) g w;
      origins = drop (groups a.formula.vars) t.words;
      views = slice_set t.views id u;
    })
    → Holds a (record { words = slice_set t.words g w; homes = homes; views = slice_set t.views id u })
moved a t id g w homes u low kept =
    let e : take (groups a.formula.vars) (set t.words g w) ≡ set (take (groups a.formula.vars) t.words) g w = take-set (groups a.formula.vars) t.words g w in
    let f : drop (groups a.formula.vars) (set t.words g w) ≡ drop (groups a.formula.vars) t.words = drop-set-lt (groups a.formula.vars) t.words g w low in
    subst (λ (ws : List ℕ). IsKept a (record { words = ws; origins = drop (groups a.formula.vars) (set t.words g w); views = slice_set t.views id u })) (sym e)
    (subst (λ (os : List ℕ). IsKept a (record { words = set (take (groups a.formula.vars) t.words) g w; origins = os; views = slice_set t.views id u })) (sym f) kept)

-- the event on the board, with the word and the view that the table has
kept_at : (a : About) (t : State ℕ View) (id g : ℕ) (v : View) (F : ℕ → ℕ) (V : ℕ → View → View) → g < groups a.formula.vars → view_at t.views id ≡ v
    → IsKept a (record {
      words = slice_set (take (groups a.formula.vars) t.words) g (F (slice_index (take (groups a.formula.vars) t.words) g));
      origins = drop (groups a.formula.vars) t.words;
      views = slice_set t.views id (V (slice_index (take (groups a.formula.vars) t.words) g) (view_at t.views id));
    })
    → IsKept a (record {
      words = slice_set (take (groups a.formula.vars) t.words) g (F (slice_index t.words g));
      origins = drop (groups a.formula.vars) t.words;
      views = slice_set t.views id (V (slice_index t.words g) v);
    })
kept_at a t id g v F V low here kept =
    let G : ℕ = groups a.formula.vars in
    let word : slice_index (take (groups a.formula.vars) t.words) g ≡ slice_index t.words g = get_or-take (groups a.formula.vars) t.words g 0 low in
    subst (λ (u : View). IsKept a (record {
      words = slice_set (take (groups a.formula.vars) t.words) g (F (slice_index t.words g));
      origins = drop (groups a.formula.vars) t.words;
      views = slice_set t.views id (V (slice_index t.words g) u);
    })) here
    (subst (λ (w : ℕ). IsKept a (record {
      words = slice_set (take (groups a.formula.vars) t.words) g (F w);
      origins = drop (groups a.formula.vars) t.words;
      views = slice_set t.views id (V w (view_at t.views id));
    })) word kept)

view_set : (vs : List View) (id : ℕ) (u : View) → (view_at vs id).spent ≡ false → view_at (slice_set vs id u) id ≡ u
view_set vs id u unspent = get_or-set_same vs id u spent_view (seated vs id unspent)

pub may_load : (a : About) (id g slots : ℕ) (me : Me ℕ View) → IsView a me.0 → g < groups a.formula.vars
    → Allows (Holds a) slots id me g (λ n. n) (Loaded (step slots g 0 0 none) me)
may_load a id g slots me is low = λ t kept homes at small.
    let here : view_at t.views id ≡ me.0 = view_from t.views id me.0 at in
    let unspent : (view_at t.views id).spent ≡ false = ap (λ (v : View). v.spent) here ∙ is.unspent in
    let next = moved a t id g (slice_index t.words g) t.homes (load_view g (slice_index t.words g) me.0) low
    (kept_at a t id g me.0 (λ (w : ℕ). w) (load_view g) low here
    (kept_after a (board_of a t) (Load id g) kept (record { within = seated t.views id unspent; unspent = unspent; group = low }))) in (
      load_view g (slice_index t.words g) me.0,
      keeps,
      tt,
      next,
      record {
        found = found a t id g me kept is here low;
        becomes = becomes a (record { words = slice_set t.words g (slice_index t.words g); homes = t.homes; views = slice_set t.views id (load_view g (slice_index t.words g) me.0) })
            id me (load_view g (slice_index t.words g) me.0) is.about next (view_set t.views id (load_view g (slice_index t.words g) me.0) unspent) is.unspent;
      },
    )

drop_at_mask : (a : About) (id g slots mask k : ℕ) (me : Me ℕ View) → IsView a me.0 → g < groups a.formula.vars → mask < 4294967296
    → EachOf a (Opposed a) g mask → 18446744073709551615 - mask ≡ k → 18446744073709551615 - k ≡ mask
    → Allows (Holds a) slots id me g (λ n. bit_and n k) (Dropped (step slots g k 0 none) me)
drop_at_mask a id g slots mask k me is low small each operand back = λ t kept homes at range.
    let here : view_at t.views id ≡ me.0 = view_from t.views id me.0 at in
    let unspent : (view_at t.views id).spent ≡ false = ap (λ (v : View). v.spent) here ∙ is.unspent in
    let next = subst (λ (j : ℕ). Holds a (record { words = slice_set t.words g (bit_and (slice_index t.words g) j); homes = t.homes; views = slice_set t.views id (drop_view g mask (slice_index t.words g) me.0) })) operand
    (moved a t id g (without (slice_index t.words g) mask) t.homes (drop_view g mask (slice_index t.words g) me.0) low
    (kept_at a t id g me.0 (λ (w : ℕ). without w mask) (drop_view g mask) low here
    (kept_after a (board_of a t) (Drop id g mask) kept (record {
      loads = record { within = seated t.views id unspent; unspent = unspent; group = low };
      limit = omega arith;
      each = each;
    })))) in (
      drop_view g mask (slice_index t.words g) me.0,
      keeps,
      tt,
      next,
      record {
        found = found a t id g me kept is here low;
        becomes = subst (λ (m : ℕ). Becomes me (drop_view g mask (slice_index t.words g) me.0, me.1) (drop_view g m (slice_index t.words g) me.0)) (sym back)
            (becomes a (record { words = slice_set t.words g (bit_and (slice_index t.words g) k); homes = t.homes; views = slice_set t.views id (drop_view g mask (slice_index t.words g) me.0) })
            id me (drop_view g mask (slice_index t.words g) me.0) is.about next (view_set t.views id (drop_view g mask (slice_index t.words g) me.0) unspent) is.unspent);
      },
    )

pub may_drop : (a : About) (id g slots mask k : ℕ) (me : Me ℕ View) → IsView a me.0 → g < groups a.formula.vars → mask < 4294967296
    → EachOf a (Opposed a) g mask → k ≡ 18446744073709551615 - mask
    → Allows (Holds a) slots id me g (λ n. bit_and n k) (Dropped (step slots g k 0 none) me)
may_drop a id g slots mask k me is low small each operand =
    drop_at_mask a id g slots mask k me is low small each (sym operand) (omega arith)

pub may_fix : (a : About) (id g slots mask k : ℕ) (me : Me ℕ View) → IsView a me.0 → g < groups a.formula.vars → mask < 4294967296
    → EachOf a (Entailed a) g mask → k ≡ mask * 4294967296
    → Allows (Holds a) slots id me g (λ n. bit_or n k) (Fixed (step slots g k 0 none) me)
may_fix a id g slots mask k me is low small each operand = λ t kept homes at range.
    let here : view_at t.views id ≡ me.0 = view_from t.views id me.0 at in
    let back : mask ≡ k / 4294967296 = omega arith in
    let word : slice_index (take (groups a.formula.vars) t.words) g ≡ slice_index t.words g = get_or-take (groups a.formula.vars) t.words g 0 low in
    let unspent : (view_at t.views id).spent ≡ false = ap (λ (v : View). v.spent) here ∙ is.unspent in
    let next = subst (λ (j : ℕ). Holds a (record { words = slice_set t.words g (bit_or (slice_index t.words g) j); homes = t.homes; views = slice_set t.views id (fix_view g mask (slice_index t.words g) me.0) })) (sym operand)
    (moved a t id g (with_fixed (slice_index t.words g) mask) t.homes (fix_view g mask (slice_index t.words g) me.0) low
    (kept_at a t id g me.0 (λ (w : ℕ). with_fixed w mask) (fix_view g mask) low here
    (kept_after a (board_of a t) (Fix id g mask) kept (record {
      loads = record { within = seated t.views id unspent; unspent = unspent; group = low };
      limit = omega arith;
      each = each;
    })))) in (
      fix_view g mask (slice_index t.words g) me.0,
      keeps,
      tt,
      next,
      record {
        found = found a t id g me kept is here low;
        becomes = subst (λ (m : ℕ). Becomes me (fix_view g mask (slice_index t.words g) me.0, me.1) (fix_view g m (slice_index t.words g) me.0)) back
            (becomes a (record { words = slice_set t.words g (bit_or (slice_index t.words g) k); homes = t.homes; views = slice_set t.views id (fix_view g mask (slice_index t.words g) me.0) })
            id me (fix_view g mask (slice_index t.words g) me.0) is.about next (view_set t.views id (fix_view g mask (slice_index t.words g) me.0) unspent) is.unspent);
        own = subst (λ (m : ℕ). (i : ℕ) → i < 32 → bit_at (newly (slice_index t.words g) m) i ≡ 1 → named (suc (32 * g + i)) me.0.imports ≡ 0) back
            (λ i within won. subst (λ (v : View). named (suc (32 * g + i)) v.imports ≡ 0) here
            (own_win a (board_of a t) id g mask i kept.rule kept.clocks within (ap (λ (w : ℕ). bit_at (newly w mask) i) word ∙ won)));
      },
    )

-- A step on an origin word.
moved_origin : (a : About) (t : State ℕ View) (id k w : ℕ) (homes : List (Option ℕ)) (u : View)
    → IsKept a (record {
      words = take (groups a.formula.vars) t.words;
      origins = slice_set (drop (groups a.formula.vars) t.words) k w;
      views = slice_set t.views id u;
    })
    → Holds a (record { words = slice_set t.words (groups a.formula.vars + k) w; homes = homes; views = slice_set t.views id u })
moved_origin a t id k w homes u kept =
    let G : ℕ = groups a.formula.vars in
    let e : take (groups a.formula.vars) (set t.words (groups a.formula.vars + k) w) ≡ take (groups a.formula.vars) t.words =
    take-set-le (groups a.formula.vars) t.words (groups a.formula.vars + k) w (omega arith) in
    let f : drop (groups a.formula.vars) (set t.words (groups a.formula.vars + k) w) ≡ set (drop (groups a.formula.vars) t.words) k w =
    drop-set-add (groups a.formula.vars) t.words k w in
    subst (λ (ws : List ℕ). IsKept a (record { words = ws; origins = drop (groups a.formula.vars) (set t.words (groups a.formula.vars + k) w); views = slice_set t.views id u })) (sym e)
    (subst (λ (os : List ℕ). IsKept a (record { words = take (groups a.formula.vars) t.words; origins = os; views = slice_set t.views id u })) (sym f) kept)

-- the variable of an origin word
pub var_is : (a : About) (me : Me ℕ View) (slots x k : ℕ) → me.0.about ≡ a → 0 < x
    → x ≡ var_of (step slots (groups a.formula.vars + (x - 1)) k 0 none) me
var_is a me slots x k about low =
    let same : groups me.0.about.formula.vars ≡ groups a.formula.vars = ap (λ (b : About). groups b.formula.vars) about in
    omega arith

publish_at : (a : About) (id slots x stamp k : ℕ) (me : Me ℕ View) → IsView a me.0 → MayPublish me.0 x stamp → 0 < x → stamp + 1 ≡ k → stamp ≡ k - 1
    → Allows (Holds a) slots id me (groups a.formula.vars + (x - 1)) (λ n. bit_or n k) (Published (step slots (groups a.formula.vars + (x - 1)) k 0 none) me)
publish_at a id slots x stamp k me is may positive operand back = λ t kept homes at range.
    let here : view_at t.views id ≡ me.0 = view_from t.views id me.0 at in
    let unspent : (view_at t.views id).spent ≡ false = ap (λ (v : View). v.spent) here ∙ is.unspent in
    let within : id < length t.views = seated t.views id unspent in
    let own : MayPublish (view_at t.views id) x stamp = subst (λ (v : View). MayPublish v x stamp) (sym here) may in
    let inside = fixed_within a (board_of a t) id x kept.rule within own.fixed in
    let word : origin_of (drop (groups a.formula.vars) t.words) x ≡ slice_index t.words (groups a.formula.vars + (x - 1)) =
    get_or-drop (groups a.formula.vars) t.words (x - 1) 0 in
    let free : origin_of (drop (groups a.formula.vars) t.words) x ≡ 0 =
    unpublished a (board_of a t) id x stamp kept.rule kept.clocks within (fixed-le-one a (board_of a t) x kept.rule) inside.low inside.high own in
    let board = kept_after a (board_of a t) (Publish id x stamp) kept (record { within = within; unspent = unspent; publishes = own }) in
    let next = subst (λ (j : ℕ). Holds a (record {
      words = slice_set t.words (groups a.formula.vars + (x - 1)) (bit_or (slice_index t.words (groups a.formula.vars + (x - 1))) j);
      homes = t.homes;
      views = slice_set t.views id (publish_view x stamp me.0);
    })) operand
    (moved_origin a t id (x - 1) (bit_or (slice_index t.words (groups a.formula.vars + (x - 1))) (stamp + 1)) t.homes (publish_view x stamp me.0)
    (subst (λ (u : View). IsKept a (record {
      words = take (groups a.formula.vars) t.words;
      origins = slice_set (drop (groups a.formula.vars) t.words) (x - 1) (bit_or (slice_index t.words (groups a.formula.vars + (x - 1))) (stamp + 1));
      views = slice_set t.views id (publish_view x stamp u);
    })) here
    (subst (λ (w : ℕ). IsKept a (record {
      words = take (groups a.formula.vars) t.words;
      origins = slice_set (drop (groups a.formula.vars) t.words) (x - 1) (bit_or w (stamp + 1));
      views = slice_set t.views id (publish_view x stamp (view_at t.views id));
    })) word board))) in (
      publish_view x stamp me.0,
      keeps,
      tt,
      next,
      record {
        none = sym word ∙ free;
        becomes = subst (λ (y : ℕ). Becomes me (publish_view x stamp me.0, me.1) (publish_view y (k - 1) me.0)) (var_is a me slots x k is.about positive)
            (subst (λ (m : ℕ). Becomes me (publish_view x stamp me.0, me.1) (publish_view x m me.0)) back
            (becomes a (record {
              words = slice_set t.words (groups a.formula.vars + (x - 1)) (bit_or (slice_index t.words (groups a.formula.vars + (x - 1))) k);
              homes = t.homes;
              views = slice_set t.views id (publish_view x stamp me.0);
            }) id me (publish_view x stamp me.0) is.about next (view_set t.views id (publish_view x stamp me.0) unspent) is.unspent));
      },
    )

pub may_publish : (a : About) (id word slots x k : ℕ) (me : Me ℕ View) → IsView a me.0 → MayPublish me.0 x (k - 1) → 0 < x
    → word ≡ groups a.formula.vars + (x - 1)
    → Allows (Holds a) slots id me word (λ n. bit_or n k) (Published (step slots word k 0 none) me)
may_publish a id word slots x k me is may low place =
    let least = may.low in
    subst (λ (w : ℕ). Allows (Holds a) slots id me w (λ n. bit_or n k) (Published (step slots w k 0 none) me)) (sym place)
    (publish_at a id slots x (k - 1) k me is may low (omega arith) refl)

ask_at : (a : About) (id slots x : ℕ) (me : Me ℕ View) → IsView a me.0 → 0 < x → x ≤ a.formula.vars
    → Allows (Holds a) slots id me (groups a.formula.vars + (x - 1)) (λ n. n) (Asked (step slots (groups a.formula.vars + (x - 1)) 0 0 none) me)
ask_at a id slots x me is low high = λ t kept homes at range.
    let here : view_at t.views id ≡ me.0 = view_from t.views id me.0 at in
    let unspent : (view_at t.views id).spent ≡ false = ap (λ (v : View). v.spent) here ∙ is.unspent in
    let within : id < length t.views = seated t.views id unspent in
    let word : origin_of (drop (groups a.formula.vars) t.words) x ≡ slice_index t.words (groups a.formula.vars + (x - 1)) =
    get_or-drop (groups a.formula.vars) t.words (x - 1) 0 in
    let same : slice_set (drop (groups a.formula.vars) t.words) (x - 1) (slice_index t.words (groups a.formula.vars + (x - 1))) ≡ drop (groups a.formula.vars) t.words =
    ap (λ (w : ℕ). slice_set (drop (groups a.formula.vars) t.words) (x - 1) w) (sym word) ∙ set-get_or (drop (groups a.formula.vars) t.words) (x - 1) 0 in
    let board = kept_after a (board_of a t) (Origin id x) kept (record { within = within; unspent = unspent; low = low; high = high }) in
    let next = moved_origin a t id (x - 1) (slice_index t.words (groups a.formula.vars + (x - 1))) t.homes
    (origin_view x (slice_index t.words (groups a.formula.vars + (x - 1))) me.0)
    (subst (λ (os : List ℕ). IsKept a (record {
      words = take (groups a.formula.vars) t.words;
      origins = os;
      views = slice_set t.views id (origin_view x (slice_index t.words (groups a.formula.vars + (x - 1))) me.0);
    })) (sym same)
    (subst (λ (u : View). IsKept a (record {
      words = take (groups a.formula.vars) t.words;
      origins = drop (groups a.formula.vars) t.words;
      views = slice_set t.views id (origin_view x (slice_index t.words (groups a.formula.vars + (x - 1))) u);
    })) here
    (subst (λ (w : ℕ). IsKept a (record {
      words = take (groups a.formula.vars) t.words;
      origins = drop (groups a.formula.vars) t.words;
      views = slice_set t.views id (origin_view x w (view_at t.views id));
    })) word board))) in (
      origin_view x (slice_index t.words (groups a.formula.vars + (x - 1))) me.0,
      keeps,
      tt,
      next,
      record {
        tells = subst (λ (y : ℕ). TellsOrigin me.0.about y (slice_index t.words (groups a.formula.vars + (x - 1)))) (var_is a me slots x 0 is.about low)
            (subst (λ (b : About). TellsOrigin b x (slice_index t.words (groups a.formula.vars + (x - 1)))) (sym is.about)
            (subst (λ (w : ℕ). TellsOrigin a x w) word (origin_tells a (board_of a t) x kept.rule kept.clocks low high)));
        becomes = subst (λ (y : ℕ). Becomes me (origin_view x (slice_index t.words (groups a.formula.vars + (x - 1))) me.0, me.1)
            (origin_view y (slice_index t.words (groups a.formula.vars + (x - 1))) me.0)) (var_is a me slots x 0 is.about low)
            (becomes a (record {
              words = slice_set t.words (groups a.formula.vars + (x - 1)) (slice_index t.words (groups a.formula.vars + (x - 1)));
              homes = t.homes;
              views = slice_set t.views id (origin_view x (slice_index t.words (groups a.formula.vars + (x - 1))) me.0);
            }) id me (origin_view x (slice_index t.words (groups a.formula.vars + (x - 1))) me.0) is.about next
            (view_set t.views id (origin_view x (slice_index t.words (groups a.formula.vars + (x - 1))) me.0) unspent) is.unspent);
      },
    )

pub may_ask : (a : About) (id word slots x : ℕ) (me : Me ℕ View) → IsView a me.0 → 0 < x → x ≤ a.formula.vars → word ≡ groups a.formula.vars + (x - 1)
    → Allows (Holds a) slots id me word (λ n. n) (Asked (step slots word 0 0 none) me)
may_ask a id word slots x me is low high place =
    subst (λ (w : ℕ). Allows (Holds a) slots id me w (λ n. n) (Asked (step slots w 0 0 none) me)) (sym place) (ask_at a id slots x me is low high)

-- a load that leaves all as it is
pub may_look : (a : About) (id slots : ℕ) (me : Me ℕ View) → IsView a me.0
    → Allows (Holds a) slots id me 0 (λ n. n) (Looked (step slots 0 0 0 none) me)
may_look a id slots me is = λ t kept homes at range.
    let here : view_at t.views id ≡ me.0 = view_from t.views id me.0 at in
    let unspent : (view_at t.views id).spent ≡ false = ap (λ (v : View). v.spent) here ∙ is.unspent in
    let words : slice_set t.words 0 (slice_index t.words 0) ≡ t.words = set-get_or t.words 0 0 in
    let views : slice_set t.views id me.0 ≡ t.views =
    ap (λ (v : View). slice_set t.views id v) (sym here) ∙ set-get_or t.views id spent_view in (
      me.0,
      keeps,
      tt,
      subst (λ (ws : List ℕ). Holds a (record { words = ws; homes = t.homes; views = slice_set t.views id me.0 })) (sym words)
          (subst (λ (vs : List View). Holds a (record { words = t.words; homes = t.homes; views = vs })) (sym views) kept),
      record {
        is = refl;
        once = subst (λ (b : About). IsOnce b me.0) (sym is.about)
            (subst (λ (v : View). IsOnce a v) here (is_once a (board_of a t) id kept.rule unspent));
      },
    )

-- Splits and joins, which are the root's.
root_place : (a : About) (t : State ℕ View) (id : ℕ) (v : View) → Holds a t → IsView a v → v.number ≡ 0 → view_at t.views id ≡ v → id ≡ 0
root_place a t id v kept is root here =
    sym (kept.rule.views id (ap (λ (u : View). u.spent) here ∙ is.unspent)).number ∙ ap (λ (u : View). u.number) here ∙ root

pub may_split : (a : About) (id : ℕ) (v : View) → IsView a v → v.number ≡ 0 → Splits (Holds a) id v (parent v) (child v)
may_split a id v is root = λ t kept at.
    let here : view_at t.views id ≡ v = view_from t.views id v at in
    let zeroth : id ≡ 0 = root_place a t id v kept is root here in
    let s : BoardState = board_of a t in
    subst (λ (u : View). IsKept a (record { words = take (groups a.formula.vars) t.words; origins = drop (groups a.formula.vars) t.words; views = slice_set t.views id (parent u) ++ child u ∷ [] })) here
    (subst (λ (k : ℕ). IsKept a (record {
      words = take (groups a.formula.vars) t.words;
      origins = drop (groups a.formula.vars) t.words;
      views = slice_set t.views k (parent (view_at t.views k)) ++ child (view_at t.views k) ∷ [];
    })) (sym zeroth)
    (record {
      rule = keeps_split a (board_of a t) (drop (groups a.formula.vars) t.words) kept.rule;
      clocks = clocks_split a (board_of a t) (take (groups a.formula.vars) t.words) kept.clocks (seated t.views 0 kept.rule.rooted.root);
    }))

pub may_join : (a : About) (id other : ℕ) (v w : View) → IsView a v → v.number ≡ 0 → IsView a w
    → Joins (Holds a) id v other w (joined v w) spent_view
may_join a id other v w is root is_other = λ t kept at apart at_other.
    let here : view_at t.views id ≡ v = view_from t.views id v at in
    let zeroth : id ≡ 0 = root_place a t id v kept is root here in
    let there : view_at t.views other ≡ w =
    sym (get_or-set_other t.views id other (joined v w) spent_view apart) ∙ view_from (slice_set t.views id (joined v w)) other w at_other in
    let behind : other ≢ 0 = λ (e : other ≡ 0). apart (e ∙ sym zeroth) in
    let unspent : (view_at t.views other).spent ≡ false = ap (λ (u : View). u.spent) there ∙ is_other.unspent in
    let within : other < length t.views = seated t.views other unspent in
    subst (λ (u : View). IsKept a (record {
      words = take (groups a.formula.vars) t.words;
      origins = drop (groups a.formula.vars) t.words;
      views = slice_set (slice_set t.views id (joined v u)) other spent_view;
    })) there
    (subst (λ (u : View). IsKept a (record {
      words = take (groups a.formula.vars) t.words;
      origins = drop (groups a.formula.vars) t.words;
      views = slice_set (slice_set t.views id (joined u (view_at t.views other))) other spent_view;
    })) here
    (subst (λ (k : ℕ). IsKept a (record {
      words = take (groups a.formula.vars) t.words;
      origins = drop (groups a.formula.vars) t.words;
      views = slice_set (slice_set t.views k (joined (view_at t.views k) (view_at t.views other))) other spent_view;
    })) (sym zeroth)
    (record {
      rule = keeps_join a (board_of a t) (drop (groups a.formula.vars) t.words) other kept.rule unspent (omega arith);
      clocks = clocks_join a (board_of a t) (take (groups a.formula.vars) t.words) other kept.clocks within (omega arith);
    })))

-- The table at the opening and at the end.
pub opens_table : (a : About) (ws : List ℕ) → ws ≡ opening_words a.formula ++ replicate a.formula.vars 0 → Holds a (opening ws [] (root_view a))
opens_table a ws is =
    let size : length (opening_words a.formula) ≡ groups a.formula.vars = (opens a).words.size in
    let front : take (groups a.formula.vars) ws ≡ opening_words a.formula =
    ap (take (groups a.formula.vars)) is ∙ take_at (opening_words a.formula) (replicate a.formula.vars 0) (groups a.formula.vars) size in
    let back : drop (groups a.formula.vars) ws ≡ replicate a.formula.vars 0 =
    ap (drop (groups a.formula.vars)) is ∙ drop_at (opening_words a.formula) (replicate a.formula.vars 0) (groups a.formula.vars) size in
    subst (λ (us : List ℕ). IsKept a (record { words = us; origins = drop (groups a.formula.vars) ws; views = root_view a ∷ [] })) (sym front)
    (subst (λ (us : List ℕ). IsKept a (record { words = opening_words a.formula; origins = us; views = root_view a ∷ [] })) (sym back)
    (record { rule = opens a; clocks = clocks_open a }))

pub ended : (a : About) (id : ℕ) (v : View) (ws xs : List ℕ) → IsView a v → v.number ≡ 0 → v.out ≡ []
    → Final (Seen (Holds a) id v) ws xs → Tells a (take (groups a.formula.vars) ws) v
ended a id v ws xs is root empty_out final =
    let t : State ℕ View = final.0 in
    let kept : Holds a final.0 = final.1.0 in
    let here : view_at final.0.views id ≡ v = view_from final.0.views id v final.1.1 in
    let zeroth : id ≡ 0 = root_place a final.0 id v kept is root here in
    let first : view_at final.0.views 0 ≡ v = ap (view_at final.0.views) (sym zeroth) ∙ here in
    let empty : (view_at final.0.views 0).out ≡ [] = ap (λ (u : View). u.out) first ∙ empty_out in
    subst (λ (us : List ℕ). Tells a (take (groups a.formula.vars) us) v) final.2
    (subst (λ (u : View). Tells a (take (groups a.formula.vars) final.0.words) u) first (closes a (board_of a final.0) kept.rule kept.clocks empty))

-- a seat of a board is one of the same board under another name
pub sits_along : {b c : Board} {s t : Sitter} → b ≡ c → s ≡ t → Sits c t → Sits b s
sits_along {b} {c} {s} {t} board seat sits = subst (λ (d : Board). Sits d s) (sym board) (subst (λ (u : Sitter). Sits c u) (sym seat) sits)

pub sits_on : {b c : Board} {s t : Sitter} → b ≡ c → s ≡ t → Sits b s → Sits c t
sits_on {b} {c} {s} {t} board seat sits = subst (λ (d : Board). Sits d t) board (subst (λ (u : Sitter). Sits b u) seat sits)

-- a seat of the same table whose view is one of the board's
pub sits_with : (b : Board) (s t : Sitter) (v : View) → Sits b s → t.table ≡ s.table → t.view ≡ v → IsView b.about v → Sits b t
sits_with b s t v sits table view is = record { table = table ∙ sits.table; view = subst (λ (u : View). IsView b.about u) (sym view) is }

-- Reading the words.
pub take_next : (ws : List ℕ) (i w : ℕ) → get_elem? ws i ≡ some w → take (i + 1) ws ≡ take i ws ++ w ∷ []
take_next ws i w is = let e : i + 1 ≡ suc i = omega arith in ap (λ (n : ℕ). take n ws) e ∙ by_place ws i is
  where
    by_place : (us : List ℕ) (j : ℕ) → get_elem? us j ≡ some w → take (suc j) us ≡ take j us ++ w ∷ []
    by_place [] j found_is = absurd (some-ne-none w (sym found_is))
    by_place (u ∷ us) zero found_is = ap (λ (v : ℕ). v ∷ []) (some-injective u w found_is)
    by_place (u ∷ us) (suc j) found_is = ap (λ (vs : List ℕ). u ∷ vs) (by_place us j found_is)

-- The words that the table is made of.
pub with_origins : (F : Cnf) (ws : List ℕ) (n len : ℕ) → ws ≡ opening_words F → n ≡ len + F.vars → length ws ≡ len
    → take n ws ++ replicate (n - len) 0 ≡ opening_words F ++ replicate F.vars 0
with_origins F ws n len is count size =
    let rest : n - len ≡ F.vars = omega arith in
    ap (λ (us : List ℕ). us ++ replicate (n - len) 0) (take_all n ws (omega arith) ∙ is)
    ∙ ap (λ (k : ℕ). opening_words F ++ replicate k 0) rest

pub opening_length : (F : Cnf) → length (opening_words F) ≡ groups F.vars
opening_length F = length-map-range_with_len (opening_word F) 0 (groups F.vars)

-- the groups, as the code counts them
pub groups_are : (n : ℕ) → div_ceil n 32 ≡ groups n
groups_are n = omega arith
