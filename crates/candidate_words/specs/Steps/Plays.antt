-- What each kind of step tells its caller: the word found, and the seat's view after it.
use Rattle.std.specs.Prelude.{◌≡◌, ℕ, suc, ◌+◌, ◌-◌, ◌*◌, ◌/◌, ◌<◌, slice_index}
use Rattle.std.specs.Int.{bit_at}
use Rattle.atomic_table.specs.Table.{Me, Step}
use Rattle.board_core.specs.Subjects.{groups}
use Rattle.board_core.specs.Words.{Earlier, newly, named}
use Rattle.board_core.specs.Boards.{load_view, drop_view, fix_view, publish_view, origin_view}
use Rattle.board_core.specs.Rules.{IsView, IsOnce, IsSound}
use Rattle.board_core.specs.declared.view.View.{View}
use Rattle.candidate_words.specs.Seats.{TellsOrigin}

-- the seat has the view v now, and it is a view of the same board
pub record Becomes (me after : Me ℕ View) (v : View) : Type 0 where
  pub is : after ≡ (v, me.1)
  pub view : IsView me.0.about v
  pub once : IsOnce me.0.about v

-- what was found in a group's word
pub record Found (me : Me ℕ View) (g n : ℕ) : Type 0 where
  pub later : Earlier (slice_index me.0.seen g) n
  pub sound : IsSound me.0.about g n

pub record Loaded (st : Step ℕ) (me : Me ℕ View) (n : ℕ) (after : Me ℕ View) : Type 0 where
  pub found : Found me st.word n
  pub becomes : Becomes me after (load_view st.word n me.0)

-- the mask of a fetch-and that keeps all bits but the mask's
abbrev pub mask_and : Step ℕ → ℕ
mask_and st = 18446744073709551615 - st.first

pub record Dropped (st : Step ℕ) (me : Me ℕ View) (n : ℕ) (after : Me ℕ View) : Type 0 where
  pub found : Found me st.word n
  pub becomes : Becomes me after (drop_view st.word (mask_and st) n me.0)

-- the mask of a fetch-or with the mask's fixed bits
abbrev pub mask_or : Step ℕ → ℕ
mask_or st = st.first / 4294967296

pub record Fixed (st : Step ℕ) (me : Me ℕ View) (n : ℕ) (after : Me ℕ View) : Type 0 where
  pub found : Found me st.word n
  pub becomes : Becomes me after (fix_view st.word (mask_or st) n me.0)
  pub own : (i : ℕ) → i < 32 → bit_at (newly n (mask_or st)) i ≡ 1 → named (suc (32 * st.word + i)) me.0.imports ≡ 0

-- the variable of an origin word
abbrev pub var_of : Step ℕ → Me ℕ View → ℕ
var_of st me = suc (st.word - groups me.0.about.formula.vars)

pub record Published (st : Step ℕ) (me : Me ℕ View) (n : ℕ) (after : Me ℕ View) : Type 0 where
  pub none : n ≡ 0
  pub becomes : Becomes me after (publish_view (var_of st me) (st.first - 1) me.0)

pub record Asked (st : Step ℕ) (me : Me ℕ View) (n : ℕ) (after : Me ℕ View) : Type 0 where
  pub tells : TellsOrigin me.0.about (var_of st me) n
  pub becomes : Becomes me after (origin_view (var_of st me) n me.0)

pub record Looked (st : Step ℕ) (me : Me ℕ View) (n : ℕ) (after : Me ℕ View) : Type 0 where
  pub is : after ≡ me
  pub once : IsOnce me.0.about me.0
