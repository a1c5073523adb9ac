-- What a board keeps: its rule, the rule of its clocks, and what a view knows by itself.
use Rattle.std.specs.Prelude.{◌≡◌, ℕ, suc, ◌+◌, ◌*◌, ◌<◌, ◌≤◌, ◌&&◌, min, not, nat_lt, true, false, List, length, slice_index, All, Contains}
use Rattle.std.specs.Int.{bit_at}
use Rattle.std.specs.List.{sum_by, count_by}
use Rattle.board_core.specs.Subjects.{About, groups, flag, candidate, Opposed, Entailed}
use Rattle.board_core.specs.Words.{alive, fixed, Earlier, Inside, times, named}
use Rattle.board_core.specs.Boards.{State, spent_view, view_at, origin_of}
use Rattle.board_core.specs.declared.view.Stamped.{Stamped}
use Rattle.board_core.specs.declared.view.View.{View}

-- every word of the first list is the other's word of that group or an earlier one
abbrev pub AreEarlier : ℕ → List ℕ → List ℕ → Type 0
AreEarlier n xs ys = (g : ℕ) → g < n → Earlier (slice_index xs g) (slice_index ys g)

-- a word per group, with bits of candidates alone
pub record AreWords (a : About) (ws : List ℕ) : Type 0 where
  pub size : length ws ≡ groups a.formula.vars
  pub inside : (g : ℕ) → g < groups a.formula.vars → Inside a.formula g (slice_index ws g)

-- a view that isn't spent: what it loaded is no later than what it has seen, and that no later than the words
pub record Fits (a : About) (ws : List ℕ) (id : ℕ) (v : View) : Type 0 where
  pub about : v.about ≡ a
  pub number : v.number ≡ id
  pub seen : AreWords a v.seen
  pub loaded : AreWords a v.loaded
  pub loads_length : length v.loads ≡ groups a.formula.vars
  pub looks_length : length v.looks ≡ a.formula.vars
  pub loaded_seen : AreEarlier (groups a.formula.vars) v.loaded v.seen
  pub seen_word : AreEarlier (groups a.formula.vars) v.seen ws

-- 1 where the place has a view that isn't spent and isn't the root
abbrev pub child_at : List View → ℕ → ℕ
child_at vs j = flag (nat_lt 0 j && not (view_at vs j).spent)

-- the root stands first, and has the number of the next view and those of the views that are out
pub record IsRooted (vs : List View) : Type 0 where
  pub root : (view_at vs 0).spent ≡ false
  pub next : (view_at vs 0).next ≡ length vs
  pub out : (j : ℕ) → times j (view_at vs 0).out ≡ child_at vs j

-- a word says of each candidate what is so
pub record AreTrue (a : About) (ws : List ℕ) : Type 0 where
  pub against : (x : ℕ) → candidate a.formula x ≡ 1 → alive ws x ≡ 0 → Opposed a x
  pub entailed : (x : ℕ) → candidate a.formula x ≡ 1 → fixed ws x ≡ 1 → Entailed a x

-- Dropped is a candidate that isn't alive, and it stands in the drops of one view, once; a fixed one stands
-- likewise in the fixes of one view. No other variable stands in any list.
pub record BoardRule (a : About) (s : State) : Type 0 where
  pub words : AreWords a s.words
  pub truth : AreTrue a s.words
  pub views : (id : ℕ) → (view_at s.views id).spent ≡ false → Fits a s.words id (view_at s.views id)
  pub spent : (id : ℕ) → (view_at s.views id).spent ≡ true → view_at s.views id ≡ spent_view
  pub dropped_once : (x : ℕ) → sum_by (λ v. times x v.drops) s.views + alive s.words x ≡ candidate a.formula x
  pub fixed_once : (x : ℕ) → sum_by (λ v. times x v.fixes) s.views ≡ fixed s.words x
  pub rooted : IsRooted s.views

-- the variable's origin word tells the stamp
pub record Agrees (os : List ℕ) (p : Stamped) : Type 0 where
  pub low : 0 < p.var
  pub high : p.var ≤ length os
  pub is : origin_of os p.var ≡ p.stamp + 1
  pub some : 1 ≤ p.stamp

-- how many variables were published
abbrev pub published_count : List ℕ → ℕ
published_count os = count_by (λ w. nat_lt 0 w) os

-- Stamps are from 1 to the number of published variables. A published variable stands so in one view, once,
-- which fixed it, and whatever a view published or imported agrees with the origin words.
pub record ClockRule (a : About) (s : State) : Type 0 where
  pub size : length s.origins ≡ a.formula.vars
  pub stamps : (x : ℕ) → 0 < origin_of s.origins x
      → (2 ≤ origin_of s.origins x) × (origin_of s.origins x ≤ published_count s.origins + 1)
  pub published_once : (x : ℕ) → 0 < x → x ≤ a.formula.vars
      → sum_by (λ v. named x v.published) s.views ≡ min 1 (origin_of s.origins x)
  pub fixed : (id x : ℕ) → named x (view_at s.views id).published ≤ times x (view_at s.views id).fixes
  pub published : (id : ℕ) → All (Agrees s.origins) (view_at s.views id).published
  pub imports : (id : ℕ) → All (Agrees s.origins) (view_at s.views id).imports

-- both rules
pub record IsKept (a : About) (s : State) : Type 0 where
  pub rule : BoardRule a s
  pub clocks : ClockRule a s

-- what an unspent view keeps by itself: it drops and fixes candidates alone, and publishes what it fixed
pub record IsView (a : About) (v : View) : Type 0 where
  pub about : v.about ≡ a
  pub unspent : v.spent ≡ false
  pub seen : AreWords a v.seen
  pub loaded : AreWords a v.loaded
  pub loads_length : length v.loads ≡ groups a.formula.vars
  pub looks_length : length v.looks ≡ a.formula.vars
  pub loaded_seen : AreEarlier (groups a.formula.vars) v.loaded v.seen
  pub drops : (x : ℕ) → candidate a.formula x ≡ 0 → times x v.drops ≡ 0
  pub fixes : (x : ℕ) → candidate a.formula x ≡ 0 → times x v.fixes ≡ 0
  pub published : (x : ℕ) → named x v.published ≤ times x v.fixes

-- it has dropped and fixed each variable at most once
pub record IsOnce (a : About) (v : View) : Type 0 where
  pub drops : (x : ℕ) → times x v.drops ≤ candidate a.formula x
  pub fixes : (x : ℕ) → times x v.fixes ≤ candidate a.formula x

-- a group's word is true of its candidates
pub record IsSound (a : About) (g w : ℕ) : Type 0 where
  pub inside : Inside a.formula g w
  pub against : (i : ℕ) → i < 32 → candidate a.formula (suc (32 * g + i)) ≡ 1 → bit_at w i ≡ 0 → Opposed a (suc (32 * g + i))
  pub entailed : (i : ℕ) → i < 32 → candidate a.formula (suc (32 * g + i)) ≡ 1 → bit_at w (32 + i) ≡ 1
      → Entailed a (suc (32 * g + i))

-- what the root knows of the words where no other view is left: it has all drops and fixes, and published all
-- that it imported
pub record Tells (a : About) (ws : List ℕ) (v : View) : Type 0 where
  pub words : AreWords a ws
  pub truth : AreTrue a ws
  pub later : AreEarlier (groups a.formula.vars) v.seen ws
  pub drops : (x : ℕ) → times x v.drops + alive ws x ≡ candidate a.formula x
  pub fixes : (x : ℕ) → times x v.fixes ≡ fixed ws x
  pub imports : (p : Stamped) → Contains v.imports p → Contains v.published p
