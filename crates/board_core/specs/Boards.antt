-- The board as a machine: its state, its events, which of them are lawful, and what each changes.
use Rattle.std.specs.Prelude.{◌≡◌, ℕ, zero, suc, ◌+◌, ◌-◌, ◌*◌, ◌^◌, ◌<◌, ◌≤◌, not, nat_eq, true, false, List, [], ◌∷◌, ◌++◌, map, length, replicate, fold, bit_or, filter, slice_index, slice_index_or, slice_set, max}
use Rattle.std.specs.Int.{bit_at}
use Rattle.std.specs.List.{range_with_len}
use Rattle.cnf_core.specs.Formulas.{Cnf}
use Rattle.board_core.specs.Subjects.{About, about_nothing, groups, candidate, Opposed, Entailed}
use Rattle.board_core.specs.Words.{without, with_fixed, cleared, newly, met_words, vars_of, times, named, opening_word}
use Rattle.board_core.specs.declared.view.Stamped.{Stamped}
use Rattle.board_core.specs.declared.view.View.{View}
use Rattle.board_core.specs.declared.event.Event.{Event}
use Rattle.board_core.specs.declared.event.Event.TheVariants.{Load, Drop, Fix, Split, Join, Publish, Origin}

-- a word per group, an origin word per variable, and the views, of which the first is the root.
-- An origin word is 0, or 1 more than the stamp with which its variable was published.
pub record State : Type 0 where
  pub words : List ℕ
  pub origins : List ℕ
  pub views : List View

-- the words where all candidates are alive and none is fixed
abbrev pub opening_words : Cnf → List ℕ
opening_words F = map (opening_word F) (range_with_len 0 (groups F.vars))

-- the root at the opening
abbrev pub root_view : About → View
root_view a = record {
  about = a;
  number = 0;
  spent = false;
  seen = opening_words a.formula;
  loaded = opening_words a.formula;
  loads = replicate (groups a.formula.vars) 0;
  drops = [];
  fixes = [];
  next = 1;
  out = [];
  published = [];
  imports = [];
  looks = replicate a.formula.vars 0;
}

-- all candidates are alive, none is fixed, and the root is the only view
abbrev pub opening : About → State
opening a = record {
  words = opening_words a.formula;
  origins = replicate a.formula.vars 0;
  views = root_view a ∷ [];
}

-- what is left of a view that was joined to the root
abbrev pub spent_view : View
spent_view = record {
  about = about_nothing;
  number = 0;
  spent = true;
  seen = [];
  loaded = [];
  loads = [];
  drops = [];
  fixes = [];
  next = 0;
  out = [];
  published = [];
  imports = [];
  looks = [];
}

-- the view at a place
abbrev pub view_at : List View → ℕ → View
view_at vs id = slice_index_or vs id spent_view

-- the variable's origin word
abbrev pub origin_of : List ℕ → ℕ → ℕ
origin_of os x = slice_index os (x - 1)

-- the list of counts with one more at a place
abbrev pub one_more : List ℕ → ℕ → List ℕ
one_more counts k = slice_set counts k (slice_index counts k + 1)

-- a view after its own step on a group whose word was w
abbrev pub load_view : ℕ → ℕ → View → View
load_view g w v = record v { seen = slice_set v.seen g w; loaded = slice_set v.loaded g w; loads = one_more v.loads g }

abbrev pub drop_view : ℕ → ℕ → ℕ → View → View
drop_view g mask w v = record v { seen = slice_set v.seen g (without w mask); drops = v.drops ++ vars_of g (cleared w mask) }

abbrev pub fix_view : ℕ → ℕ → ℕ → View → View
fix_view g mask w v = record v { seen = slice_set v.seen g (with_fixed w mask); fixes = v.fixes ++ vars_of g (newly w mask) }

-- the root after a split, and the view that is split off
abbrev pub parent : View → View
parent v = record v { next = v.next + 1; out = v.out ++ v.next ∷ [] }

abbrev pub child : View → View
child v = record v {
  number = v.next;
  loaded = v.seen;
  loads = replicate (length v.seen) 0;
  drops = [];
  fixes = [];
  next = 0;
  out = [];
  published = [];
  imports = [];
  looks = replicate (length v.looks) 0;
}

-- the numbers without this one
abbrev pub without_number : ℕ → List ℕ → List ℕ
without_number n out = filter (λ j. not (nat_eq j n)) out

-- the root after it took in another view
abbrev pub joined : View → View → View
joined v u = record v {
  seen = met_words v.seen u.seen;
  drops = v.drops ++ u.drops;
  fixes = v.fixes ++ u.fixes;
  out = without_number u.number v.out;
  published = v.published ++ u.published;
  imports = v.imports ++ u.imports;
}

abbrev pub stamped : ℕ → ℕ → Stamped
stamped x stamp = record { var = x; stamp = stamp }

-- what the variable's origin word tells
abbrev pub told : ℕ → ℕ → List Stamped
told x zero = []
told x (suc stamp) = stamped x stamp ∷ []

-- a view after it published a variable, and after it found the variable's origin word w
abbrev pub publish_view : ℕ → ℕ → View → View
publish_view x stamp v = record v { published = v.published ++ stamped x stamp ∷ [] }

abbrev pub origin_view : ℕ → ℕ → View → View
origin_view x w v = record v { imports = v.imports ++ told x w; looks = one_more v.looks (x - 1) }

-- the greatest stamp, 0 where there is none
abbrev pub top : List Stamped → ℕ
top ps = fold (λ n (p : Stamped). max n p.stamp) 0 ps

-- the state after the view at place id made a step by which the group's word became w and the view v
abbrev pub stepped : State → ℕ → ℕ → ℕ → View → State
stepped s id g w v = record s { words = slice_set s.words g w; views = slice_set s.views id v }

abbrev pub after : State → Event → State
after s (Load id g) =
    let w = slice_index s.words g in stepped s id g w (load_view g w (view_at s.views id))
after s (Drop id g mask) =
    let w = slice_index s.words g in stepped s id g (without w mask) (drop_view g mask w (view_at s.views id))
after s (Fix id g mask) =
    let w = slice_index s.words g in stepped s id g (with_fixed w mask) (fix_view g mask w (view_at s.views id))
after s Split =
    record s { views = slice_set s.views 0 (parent (view_at s.views 0)) ++ child (view_at s.views 0) ∷ [] }
after s (Join id) =
    record s { views = slice_set (slice_set s.views 0 (joined (view_at s.views 0) (view_at s.views id))) id spent_view }
after s (Publish id x stamp) =
    record s {
      origins = slice_set s.origins (x - 1) (bit_or (origin_of s.origins x) (stamp + 1));
      views = slice_set s.views id (publish_view x stamp (view_at s.views id));
    }
after s (Origin id x) =
    record s { views = slice_set s.views id (origin_view x (origin_of s.origins x) (view_at s.views id)) }

-- each variable of the group's mask is a candidate, and P holds of it
abbrev pub EachOf : About → (ℕ → Type 0) → ℕ → ℕ → Type 0
EachOf a P g mask = (i : ℕ) → i < 32 → bit_at mask i ≡ 1
    → (candidate a.formula (suc (32 * g + i)) ≡ 1) × P (suc (32 * g + i))

-- the place has a view that isn't spent, and the group exists
pub record MayLoad (a : About) (s : State) (id g : ℕ) : Type 0 where
  pub within : id < length s.views
  pub unspent : (view_at s.views id).spent ≡ false
  pub group : g < groups a.formula.vars

-- further, the mask is one of variables of which P holds
pub record MayMask (a : About) (s : State) (P : ℕ → Type 0) (id g mask : ℕ) : Type 0 where
  pub loads : MayLoad a s id g
  pub limit : mask < 2 ^ 32
  pub each : EachOf a P g mask

-- the view that is to be joined isn't spent, and was split off
pub record MayJoin (s : State) (id : ℕ) : Type 0 where
  pub within : id < length s.views
  pub unspent : (view_at s.views id).spent ≡ false
  pub out : 1 ≤ times (view_at s.views id).number (view_at s.views 0).out

-- the view fixed the variable and hasn't published it, and the stamp is at most 1 above what it imported
pub record MayPublish (v : View) (x stamp : ℕ) : Type 0 where
  pub fixed : 1 ≤ times x v.fixes
  pub unpublished : named x v.published ≡ 0
  pub low : 1 ≤ stamp
  pub high : stamp ≤ top v.imports + 1

pub record MayPublishAt (s : State) (id x stamp : ℕ) : Type 0 where
  pub within : id < length s.views
  pub unspent : (view_at s.views id).spent ≡ false
  pub publishes : MayPublish (view_at s.views id) x stamp

pub record MayAsk (a : About) (s : State) (id x : ℕ) : Type 0 where
  pub within : id < length s.views
  pub unspent : (view_at s.views id).spent ≡ false
  pub low : 0 < x
  pub high : x ≤ a.formula.vars

abbrev pub IsLawful : About → State → Event → Type 0
IsLawful a s (Load id g) = MayLoad a s id g
IsLawful a s (Drop id g mask) = MayMask a s (Opposed a) id g mask
IsLawful a s (Fix id g mask) = MayMask a s (Entailed a) id g mask
IsLawful a s Split = (view_at s.views 0).next < 2 ^ 32 - 1
IsLawful a s (Join id) = MayJoin s id
IsLawful a s (Publish id x stamp) = MayPublishAt s id x stamp
IsLawful a s (Origin id x) = MayAsk a s id x

-- each event is lawful after those before it
abbrev pub AreLawful : About → State → List Event → Type 0
AreLawful a s [] = Unit {0}
AreLawful a s (e ∷ es) = IsLawful a s e × AreLawful a (after s e) es

-- the state after all of the events
abbrev pub after_all : State → List Event → State
after_all s [] = s
after_all s (e ∷ es) = after_all (after s e) es
