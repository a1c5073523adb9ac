-- A board in memory after each event.
use Rattle.std.proofs.Common.{◌≡◌, ℕ, zero, suc, ◌+◌, ◌-◌, ◌<◌, ◌≤◌, List, [], ◌∷◌, ◌++◌, length, map, get_or, replicate, refl, sym, ap, ◌∙◌, subst, ◌⊎◌, inl, inr, ⊎_elim, arith}
use Rattle.std.specs.Prelude.{slice_index, slice_set, bit_or, nat_lt, Result, Ok, Err, OnOk, OnErr}
use Rattle.std.proofs.lemmas.Bool.{cases_lt}
use Rattle.std.proofs.lemmas.List.Sums.{count_by-le-length}
use Rattle.std.proofs.lemmas.List.{map-set, get_or-map, map_push, set-get_or, length-map}
use Rattle.board_core.specs.Subjects.{About, groups}
use Rattle.board_core.specs.Words.{without, with_fixed}
use Rattle.board_core.specs.Boards.{State, after, stepped, view_at, spent_view, IsLawful, load_view, drop_view, fix_view, parent, child, joined, publish_view, origin_view, origin_of, opening_words, root_view, opening}
use Rattle.board_core.specs.Rules.{IsKept}
use Rattle.board_core.specs.Games.{Game, game, shown, stored}
use Rattle.board_core.specs.declared.stored.StoredView.{StoredView}
use Rattle.board_core.specs.declared.view.View.{View}
use Rattle.board_core.specs.declared.event.Event.{Event}
use Rattle.board_core.specs.declared.event.Event.TheVariants.{Load, Drop, Fix, Split, Join, Publish, Origin}
use Rattle.board_core.proofs.Runs.{kept_after, fixed_within}
use Rattle.board_core.proofs.Steps.{seated}
use Rattle.board_core.proofs.Ends.{opens, clocks_open}

-- what a call's two clauses say together
pub either_way : {X E A B : Type 0} (r : Result X E) → OnOk r A → OnErr r B → A ⊎ B
either_way (Ok x) a b = inl a
either_way (Err e) a b = inr b

-- an element that is there, whatever stands for one that isn't
get_or_there : {X : Type 0} (xs : List X) (i : ℕ) (d e : X) → i < length xs → get_or xs i d ≡ get_or xs i e
get_or_there [] i d e low = absurd (omega arith)
get_or_there (x ∷ xs) zero d e low = refl
get_or_there (x ∷ xs) (suc i) d e low = get_or_there xs i d e (omega arith)

word_there : (ws : List ℕ) (g w : ℕ) → g < length ws → w ≡ get_or ws g w → w ≡ slice_index ws g
word_there ws g w low is = is ∙ get_or_there ws g w 0 low

pub view_there : (a : About) (hs : List StoredView) (id : ℕ) (h : StoredView) → id < length hs → h ≡ get_or hs id h
    → view_at (map (shown a) hs) id ≡ shown a h
view_there a hs id h low is = get_or-map (shown a) hs id h spent_view low ∙ ap (shown a) (sym is)

-- the views after one of them changed
pub views_set : (a : About) (hs : List StoredView) (id : ℕ) (h k : StoredView) (V : View → View) → id < length hs → h ≡ get_or hs id h
    → shown a k ≡ V (shown a h)
    → map (shown a) (slice_set hs id k) ≡ slice_set (map (shown a) hs) id (V (view_at (map (shown a) hs) id))
views_set a hs id h k V low is step =
    map-set (shown a) hs id k
    ∙ ap (slice_set (map (shown a) hs) id) (step ∙ ap V (sym (view_there a hs id h low is)))

-- the same where it looks as before
pub views_same : (a : About) (hs : List StoredView) (id : ℕ) (h k : StoredView) → id < length hs → h ≡ get_or hs id h
    → shown a k ≡ shown a h → map (shown a) (slice_set hs id k) ≡ map (shown a) hs
views_same a hs id h k low is same =
    views_set a hs id h k (λ (v : View). v) low is same ∙ set-get_or (map (shown a) hs) id spent_view

-- after an event, with the rules kept
pub record Next (a : About) (t : State) (g : Game) (e : Event) : Type 0 where
  pub kept : IsKept a t
  pub is : game a t ≡ game g.about (after g.state e)

pub lawful_at : (a : About) (s : State) (g : Game) (e : Event) → game a s ≡ g → IsLawful g.about g.state e → IsLawful a s e
lawful_at a s g e same lawful = subst (λ (r : Game). IsLawful r.about r.state e) (sym same) lawful

next : (a : About) (s t : State) (g : Game) (e : Event) → game a s ≡ g → IsKept a s → IsLawful g.about g.state e → t ≡ after s e → Next a t g e
next a s t g e same kept lawful is = record {
  kept = subst (λ (r : State). IsKept a r) (sym is) (kept_after a s e kept (lawful_at a s g e same lawful));
  is = ap (game a) is ∙ ap (λ (r : Game). game r.about (after r.state e)) same;
}

-- before it, where memory was wanting
pub record Same (a : About) (t : State) (g : Game) : Type 0 where
  pub kept : IsKept a t
  pub is : game a t ≡ g

pub stays : (a : About) (s t : State) (g : Game) → game a s ≡ g → IsKept a s → t ≡ s → Same a t g
stays a s t g same kept is = record { kept = subst (λ (r : State). IsKept a r) (sym is) kept; is = ap (game a) is ∙ same }

pub stays_set : (a : About) (ws os : List ℕ) (hs : List StoredView) (g : Game) (id : ℕ) (h k : StoredView)
    → game a (stored a ws os hs) ≡ g → IsKept a (stored a ws os hs) → id < length g.state.views → h ≡ get_or hs id h
    → ((b : About) → shown b k ≡ shown b h) → Same a (stored a ws os (slice_set hs id k)) g
stays_set a ws os hs g id h k same kept low here step =
    let within : id < length hs = omega (arith, ap (λ (r : Game). length r.state.views) same, length-map hs (shown a)) in
    let views = views_same a hs id h k within here (step a) in
    stays a (stored a ws os hs) (stored a ws os (slice_set hs id k)) g same kept (λ i. record { words = ws; origins = os; views = views i })

-- the state after a step on one word
stepped_is : (a : About) (ws os : List ℕ) (hs : List StoredView) (id g w n : ℕ) (h k : StoredView) (F : ℕ → ℕ) (V : ℕ → View → View)
    → id < length hs → g < length ws → h ≡ get_or hs id h → w ≡ get_or ws g w → n ≡ F w → shown a k ≡ V w (shown a h)
    → stored a (slice_set ws g n) os (slice_set hs id k)
    ≡ stepped (stored a ws os hs) id g (F (slice_index ws g)) (V (slice_index ws g) (view_at (map (shown a) hs) id))
stepped_is a ws os hs id g w n h k F V low group here word new step =
    let found : w ≡ slice_index ws g = word_there ws g w group word in
    let words : slice_set ws g n ≡ slice_set ws g (F (slice_index ws g)) = ap (slice_set ws g) (new ∙ ap F found) in
    let views : map (shown a) (slice_set hs id k) ≡ slice_set (map (shown a) hs) id (V (slice_index ws g) (view_at (map (shown a) hs) id)) =
    views_set a hs id h k (V w) low here step
    ∙ ap (λ (u : ℕ). slice_set (map (shown a) hs) id (V u (view_at (map (shown a) hs) id))) found in
    λ i. record { words = words i; origins = os; views = views i }

inside : (a : About) (hs : List StoredView) (id : ℕ) → id < length (map (shown a) hs) → id < length hs
inside a hs id low = omega (arith, length-map hs (shown a))

grouped : (a : About) (ws os : List ℕ) (hs : List StoredView) (g : ℕ) → IsKept a (stored a ws os hs) → g < groups a.formula.vars → g < length ws
grouped a ws os hs g kept low = let size = kept.rule.words.size in omega arith

pub loads : (a : About) (ws os : List ℕ) (hs : List StoredView) (g : Game) (id group w : ℕ) (h k : StoredView)
    → game a (stored a ws os hs) ≡ g → IsKept a (stored a ws os hs) → IsLawful g.about g.state (Load id group)
    → h ≡ get_or hs id h → w ≡ get_or ws group w → ((b : About) → shown b k ≡ load_view group w (shown b h))
    → Next a (stored a ws os (slice_set hs id k)) g (Load id group)
loads a ws os hs g id group w h k same kept lawful here word step =
    let own = lawful_at a (stored a ws os hs) g (Load id group) same lawful in
    let low = grouped a ws os hs group kept own.group in
    let back : slice_set ws group w ≡ ws = ap (slice_set ws group) (word_there ws group w low word) ∙ set-get_or ws group 0 in
    subst (λ (us : List ℕ). Next a (stored a us os (slice_set hs id k)) g (Load id group)) back
    (next a (stored a ws os hs) _ g (Load id group) same kept lawful
    (stepped_is a ws os hs id group w w h k (λ (u : ℕ). u) (load_view group) (inside a hs id own.within) low here word refl (step a)))

pub drops : (a : About) (ws os : List ℕ) (hs : List StoredView) (g : Game) (id group mask w n : ℕ) (h k : StoredView)
    → game a (stored a ws os hs) ≡ g → IsKept a (stored a ws os hs) → IsLawful g.about g.state (Drop id group mask)
    → h ≡ get_or hs id h → w ≡ get_or ws group w → n ≡ without w mask → ((b : About) → shown b k ≡ drop_view group mask w (shown b h))
    → Next a (stored a (slice_set ws group n) os (slice_set hs id k)) g (Drop id group mask)
drops a ws os hs g id group mask w n h k same kept lawful here word new step =
    let own = lawful_at a (stored a ws os hs) g (Drop id group mask) same lawful in
    next a (stored a ws os hs) _ g (Drop id group mask) same kept lawful
    (stepped_is a ws os hs id group w n h k (λ (u : ℕ). without u mask) (drop_view group mask) (inside a hs id own.loads.within)
    (grouped a ws os hs group kept own.loads.group) here word new (step a))

pub fixes : (a : About) (ws os : List ℕ) (hs : List StoredView) (g : Game) (id group mask w n : ℕ) (h k : StoredView)
    → game a (stored a ws os hs) ≡ g → IsKept a (stored a ws os hs) → IsLawful g.about g.state (Fix id group mask)
    → h ≡ get_or hs id h → w ≡ get_or ws group w → n ≡ with_fixed w mask → ((b : About) → shown b k ≡ fix_view group mask w (shown b h))
    → Next a (stored a (slice_set ws group n) os (slice_set hs id k)) g (Fix id group mask)
fixes a ws os hs g id group mask w n h k same kept lawful here word new step =
    let own = lawful_at a (stored a ws os hs) g (Fix id group mask) same lawful in
    next a (stored a ws os hs) _ g (Fix id group mask) same kept lawful
    (stepped_is a ws os hs id group w n h k (λ (u : ℕ). with_fixed u mask) (fix_view group mask) (inside a hs id own.loads.within)
    (grouped a ws os hs group kept own.loads.group) here word new (step a))

-- The root is the first view.
pub root_there : (a : About) (ws os : List ℕ) (hs : List StoredView) → IsKept a (stored a ws os hs) → 0 < length hs
root_there a ws os hs kept = inside a hs 0 (seated (map (shown a) hs) 0 kept.rule.rooted.root)

pub splits : (a : About) (ws os : List ℕ) (hs : List StoredView) (g : Game) (h k c : StoredView)
    → game a (stored a ws os hs) ≡ g → IsKept a (stored a ws os hs) → IsLawful g.about g.state Split
    → h ≡ get_or hs 0 h → ((b : About) → shown b k ≡ parent (shown b h)) → ((b : About) → shown b c ≡ child (shown b h))
    → Next a (stored a ws os (slice_set hs 0 k ++ c ∷ [])) g Split
splits a ws os hs g h k c same kept lawful here left right =
    let low = root_there a ws os hs kept in
    let first : shown a h ≡ view_at (map (shown a) hs) 0 = sym (view_there a hs 0 h low here) in
    let views : map (shown a) (slice_set hs 0 k ++ c ∷ []) ≡ slice_set (map (shown a) hs) 0 (parent (view_at (map (shown a) hs) 0)) ++ child (view_at (map (shown a) hs) 0) ∷ [] =
    map_push (shown a) (slice_set hs 0 k) c
    ∙ ap (λ (vs : List View). vs ++ shown a c ∷ []) (views_set a hs 0 h k parent low here (left a))
    ∙ ap (λ (v : View). slice_set (map (shown a) hs) 0 (parent (view_at (map (shown a) hs) 0)) ++ v ∷ []) (right a ∙ ap child first) in
    next a (stored a ws os hs) _ g Split same kept lawful (λ i. record { words = ws; origins = os; views = views i })

pub joins : (a : About) (ws os : List ℕ) (hs : List StoredView) (g : Game) (id : ℕ) (h o k c : StoredView)
    → game a (stored a ws os hs) ≡ g → IsKept a (stored a ws os hs) → IsLawful g.about g.state (Join id)
    → h ≡ get_or hs 0 h → o ≡ get_or hs id o → ((b : About) → shown b k ≡ joined (shown b h) (shown b o)) → ((b : About) → shown b c ≡ spent_view)
    → Next a (stored a ws os (slice_set (slice_set hs 0 k) id c)) g (Join id)
joins a ws os hs g id h o k c same kept lawful here there both gone =
    let own = lawful_at a (stored a ws os hs) g (Join id) same lawful in
    let low = root_there a ws os hs kept in
    let first : shown a h ≡ view_at (map (shown a) hs) 0 = sym (view_there a hs 0 h low here) in
    let other : shown a o ≡ view_at (map (shown a) hs) id = sym (view_there a hs id o (inside a hs id own.within) there) in
    let views : map (shown a) (slice_set (slice_set hs 0 k) id c)
    ≡ slice_set (slice_set (map (shown a) hs) 0 (joined (view_at (map (shown a) hs) 0) (view_at (map (shown a) hs) id))) id spent_view =
    map-set (shown a) (slice_set hs 0 k) id c
    ∙ ap (λ (vs : List View). slice_set vs id (shown a c)) (map-set (shown a) hs 0 k)
    ∙ ap (λ (v : View). slice_set (slice_set (map (shown a) hs) 0 (shown a k)) id v) (gone a)
    ∙ ap (λ (v : View). slice_set (slice_set (map (shown a) hs) 0 v) id spent_view)
    (both a ∙ ap (λ (v : View). joined v (shown a o)) first ∙ ap (λ (v : View). joined (view_at (map (shown a) hs) 0) v) other) in
    next a (stored a ws os hs) _ g (Join id) same kept lawful (λ i. record { words = ws; origins = os; views = views i })

-- the words that a root and another view have seen
pub seen_alike : (a : About) (ws os : List ℕ) (hs : List StoredView) (g : Game) (id : ℕ) (h o : StoredView)
    → game a (stored a ws os hs) ≡ g → IsKept a (stored a ws os hs) → IsLawful g.about g.state (Join id)
    → h ≡ get_or hs 0 h → o ≡ get_or hs id o → length h.seen.items ≡ length o.seen.items
seen_alike a ws os hs g id h o same kept lawful here there =
    let own = lawful_at a (stored a ws os hs) g (Join id) same lawful in
    let first = view_there a hs 0 h (root_there a ws os hs kept) here in
    let other = view_there a hs id o (inside a hs id own.within) there in
    ap (λ (v : View). length v.seen) (sym first) ∙ (kept.rule.views 0 kept.rule.rooted.root).seen.size
    ∙ sym (kept.rule.views id own.unspent).seen.size ∙ ap (λ (v : View). length v.seen) other

-- a variable that may be published is one of the formula's
pub published_within : (a : About) (ws os : List ℕ) (hs : List StoredView) (g : Game) (id x stamp : ℕ)
    → game a (stored a ws os hs) ≡ g → IsKept a (stored a ws os hs) → IsLawful g.about g.state (Publish id x stamp)
    → (0 < x) × (x ≤ length os) × (x ≤ a.formula.vars)
published_within a ws os hs g id x stamp same kept lawful =
    let own = lawful_at a (stored a ws os hs) g (Publish id x stamp) same lawful in
    let inside_vars = fixed_within a (stored a ws os hs) id x kept.rule own.within own.publishes.fixed in
    let high = inside_vars.high in
    let size = kept.clocks.size in
    (inside_vars.low, omega arith, high)

pub publishes : (a : About) (ws os : List ℕ) (hs : List StoredView) (g : Game) (id x stamp w n : ℕ) (h k : StoredView)
    → game a (stored a ws os hs) ≡ g → IsKept a (stored a ws os hs) → IsLawful g.about g.state (Publish id x stamp)
    → h ≡ get_or hs id h → w ≡ get_or os (x - 1) w → n ≡ bit_or w (stamp + 1) → ((b : About) → shown b k ≡ publish_view x stamp (shown b h))
    → Next a (stored a ws (slice_set os (x - 1) n) (slice_set hs id k)) g (Publish id x stamp)
publishes a ws os hs g id x stamp w n h k same kept lawful here word new step =
    let own = lawful_at a (stored a ws os hs) g (Publish id x stamp) same lawful in
    let within = published_within a ws os hs g id x stamp same kept lawful in
    let origins : slice_set os (x - 1) n ≡ slice_set os (x - 1) (bit_or (origin_of os x) (stamp + 1)) =
    ap (slice_set os (x - 1)) (new ∙ ap (λ (u : ℕ). bit_or u (stamp + 1)) (word_there os (x - 1) w (omega arith) word)) in
    let views = views_set a hs id h k (publish_view x stamp) (inside a hs id own.within) here (step a) in
    next a (stored a ws os hs) _ g (Publish id x stamp) same kept lawful (λ i. record { words = ws; origins = origins i; views = views i })

pub asks : (a : About) (ws os : List ℕ) (hs : List StoredView) (g : Game) (id x w : ℕ) (h k : StoredView)
    → game a (stored a ws os hs) ≡ g → IsKept a (stored a ws os hs) → IsLawful g.about g.state (Origin id x)
    → h ≡ get_or hs id h → w ≡ get_or os (x - 1) w → ((b : About) → shown b k ≡ origin_view x w (shown b h))
    → Next a (stored a ws os (slice_set hs id k)) g (Origin id x)
asks a ws os hs g id x w h k same kept lawful here word step =
    let own = lawful_at a (stored a ws os hs) g (Origin id x) same lawful in
    let size = kept.clocks.size in
    let low = own.low in
    let high = own.high in
    let found : w ≡ origin_of os x = word_there os (x - 1) w (omega arith) word in
    let views = views_set a hs id h k (origin_view x w) (inside a hs id own.within) here (step a)
    ∙ ap (λ (u : ℕ). slice_set (map (shown a) hs) id (origin_view x u (view_at (map (shown a) hs) id))) found in
    next a (stored a ws os hs) _ g (Origin id x) same kept lawful (λ i. record { words = ws; origins = os; views = views i })

-- an origin word is no more than 1 above the number of variables
pub origin_small : (a : About) (ws os : List ℕ) (hs : List StoredView) (x w : ℕ) → IsKept a (stored a ws os hs) → x - 1 < length os
    → w ≡ get_or os (x - 1) w → w ≤ a.formula.vars + 1
origin_small a ws os hs x w kept low word =
    let found : w ≡ origin_of os x = word_there os (x - 1) w low word in
    let size = kept.clocks.size in
    ⊎_elim (λ (none : w < 1). omega arith)
    (λ (some : 1 ≤ w). omega (arith, (kept.clocks.stamps x (omega arith)).1, count_by-le-length (λ (n : ℕ). nat_lt 0 n) os))
    (cases_lt w 1)

-- the board at the opening
pub opens_board : (a : About) (ws os : List ℕ) (hs : List StoredView) (h : StoredView) → ws ≡ opening_words a.formula
    → os ≡ replicate a.formula.vars 0 → hs ≡ h ∷ [] → ((b : About) → b.formula ≡ a.formula → shown b h ≡ root_view b)
    → (IsKept a (stored a ws os hs)) × (stored a ws os hs ≡ opening a)
opens_board a ws os hs h words origins views root =
    let all : map (shown a) hs ≡ root_view a ∷ [] = ap (map (shown a)) views ∙ ap (λ (v : View). v ∷ []) (root a refl) in
    let is : stored a ws os hs ≡ opening a = λ i. record { words = words i; origins = origins i; views = all i } in
    (subst (λ (s : State). IsKept a s) (sym is) (record { rule = opens a; clocks = clocks_open a }), is)

-- a split behind a reservation, which keeps the views
pub splits_in : (a : About) (ws os : List ℕ) (hs rs ts : List StoredView) (g : Game) (o h k c : StoredView)
    → game a (stored a ws os hs) ≡ g → IsKept a (stored a ws os hs) → IsLawful g.about g.state Split → rs ≡ hs
    → o ≡ get_or hs 0 o → h ≡ get_or rs 0 h → ((b : About) → shown b k ≡ parent (shown b h)) → ((b : About) → shown b c ≡ child (shown b o))
    → ts ≡ slice_set rs 0 k ++ c ∷ [] → Next a (stored a ws os ts) g Split
splits_in a ws os hs rs ts g o h k c same kept lawful reserved before here left right end =
    let there : h ≡ get_or hs 0 h = here ∙ ap (λ (xs : List StoredView). get_or xs 0 h) reserved in
    let alike : o ≡ h = before ∙ get_or_there hs 0 o h (root_there a ws os hs kept) ∙ sym there in
    subst (λ (xs : List StoredView). Next a (stored a ws os xs) g Split)
    (sym (end ∙ ap (λ (xs : List StoredView). slice_set xs 0 k ++ c ∷ []) reserved))
    (splits a ws os hs g h k c same kept lawful there left (λ b. right b ∙ ap (λ (u : StoredView). child (shown b u)) alike))

pub stays_in : (a : About) (ws os : List ℕ) (hs rs : List StoredView) (g : Game) (h k : StoredView)
    → game a (stored a ws os hs) ≡ g → IsKept a (stored a ws os hs) → rs ≡ hs → h ≡ get_or rs 0 h
    → ((b : About) → shown b k ≡ shown b h) → Same a (stored a ws os (slice_set rs 0 k)) g
stays_in a ws os hs rs g h k same kept reserved here step =
    let low : 0 < length g.state.views =
    omega (arith, ap (λ (r : Game). length r.state.views) same, length-map hs (shown a), root_there a ws os hs kept) in
    subst (λ (xs : List StoredView). Same a (stored a ws os (slice_set xs 0 k)) g) (sym reserved)
    (stays_set a ws os hs g 0 h k same kept low (here ∙ ap (λ (xs : List StoredView). get_or xs 0 h) reserved) step)
