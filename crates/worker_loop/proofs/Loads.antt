-- A post while its groups are loaded one after another.
use Rattle.std.proofs.Common.{◌≡◌, ◌≢◌, ℕ, ◌+◌, ◌<◌, ◌≤◌, inl, inr, List, length, Contains, refl, sym, ap, ◌∙◌, subst, arith}
use Rattle.std.specs.Prelude.{slice_index, slice_set}
use Rattle.std.specs.Vec.{with_item}
use Rattle.std.proofs.lemmas.Bool.{cases_eq}
use Rattle.std.proofs.lemmas.List.{ext_get_or, get_or-set_other, length-set}
use Rattle.std.proofs.lemmas.Grind.{get_or-set_at}
use Rattle.board_core.specs.Subjects.{About, groups}
use Rattle.board_core.specs.Words.{Earlier}
use Rattle.board_core.specs.Boards.{load_view, one_more, top}
use Rattle.board_core.specs.Rules.{IsView, IsOnce}
use Rattle.board_core.specs.declared.view.View.{View}
use Rattle.board_core.specs.declared.view.Stamped.{Stamped}
use Rattle.candidate_words.specs.Seats.{Board, Sitter, Sits, HasLoaded}
use Rattle.worker_loop.specs.declared.post.Post.{Post}
use Rattle.worker_loop.specs.Steps.Held.{IsPost}
use Rattle.worker_loop.specs.Steps.Moves.{HasLoadedAll, IsLoaded}
use Rattle.worker_loop.proofs.Imports.{HasMoved, post_moved, clocked_view, same_about}
use Rattle.worker_loop.proofs.Onward.{longer_same}

-- the groups below k are loaded, each once, and the others are as they were
pub record HasLoadedUpTo (b : Board) (p q : Post) (k : ℕ) : Type 0 where
  pub post : IsPost q
  pub sits : Sits b q.seat
  pub question : q.question.now ≡ p.question.now
  pub table : q.seat.table ≡ p.seat.table
  pub number : q.seat.view.number ≡ p.seat.view.number
  pub next : q.seat.view.next ≡ p.seat.view.next
  pub out : q.seat.view.out ≡ p.seat.view.out
  pub looks : q.seat.view.looks ≡ p.seat.view.looks
  pub imports : q.seat.view.imports ≡ p.seat.view.imports
  pub solver : q.solver ≡ p.solver
  pub models : q.models ≡ p.models
  pub drops : q.drops ≡ p.drops
  pub budget : q.budget ≡ p.budget
  pub once : (g : ℕ) → g < k → slice_index q.seat.view.loads g ≡ slice_index p.seat.view.loads g + 1
  pub seen : (g : ℕ) → g < k → slice_index q.seat.view.seen g ≡ slice_index q.seat.view.loaded g
  pub later : (g : ℕ) → g < k → Earlier (slice_index p.seat.view.seen g) (slice_index q.seat.view.loaded g)
  pub copy : (g : ℕ) → g < k → slice_index q.loaded.items g ≡ slice_index q.seat.view.loaded g
  pub loads_left : (g : ℕ) → k ≤ g → slice_index q.seat.view.loads g ≡ slice_index p.seat.view.loads g
  pub seen_left : (g : ℕ) → k ≤ g → slice_index q.seat.view.seen g ≡ slice_index p.seat.view.seen g

pub none_loaded : (b : Board) (p : Post) → IsPost p → Sits b p.seat → HasLoadedUpTo b p p 0
none_loaded b p h sits = record {
  post = h;
  sits = sits;
  question = refl;
  table = refl;
  number = refl;
  next = refl;
  out = refl;
  looks = refl;
  imports = refl;
  solver = refl;
  models = refl;
  drops = refl;
  budget = refl;
  once = λ g low. absurd (omega (arith, low));
  seen = λ g low. absurd (omega (arith, low));
  later = λ g low. absurd (omega (arith, low));
  copy = λ g low. absurd (omega (arith, low));
  loads_left = λ g low. refl;
  seen_left = λ g low. refl;
}

-- after one load
pub post_loaded : (b : Board) (p : Post) (t : Sitter) (g w : ℕ) → IsPost p → Sits b p.seat → Sits b t → IsOnce b.about t.view
    → HasLoaded p.seat g w t → IsPost (record p { seat = t; loaded = with_item p.loaded g w })
post_loaded b p t g w h before after once step =
    let a = p.question.now in
    let v : t.view ≡ load_view g w p.seat.view = ap (λ (u : Sitter). u.view) step.seat in
    let is : b.about ≡ a = same_about b a p.seat before h.view in
    let imports : t.view.imports ≡ p.seat.view.imports = ap (λ (u : View). u.imports) v in
    let moved : HasMoved p t p.solver = record {
      view = subst (λ (c : About). IsView c t.view) is after.view;
      once = subst (λ (c : About). IsOnce c t.view) is once;
      drops = ap (λ (u : View). u.drops) v;
      fixes = ap (λ (u : View). u.fixes) v;
      log = longer_same p.solver.log p.solver.log refl;
      clocked = clocked_view a p.seat.view t.view p.solver.log (omega (arith, ap top imports))
          (λ s here. subst (λ (ps : List Stamped). Contains ps s) (sym imports) here)
          (ap (λ (u : View). u.published) v) (ap (λ (u : View). u.fixes) v) h.clocked;
      clock = h.clock;
      few = h.few;
    } in
    let n = post_moved p t p.solver h moved in record {
      some = n.some;
      limit = n.limit;
      is_model = n.is_model;
      view = n.view;
      once = n.once;
      told = n.told;
      clocked = n.clocked;
      rooms = record { drops = h.rooms.drops; fixes = h.rooms.fixes };
      loaded = length-set p.loaded.items g w ∙ h.loaded;
      rooted_length = n.rooted_length;
      rooted = n.rooted;
      first_group = n.first_group;
      marks = n.marks;
      walker = n.walker;
      jumper = n.jumper;
      clock = n.clock;
      budget = n.budget;
      few = n.few;
    }

pub load_next : (b : Board) (p q : Post) (t : Sitter) (k w : ℕ) → HasLoadedUpTo b p q k → k < groups p.question.now.formula.vars
    → Sits b t → IsOnce b.about t.view → HasLoaded q.seat k w t
    → HasLoadedUpTo b p (record q { seat = t; loaded = with_item q.loaded k w }) (k + 1)
load_next b p q t k w up low after once step =
    let n = groups p.question.now.formula.vars in
    let h = up.post in
    let v : t.view ≡ load_view k w q.seat.view = ap (λ (u : Sitter). u.view) step.seat in
    let seen_is : t.view.seen ≡ slice_set q.seat.view.seen k w = ap (λ (u : View). u.seen) v in
    let loaded_is : t.view.loaded ≡ slice_set q.seat.view.loaded k w = ap (λ (u : View). u.loaded) v in
    let loads_is : t.view.loads ≡ one_more q.seat.view.loads k = ap (λ (u : View). u.loads) v in
    let same : groups q.question.now.formula.vars ≡ n = ap (λ (a : About). groups a.formula.vars) up.question in
    let here_is : (xs ys : List ℕ) (x g : ℕ) → ys ≡ slice_set xs k x → length xs ≡ groups q.question.now.formula.vars → g ≡ k
    → slice_index ys g ≡ x =
    λ xs ys x g is size e. ap (λ (zs : List ℕ). slice_index zs g) is ∙ get_or-set_at xs k g x 0 e (omega (arith, low, size, same)) in
    let other_is : (xs ys : List ℕ) (x g : ℕ) → ys ≡ slice_set xs k x → g ≢ k → slice_index ys g ≡ slice_index xs g =
    λ xs ys x g is other. ap (λ (zs : List ℕ). slice_index zs g) is ∙ get_or-set_other xs k g x 0 other in record {
      post = post_loaded b q t k w h up.sits after once step;
      sits = after;
      question = up.question;
      table = ap (λ (u : Sitter). u.table) step.seat ∙ up.table;
      number = ap (λ (u : View). u.number) v ∙ up.number;
      next = ap (λ (u : View). u.next) v ∙ up.next;
      out = ap (λ (u : View). u.out) v ∙ up.out;
      looks = ap (λ (u : View). u.looks) v ∙ up.looks;
      imports = ap (λ (u : View). u.imports) v ∙ up.imports;
      solver = up.solver;
      models = up.models;
      drops = up.drops;
      budget = up.budget;
      once = λ g below. elim (cases_eq g k) [
        | inl last ↦
            here_is q.seat.view.loads t.view.loads (slice_index q.seat.view.loads k + 1) g loads_is h.view.loads_length last
            ∙ ap (λ (m : ℕ). m + 1) (ap (λ (j : ℕ). slice_index q.seat.view.loads j) (sym last) ∙ up.loads_left g (omega (arith, last)))
        | inr other ↦ other_is q.seat.view.loads t.view.loads _ g loads_is other ∙ up.once g (omega (arith, below, other))
      ];
      seen = λ g below. elim (cases_eq g k) [
        | inl last ↦
            here_is q.seat.view.seen t.view.seen w g seen_is h.view.seen.size last
            ∙ sym (here_is q.seat.view.loaded t.view.loaded w g loaded_is h.view.loaded.size last)
        | inr other ↦
            other_is q.seat.view.seen t.view.seen w g seen_is other ∙ up.seen g (omega (arith, below, other))
            ∙ sym (other_is q.seat.view.loaded t.view.loaded w g loaded_is other)
      ];
      later = λ g below. elim (cases_eq g k) [
        | inl last ↦
            subst (λ (x : ℕ). Earlier (slice_index p.seat.view.seen g) x)
            (sym (here_is q.seat.view.loaded t.view.loaded w g loaded_is h.view.loaded.size last))
            (subst (λ (x : ℕ). Earlier x w) (up.seen_left g (omega (arith, last)))
            (subst (λ (j : ℕ). Earlier (slice_index q.seat.view.seen j) w) (sym last) step.finds.later))
        | inr other ↦
            subst (λ (x : ℕ). Earlier (slice_index p.seat.view.seen g) x)
            (sym (other_is q.seat.view.loaded t.view.loaded w g loaded_is other))
            (up.later g (omega (arith, below, other)))
      ];
      copy = λ g below. elim (cases_eq g k) [
        | inl last ↦
            here_is q.loaded.items (slice_set q.loaded.items k w) w g refl h.loaded last
            ∙ sym (here_is q.seat.view.loaded t.view.loaded w g loaded_is h.view.loaded.size last)
        | inr other ↦
            other_is q.loaded.items (slice_set q.loaded.items k w) w g refl other ∙ up.copy g (omega (arith, below, other))
            ∙ sym (other_is q.seat.view.loaded t.view.loaded w g loaded_is other)
      ];
      loads_left = λ g above. other_is q.seat.view.loads t.view.loads _ g loads_is (omega (arith, above)) ∙ up.loads_left g
          (omega (arith, above));
      seen_left = λ g above. other_is q.seat.view.seen t.view.seen w g seen_is (omega (arith, above)) ∙ up.seen_left g
          (omega (arith, above));
    }

-- after all loads
same_words : (n k : ℕ) (xs ys : List ℕ) → length xs ≡ n → length ys ≡ n → n ≤ k → ((g : ℕ) → g < k → slice_index xs g ≡ slice_index ys g)
    → xs ≡ ys
same_words n k xs ys one two high same = ext_get_or 0 xs ys (one ∙ sym two) (λ g low. same g (omega (arith, low, one, high)))

pub all_copied : (b : Board) (p q : Post) (k : ℕ) → groups p.question.now.formula.vars ≤ k → HasLoadedUpTo b p q k → IsLoaded q
all_copied b p q k high up =
    same_words (groups q.question.now.formula.vars) k q.loaded.items q.seat.view.loaded up.post.loaded up.post.view.loaded.size
    (omega (arith, high, ap (λ (a : About). groups a.formula.vars) up.question)) up.copy

pub all_loaded : (b : Board) (p q : Post) (k : ℕ) → groups p.question.now.formula.vars ≤ k → HasLoadedUpTo b p q k → HasLoadedAll p q
all_loaded b p q k high up = record {
  question = up.question;
  table = up.table;
  number = up.number;
  next = up.next;
  out = up.out;
  looks = up.looks;
  imports = up.imports;
  solver = up.solver;
  models = up.models;
  drops = up.drops;
  budget = up.budget;
  once = λ g low. up.once g (omega (arith, low, high));
  seen = same_words (groups q.question.now.formula.vars) k q.seat.view.seen q.seat.view.loaded up.post.view.seen.size
      up.post.view.loaded.size
      (omega (arith, high, ap (λ (a : About). groups a.formula.vars) up.question)) up.seen;
  later = λ g low. up.later g (omega (arith, low, high));
}
