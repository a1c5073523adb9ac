-- A post after it looked for the origin of a variable, and after it took a literal over from another log.
use Rattle.std.proofs.Common.{◌≡◌, ℕ, ◌+◌, ◌-◌, ◌<◌, ◌≤◌, inl, inr, IsTrue, max, List, [], ◌∷◌, ◌++◌, length, Contains, cond, refl, sym}
use Rattle.std.proofs.Common.{ap, ◌∙◌, subst, arith, append_assoc}
use Rattle.std.specs.Prelude.{All, slice_index, nat_lt, Option, Some, None}
use Rattle.std.proofs.lemmas.Bool.{cases_eq, cases_Bool, ltb-true, ltb-false, cond-true, cond-false}
use Rattle.std.proofs.lemmas.List.{append-nil, get_or-set_same, get_or-set_other, get_or_push, length-append}
use Rattle.std.proofs.lemmas.List.Elements.{All-push, All-weaker, All-append, All-nil}
use Rattle.std.proofs.lemmas.List.Sums.{sum_by-append}
use Rattle.cnf_core.specs.Literals.{Literal}
use Rattle.cnf_core.specs.Formulas.{true_literal}
use Rattle.lrat_log.specs.declared.kind.Kind.TheVariants.{Import}
use Rattle.lrat_log.specs.Entries.{Entry, Recorded, entry_at, no_entry, is_import, is_learnt_entry, later_of, with_import, next_entry}
use Rattle.lrat_log.specs.Entries.{learnt_count}
use Rattle.lrat_log.specs.Laws.{learning_queries}
use Rattle.board_core.specs.Subjects.{About}
use Rattle.board_core.specs.Words.{Earlier, times, named}
use Rattle.board_core.specs.Boards.{top, stamped, one_more, origin_view}
use Rattle.board_core.specs.Rules.{IsView, IsOnce}
use Rattle.board_core.specs.declared.view.View.{View}
use Rattle.board_core.specs.declared.view.Stamped.{Stamped}
use Rattle.candidate_words.specs.Seats.{Board, Sitter, Sits}
use Rattle.shared_fixed.specs.Stamps.{HasAskedStamp, word_of}
use Rattle.shared_fixed.proofs.Imports.{imports_after, imported, still_imported, top_after}
use Rattle.assumption_solver.specs.Units.{HasUnit, is_unit}
use Rattle.assumption_solver.specs.SolverStates.{SolverState}
use Rattle.worker_loop.specs.declared.post.Post.{Post}
use Rattle.worker_loop.specs.Posts.{IsLonger}
use Rattle.worker_loop.specs.Evidence.{IsImportOf, IsPublished, IsClocked}
use Rattle.worker_loop.specs.Steps.Held.{IsPost}
use Rattle.worker_loop.specs.Steps.Moves.{IsHearing, HasTaken, IsAskedTimes}
use Rattle.worker_loop.proofs.Queries.{same_queries}
use Rattle.worker_loop.proofs.Onward.{longer_same}
use Rattle.worker_loop.proofs.Grown.{told_longer, marks_longer, published_longer, unit_longer}

-- ---- any step of the seat and the solver that wins nothing

pub record HasMoved (p : Post) (t : Sitter) (s : SolverState) : Type 0 where
  pub view : IsView p.question.now t.view
  pub once : IsOnce p.question.now t.view
  pub drops : t.view.drops ≡ p.seat.view.drops
  pub fixes : t.view.fixes ≡ p.seat.view.fixes
  pub log : IsLonger p.solver.log s.log
  pub clocked : IsClocked p.question.now t.view s.log
  pub clock : s.log.clock ≤ p.question.now.formula.vars
  pub few : learnt_count s.log.entries ≤ p.budget

pub post_moved : (p : Post) (t : Sitter) (s : SolverState) → IsPost p → HasMoved p t s → IsPost (record p { seat = t; solver = s })
post_moved p t s h m =
    let a = p.question.now in
    let told = told_longer a p.seat.view p.models p.solver.log s.log p.drops.items p.fixes.items m.log h.told in record {
      some = h.some;
      limit = h.limit;
      is_model = h.is_model;
      view = m.view;
      once = m.once;
      told = record {
        store = told.store;
        log = told.log;
        drops_are = told.drops_are ∙ sym m.drops;
        fixes_are = told.fixes_are ∙ sym m.fixes;
        witnessed = told.witnessed;
        rooted = told.rooted;
      };
      clocked = m.clocked;
      rooms = record { drops = h.rooms.drops; fixes = h.rooms.fixes };
      loaded = h.loaded;
      rooted_length = h.rooted_length;
      rooted = marks_longer a p.solver.log s.log p.rooted.items m.log h.rooted;
      first_group = h.first_group;
      marks = h.marks;
      walker = h.walker;
      jumper = h.jumper;
      clock = m.clock;
      budget = h.budget;
      few = m.few;
    }

-- the board of a seat is the question's
pub same_about : (b : Board) (a : About) (s : Sitter) → Sits b s → IsView a s.view → b.about ≡ a
same_about b a s sits view = sym sits.view.about ∙ view.about

-- ---- the log with an import

pub longer_import : (L : Recorded) (l : Literal) (stamp : ℕ) → IsLonger L (with_import L l stamp)
longer_import L l stamp = record { formula = refl; more = next_entry L Import (l ∷ []) [] (later_of L.clock stamp) ∷ []; entries = refl }

new_entry : (L : Recorded) (l : Literal) (stamp : ℕ)
    → entry_at (with_import L l stamp) (length L.entries) ≡ next_entry L Import (l ∷ []) [] (later_of L.clock stamp)
new_entry L l stamp = get_or_push L.entries (next_entry L Import (l ∷ []) [] (later_of L.clock stamp)) no_entry (length L.entries) refl

pub unit_import : (L : Recorded) (l : Literal) (stamp : ℕ) → HasUnit (with_import L l stamp) l
unit_import L l stamp =
    let e = next_entry L Import (l ∷ []) [] (later_of L.clock stamp) in record {
      id = length L.formula.clauses + 1 + length L.entries;
      at_id = record {
        place = length L.entries;
        within = omega (arith, length-append L.entries (e ∷ []));
        has_id = refl;
        kind = ap (λ (f : Entry). is_unit f.kind) (new_entry L l stamp);
        literals = ap (λ (f : Entry). f.literals) (new_entry L l stamp);
      };
    }

pub count_import : (L : Recorded) (l : Literal) (stamp : ℕ) → learnt_count (with_import L l stamp).entries ≡ learnt_count L.entries
count_import L l stamp =
    let e = next_entry L Import (l ∷ []) [] (later_of L.clock stamp) in
    omega (arith, sum_by-append (λ (f : Entry). cond (is_learnt_entry f) 1 0) L.entries (e ∷ []))

pub asked_import : (L : Recorded) (l : Literal) (stamp : ℕ) → IsAskedTimes 0 L (with_import L l stamp)
asked_import L l stamp =
    let e = next_entry L Import (l ∷ []) [] (later_of L.clock stamp) in
    let same : learning_queries (L.entries ++ e ∷ []) ≡ learning_queries L.entries = same_queries L.entries (e ∷ [])
    (count_import L l stamp) in record {
      most = omega (arith, same);
      none = λ _. same;
    }

later_is : (s t : ℕ) → later_of s t ≡ max s t
later_is s t = elim (cases_Bool (nat_lt s t)) [
  | inl is ↦ cond-true (nat_lt s t) t s is ∙ omega (arith, ltb-true s t is)
  | inr is ↦ cond-false (nat_lt s t) t s is ∙ omega (arith, ltb-false s t is)
]

-- ---- clocks

-- where the view imported more
pub clocked_view : (a : About) (v u : View) (L : Recorded) → top v.imports ≤ top u.imports
    → ((p : Stamped) → Contains v.imports p → Contains u.imports p)
    → u.published ≡ v.published → u.fixes ≡ v.fixes → IsClocked a v L → IsClocked a u L
clocked_view a v u L higher kept published fixes is =
    let P = λ (w : View) (e : Entry). IsTrue (is_import e.kind) → IsImportOf a w e in record {
      clock = omega (arith, is.clock, higher);
      imported = All-weaker (P v) (P u)
          (λ e old import.
          let i = old import in record {
            var = i.var;
            stamp = i.stamp;
            literals = i.literals;
            known = kept (stamped i.var i.stamp) i.known;
            later = i.later;
          })
          L.entries is.imported;
      published = subst (λ (ps : List Stamped). All (IsPublished a L) ps) (sym published) is.published;
      all_published = λ x.
          subst (λ (xs : List ℕ). times x xs ≡ named x u.published) (sym fixes)
          (subst (λ (ps : List Stamped). times x v.fixes ≡ named x ps) (sym published) (is.all_published x));
    }

-- where the log has one import more, at a stamp that the view knows
pub clocked_import : (a : About) (u : View) (L : Recorded) (x stamp : ℕ) → Contains u.imports (stamped x stamp) → stamp ≤ top u.imports
    → IsClocked a u L → IsClocked a u (with_import L (true_literal a.phases x) stamp)
clocked_import a u L x stamp known high is =
    let l = true_literal a.phases x in
    let M = with_import L l stamp in
    let e = next_entry L Import (l ∷ []) [] (later_of L.clock stamp) in
    let P = λ (f : Entry). IsTrue (is_import f.kind) → IsImportOf a u f in record {
      clock = omega (arith, later_is L.clock stamp, is.clock, high);
      imported = All-push P L.entries e is.imported
          (λ _. record { var = x; stamp = stamp; literals = refl; known = known; later = omega (arith, later_is L.clock stamp) });
      published = All-weaker (IsPublished a L) (IsPublished a M)
          (λ p. published_longer a L M p (longer_import L l stamp)) u.published is.published;
      all_published = is.all_published;
    }

-- ---- looks

looks_more : (xs : List ℕ) (k x : ℕ) → k < length xs → slice_index xs x ≤ slice_index (one_more xs k) x
looks_more xs k x here = elim (cases_eq x k) [
  | inl same ↦ subst (λ (j : ℕ). slice_index xs j ≤ slice_index (one_more xs k) j) (sym same)
      (omega (arith, get_or-set_same xs k (slice_index xs k + 1) 0 here))
  | inr other ↦ omega (arith, get_or-set_other xs k x (slice_index xs k + 1) 0 other)
]

looked : (xs : List ℕ) (k : ℕ) → k < length xs → slice_index xs k < slice_index (one_more xs k) k
looked xs k here = omega (arith, get_or-set_same xs k (slice_index xs k + 1) 0 here)

-- ---- the seat after the event Origin

asked_view : (s t : Sitter) (x : ℕ) (r : Option ℕ) → HasAskedStamp s x r t → t.view ≡ origin_view x (word_of r) s.view
asked_view s t x r asked = ap (λ (u : Sitter). u.view) asked

asked_top : (s t : Sitter) (x : ℕ) (r : Option ℕ) → HasAskedStamp s x r t → top s.view.imports ≤ top t.view.imports
asked_top s t x None asked = omega (
  arith,
  ap (λ (v : View). top v.imports) (asked_view s t x None asked) ∙ ap top
      (append-nil s.view.imports),
)
asked_top s t x (Some stamp) asked = omega (arith, top_after s t x stamp asked)

asked_imports : (s t : Sitter) (x : ℕ) (r : Option ℕ) → HasAskedStamp s x r t → (p : Stamped) → Contains s.view.imports p
    → Contains t.view.imports p
asked_imports s t x None asked p here =
    subst (λ (ps : List Stamped). Contains ps p) (sym (ap (λ (v : View). v.imports) (asked_view s t x None asked)
    ∙ append-nil s.view.imports)) here
asked_imports s t x (Some stamp) asked p here = still_imported s t x stamp p asked here

asked_clocked : (a : About) (s t : Sitter) (x : ℕ) (r : Option ℕ) (L : Recorded) → HasAskedStamp s x r t → IsClocked a s.view L
    → IsClocked a t.view L
asked_clocked a s t x r L asked is =
    let v = asked_view s t x r asked in
    clocked_view a s.view t.view L (asked_top s t x r asked) (asked_imports s t x r asked)
    (ap (λ (u : View). u.published) v) (ap (λ (u : View). u.fixes) v) is

-- where the solver's log stays
pub moved_asked : (b : Board) (p : Post) (t : Sitter) (s : SolverState) (x : ℕ) (r : Option ℕ) → IsPost p → Sits b p.seat → Sits b t
    → IsOnce b.about t.view
    → HasAskedStamp p.seat x r t → s.log ≡ p.solver.log → HasMoved p t s
moved_asked b p t s x r h before after once asked same =
    let a = p.question.now in
    let v = asked_view p.seat t x r asked in
    let is : b.about ≡ a = same_about b a p.seat before h.view in record {
      view = subst (λ (c : About). IsView c t.view) is after.view;
      once = subst (λ (c : About). IsOnce c t.view) is once;
      drops = ap (λ (u : View). u.drops) v;
      fixes = ap (λ (u : View). u.fixes) v;
      log = longer_same p.solver.log s.log same;
      clocked = subst (λ (K : Recorded). IsClocked a t.view K) (sym same) (asked_clocked a p.seat t x r p.solver.log asked h.clocked);
      clock = omega (arith, ap (λ (K : Recorded). K.clock) same, h.clock);
      few = omega (arith, ap (λ (K : Recorded). learnt_count K.entries) same, h.few);
    }

-- where it has the import
pub moved_import : (b : Board) (p : Post) (t : Sitter) (s : SolverState) (x stamp : ℕ) → IsPost p → Sits b p.seat → Sits b t
    → IsOnce b.about t.view
    → HasAskedStamp p.seat x (Some stamp) t → stamp ≤ p.question.now.formula.vars
    → s.log ≡ with_import p.solver.log (true_literal p.question.now.phases x) stamp → HasMoved p t s
moved_import b p t s x stamp h before after once asked high is =
    let a = p.question.now in
    let l = true_literal a.phases x in
    let L = p.solver.log in
    let M = with_import L l stamp in
    let kept = moved_asked b p t p.solver x (Some stamp) h before after once asked refl in
    let top_is = top_after p.seat t x stamp asked in record {
      view = kept.view;
      once = kept.once;
      drops = kept.drops;
      fixes = kept.fixes;
      log = subst (λ (K : Recorded). IsLonger L K) (sym is) (longer_import L l stamp);
      clocked = subst (λ (K : Recorded). IsClocked a t.view K) (sym is)
          (clocked_import a t.view L x stamp (imported p.seat t x stamp asked) (omega (arith, top_is)) kept.clocked);
      clock = omega (arith, ap (λ (K : Recorded). K.clock) is, later_is L.clock stamp, h.clock, high);
      few = omega (arith, ap (λ (K : Recorded). learnt_count K.entries) is, count_import L l stamp, h.few);
    }

-- the looks of a variable, and those of the others
pub look_of : (p : Post) (t : Sitter) (x : ℕ) (r : Option ℕ) → IsPost p → 0 < x → x ≤ p.question.now.formula.vars
    → HasAskedStamp p.seat x r t
    → slice_index p.seat.view.looks (x - 1) < slice_index t.view.looks (x - 1)
look_of p t x r h low high asked =
    let here : x - 1 < length p.seat.view.looks = omega (arith, h.view.looks_length, low, high) in
    subst (λ (ks : List ℕ). slice_index p.seat.view.looks (x - 1) < slice_index ks (x - 1))
    (sym (ap (λ (u : View). u.looks) (asked_view p.seat t x r asked)))
    (looked p.seat.view.looks (x - 1) here)

-- the step is one that may import, with any solver whose log has grown, and any marks
pub hearing_asked : (p q : Post) (x : ℕ) (r : Option ℕ) → IsPost p → 0 < x → x ≤ p.question.now.formula.vars
    → HasAskedStamp p.seat x r q.seat
    → q.question.now ≡ p.question.now → q.loaded.items ≡ p.loaded.items → q.budget ≡ p.budget → IsLonger p.solver.log q.solver.log
    → IsHearing p q
hearing_asked p q x r h low high asked question copy budget log =
    let v = asked_view p.seat q.seat x r asked in
    let here : x - 1 < length p.seat.view.looks = omega (arith, h.view.looks_length, low, high) in record {
      question = question;
      table = ap (λ (u : Sitter). u.table) asked;
      number = ap (λ (u : View). u.number) v;
      next = ap (λ (u : View). u.next) v;
      out = ap (λ (u : View). u.out) v;
      loaded = ap (λ (u : View). u.loaded) v;
      loads = ap (λ (u : View). u.loads) v;
      copy = copy;
      seen = λ g lt. subst (λ (ws : List ℕ). Earlier (slice_index p.seat.view.seen g) (slice_index ws g))
          (sym (ap (λ (u : View). u.seen) v))
          (λ i low. (omega arith, omega arith));
      looks = λ y. subst (λ (ks : List ℕ). slice_index p.seat.view.looks y ≤ slice_index ks y) (sym (ap (λ (u : View). u.looks) v))
          (looks_more p.seat.view.looks (x - 1) y here);
      log = log;
      budget = budget;
    }

-- ---- what was found

-- nothing was
pub taken_none : (p q : Post) → q.seat.view.imports ≡ p.seat.view.imports → HasTaken p q
taken_none p q same = record {
  found = [];
  imports = same ∙ sym (append-nil p.seat.view.imports);
  units = All-nil (λ (e : Stamped). HasUnit q.solver.log (true_literal p.question.now.phases e.var));
}

pub taken_refl : (p : Post) → HasTaken p p
taken_refl p = taken_none p p refl

-- the variable had no origin
pub taken_no_stamp : (p q : Post) (x : ℕ) → HasAskedStamp p.seat x None q.seat → HasTaken p q
taken_no_stamp p q x asked =
    taken_none p q (ap (λ (u : View). u.imports) (asked_view p.seat q.seat x None asked) ∙ append-nil p.seat.view.imports)

-- the origin of a variable, which became a root unit
pub taken_one : (p q : Post) (x stamp : ℕ) → HasAskedStamp p.seat x (Some stamp) q.seat
    → HasUnit q.solver.log (true_literal p.question.now.phases x) → HasTaken p q
taken_one p q x stamp asked unit =
    let P = λ (e : Stamped). HasUnit q.solver.log (true_literal p.question.now.phases e.var) in record {
      found = stamped x stamp ∷ [];
      imports = imports_after p.seat q.seat x stamp asked;
      units = All-push P [] (stamped x stamp) (All-nil P) unit;
    }

-- steps after one another
pub taken_trans : (p q r : Post) → HasTaken p q → HasTaken q r → q.question.now ≡ p.question.now
    → IsLonger q.solver.log r.solver.log → HasTaken p r
taken_trans p q r one two about log =
    let P = λ (e : Stamped). HasUnit r.solver.log (true_literal p.question.now.phases e.var) in record {
      found = one.found ++ two.found;
      imports = two.imports ∙ ap (λ (es : List Stamped). es ++ two.found) one.imports
          ∙ append_assoc p.seat.view.imports one.found two.found;
      units = All-append P one.found two.found
          (All-weaker (λ (e : Stamped). HasUnit q.solver.log (true_literal p.question.now.phases e.var)) P
          (λ e unit. unit_longer q.solver.log r.solver.log _ log unit) one.found one.units)
          (subst (λ (a : About). All (λ (e : Stamped). HasUnit r.solver.log (true_literal a.phases e.var)) two.found) about two.units);
    }
