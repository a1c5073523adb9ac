-- The findings of one worker after another.
use Rattle.std.proofs.Common.{◌≡◌, ℕ, ◌+◌, ◌*◌, ◌<◌, ◌≤◌, inl, inr, true≢false, Bool, true, false, List, [], ◌∷◌, ◌++◌, length, take, map, refl}
use Rattle.std.proofs.Common.{sym, ap, ap₂, ◌∙◌, subst, ⊎_elim, arith}
use Rattle.std.specs.Prelude.{◌⊎◌, ◌||◌, IsTrue, All, Contains}
use Rattle.std.proofs.Math.Nat.{mul-le-mul_left}
use Rattle.std.proofs.lemmas.List.{map-append, length-append, append-nil}
use Rattle.std.proofs.lemmas.List.Elements.{All-weaker, All-nil, All-cons, All-append, All-push, All-map, Contains-append_left, Contains-append_right, Contains-push}
use Rattle.cnf_core.specs.Literals.{Literal, Literals}
use Rattle.cnf_core.proofs.Lists.{Contains-head}
use Rattle.lrat_log.specs.Entries.{Entry, Recorded, is_import}
use Rattle.lrat_log.specs.Laws.{IsFull}
use Rattle.model_store.specs.Stores.{Store, with_models}
use Rattle.model_store.specs.Witnesses.{IsInRange}
use Rattle.model_store.specs.declared.witness.Witness.{Witness}
use Rattle.board_core.specs.Subjects.{About}
use Rattle.board_core.specs.Boards.{joined, without_number}
use Rattle.board_core.specs.Words.{times}
use Rattle.board_core.specs.Laws.{NoneOpen}
use Rattle.board_core.specs.declared.view.View.{View}
use Rattle.board_core.specs.declared.view.Stamped.{Stamped}
use Rattle.core_chunks.specs.Chunks.{open_count}
use Rattle.candidate_words.specs.Seats.{Board, Sitter, Sits, with_view}
use Rattle.worker_loop.specs.declared.endings.End.{End}
use Rattle.worker_loop.specs.declared.endings.End.TheVariants.{Done, Spent, Memory}
use Rattle.worker_loop.specs.declared.findings.Findings.{Findings}
use Rattle.worker_loop.specs.Posts.{PostState}
use Rattle.worker_loop.specs.Runs.{ByCause, UnlessMemory}
use Rattle.worker_loop.specs.Evidence.{IsWitness, IsRooted, IsSettled, IsImportOf, IsPublished}
use Rattle.run_core.specs.declared.gathered.Gathered.{Gathered}
use Rattle.run_core.specs.Outcomes.{IsSpent}
use Rattle.run_core.specs.Steps.Crews.{IsOut, IsHome, IsLeft}
use Rattle.run_core.specs.Steps.Gathers.{moved, is_memory, IsRootedIn, IsPublishedIn, AreImportsOf, AreGathered, IsGathered, HasBegun, HasTaken, HasJoined, MayTake, MayTakeAll}
use Rattle.run_core.proofs.Joining.{none_open, none_open_left, none_open_right, witness_kept, witness_moved, settled_joined, settled_kept, out_next}

-- Ends.
pub or_false : (a b : Bool) → (a || b) ≡ false → (a ≡ false) × (b ≡ false)
or_false true b is = absurd (true≢false is)
or_false false b is = (refl, is)

unless_memory : (e : End) (T : Type 0) → is_memory e ≡ false → UnlessMemory e T → T
unless_memory Done T fed t = t
unless_memory Spent T fed t = t
unless_memory Memory T fed t = absurd (true≢false fed)

by_cause : (e : End) (p : PostState) (f : Findings) → is_memory e ≡ false → ByCause e p f
    → IsFull p.about.formula p.budget f.log.entries ⊎ (open_count f.seat.view.seen p.about.formula.vars ≡ 0)
by_cause Done p f fed cause = inr cause
by_cause Spent p f fed cause = inl cause
by_cause Memory p f fed cause = absurd (true≢false fed)

-- What one worker handed in.
home_number : (b : Board) (budget n : ℕ) (f : Findings) → IsHome b budget n f → f.seat.view.number ≡ n
home_number b budget n f home = home.found.number ∙ home.ready.seat

home_settled : (b : Board) (budget n : ℕ) (f : Findings) → IsHome b budget n f → is_memory f.end ≡ false
    → IsSettled b.about f.seat.view f.models
home_settled b budget n f home fed = unless_memory f.end (IsSettled b.about f.seat.view f.models) fed home.found.settled

home_ended : (b : Board) (budget n : ℕ) (f : Findings) → IsHome b budget n f → is_memory f.end ≡ false
    → IsSpent b.about.formula budget f.log ⊎ NoneOpen f.seat.view.seen
home_ended b budget n f home fed =
    let w = home.worker in
    ⊎_elim
    (λ (full : IsFull w.post.about.formula w.post.budget f.log.entries). inl (record {
      formula = home.found.told.log;
      full = subst (λ (k : ℕ). IsFull b.about.formula k f.log.entries) home.ready.budget
          (subst (λ (a : About). IsFull a.formula w.post.budget f.log.entries) home.ready.about full);
    }))
    (λ (none : open_count f.seat.view.seen w.post.about.formula.vars ≡ 0). inr (none_open b.about f.seat.view.seen home.found.sits.view.seen
    (subst (λ (a : About). open_count f.seat.view.seen a.formula.vars ≡ 0) home.ready.about none)))
    (by_cause f.end w.post f fed home.found.cause)

-- The root's findings by themselves.
root_alone : (b : Board) (workers budget : ℕ) (f : Findings) → IsHome b budget 0 f
    → take 1 f.models.models ≡ b.about.phases ∷ [] → IsOut 1 workers f.seat.view.out
    → AreGathered b workers budget 1 f.seat f.models f.drops.items f.fixes.items (f.log ∷ []) (is_memory f.end)
root_alone b workers budget f home first out =
    let found = home.found in
    let here : Contains (f.log ∷ []) f.log = Contains-head f.log [] in record {
      sits = found.sits;
      root = home_number b budget 0 f home;
      out = out;
      store = found.told.store;
      first = first;
      few = omega (arith, found.few);
      drops_are = found.told.drops_are;
      fixes_are = found.told.fixes_are;
      witnessed = found.told.witnessed;
      rooted = All-weaker (IsRooted b.about f.log) (IsRootedIn b.about (f.log ∷ []))
          (λ l is. record { log = f.log; among = here; rooted = is }) f.fixes.items found.told.rooted;
      logs_of = All-cons (λ (L : Recorded). L.formula ≡ b.about.formula) f.log [] found.told.log (All-nil (λ (L : Recorded). L.formula ≡ b.about.formula));
      imported = All-cons (AreImportsOf b.about f.seat.view) f.log [] found.clocked.imported (All-nil (AreImportsOf b.about f.seat.view));
      published = All-weaker (IsPublished b.about f.log) (IsPublishedIn b.about (f.log ∷ []))
          (λ p is. record { log = f.log; among = here; published = is }) f.seat.view.published found.clocked.published;
      settled = home_settled b budget 0 f home;
      ended = λ fed. ⊎_elim
          (λ (spent : IsSpent b.about.formula budget f.log). inl (All-cons (IsSpent b.about.formula budget) f.log [] spent (All-nil (IsSpent b.about.formula budget))))
          (λ (none : NoneOpen f.seat.view.seen). inr none) (home_ended b budget 0 f home fed);
    }

pub gathered_first : (b : Board) (workers budget : ℕ) (f : Findings) (g : Gathered) → IsHome b budget 0 f
    → take 1 f.models.models ≡ b.about.phases ∷ [] → IsOut 1 workers f.seat.view.out → HasBegun f g → IsGathered b workers budget 1 g
gathered_first b workers budget f g home first out begun =
    subst (λ (e : Bool). AreGathered b workers budget 1 g.seat g.models g.drops.items g.fixes.items g.logs.items e) (sym begun.failed)
    (subst (λ (L : List Recorded). AreGathered b workers budget 1 g.seat g.models g.drops.items g.fixes.items L (is_memory f.end)) (sym begun.logs)
    (subst (λ (X : Literals). AreGathered b workers budget 1 g.seat g.models g.drops.items X (f.log ∷ []) (is_memory f.end)) (sym begun.fixes)
    (subst (λ (D : List Witness). AreGathered b workers budget 1 g.seat g.models D f.fixes.items (f.log ∷ []) (is_memory f.end)) (sym begun.drops)
    (subst (λ (M : Store). AreGathered b workers budget 1 g.seat M f.drops.items f.fixes.items (f.log ∷ []) (is_memory f.end)) (sym begun.models)
    (subst (λ (s : Sitter). AreGathered b workers budget 1 s f.models f.drops.items f.fixes.items (f.log ∷ []) (is_memory f.end)) (sym begun.seat)
    (root_alone b workers budget f home first out))))))

-- Imports, published variables and roots of more logs and views.
imports_left : (a : About) (v u : View) (L : Recorded) → AreImportsOf a v L → AreImportsOf a (joined v u) L
imports_left a v u L all =
    All-weaker (λ (e : Entry). IsTrue (is_import e.kind) → IsImportOf a v e) (λ (e : Entry). IsTrue (is_import e.kind) → IsImportOf a (joined v u) e)
    (λ e is import. let one = is import in record {
      var = one.var;
      stamp = one.stamp;
      literals = one.literals;
      known = Contains-append_left v.imports u.imports (record { var = one.var; stamp = one.stamp }) one.known;
      later = one.later;
    }) L.entries all

imports_right : (a : About) (v u : View) (L : Recorded) → AreImportsOf a u L → AreImportsOf a (joined v u) L
imports_right a v u L all =
    All-weaker (λ (e : Entry). IsTrue (is_import e.kind) → IsImportOf a u e) (λ (e : Entry). IsTrue (is_import e.kind) → IsImportOf a (joined v u) e)
    (λ e is import. let one = is import in record {
      var = one.var;
      stamp = one.stamp;
      literals = one.literals;
      known = Contains-append_right v.imports u.imports (record { var = one.var; stamp = one.stamp }) one.known;
      later = one.later;
    }) L.entries all

rooted_more : (a : About) (logs more : List Recorded) (l : Literal) → IsRootedIn a logs l → IsRootedIn a (logs ++ more) l
rooted_more a logs more l is = record { log = is.log; among = Contains-append_left logs more is.log is.among; rooted = is.rooted }

published_more : (a : About) (logs more : List Recorded) (p : Stamped) → IsPublishedIn a logs p → IsPublishedIn a (logs ++ more) p
published_more a logs more p is = record { log = is.log; among = Contains-append_left logs more is.log is.among; published = is.published }

moved_vars : (k : ℕ) (ws : List Witness) → map (λ (w : Witness). w.var) (map (moved k) ws) ≡ map (λ (w : Witness). w.var) ws
moved_vars k [] = refl
moved_vars k (w ∷ ws) = ap (λ (xs : List ℕ). w.var ∷ xs) (moved_vars k ws)

take_front : (xs ys : List (List Bool)) (x : List Bool) → take 1 xs ≡ x ∷ [] → take 1 (xs ++ ys) ≡ x ∷ []
take_front [] ys x is = absurd (omega (arith, ap length is))
take_front (z ∷ zs) ys x is = is

-- The findings of one worker more.
pub taken : (b : Board) (workers budget below : ℕ) (s : Sitter) (models : Store) (drops : List Witness) (fixes : Literals)
    (logs : List Recorded) (failed : Bool) (f : Findings) → AreGathered b workers budget below s models drops fixes logs failed
    → IsHome b budget below f → Sits b (with_view s (joined s.view f.seat.view))
    → AreGathered b workers budget (below + 1) (with_view s (joined s.view f.seat.view)) (with_models models f.models)
    (drops ++ map (moved (length models.models)) f.drops.items) (fixes ++ f.fixes.items) (logs ++ f.log ∷ []) (failed || is_memory f.end)
taken b workers budget below s models drops fixes logs failed f is home sits =
    let a = b.about in
    let v = s.view in
    let u = f.seat.view in
    let found = home.found in
    let same : f.models.formula ≡ models.formula = found.told.store ∙ sym is.store in
    let sizes : length v.seen ≡ length u.seen = is.sits.view.seen.size ∙ sym found.sits.view.seen.size in
    let here : Contains (logs ++ f.log ∷ []) f.log = Contains-push logs f.log in record {
      sits = sits;
      root = is.root;
      out = subst (λ (n : ℕ). IsOut (below + 1) workers (without_number n v.out)) (sym (home_number b budget below f home))
          (out_next below workers v.out is.out);
      store = is.store;
      first = take_front models.models f.models.models a.phases is.first;
      few = omega (arith, is.few, found.few, length-append models.models f.models.models);
      drops_are = map-append (λ (w : Witness). w.var) drops (map (moved (length models.models)) f.drops.items)
          ∙ ap₂ (λ (xs ys : List ℕ). xs ++ ys) is.drops_are (moved_vars (length models.models) f.drops.items ∙ found.told.drops_are);
      fixes_are = map-append (λ (l : Literal). l.var) fixes f.fixes.items ∙ ap₂ (λ (xs ys : List ℕ). xs ++ ys) is.fixes_are found.told.fixes_are;
      witnessed = All-append (IsWitness a (with_models models f.models)) drops (map (moved (length models.models)) f.drops.items)
          (All-weaker (IsWitness a models) (IsWitness a (with_models models f.models)) (witness_kept a models f.models) drops is.witnessed)
          (All-map (IsWitness a (with_models models f.models)) (moved (length models.models)) f.drops.items
          (All-weaker (IsWitness a f.models) (λ (w : Witness). IsWitness a (with_models models f.models) (moved (length models.models) w))
          (λ w one. witness_moved a models f.models w same one) f.drops.items found.told.witnessed));
      rooted = All-append (IsRootedIn a (logs ++ f.log ∷ [])) fixes f.fixes.items
          (All-weaker (IsRootedIn a logs) (IsRootedIn a (logs ++ f.log ∷ [])) (rooted_more a logs (f.log ∷ [])) fixes is.rooted)
          (All-weaker (IsRooted a f.log) (IsRootedIn a (logs ++ f.log ∷ [])) (λ l one. record { log = f.log; among = here; rooted = one }) f.fixes.items found.told.rooted);
      logs_of = All-push (λ (L : Recorded). L.formula ≡ a.formula) logs f.log is.logs_of found.told.log;
      imported = All-push (AreImportsOf a (joined v u)) logs f.log
          (All-weaker (AreImportsOf a v) (AreImportsOf a (joined v u)) (imports_left a v u) logs is.imported) (imports_right a v u f.log found.clocked.imported);
      published = All-append (IsPublishedIn a (logs ++ f.log ∷ [])) v.published u.published
          (All-weaker (IsPublishedIn a logs) (IsPublishedIn a (logs ++ f.log ∷ [])) (published_more a logs (f.log ∷ [])) v.published is.published)
          (All-weaker (IsPublished a f.log) (IsPublishedIn a (logs ++ f.log ∷ [])) (λ p one. record { log = f.log; among = here; published = one }) u.published found.clocked.published);
      settled = λ fed. let both = or_false failed (is_memory f.end) fed in
          settled_joined a v u models f.models sizes (is.settled both.0) (home_settled b budget below f home both.1);
      ended = λ fed. let both = or_false failed (is_memory f.end) fed in
          ⊎_elim
          (λ (all : All (IsSpent a.formula budget) logs). ⊎_elim
          (λ (one : IsSpent a.formula budget f.log). inl (All-push (IsSpent a.formula budget) logs f.log all one))
          (λ (none : NoneOpen u.seen). inr (none_open_right v.seen u.seen sizes none))
          (home_ended b budget below f home both.1))
          (λ (none : NoneOpen v.seen). inr (none_open_left v.seen u.seen sizes none))
          (is.ended both.0);
    }

pub gathered_next : (b : Board) (workers budget below : ℕ) (g h : Gathered) (f : Findings) → IsGathered b workers budget below g
    → IsHome b budget below f → HasTaken b g f h → IsGathered b workers budget (below + 1) h
gathered_next b workers budget below g h f is home took =
    let n = below + 1 in
    let s = with_view g.seat (joined g.seat.view f.seat.view) in
    let M = with_models g.models f.models in
    let D : List Witness = g.drops.items ++ map (moved (length g.models.models)) f.drops.items in
    let X : Literals = g.fixes.items ++ f.fixes.items in
    let L : List Recorded = g.logs.items ++ f.log ∷ [] in
    let e : Bool = (g.failed || is_memory f.end) in
    subst (λ (z : Bool). AreGathered b workers budget n h.seat h.models h.drops.items h.fixes.items h.logs.items z) (sym took.failed)
    (subst (λ (z : List Recorded). AreGathered b workers budget n h.seat h.models h.drops.items h.fixes.items z e) (sym took.logs)
    (subst (λ (z : Literals). AreGathered b workers budget n h.seat h.models h.drops.items z L e) (sym took.fixes)
    (subst (λ (z : List Witness). AreGathered b workers budget n h.seat h.models z X L e) (sym took.drops)
    (subst (λ (z : Store). AreGathered b workers budget n h.seat z D X L e) (sym took.models)
    (subst (λ (z : Sitter). AreGathered b workers budget n z M D X L e) (sym took.seat)
    (taken b workers budget below g.seat g.models g.drops.items g.fixes.items g.logs.items g.failed f is home
    (subst (λ (z : Sitter). Sits b z) took.seat took.sits)))))))

-- The seat of one that never ran.
pub seat_taken : (b : Board) (workers budget below : ℕ) (s : Sitter) (models : Store) (drops : List Witness) (fixes : Literals)
    (logs : List Recorded) (failed : Bool) (t : Sitter) → AreGathered b workers budget below s models drops fixes logs failed
    → IsLeft b below t → Sits b (with_view s (joined s.view t.view))
    → AreGathered b workers budget (below + 1) (with_view s (joined s.view t.view)) models drops fixes logs failed
seat_taken b workers budget below s models drops fixes logs failed t is left sits =
    let a = b.about in
    let v = s.view in
    let u = t.view in
    let sizes : length v.seen ≡ length u.seen = is.sits.view.seen.size ∙ sym left.sits.view.seen.size in record {
      sits = sits;
      root = is.root;
      out = subst (λ (n : ℕ). IsOut (below + 1) workers (without_number n v.out)) (sym left.number) (out_next below workers v.out is.out);
      store = is.store;
      first = is.first;
      few = omega (arith, is.few);
      drops_are = is.drops_are ∙ sym (append-nil v.drops) ∙ ap (λ (xs : List ℕ). v.drops ++ xs) (sym left.unused.drops);
      fixes_are = is.fixes_are ∙ sym (append-nil v.fixes) ∙ ap (λ (xs : List ℕ). v.fixes ++ xs) (sym left.unused.fixes);
      witnessed = is.witnessed;
      rooted = is.rooted;
      logs_of = is.logs_of;
      imported = All-weaker (AreImportsOf a v) (AreImportsOf a (joined v u)) (imports_left a v u) logs is.imported;
      published = subst (λ (ps : List Stamped). All (IsPublishedIn a logs) ps)
          (sym (append-nil v.published) ∙ ap (λ (ps : List Stamped). v.published ++ ps) (sym left.unused.published)) is.published;
      settled = λ fed. settled_kept a v u models sizes (is.settled fed);
      ended = λ fed. ⊎_elim
          (λ (all : All (IsSpent a.formula budget) logs). inl all)
          (λ (none : NoneOpen v.seen). inr (none_open_left v.seen u.seen sizes none))
          (is.ended fed);
    }

pub gathered_left : (b : Board) (workers budget below : ℕ) (g h : Gathered) (t : Sitter) → IsGathered b workers budget below g
    → IsLeft b below t → HasJoined b g t h → IsGathered b workers budget (below + 1) h
gathered_left b workers budget below g h t is left took =
    let n = below + 1 in
    let s = with_view g.seat (joined g.seat.view t.view) in
    subst (λ (z : Bool). AreGathered b workers budget n h.seat h.models h.drops.items h.fixes.items h.logs.items z) (sym took.failed)
    (subst (λ (z : List Recorded). AreGathered b workers budget n h.seat h.models h.drops.items h.fixes.items z g.failed) (sym took.logs)
    (subst (λ (z : Literals). AreGathered b workers budget n h.seat h.models h.drops.items z g.logs.items g.failed) (sym took.fixes)
    (subst (λ (z : List Witness). AreGathered b workers budget n h.seat h.models z g.fixes.items g.logs.items g.failed) (sym took.drops)
    (subst (λ (z : Store). AreGathered b workers budget n h.seat z g.drops.items g.fixes.items g.logs.items g.failed) (sym took.models)
    (subst (λ (z : Sitter). AreGathered b workers budget n z g.models g.drops.items g.fixes.items g.logs.items g.failed) (sym took.seat)
    (seat_taken b workers budget below g.seat g.models g.drops.items g.fixes.items g.logs.items g.failed t is left
    (subst (λ (z : Sitter). Sits b z) took.seat took.sits)))))))

-- What may be taken.
pub may_take : (b : Board) (workers budget below : ℕ) (g : Gathered) (t : Sitter) → IsGathered b workers budget below g → below < workers
    → Sits b t → t.view.number ≡ below → MayTake b g t
may_take b workers budget below g t is more sits number = record {
  sits = is.sits;
  root = is.root;
  other = sits;
  out = subst (λ (n : ℕ). 1 ≤ times n g.seat.view.out) (sym number) (is.out.each below (omega arith) more);
}

pub may_take_all : (b : Board) (workers budget below : ℕ) (g : Gathered) (f : Findings) → IsGathered b workers budget below g
    → IsHome b budget below f → below < workers → workers ≤ 16 → b.about.formula.vars ≤ 1048576 → MayTakeAll b g f
may_take_all b workers budget below g f is home more few vars = record {
  seat = may_take b workers budget below g f.seat is more home.found.sits (home_number b budget below f home);
  formula = home.found.told.store ∙ sym is.store;
  room =
      let most : (b.about.formula.vars + 3) * below ≤ (b.about.formula.vars + 3) * 15 = mul-le-mul_left (b.about.formula.vars + 3) (omega arith) in
      omega (arith, is.few, home.found.few, most);
  drops = All-weaker (IsWitness b.about f.models) (IsInRange f.models) (λ w one. one.range) f.drops.items home.found.told.witnessed;
}
