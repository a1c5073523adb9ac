-- A worker's turns one after another, and what it hands in.
use Rattle.std.proofs.Common.{◌≡◌, ℕ, ◌+◌, ◌*◌, ◌<◌, ◌≤◌, ◌⊎◌, Bool, true, false, true≢false, List, [], ◌∷◌, ◌++◌, length, take, refl, sym, ap, ◌∙◌, subst, ⊎_elim, arith}
use Rattle.std.proofs.lemmas.List.{append_assoc, append-nil, length-append}
use Rattle.cnf_core.specs.Literals.{Assignment, Literals}
use Rattle.lrat_log.specs.Entries.{Recorded, learnt_count}
use Rattle.lrat_log.specs.Laws.{learning_queries, IsFull}
use Rattle.board_core.specs.Subjects.{About, groups}
use Rattle.board_core.specs.Rules.{AreEarlier}
use Rattle.candidate_words.specs.Seats.{Board, Sits, Sitter}
use Rattle.model_store.specs.Stores.{Store}
use Rattle.model_store.specs.declared.witness.Witness.{Witness}
use Rattle.core_chunks.specs.Chunks.{open_count}
use Rattle.worker_loop.specs.declared.endings.End.{End}
use Rattle.worker_loop.specs.declared.endings.TurnEnd.{TurnEnd}
use Rattle.worker_loop.specs.declared.endings.TurnEnd.TheVariants.{Going, Done, Spent, Memory}
use Rattle.worker_loop.specs.declared.findings.Findings.{Findings}
use Rattle.worker_loop.specs.Posts.{PostState, WorkerState, IsLater, HasStored}
use Rattle.worker_loop.specs.Evidence.{IsTold, IsClocked, IsSettled}
use Rattle.worker_loop.specs.Turns.{closed_count, Goes, IsWorked, TurnSays}
use Rattle.worker_loop.specs.Runs.{HasFewModels, ByCause, UnlessMemory, IsFound}
use Rattle.worker_loop.specs.Steps.Handing.{end_of, HandsIn}
use Rattle.worker_loop.specs.Steps.Running.{HasEvidence, EndsBy, IsRunning, turns_left}
use Rattle.worker_loop.proofs.Counts.{open_later, open_and_closed}
use Rattle.worker_loop.proofs.Onward.{longer_refl, longer_trans, seen_refl, seen_trans}
use Rattle.worker_loop.proofs.Turning.{count_later}

later_refl : (p : PostState) → IsLater p p
later_refl p = record {
  about = refl;
  table = refl;
  number = refl;
  next = refl;
  out = refl;
  seen = seen_refl (groups p.about.formula.vars) p.seat.view.seen;
  log = longer_refl p.log;
  budget = refl;
}

later_trans : (p q r : PostState) → IsLater p q → IsLater q r → IsLater p r
later_trans p q r one two = record {
  about = two.about ∙ one.about;
  table = two.table ∙ one.table;
  number = two.number ∙ one.number;
  next = two.next ∙ one.next;
  out = two.out ∙ one.out;
  seen = seen_trans (groups p.about.formula.vars) p.seat.view.seen q.seat.view.seen r.seat.view.seen one.seen
      (subst (λ (a : About). AreEarlier (groups a.formula.vars) q.seat.view.seen r.seat.view.seen) one.about two.seen);
  log = longer_trans p.log q.log r.log one.log two.log;
  budget = two.budget ∙ one.budget;
}

-- before the first turn
pub running_first : (b : Board) (most : ℕ) (w : WorkerState) → Sits b w.post.seat → EndsBy most Going w → IsRunning b most w w Going
running_first b most w sits few = record {
  sits = sits;
  number = refl;
  later = later_refl w.post;
  more = [];
  models = sym (append-nil w.post.models.models);
  ends = few;
}

abbrev is_memory : TurnEnd → Bool
is_memory Going = false
is_memory Done = false
is_memory Spent = false
is_memory Memory = true

alive : (failed : Bool) (end : TurnEnd) → is_memory end ≡ false → (failed ≡ true → end ≡ Memory) → failed ≡ false
alive true end other dead = absurd (true≢false (sym (ap is_memory (dead refl)) ∙ other))
alive false end other dead = refl

-- a turn that goes on closed a candidate that was seen open before it
pub fewer_open : (b : Board) (p q : PostState) → Sits b q.seat → q.about ≡ p.about → q.seat.view.about ≡ q.about → IsWorked p q → Goes q
    → open_count q.seat.view.seen q.about.formula.vars + 1 ≤ open_count p.seat.view.seen p.about.formula.vars
fewer_open b p q sits about own worked goes =
    let n : ℕ = p.about.formula.vars in
    let vars : q.about.formula.vars ≡ n = ap (λ (a : About). a.formula.vars) about in
    let same : b.about ≡ p.about = sym sits.view.about ∙ own ∙ about in
    let later : AreEarlier (groups n) q.seat.view.loaded q.seat.view.seen =
    subst (λ (a : About). AreEarlier (groups a.formula.vars) q.seat.view.loaded q.seat.view.seen) same sits.view.loaded_seen in
    let sum : open_count q.seat.view.seen n + closed_count q.seat.view.loaded q.seat.view.seen n ≡ open_count q.seat.view.loaded n =
    open_and_closed q.seat.view.loaded q.seat.view.seen n (open_later n q.seat.view.loaded q.seat.view.seen later) in
    let less : open_count q.seat.view.loaded n ≤ open_count p.seat.view.seen n = count_later n n p.seat.view.seen q.seat.view.loaded (omega arith) worked.after in
    let some : 0 < closed_count q.seat.view.loaded q.seat.view.seen n = subst (λ (m : ℕ). 0 < closed_count q.seat.view.loaded q.seat.view.seen m) vars goes.some in
    subst (λ (m : ℕ). open_count q.seat.view.seen m + 1 ≤ open_count p.seat.view.seen n) (sym vars) (omega (arith, sum, less, some))

ends_next : (b : Board) (most : ℕ) (u v : WorkerState) (end : TurnEnd) → EndsBy most Going u → Sits b v.post.seat → v.post.about ≡ u.post.about
    → v.post.seat.view.about ≡ v.post.about → length v.post.models.models ≤ length u.post.models.models + 1
    → open_count v.post.seat.view.seen v.post.about.formula.vars ≤ open_count u.post.seat.view.seen u.post.about.formula.vars
    → TurnSays end u.post v → (v.failed ≡ true → end ≡ Memory) → EndsBy most end v
ends_next b most u v Going before sits about own one less says dead =
    let fewer = fewer_open b u.post v.post sits about own says.0 says.1 in
    let vars : v.post.about.formula.vars ≡ u.post.about.formula.vars = ap (λ (a : About). a.formula.vars) about in
    omega (arith, before, fewer, vars, one)
ends_next b most u v Done before sits about own one less says dead =
    let vars : v.post.about.formula.vars ≡ u.post.about.formula.vars = ap (λ (a : About). a.formula.vars) about in
    let none : open_count v.post.seat.view.seen u.post.about.formula.vars ≡ 0 =
    ap (λ (ws : List ℕ). open_count ws u.post.about.formula.vars) says.seen ∙ says.none_open in (
      ap (open_count v.post.seat.view.seen) vars ∙ none,
      alive v.failed Done refl dead,
      omega (arith, before, vars, one, less),
    )
ends_next b most u v Spent before sits about own one less says dead =
    let vars : v.post.about.formula.vars ≡ u.post.about.formula.vars = ap (λ (a : About). a.formula.vars) about in
    (says.1, alive v.failed Spent refl dead, omega (arith, before, vars, one, less))
ends_next b most u v Memory before sits about own one less says dead =
    let vars : v.post.about.formula.vars ≡ u.post.about.formula.vars = ap (λ (a : About). a.formula.vars) about in
    omega (arith, before, vars, one, less)

open_less : (p q : PostState) → IsLater p q → open_count q.seat.view.seen q.about.formula.vars ≤ open_count p.seat.view.seen p.about.formula.vars
open_less p q later =
    let n : ℕ = p.about.formula.vars in
    subst (λ (a : About). open_count q.seat.view.seen a.formula.vars ≤ open_count p.seat.view.seen n) (sym later.about)
    (count_later n n p.seat.view.seen q.seat.view.seen (omega arith) later.seen)

-- a turn more
pub running_next : (b : Board) (most : ℕ) (w u v : WorkerState) (end : TurnEnd) → IsRunning b most w u Going → Sits b v.post.seat → v.post.seat.view.about ≡ v.post.about
    → IsLater u.post v.post → HasStored u.post.models v.post.models → v.number ≡ u.number → TurnSays end u.post v
    → (v.failed ≡ true → end ≡ Memory) → IsRunning b most w v end
running_next b most w u v end before sits own later stored number says dead = record {
  sits = sits;
  number = number ∙ before.number;
  later = later_trans w.post u.post v.post before.later later;
  more = before.more ++ stored.more;
  models = stored.models ∙ ap (λ (ms : List Assignment). ms ++ stored.more) before.models ∙ append_assoc w.post.models.models before.more stored.more;
  ends = ends_next b most u v end before.ends sits later.about own
      (omega (arith, ap length stored.models, length-append u.post.models.models stored.more, stored.one)) (open_less u.post v.post later) says dead;
}

-- and fewer may follow
pub left_next : (b : Board) (u v : WorkerState) (end : TurnEnd) → Sits b v.post.seat → v.post.seat.view.about ≡ v.post.about → IsLater u.post v.post
    → TurnSays end u.post v
    → turns_left end (open_count v.post.seat.view.seen v.post.about.formula.vars) < open_count u.post.seat.view.seen u.post.about.formula.vars + 1
left_next b u v Going sits own later says = omega (arith, fewer_open b u.post v.post sits later.about own says.0 says.1)
left_next b u v Done sits own later says = omega arith
left_next b u v Spent sits own later says = omega arith
left_next b u v Memory sits own later says = omega arith

take_front : {X : Type 0} (xs ys : List X) → take (length xs) (xs ++ ys) ≡ xs
take_front [] ys = refl
take_front (x ∷ xs) ys = ap (λ (zs : List _). x ∷ zs) (take_front xs ys)

full_of : (n l budget o : ℕ) (es : ℕ) → (l + 2 * o ≤ 2 * n + 1) ⊎ ((es ≡ budget) × (l ≤ 2 * (n + 1))) → l ≤ 2 * (n + 1)
full_of n l budget o es paced = ⊎_elim (λ (h : l + 2 * o ≤ 2 * n + 1). omega arith) (λ (h : (es ≡ budget) × (l ≤ 2 * (n + 1))). h.1) paced

cause_of : (most : ℕ) (w v : WorkerState) (f : Findings) (end : TurnEnd) → HasEvidence v → IsLater w.post v.post → EndsBy most end v → (end ≡ Going → ⊥)
    → f.seat ≡ v.post.seat → f.log ≡ v.post.log → ByCause (end_of end) w.post f
cause_of most w v f Going evidence later ends over seat log = absurd (over refl)
cause_of most w v f Done evidence later ends over seat log =
    let vars : v.post.about.formula.vars ≡ w.post.about.formula.vars = ap (λ (a : About). a.formula.vars) later.about in
    subst (λ (s : Sitter). open_count s.view.seen w.post.about.formula.vars ≡ 0) (sym seat)
    (subst (λ (m : ℕ). open_count v.post.seat.view.seen m ≡ 0) vars ends.0)
cause_of most w v f Spent evidence later ends over seat log =
    let between = evidence.between ends.1 in
    let full : IsFull v.post.about.formula v.post.budget v.post.log.entries = record {
      each_next = evidence.log;
      spent = ends.0;
      few_queries = full_of v.post.about.formula.vars (learning_queries v.post.log.entries) v.post.budget
          (open_count v.post.seat.view.seen v.post.about.formula.vars) (learnt_count v.post.log.entries) between.paced;
    } in
    subst (λ (L : Recorded). IsFull w.post.about.formula w.post.budget L.entries) (sym log)
    (subst (λ (k : ℕ). IsFull w.post.about.formula k v.post.log.entries) later.budget
    (subst (λ (a : About). IsFull a.formula v.post.budget v.post.log.entries) later.about full))
cause_of most w v f Memory evidence later ends over seat log = tt {0}

settled_of : (most : ℕ) (v : WorkerState) (end : TurnEnd) → HasEvidence v → EndsBy most end v → (end ≡ Going → ⊥)
    → UnlessMemory (end_of end) (IsSettled v.post.about v.post.seat.view v.post.models)
settled_of most v Going evidence ends over = absurd (over refl)
settled_of most v Done evidence ends over = (evidence.between ends.1).settled
settled_of most v Spent evidence ends over = (evidence.between ends.1).settled
settled_of most v Memory evidence ends over = tt {0}

few_of : (v : WorkerState) (end : TurnEnd) → EndsBy 2 end v → (end ≡ Going → ⊥) → length v.post.models.models ≤ v.post.about.formula.vars + 3
few_of v Going ends over = absurd (over refl)
few_of v Done ends over = omega (arith, ends.2)
few_of v Spent ends over = omega (arith, ends.2)
few_of v Memory ends over = omega (arith, ends)

-- what is handed in after the last turn
pub found : (b : Board) (w v : WorkerState) (f : Findings) (end : TurnEnd) → IsRunning b 2 w v end → (end ≡ Going → ⊥) → HasEvidence v
    → HandsIn v (end_of end) f → IsFound b w f
found b w v f end running over evidence hands =
    let about : v.post.about ≡ b.about = sym evidence.view ∙ running.sits.view.about in
    let first : take (length w.post.models.models) v.post.models.models ≡ w.post.models.models =
    ap (take (length w.post.models.models)) running.models ∙ take_front w.post.models.models running.more in
    record {
      worker = hands.worker ∙ running.number;
      sits = subst (λ (s : Sitter). Sits b s) (sym hands.seat) running.sits;
      number = ap (λ (s : Sitter). s.view.number) hands.seat ∙ running.later.number;
      next = ap (λ (s : Sitter). s.view.next) hands.seat ∙ running.later.next;
      out = ap (λ (s : Sitter). s.view.out) hands.seat ∙ running.later.out;
      told = told_of b v f end about hands evidence.told;
      clocked = subst (λ (s : Sitter). IsClocked b.about s.view f.log) (sym hands.seat)
          (subst (λ (L : Recorded). IsClocked b.about v.post.seat.view L) (sym hands.log)
          (subst (λ (a : About). IsClocked a v.post.seat.view v.post.log) about evidence.clocked));
      settled = subst (λ (e : End). UnlessMemory e (IsSettled b.about f.seat.view f.models)) (sym hands.end)
          (subst (λ (s : Sitter). UnlessMemory (end_of end) (IsSettled b.about s.view f.models)) (sym hands.seat)
          (subst (λ (m : Store). UnlessMemory (end_of end) (IsSettled b.about v.post.seat.view m)) (sym hands.models)
          (subst (λ (a : About). UnlessMemory (end_of end) (IsSettled a v.post.seat.view v.post.models)) about
          (settled_of 2 v end evidence running.ends over))));
      first = subst (λ (m : Store). take (length w.post.models.models) m.models ≡ w.post.models.models) (sym hands.models) first;
      few = subst (λ (m : Store). length m.models ≤ b.about.formula.vars + 3) (sym hands.models)
          (subst (λ (a : About). length v.post.models.models ≤ a.formula.vars + 3) about (few_of v end running.ends over));
      cause = subst (λ (e : End). ByCause e w.post f) (sym hands.end)
          (cause_of 2 w v f end evidence running.later running.ends over hands.seat hands.log);
    }
  where
    told_of : (b : Board) (v : WorkerState) (f : Findings) (end : TurnEnd) → v.post.about ≡ b.about → HandsIn v (end_of end) f
        → IsTold v.post.about v.post.seat.view v.post.models v.post.log v.post.drops v.post.fixes
        → IsTold b.about f.seat.view f.models f.log f.drops.items f.fixes.items
    told_of b v f end about hands told =
        subst (λ (s : Sitter). IsTold b.about s.view f.models f.log f.drops.items f.fixes.items) (sym hands.seat)
        (subst (λ (m : Store). IsTold b.about v.post.seat.view m f.log f.drops.items f.fixes.items) (sym hands.models)
        (subst (λ (L : Recorded). IsTold b.about v.post.seat.view v.post.models L f.drops.items f.fixes.items) (sym hands.log)
        (subst (λ (ds : List Witness). IsTold b.about v.post.seat.view v.post.models v.post.log ds f.fixes.items) (sym hands.drops)
        (subst (λ (ls : Literals). IsTold b.about v.post.seat.view v.post.models v.post.log v.post.drops ls) (sym hands.fixes)
        (subst (λ (a : About). IsTold a v.post.seat.view v.post.models v.post.log v.post.drops v.post.fixes) about told)))))

-- the worker that took easy turns, before the next one and behind one that was given up
pub running_vain : (b : Board) (most : ℕ) (w u v : WorkerState) → IsRunning b most w u Going → Sits b v.post.seat → IsLater u.post v.post
    → v.post.models ≡ u.post.models → v.number ≡ u.number → IsRunning b most w v Going
running_vain b most w u v before sits later same number = record {
  sits = sits;
  number = number ∙ before.number;
  later = later_trans w.post u.post v.post before.later later;
  more = before.more;
  models = ap (λ (s : Store). s.models) same ∙ before.models;
  ends = omega (arith, before.ends, ap (λ (s : Store). length s.models) same, open_less u.post v.post later, ap (λ (a : About). a.formula.vars) later.about);
}

-- it has its first models
pub running_front : (b : Board) (most : ℕ) (w v : WorkerState) (end : TurnEnd) → IsRunning b most w v end
    → take (length w.post.models.models) v.post.models.models ≡ w.post.models.models
running_front b most w v end is =
    ap (take (length w.post.models.models)) is.models ∙ take_front w.post.models.models is.more

pub running_few : (b : Board) (most : ℕ) (w v : WorkerState) (end : TurnEnd) → IsRunning b most w v end → HasFewModels (most + 1) v.post
running_few b most w v Going is = omega (arith, is.ends)
running_few b most w v Done is = is.ends.2
running_few b most w v Spent is = is.ends.2
running_few b most w v Memory is = is.ends

pub running_done : (b : Board) (most : ℕ) (w v : WorkerState) (end : TurnEnd) → end ≡ Done → IsRunning b most w v end
    → open_count v.post.seat.view.seen v.post.about.formula.vars ≡ 0
running_done b most w v end done is =
    let ends : EndsBy most Done v = subst (λ (e : TurnEnd). EndsBy most e v) done is.ends in ends.0
