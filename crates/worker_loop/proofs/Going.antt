-- When a turn may answer that it goes on.
use Rattle.std.proofs.Common.{◌≡◌, ℕ, ◌<◌, ◌≤◌, min, Bool, true, false, List, length, get_or, Contains, refl, sym, ap, ◌∙◌, subst, inl, inr, ⊎_elim, true≢false, arith}
use Rattle.std.specs.Prelude.{All, not, if◌then◌else◌}
use Rattle.std.proofs.lemmas.Bool.{cases_lt}
use Rattle.std.proofs.lemmas.List.{get_or_append_left, length-append}
use Rattle.std.proofs.lemmas.List.Elements.{All-contains, All-weaker}
use Rattle.cnf_core.specs.Literals.{Literal, Literals, Assignment, is_true, value_of}
use Rattle.cnf_core.specs.Formulas.{true_literal}
use Rattle.lrat_log.specs.Entries.{Entry, Recorded, entry_at, no_entry}
use Rattle.board_core.specs.Subjects.{About}
use Rattle.board_core.specs.Words.{open_at, times}
use Rattle.board_core.specs.Rules.{AreWords}
use Rattle.core_chunks.specs.Chunks.{open_count, IsBlockOf}
use Rattle.worker_loop.specs.declared.post.Post.{Post}
use Rattle.worker_loop.specs.Posts.{IsLonger}
use Rattle.worker_loop.specs.Turns.{closed_count, WasOpen, IsRefuted, Goes}
use Rattle.worker_loop.specs.Steps.Held.{state_of, IsPost}
use Rattle.worker_loop.specs.Steps.Moves.{IsLoaded, IsOnward, IsClosed, IsOpenPhase}
use Rattle.worker_loop.specs.Steps.Following.{IsCoreOf}
use Rattle.worker_loop.proofs.Counts.{closed_block, closed_one}
use Rattle.worker_loop.proofs.Words.{open_range}

-- a longer log has its entries where they were
pub entry_longer : (L M : Recorded) (place : ℕ) → IsLonger L M → place < length L.entries → entry_at M place ≡ entry_at L place
entry_longer L M place longer within =
    ap (λ (es : List Entry). get_or es place no_entry) longer.entries ∙ get_or_append_left L.entries longer.more no_entry place within

pub within_longer : (L M : Recorded) (place : ℕ) → IsLonger L M → place < length L.entries → place < length M.entries
within_longer L M place longer within = omega (arith, ap length longer.entries, length-append L.entries longer.more)

-- what the view has loaded after a step is what the copy had before it
pub loaded_onward : (p q : Post) → IsLoaded p → IsOnward p q → p.loaded.items ≡ q.seat.view.loaded
loaded_onward p q copied onward = copied ∙ sym onward.loaded

-- and it still is what the copy has
pub loaded_onward_copy : (p q : Post) → IsLoaded p → IsOnward p q → IsLoaded q
loaded_onward_copy p q copied onward = onward.copy ∙ loaded_onward p q copied onward

-- the block is closed
pub goes_by_block : (p q : Post) (block : List ℕ) → IsLoaded p → IsOnward p q → IsBlockOf p.loaded.items p.question.now.formula.vars 256 block
    → 0 < length block → ((x : ℕ) → 1 ≤ times x block → IsClosed q x) → Goes (state_of q)
goes_by_block p q block copied onward is some closed =
    let n : ℕ = p.question.now.formula.vars in
    let all : min 256 (open_count p.loaded.items n) ≤ closed_count p.loaded.items q.seat.view.seen n =
    closed_block p.loaded.items q.seat.view.seen block n 256 is closed in
    let size : length block ≡ min 256 (open_count p.loaded.items n) = is.count in
    let vars : q.question.now.formula.vars ≡ n = ap (λ (a : About). a.formula.vars) onward.question in
    subst (λ (ws : List ℕ). Goes (record (state_of q) { seat = record q.seat { view = record q.seat.view { loaded = ws } } })) (loaded_onward p q copied onward)
    (record {
      some = subst (λ (m : ℕ). 0 < closed_count p.loaded.items q.seat.view.seen m) (sym vars) (omega arith);
      share = inl (subst (λ (m : ℕ). min 256 (open_count p.loaded.items m) ≤ closed_count p.loaded.items q.seat.view.seen m) (sym vars) all);
    })

was_open : (p q : Post) (l : Literal) → IsLoaded p → IsOnward p q → IsOpenPhase p l → WasOpen (state_of q) l
was_open p q l copied onward is = record {
  phase = is.phase ∙ ap (λ (a : About). true_literal a.phases l.var) (sym onward.question);
  was_open = subst (λ (ws : List ℕ). open_at ws l.var ≡ 1) (loaded_onward p q copied onward) is.was_open;
}

all_were_open : (p q : Post) (ls : Literals) → IsLoaded p → IsOnward p q → All (IsOpenPhase p) ls → All (WasOpen (state_of q)) ls
all_were_open p q ls copied onward is =
    All-weaker (IsOpenPhase p) (WasOpen (state_of q)) (λ l here. was_open p q l copied onward here) ls is

-- one of a core is closed
pub goes_by_core : (p q : Post) (core : Literals) (one : Literal) → IsLoaded p → IsOnward p q → IsPost p
    → IsCoreOf p core → Contains core one → IsClosed q one.var → Goes (state_of q)
goes_by_core p q core one copied onward post is among closed =
    let n : ℕ = p.question.now.formula.vars in
    let here : IsOpenPhase p one = All-contains (IsOpenPhase p) core one is.were_open among in
    let words : AreWords p.question.now p.loaded.items = subst (λ (ws : List ℕ). AreWords p.question.now ws) (sym copied) post.view.loaded in
    let range = open_range p.question.now p.loaded.items words one.var (omega (arith, here.was_open)) in
    let vars : q.question.now.formula.vars ≡ n = ap (λ (a : About). a.formula.vars) onward.question in
    let counts : 0 < closed_count p.loaded.items q.seat.view.seen n = closed_one p.loaded.items q.seat.view.seen n one.var range.0 range.1 here.was_open closed in
    let there : entry_at q.solver.log is.place ≡ entry_at p.solver.log is.place = entry_longer p.solver.log q.solver.log is.place onward.log is.within in
    let literals : (entry_at q.solver.log is.place).literals ≡ core = ap (λ (e : Entry). e.literals) there ∙ is.literals in
    let refuted : IsRefuted (state_of q) = record {
      place = is.place;
      within = within_longer p.solver.log q.solver.log is.place onward.log is.within;
      kind = ⊎_elim
          (λ (short : length core < 2). inl (ap (λ (e : Entry). e.kind) there ∙ is.one (omega (arith, is.some))))
          (λ (long : 2 ≤ length core). inr (ap (λ (e : Entry). e.kind) there ∙ is.more (omega arith)))
          (cases_lt (length core) 2);
      were_open = subst (λ (ls : Literals). All (WasOpen (state_of q)) ls) (sym literals) (all_were_open p q core copied onward is.were_open);
      one = one;
      among = subst (λ (ls : Literals). Contains ls one) (sym literals) among;
      closed = closed;
    } in
    record {
      some = subst (λ (m : ℕ). 0 < closed_count q.seat.view.loaded q.seat.view.seen m) (sym vars)
          (subst (λ (ws : List ℕ). 0 < closed_count ws q.seat.view.seen n) (loaded_onward p q copied onward) counts);
      share = inr refuted;
    }

-- a literal that is false, of a phase literal, says that the value is opposite to the phase
pub opposite : (m phases : Assignment) (l : Literal) → l ≡ true_literal phases l.var → is_true m l ≡ false → value_of m l.var ≡ not (value_of phases l.var)
opposite m phases l phase made_false =
    let e : is_true m (true_literal phases l.var) ≡ false = subst (λ (k : Literal). is_true m k ≡ false) phase made_false in
    by_cases (value_of phases l.var) (value_of m l.var) e
  where
    by_cases : (p v : Bool) → (if p then v else not v) ≡ false → v ≡ not p
    by_cases true v e = e
    by_cases false true e = refl
    by_cases false false e = absurd (true≢false e)
