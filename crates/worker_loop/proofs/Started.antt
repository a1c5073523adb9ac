-- The post of a new worker.
use Rattle.std.proofs.Common.{◌≡◌, ℕ, zero, suc, ◌-◌, ◌*◌, ◌/◌, ◌%◌, ◌<◌, ◌≤◌, inl, false, IsTrue, List, [], length, map, replicate, refl}
use Rattle.std.proofs.Common.{sym, ap, ◌∙◌, subst, arith}
use Rattle.std.specs.Prelude.{All, slice_index, Result, Ok, Err, IfOk}
use Rattle.std.specs.Int.{bit_at}
use Rattle.std.proofs.Math.Nat.{mul-lt-mul_of_pos_left, div-lt_iff_lt-mul}
use Rattle.std.proofs.lemmas.List.{length-replicate}
use Rattle.std.proofs.lemmas.List.Elements.{All-weaker, All-nil}
use Rattle.std.proofs.lemmas.Nat.Bits.{bit_at-lt, bit_at-zero}
use Rattle.cnf_core.specs.Literals.{Literal}
use Rattle.cnf_core.specs.declared.memory.NoMemory.{NoMemory}
use Rattle.cnf_core.specs.Formulas.{Cnf, IsModel}
use Rattle.lrat_log.specs.Entries.{Entry, Recorded, is_import}
use Rattle.board_core.specs.Subjects.{About, groups}
use Rattle.board_core.specs.Words.{open_at, times, named}
use Rattle.board_core.specs.Rules.{IsView}
use Rattle.board_core.specs.declared.view.Stamped.{Stamped}
use Rattle.model_store.specs.declared.witness.Witness.{Witness}
use Rattle.core_chunks.specs.Chunks.{open_count}
use Rattle.worker_loop.specs.declared.post.Post.{Post}
use Rattle.worker_loop.specs.declared.tools.Tools.{Tools}
use Rattle.worker_loop.specs.Posts.{IsUnused, IsFirst}
use Rattle.worker_loop.specs.Evidence.{IsWitness, IsRooted, IsImportOf, IsPublished}
use Rattle.worker_loop.specs.Steps.Held.{AreRooted, IsWorker}
use Rattle.worker_loop.specs.Steps.Tools.{AreTools}
use Rattle.assumption_solver.specs.Answers.{IsBegun}
use Rattle.assumption_solver.specs.SolverStates.{SolverState}
use Rattle.worker_loop.proofs.Queries.{same_queries}
use Rattle.worker_loop.proofs.Grown.{shown_here}

-- the tools that a post has
abbrev tools_of : Post → Tools
tools_of p = record {
  solver = p.solver;
  drops = p.drops;
  fixes = p.fixes;
  loaded = p.loaded;
  rooted = p.rooted;
  marks = p.marks;
  walker = p.walker;
  jumper = p.jumper;
}

open_most : (ws : List ℕ) (x : ℕ) → open_at ws x ≤ 1
open_most ws zero = omega arith
open_most ws (suc c) = omega (arith, bit_at-lt (slice_index ws (c / 32)) (c % 32))

pub count_most : (ws : List ℕ) (n : ℕ) → open_count ws n ≤ n
unfolding open_count
count_most ws zero = omega arith
count_most ws (suc n) = omega (arith, count_most ws n, open_most ws (suc n))

no_marks : (n g : ℕ) → slice_index (replicate n 0) g ≡ 0
no_marks zero g = refl
no_marks (suc n) zero = refl
no_marks (suc n) (suc g) = no_marks n g

none_rooted : (a : About) (L : Recorded) (marks : List ℕ) (n : ℕ) → marks ≡ replicate n 0 → AreRooted a L marks
none_rooted a L marks n is x low high on =
    let word : slice_index marks ((x - 1) / 32) ≡ 0 = ap (λ (ws : List ℕ). slice_index ws ((x - 1) / 32)) is ∙ no_marks n ((x - 1) / 32) in
    let zero : bit_at (slice_index marks ((x - 1) / 32)) ((x - 1) % 32) ≡ 0 = ap (λ (w : ℕ). bit_at w ((x - 1) % 32)) word ∙ bit_at-zero
    ((x - 1) % 32) in
    absurd (omega (arith, zero, on))

pub started : (p : Post) → 0 < p.question.now.formula.vars → p.question.now.formula.vars ≤ 1048576
    → IsModel p.question.now.formula p.question.now.phases → IsView p.question.now p.seat.view → IsUnused p.question.now p.seat
    → AreTools p.question.now p.budget (tools_of p) → p.models.formula ≡ p.question.now.formula → p.models.models ≡ []
    → p.first_group < groups p.question.now.formula.vars → p.budget ≤ 1099511627776 → IsWorker p false
started p some limit model view unused tools store empty first budget =
    let a = p.question.now in
    let L = p.solver.log in
    let v = p.seat.view in
    let n = groups a.formula.vars in record {
      post = record {
        some = some;
        limit = limit;
        is_model = model;
        view = view;
        once = unused.once;
        told = record {
          store = store;
          log = tools.first.formula;
          drops_are = ap (map (λ (w : Witness). w.var)) tools.no_drops ∙ sym unused.drops;
          fixes_are = ap (map (λ (l : Literal). l.var)) tools.no_fixes ∙ sym unused.fixes;
          witnessed = subst (λ (ws : List Witness). All (IsWitness a p.models) ws) (sym tools.no_drops) (All-nil (IsWitness a p.models));
          rooted = subst (λ (ls : List Literal). All (IsRooted a L) ls) (sym tools.no_fixes) (All-nil (IsRooted a L));
        };
        clocked = record {
          clock = omega (arith, tools.first.clock);
          imported = All-weaker (λ (e : Entry). is_import e.kind ≡ false) (λ (e : Entry). IsTrue (is_import e.kind) → IsImportOf a v e)
              (λ e none. shown_here a v e none) L.entries tools.first.shown;
          published = subst (λ (ps : List Stamped). All (IsPublished a L) ps) (sym unused.published) (All-nil (IsPublished a L));
          all_published = λ x. ap (times x) unused.fixes ∙ sym (ap (named x) unused.published);
        };
        rooms = record { drops = tools.drops; fixes = tools.fixes };
        loaded = tools.loaded;
        rooted_length = ap length tools.rooted ∙ length-replicate n 0;
        rooted = none_rooted a L p.rooted.items n tools.rooted;
        first_group = first;
        marks = tools.marks;
        walker = tools.walker;
        jumper = tools.jumper;
        clock = omega (arith, tools.first.clock);
        budget = budget;
        few = tools.first.few;
      };
      between = λ _. record {
        settled = λ x place low is_open within. absurd (omega (arith, within, ap length empty));
        paced = inl (omega (arith, tools.first.one_query, count_most v.seen a.formula.vars));
      };
    }

-- a share of the groups begins within them
pub share_within : (g n w : ℕ) → 0 < g → n < w → g * n / w < g
share_within g n w some low =
    let step : g * n < g * w = mul-lt-mul_of_pos_left {m = n} {n = w} {k = g} low some in
    (div-lt_iff_lt-mul {k = w} {x = g * n} {y = g} (omega (arith, low))).1 step

first_of : (a : About) (F : Cnf) (budget : ℕ) (s : SolverState) → F ≡ a.formula → IsBegun F s → IsFirst a budget s
first_of a F budget s same h = record {
  formula = h.formula ∙ same;
  few = omega (arith, h.none_learnt);
  clock = h.clock;
  one_query = omega (arith, same_queries [] s.log.entries h.none_learnt);
  shown = h.none_imported;
}

-- a new solver may be handed to a worker
pub first_begun : (a : About) (F : Cnf) (budget : ℕ) (r : Result SolverState NoMemory) → F ≡ a.formula → IfOk r (IsBegun F)
    → IfOk r (IsFirst a budget)
first_begun a F budget (Ok s) same h = first_of a F budget s same h
first_begun a F budget (Err e) same h = h
