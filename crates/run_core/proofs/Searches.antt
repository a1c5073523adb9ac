-- The ends of the search for a first model.
use Rattle.std.proofs.Common.{◌≡◌, ℕ, suc, ◌+◌, ◌*◌, ◌<◌, ◌≤◌, not, true, false, true≢false, IsTrue, List, [], ◌∷◌, ◌++◌, length, refl, sym, ap, ◌∙◌, subst, arith}
use Rattle.std.specs.Prelude.{All, Contains, filter, slice_index_or}
use Rattle.std.proofs.lemmas.List.{length-map}
use Rattle.std.proofs.lemmas.List.Elements.{All-append, All-cons, All-nil}
use Rattle.cnf_core.specs.Literals.{Assignment, Literal, Literals}
use Rattle.cnf_core.specs.Formulas.{Cnf, IsModel, is_shown, models, backbone, backbone_upto, shown_backbone}
use Rattle.cnf_core.proofs.Shown.{shown_within}
use Rattle.lrat_lines.specs.declared.line.Line.{Line}
use Rattle.lrat_lines.specs.Proofs.{Proves}
use Rattle.lrat_lines.specs.Tidy.{IsTidy}
use Rattle.lrat_log.specs.declared.kind.Kind.{Kind}
use Rattle.lrat_log.specs.declared.kind.Kind.TheVariants.{Empty}
use Rattle.lrat_log.specs.Entries.{Entry, Recorded, entry_at, is_import, learnt_count}
use Rattle.lrat_log.specs.Laws.{learning_queries, IsFull}
use Rattle.lrat_log.specs.Kept.{IsLog}
use Rattle.cert_merge.specs.declared.place.Place.{Place}
use Rattle.cert_merge.specs.Merging.{AreImportsShown, AreOf, IsPlace, IsImport, IsShownBefore, log_at, entry_in}
use Rattle.cert_merge.specs.MergedNeeds.{HaveUnitEntries, HasEmptyEntry}
use Rattle.cert_merge.specs.Trimming.{is_empty, have_empty, HasUnits}
use Rattle.board_core.specs.Subjects.{About, about}
use Rattle.assumption_solver.specs.Answers.{IsBegun, IsEmptyAt, IsCoreFor}
use Rattle.assumption_solver.specs.Logs.{IsQueried, IsEntryAt}
use Rattle.assumption_solver.specs.SolverStates.{SolverState}
use Rattle.model_store.specs.Stores.{Store, empty_store, with_model}
use Rattle.model_store.specs.declared.witness.Witness.{Witness}
use Rattle.worker_loop.specs.Posts.{IsFirst}
use Rattle.worker_loop.proofs.Queries.{same_queries, asked_once}
use Rattle.run_core.specs.declared.outcome.Report.{Report}
use Rattle.run_core.specs.Outcomes.{IsReport, IsComplete, IsRefuted, IsSpent, IsOpen, HasDrop, HasFix}

-- nothing was imported in the first query
pub search_shown : (L M : Recorded) → All (λ (e : Entry). is_import e.kind ≡ false) L.entries → IsQueried L M
    → All (λ (e : Entry). is_import e.kind ≡ false) M.entries
search_shown L M none is =
    subst (λ (es : List Entry). All (λ (e : Entry). is_import e.kind ≡ false) es) (sym is.entries)
    (All-append (λ (e : Entry). is_import e.kind ≡ false) L.entries is.more none is.shown)

-- and at most that query learnt something
pub search_queries : (F : Cnf) (s : SolverState) (M : Recorded) → IsBegun F s → IsQueried s.log M → learning_queries M.entries ≤ 1
search_queries F s M begun is =
    omega (arith, (asked_once s.log M is).most, same_queries [] s.log.entries begun.none_learnt)

-- the solver that found the first model may be handed to a worker
pub first_searched : (F : Cnf) (m : Assignment) (budget : ℕ) (s t : SolverState) → IsBegun F s → IsQueried s.log t.log
    → learnt_count t.log.entries ≤ budget → IsFirst (about F m) budget t
first_searched F m budget s t begun is few = record {
  formula = is.formula ∙ begun.formula;
  few = few;
  clock = is.clock ∙ begun.clock;
  one_query = search_queries F s t.log begun is;
  shown = search_shown s.log t.log begun.none_imported is;
}

-- its log is full where the budget was spent
pub search_spent : (F : Cnf) (budget : ℕ) (s : SolverState) (M : Recorded) → IsBegun F s → IsQueried s.log M → IsLog M
    → learnt_count M.entries ≡ budget → IsSpent F budget M
search_spent F budget s M begun is log count =
    let same : M.formula ≡ F = is.formula ∙ begun.formula in record {
      formula = same;
      full = subst (λ (G : Cnf). IsFull G budget M.entries) same (record {
        each_next = log.each_next;
        spent = count;
        few_queries = omega (arith, search_queries F s M begun is);
      });
    }

-- a log without imports has nothing to show of them
pub no_imports : (L : Recorded) → All (λ (e : Entry). is_import e.kind ≡ false) L.entries → AreImportsShown (L ∷ [])
no_imports L none p place is =
    let here : p.log ≡ 0 = omega (arith, place.log_within) in
    let at : log_at (L ∷ []) p.log ≡ L = ap (log_at (L ∷ [])) here in
    let within : p.entry < length L.entries = subst (λ (M : Recorded). p.entry < length M.entries) at place.within in
    let shown : is_import (entry_at L p.entry).kind ≡ true = subst (λ (M : Recorded). IsTrue (is_import (entry_at M p.entry).kind)) at is in
    absurd (true≢false (sym shown ∙ none p.entry _ within))

pub log_of : (F : Cnf) (L : Recorded) → L.formula ≡ F → AreOf F (L ∷ [])
log_of F L same k d low =
    let here : k ≡ 0 = omega arith in
    subst (λ (i : ℕ). (log_at_or (L ∷ []) i d).formula ≡ F) (sym here) same
  where
    log_at_or : List Recorded → ℕ → Recorded → Recorded
    log_at_or Ls i d = slice_index_or Ls i d

pub keeps_none : (logs : List Recorded) → HaveUnitEntries logs []
keeps_none logs l among = absurd (omega (arith, among.1))

-- the refutation is an entry
pub empty_entry : (L : Recorded) (id : ℕ) → IsEmptyAt L id → HasEmptyEntry (L ∷ [])
empty_entry L id is = record {
  entry = record { log = 0; entry = is.place };
  place = record { log_within = omega arith; within = is.within };
  line = ap (λ (k : Kind). not (is_import k)) is.has_kind;
  empty = ap is_empty is.literals;
}

-- without assumptions there is no core
pub no_core : (L : Recorded) (c : Literals) (id : ℕ) → IsCoreFor L [] c id → ⊥
no_core L [] id is = absurd (omega (arith, is.some))
no_core L (l ∷ ls) id is = absurd (omega (arith, (is.negates l (0, omega arith, refl)).1))

none_shown : (F : Cnf) (x : ℕ) → F.vars ≡ 0 → IsTrue (is_shown F x) → ⊥
none_shown F x none shown =
    let within = shown_within F (record { var = x; positive = true }) shown in
    omega (arith, within, none)

no_backbone : (F : Cnf) → F.vars ≡ 0 → shown_backbone F ≡ []
unfolding backbone backbone_upto shown_backbone
no_backbone F none = ap (λ (n : ℕ). filter (λ (l : Literal). is_shown F l.var) (backbone_upto F n)) none

-- the report of a formula without variables
pub lone_complete : (F : Cnf) (m : Assignment) (r : Report) → F.vars ≡ 0 → IsModel F m → r.models ≡ with_model (empty_store F) m
    → r.drops.items ≡ [] → r.fixes.items ≡ [] → Proves F r.proof → IsTidy F r.proof → IsComplete F r
lone_complete F m r none model models drops fixes accepted tidy = record {
  report = record {
    formula = ap (λ (s : Store). s.formula) models;
    some = omega (arith, ap (λ (s : Store). length s.models) models);
    models = subst (λ (s : Store). All (IsModel F) s.models) (sym models) (All-cons (IsModel F) m [] model (All-nil (IsModel F)));
    drops_rise = λ i j d low high. absurd (omega (arith, ap length drops));
    fixes_rise = λ i j d low high. absurd (omega (arith, ap length fixes));
    apart = λ x dropped fixed. absurd (omega (arith, ap length drops, dropped.1, length-map r.drops.items (λ (w : Witness). w.var)));
    dropped = λ k d low. absurd (omega (arith, ap length drops));
    fixed = λ k d low. absurd (omega (arith, ap length fixes));
    accepted = accepted;
    tidy = tidy;
    units = λ l among. absurd (omega (arith, ap length fixes, among.1));
  };
  backbone = fixes ∙ sym (no_backbone F none);
  covered = λ x shown. absurd (none_shown F x none shown);
}
