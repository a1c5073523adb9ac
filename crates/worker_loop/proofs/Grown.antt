-- What a log shows is shown by a longer one too, and what was told with its evidence stays told.
use Rattle.std.proofs.Common.{◌≡◌, ℕ, ◌<◌, ◌≤◌, false, true≢false, IsTrue, List, length, sym, ap, ◌∙◌, subst, arith}
use Rattle.std.specs.Prelude.{All}
use Rattle.std.proofs.lemmas.List.Elements.{All-append, All-weaker}
use Rattle.cnf_core.specs.Literals.{Literal, Literals}
use Rattle.lrat_log.specs.Entries.{Entry, Recorded, entry_at, is_import}
use Rattle.board_core.specs.Subjects.{About}
use Rattle.board_core.specs.Boards.{top}
use Rattle.board_core.specs.declared.view.View.{View}
use Rattle.board_core.specs.declared.view.Stamped.{Stamped}
use Rattle.model_store.specs.Stores.{Store}
use Rattle.model_store.specs.declared.witness.Witness.{Witness}
use Rattle.assumption_solver.specs.Units.{HasUnit}
use Rattle.assumption_solver.specs.Logs.{IsContinued, IsQueried}
use Rattle.assumption_solver.proofs.Tables.{IsLonger as HasMore, at_longer, count_longer, has_unit_longer}
use Rattle.worker_loop.specs.Posts.{IsLonger}
use Rattle.worker_loop.specs.Evidence.{IsRooted, IsTold, IsImportOf, IsPublished, IsClocked}
use Rattle.worker_loop.specs.Steps.Held.{AreRooted}

-- the solver's own record of the same
pub has_more : (L M : Recorded) → IsLonger L M → HasMore L M
has_more L M h = record { formula = h.formula; more = h.more; entries = h.entries }

abbrev pub longer_continued : (L M : Recorded) → IsContinued L M → IsLonger L M
longer_continued L M h = record { formula = h.formula; more = h.more; entries = h.entries }

abbrev pub longer_queried : (L M : Recorded) → IsQueried L M → IsLonger L M
longer_queried L M h = record { formula = h.formula; more = h.more; entries = h.entries }

-- an entry keeps its place
pub entry_longer : (L M : Recorded) (place : ℕ) → IsLonger L M → place < length L.entries → entry_at M place ≡ entry_at L place
entry_longer L M place h within = at_longer L M place (has_more L M h) within

pub place_longer : (L M : Recorded) (place : ℕ) → IsLonger L M → place < length L.entries → place < length M.entries
place_longer L M place h within = omega (arith, within, count_longer L M (has_more L M h))

pub unit_longer : (L M : Recorded) (l : Literal) → IsLonger L M → HasUnit L l → HasUnit M l
unit_longer L M l h u = has_unit_longer L M l (has_more L M h) u

pub rooted_longer : (a : About) (L M : Recorded) (l : Literal) → IsLonger L M → IsRooted a L l → IsRooted a M l
rooted_longer a L M l h r = record { phase = r.phase; unit = unit_longer L M l h r.unit }

pub marks_longer : (a : About) (L M : Recorded) (marks : List ℕ) → IsLonger L M → AreRooted a L marks → AreRooted a M marks
marks_longer a L M marks h r x low high is = unit_longer L M _ h (r x low high is)

pub published_longer : (a : About) (L M : Recorded) (p : Stamped) → IsLonger L M → IsPublished a L p → IsPublished a M p
published_longer a L M p h is =
    let same : entry_at M is.place ≡ entry_at L is.place = entry_longer L M is.place h is.within in record {
      place = is.place;
      within = place_longer L M is.place h is.within;
      kind = ap (λ (e : Entry). e.kind) same ∙ is.kind;
      literals = ap (λ (e : Entry). e.literals) same ∙ is.literals;
      before = subst (λ (e : Entry). e.clock < p.stamp) (sym same) is.before;
    }

pub told_longer : (a : About) (v : View) (s : Store) (L M : Recorded) (drops : List Witness) (fixes : Literals)
    → IsLonger L M → IsTold a v s L drops fixes → IsTold a v s M drops fixes
told_longer a v s L M drops fixes h is = record {
  store = is.store;
  log = h.formula ∙ is.log;
  drops_are = is.drops_are;
  fixes_are = is.fixes_are;
  witnessed = is.witnessed;
  rooted = All-weaker (IsRooted a L) (IsRooted a M) (λ l. rooted_longer a L M l h) fixes is.rooted;
}

-- an entry that was shown here is no import
pub shown_here : (a : About) (v : View) (e : Entry) → is_import e.kind ≡ false → IsTrue (is_import e.kind) → IsImportOf a v e
shown_here a v e none is = absurd (true≢false (sym is ∙ none))

-- the clocks, where the log went on by what was shown here
pub clocked_longer : (a : About) (v : View) (L M : Recorded) (h : IsLonger L M) → M.clock ≡ L.clock
    → All (λ e. is_import e.kind ≡ false) h.more → IsClocked a v L → IsClocked a v M
clocked_longer a v L M h clock shown is =
    let P = λ (e : Entry). IsTrue (is_import e.kind) → IsImportOf a v e in record {
      clock = subst (λ (c : ℕ). c ≤ top v.imports) (sym clock) is.clock;
      imported = subst (λ (es : List Entry). All P es) (sym h.entries)
          (All-append P L.entries h.more is.imported
          (All-weaker (λ (e : Entry). is_import e.kind ≡ false) P (λ e none. shown_here a v e none) h.more shown));
      published = All-weaker (IsPublished a L) (IsPublished a M) (λ p. published_longer a L M p h) v.published is.published;
      all_published = is.all_published;
    }

pub clocked_continued : (a : About) (v : View) (L M : Recorded) → IsContinued L M → IsClocked a v L → IsClocked a v M
clocked_continued a v L M h is = clocked_longer a v L M (longer_continued L M h) h.clock h.shown is

pub clocked_queried : (a : About) (v : View) (L M : Recorded) → IsQueried L M → IsClocked a v L → IsClocked a v M
clocked_queried a v L M h is = clocked_longer a v L M (longer_queried L M h) h.clock h.shown is
