-- What the merge asks of gathered logs: each import has a unit before it, and each fixed literal one.
use Rattle.std.proofs.Common.{◌≡◌, ℕ, ◌<◌, ◌≤◌, true≢false, Bool, true, List, [], ◌∷◌, length, map, refl}
use Rattle.std.proofs.Common.{sym, ap, ◌∙◌, subst, ⊎_elim, arith, cond}
use Rattle.std.specs.Prelude.{◌≢◌, nat_eq, not, IsTrue, All, Contains, slice_index_or}
use Rattle.std.proofs.lemmas.Bool.{cases_eq, ne_eqb, and_from}
use Rattle.std.proofs.lemmas.List.{get_or_default}
use Rattle.std.proofs.lemmas.List.Elements.{All-contains}
use Rattle.std.proofs.lemmas.List.Sums.{sum_by-cons}
use Rattle.cnf_core.specs.Literals.{Literal, Literals}
use Rattle.cnf_core.specs.Formulas.{empty_formula, true_literal}
use Rattle.cnf_core.proofs.Lists.{Contains-head, Contains-tail}
use Rattle.lrat_lines.proofs.LiteralSets.{is_same_itself}
use Rattle.lrat_log.specs.declared.kind.Kind.{Kind}
use Rattle.lrat_log.specs.declared.kind.Kind.TheVariants.{Learnt, Unit as UnitKind, Core, Empty, Import}
use Rattle.lrat_log.specs.Entries.{Entry, Recorded, empty_log, entry_at, no_entry, no_literal, is_import}
use Rattle.cert_merge.specs.declared.place.Place.{Place}
use Rattle.cert_merge.specs.Merging.{log_at, entry_in, literal_in, IsUnitOf, AreImportsShown}
use Rattle.cert_merge.specs.Trimming.{is_just}
use Rattle.lrat_lines.specs.Sets.{is_same}
use Rattle.cert_merge.specs.MergedNeeds.{HasUnitEntry, HaveUnitEntries}
use Rattle.board_core.specs.Subjects.{About}
use Rattle.board_core.specs.Words.{times}
use Rattle.board_core.specs.Boards.{stamped}
use Rattle.board_core.specs.Laws.{fixed_literals}
use Rattle.board_core.specs.Rules.{Tells}
use Rattle.board_core.specs.declared.view.View.{View}
use Rattle.board_core.specs.declared.view.Stamped.{Stamped}
use Rattle.assumption_solver.specs.Units.{is_unit}
use Rattle.worker_loop.specs.Evidence.{IsImportOf}
use Rattle.run_core.specs.Steps.Gathers.{IsRootedIn, IsPublishedIn, AreImportsOf}
use Rattle.run_core.proofs.Closing.{fixed_in}

-- the place of an entry of one of the logs
log_there : (logs : List Recorded) (L : Recorded) (here : Contains logs L) → log_at logs here.0 ≡ L
log_there logs L here = get_or_default logs here.0 (empty_log (empty_formula 0)) L here.1 ∙ here.2

-- the unit of a published variable's literal, in the logs
pub record HasUnitBelow (logs : List Recorded) (l : Literal) (stamp : ℕ) : Type 0 where
  pub unit : Place
  pub is_unit : IsUnitOf logs l unit
  pub before : (entry_in logs unit).clock < stamp

published_unit : (a : About) (logs : List Recorded) (p : Stamped) → IsPublishedIn a logs p → HasUnitBelow logs (true_literal a.phases p.var) p.stamp
published_unit a logs p is =
    let one = is.published in
    let same = log_there logs is.log is.among in
    record {
      unit = record { log = is.among.0; entry = one.place };
      is_unit = record {
        place = record { log_within = is.among.1; within = subst (λ (L : Recorded). one.place < length L.entries) (sym same) one.within };
        kind = ap (λ (L : Recorded). (entry_at L one.place).kind) same ∙ one.kind;
        literals = ap (λ (L : Recorded). (entry_at L one.place).literals) same ∙ one.literals;
      };
      before = subst (λ (L : Recorded). (entry_at L one.place).clock < p.stamp) (sym same) one.before;
    }

-- an import's literal has a unit from before its clock
import_unit : (a : About) (ws : List ℕ) (v : View) (logs : List Recorded) (e : Entry) → Tells a ws v → All (IsPublishedIn a logs) v.published
    → (one : IsImportOf a v e) → HasUnitBelow logs (true_literal a.phases one.var) one.stamp
import_unit a ws v logs e tells published one =
    published_unit a logs (stamped one.var one.stamp)
    (All-contains (IsPublishedIn a logs) v.published (stamped one.var one.stamp) published (tells.imports (stamped one.var one.stamp) one.known))

pub imports_shown : (a : About) (ws : List ℕ) (v : View) (logs : List Recorded) → Tells a ws v → All (IsPublishedIn a logs) v.published
    → All (AreImportsOf a v) logs → AreImportsShown logs
imports_shown a ws v logs tells published imported p place import =
    let one = imported p.log (empty_log (empty_formula 0)) place.log_within p.entry no_entry place.within import in
    let found = import_unit a ws v logs (entry_in logs p) tells published one in
    let literal : literal_in logs p ≡ true_literal a.phases one.var = ap (λ (c : Literals). slice_index_or c 0 no_literal) one.literals in
    let later : (entry_in logs found.unit).clock < (entry_in logs p).clock = omega (arith, found.before, one.later) in
    record {
      unit = found.unit;
      is_unit = subst (λ (l : Literal). IsUnitOf logs l found.unit) (sym literal) found.is_unit;
      before = record {
        clock = omega arith;
        by_log = λ same. absurd (omega (arith, later, same));
        by_entry = λ same log. absurd (omega (arith, later, same));
      };
    }

-- Units of fixed literals.
unit_entry : (logs : List Recorded) (l : Literal) (p : Place) → IsUnitOf logs l p → HasUnitEntry logs l
unit_entry logs l p is = record {
  unit = p;
  place = is.place;
  line = ap (λ (k : Kind). not (is_import k)) is.kind;
  just = subst (λ (c : Literals). IsTrue (is_just l c)) (sym is.literals) (and_from (is_same l l) true (is_same_itself l) refl);
}

-- a literal among those whose variables the list has
pub record HasVarAt (lits : Literals) (x : ℕ) : Type 0 where
  pub lit : Literal
  pub among : Contains lits lit
  pub var : lit.var ≡ x

abbrev mark : Bool → ℕ
mark b = cond b 1 0

var_at : (lits : Literals) (x : ℕ) → 1 ≤ times x (map (λ (l : Literal). l.var) lits) → HasVarAt lits x
var_at [] x some = absurd (omega (arith, some))
var_at (l ∷ lits) x some =
    ⊎_elim
    (λ (same : l.var ≡ x). record { lit = l; among = Contains-head l lits; var = same })
    (λ (other : l.var ≢ x).
    let none : mark (nat_eq l.var x) ≡ 0 = ap mark (ne_eqb l.var x other) in
    let found = var_at lits x (omega (arith, some, sum_by-cons (λ (z : ℕ). mark (nat_eq z x)) l.var (map (λ (k : Literal). k.var) lits), none)) in
    record { lit = found.lit; among = Contains-tail l lits found.lit found.among; var = found.var })
    (cases_eq l.var x)

entry_by_kind : (a : About) (ws : List ℕ) (v : View) (logs : List Recorded) (L : Recorded) (place : ℕ) (l : Literal) (k : Kind) → Tells a ws v
    → All (IsPublishedIn a logs) v.published → All (AreImportsOf a v) logs → Contains logs L → place < length L.entries
    → is_unit (entry_at L place).kind ≡ true → (entry_at L place).literals ≡ l ∷ [] → (entry_at L place).kind ≡ k → HasUnitEntry logs l
entry_by_kind a ws v logs L place l Learnt tells published imported among within unit lits kind = absurd (true≢false (sym unit ∙ ap is_unit kind))
entry_by_kind a ws v logs L place l UnitKind tells published imported among within unit lits kind =
    let same = log_there logs L among in
    unit_entry logs l (record { log = among.0; entry = place }) (record {
      place = record { log_within = among.1; within = subst (λ (M : Recorded). place < length M.entries) (sym same) within };
      kind = ap (λ (M : Recorded). (entry_at M place).kind) same ∙ kind;
      literals = ap (λ (M : Recorded). (entry_at M place).literals) same ∙ lits;
    })
entry_by_kind a ws v logs L place l Core tells published imported among within unit lits kind = absurd (true≢false (sym unit ∙ ap is_unit kind))
entry_by_kind a ws v logs L place l Empty tells published imported among within unit lits kind = absurd (true≢false (sym unit ∙ ap is_unit kind))
entry_by_kind a ws v logs L place l Import tells published imported among within unit lits kind =
    let one = All-contains (AreImportsOf a v) logs L imported among place no_entry within (ap is_import kind) in
    let found = import_unit a ws v logs (entry_at L place) tells published one in
    let lit : true_literal a.phases one.var ≡ l = ap (λ (c : Literals). slice_index_or c 0 no_literal) (sym one.literals ∙ lits) in
    unit_entry logs l found.unit (subst (λ (k : Literal). IsUnitOf logs k found.unit) lit found.is_unit)

rooted_entry : (a : About) (ws : List ℕ) (v : View) (logs : List Recorded) (l : Literal) → Tells a ws v → All (IsPublishedIn a logs) v.published
    → All (AreImportsOf a v) logs → IsRootedIn a logs l → HasUnitEntry logs l
rooted_entry a ws v logs l tells published imported is =
    let unit = is.rooted.unit.at_id in
    entry_by_kind a ws v logs is.log unit.place l (entry_at is.log unit.place).kind tells published imported is.among unit.within unit.kind unit.literals refl

pub fixes_shown : (a : About) (ws : List ℕ) (v : View) (logs : List Recorded) (fixes : Literals) (n : ℕ) → Tells a ws v
    → All (IsPublishedIn a logs) v.published → All (AreImportsOf a v) logs → All (IsRootedIn a logs) fixes
    → map (λ (l : Literal). l.var) fixes ≡ v.fixes → HaveUnitEntries logs (fixed_literals a.phases ws n)
fixes_shown a ws v logs fixes n tells published imported rooted are l here =
    let is = fixed_in a.phases ws n l here in
    let fix = is.is_fixed in
    let found = var_at fixes l.var (subst (λ (xs : List ℕ). 1 ≤ times l.var xs) (sym are) (omega (arith, tells.fixes l.var, fix))) in
    let root = All-contains (IsRootedIn a logs) fixes found.lit rooted found.among in
    let same : found.lit ≡ l = root.rooted.phase ∙ ap (true_literal a.phases) found.var ∙ sym is.phase in
    subst (λ (k : Literal). HasUnitEntry logs k) same (rooted_entry a ws v logs found.lit tells published imported root)
