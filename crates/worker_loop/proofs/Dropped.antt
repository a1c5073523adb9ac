-- What the event Drop of a group's mask leaves of a seat and of the evidence of its drops.
use Rattle.std.proofs.Common.{◌≡◌, ℕ, zero, suc, ◌+◌, ◌*◌, ◌/◌, ◌%◌, ◌<◌, ◌≤◌, IsTrue, List, [], ◌∷◌, ◌++◌, length, map, refl, sym, ap, ◌∙◌, subst, arith, length-append}
use Rattle.std.specs.Prelude.{All, Contains, slice_index, slice_set}
use Rattle.std.specs.Int.{bit_at}
use Rattle.std.proofs.lemmas.List.{map-append, length-map}
use Rattle.std.proofs.lemmas.List.Elements.{All-nil, All-push, All-append, All-map, All-weaker}
use Rattle.std.proofs.lemmas.Nat.Bits.{bit_at-lt}
use Rattle.cnf_core.specs.Literals.{Literals}
use Rattle.lrat_log.specs.Entries.{Entry, Recorded, is_import}
use Rattle.board_core.specs.Subjects.{About, groups, candidate, Opposed}
use Rattle.board_core.specs.Words.{alive, open_at, Earlier, without, cleared, var_if, vars_from, vars_of, times, named}
use Rattle.board_core.specs.Boards.{EachOf, stamped, top}
use Rattle.board_core.specs.Rules.{AreEarlier, IsView, IsOnce}
use Rattle.board_core.specs.declared.view.View.{View}
use Rattle.board_core.proofs.Bits.{without_alive, without_fixed, cleared_bit, vars_from_more, vars_from_start, vars_of_upto}
use Rattle.board_core.proofs.Steps.{earlier_refl, earlier_trans, alive_set, are_earlier_on}
use Rattle.board_core.proofs.Totals.{few_drops}
use Rattle.candidate_words.specs.Seats.{Sitter, HasDropped}
use Rattle.model_store.specs.Stores.{Store}
use Rattle.model_store.specs.Witnesses.{witness_in}
use Rattle.model_store.specs.declared.witness.Witness.{Witness}
use Rattle.worker_loop.specs.declared.dropping.Source.{Source}
use Rattle.worker_loop.specs.Evidence.{IsWitness, IsTold, IsImportOf, IsPublished, IsClocked}
use Rattle.worker_loop.specs.Steps.Dropping.{var_at, witness_of}

-- a witness shows its variable opposed
opposed_by : (a : About) (s : Store) (w : Witness) → IsWitness a s w → Opposed a w.var
unfolding Opposed
opposed_by a s w is = (witness_in s w, is.against)

pub each_opposed : (a b : About) (s : Store) (source : Source) (g mask : ℕ) → b ≡ a
    → ((i : ℕ) → i < 32 → bit_at mask i ≡ 1 → (candidate a.formula (var_at g i) ≡ 1) × IsWitness a s (witness_of source (var_at g i)))
    → EachOf b (Opposed b) g mask
each_opposed a b s source g mask same each =
    subst (λ (d : About). EachOf d (Opposed d) g mask) (sym same)
    (λ i within on. let here = each i within on in (here.0, opposed_by a s (witness_of source (var_at g i)) here.1))

-- there is room for the witnesses of what was won
pub room_for : (a : About) (s t : Sitter) (g mask answer capacity : ℕ) (drops : List Witness) → HasDropped s g mask answer t
    → IsOnce a t.view → map (λ (w : Witness). w.var) drops ≡ s.view.drops → a.formula.vars ≤ capacity
    → length drops + length (vars_of g answer) ≤ capacity
room_for a s t g mask answer capacity drops dropped once are room =
    let list : t.view.drops ≡ s.view.drops ++ vars_of g (cleared dropped.found mask) = ap (λ (u : Sitter). u.view.drops) dropped.seat in
    let won : length (vars_of g answer) ≡ length (vars_of g (cleared dropped.found mask)) =
    ap (λ (m : ℕ). length (vars_of g m)) dropped.answer_is in
    omega (
      arith,
      few_drops a t.view once,
      ap length list,
      won,
      length-append s.view.drops (vars_of g (cleared dropped.found mask)),
      ap length are,
      length-map drops (λ (w : Witness). w.var),
    )

-- what holds at each bit of a mask holds of each of its variables
all_from : (P : ℕ → Type 0) (g mask k : ℕ) → k ≤ 32 → ((i : ℕ) → i < 32 → bit_at mask i ≡ 1 → P (var_at g i))
    → All P (vars_from k (suc (32 * g)) mask)
all_from P g mask zero within each = subst (All P) (sym (vars_from_start (suc (32 * g)) mask)) (All-nil P)
all_from P g mask (suc k) within each =
    subst (All P) (sym (vars_from_more k (suc (32 * g)) mask))
    (by_bit (bit_at mask k) (all_from P g mask k (omega arith) each) (λ on.
    let low : k < 32 = omega arith in
    let place : var_at g k ≡ suc (32 * g) + k = omega arith in
    subst P place (each k low (omega (arith, on, bit_at-lt mask k)))))
  where
    by_bit : (b : ℕ) → All P (vars_from k (suc (32 * g)) mask) → (0 < b → P (suc (32 * g) + k))
        → All P (vars_from k (suc (32 * g)) mask ++ var_if b (suc (32 * g) + k))
    by_bit zero before here = All-append P (vars_from k (suc (32 * g)) mask) [] before (All-nil P)
    by_bit (suc b) before here = All-push P (vars_from k (suc (32 * g)) mask) (suc (32 * g) + k) before (here (omega arith))

pub all_of_mask : (P : ℕ → Type 0) (g mask : ℕ) → ((i : ℕ) → i < 32 → bit_at mask i ≡ 1 → P (var_at g i)) → All P (vars_of g mask)
all_of_mask P g mask each = subst (All P) (vars_of_upto g mask 32 refl) (all_from P g mask 32 (omega arith) each)

vars_back : (source : Source) (xs : List ℕ) → map (λ (w : Witness). w.var) (map (witness_of source) xs) ≡ xs
vars_back source [] = refl
vars_back source (x ∷ xs) = ap (λ (ys : List ℕ). x ∷ ys) (vars_back source xs)

-- what was won is told with its witnesses
pub told_dropped : (a : About) (s t : Sitter) (m : Store) (L : Recorded) (g mask answer : ℕ) (source : Source) (drops new : List Witness)
    (fixes : Literals) → HasDropped s g mask answer t → IsTold a s.view m L drops fixes
    → ((i : ℕ) → i < 32 → bit_at mask i ≡ 1 → (candidate a.formula (var_at g i) ≡ 1) × IsWitness a m (witness_of source (var_at g i)))
    → ((i : ℕ) → i < 32 → bit_at answer i ≡ 1 → bit_at mask i ≡ 1)
    → new ≡ drops ++ map (witness_of source) (vars_of g answer) → IsTold a t.view m L new fixes
told_dropped a s t m L g mask answer source drops new fixes dropped told each within step =
    let list : t.view.drops ≡ s.view.drops ++ vars_of g (cleared dropped.found mask) = ap (λ (u : Sitter). u.view.drops) dropped.seat in
    let same : t.view.fixes ≡ s.view.fixes = ap (λ (u : Sitter). u.view.fixes) dropped.seat in
    record {
      store = told.store;
      log = told.log;
      drops_are = ap (map (λ (w : Witness). w.var)) step
          ∙ map-append (λ (w : Witness). w.var) drops (map (witness_of source) (vars_of g answer))
          ∙ ap (λ (xs : List ℕ). map (λ (w : Witness). w.var) drops ++ xs) (vars_back source (vars_of g answer))
          ∙ ap (λ (xs : List ℕ). xs ++ vars_of g answer) told.drops_are
          ∙ ap (λ (n : ℕ). s.view.drops ++ vars_of g n) dropped.answer_is
          ∙ sym list;
      fixes_are = told.fixes_are ∙ sym same;
      witnessed = subst (All (IsWitness a m)) (sym step)
          (All-append (IsWitness a m) drops (map (witness_of source) (vars_of g answer)) told.witnessed
          (All-map (IsWitness a m) (witness_of source) (vars_of g answer)
          (all_of_mask (λ (x : ℕ). IsWitness a m (witness_of source x)) g answer
          (λ i low on. (each i low (within i low on)).1))));
      rooted = told.rooted;
    }

-- the answer has bits of the mask alone
pub won_of_mask : (s t : Sitter) (g mask answer i : ℕ) → HasDropped s g mask answer t → bit_at answer i ≡ 1 → bit_at mask i ≡ 1
won_of_mask s t g mask answer i dropped on =
    let here : bit_at (cleared dropped.found mask) i ≡ 1 = ap (λ (m : ℕ). bit_at m i) (sym dropped.answer_is) ∙ on in
    omega (arith, cleared_bit dropped.found mask i, bit_at-lt mask i)

-- a view that published, imported and fixed the same is clocked as the other
pub clocked_same : (a : About) (v u : View) (L : Recorded) → u.imports ≡ v.imports → u.published ≡ v.published → u.fixes ≡ v.fixes
    → IsClocked a v L → IsClocked a u L
clocked_same a v u L imports published fixes is = record {
  clock = subst (λ ps. L.clock ≤ top ps) (sym imports) is.clock;
  imported = All-weaker (λ (e : Entry). IsTrue (is_import e.kind) → IsImportOf a v e)
      (λ (e : Entry). IsTrue (is_import e.kind) → IsImportOf a u e)
      (λ e old import. let here = old import in record {
        var = here.var;
        stamp = here.stamp;
        literals = here.literals;
        known = subst (λ ps. Contains ps (stamped here.var here.stamp)) (sym imports) here.known;
        later = here.later;
      })
      L.entries is.imported;
  published = subst (λ ps. All (IsPublished a L) ps) (sym published) is.published;
  all_published = λ x.
      subst (λ ps. times x u.fixes ≡ named x ps) (sym published)
      (subst (λ xs. times x xs ≡ named x v.published) (sym fixes) (is.all_published x));
}

pub clocked_dropped : (a : About) (s t : Sitter) (L : Recorded) (g mask answer : ℕ) → HasDropped s g mask answer t
    → IsClocked a s.view L → IsClocked a t.view L
clocked_dropped a s t L g mask answer dropped is =
    clocked_same a s.view t.view L (ap (λ (u : Sitter). u.view.imports) dropped.seat) (ap (λ (u : Sitter). u.view.published) dropped.seat)
    (ap (λ (u : Sitter). u.view.fixes) dropped.seat) is

-- the word without the mask is a later one
earlier_without : (w mask : ℕ) → mask < 4294967296 → Earlier w (without w mask)
earlier_without w mask small i within =
    let up = without_alive w mask i small within in
    let high = without_fixed w mask i small within in
    (omega arith, omega arith)

pub seen_later : (a : About) (s t : Sitter) (g mask answer : ℕ) → HasDropped s g mask answer t → IsView a s.view → g < groups a.formula.vars
    → mask < 4294967296 → AreEarlier (groups a.formula.vars) s.view.seen t.view.seen
seen_later a s t g mask answer dropped is low small =
    let list : t.view.seen ≡ slice_set s.view.seen g (without dropped.found mask) = ap (λ (u : Sitter). u.view.seen) dropped.seat in
    let size = is.seen.size in
    subst (λ (ws : List ℕ). AreEarlier (groups a.formula.vars) s.view.seen ws) (sym list)
    (are_earlier_on (groups a.formula.vars) s.view.seen s.view.seen g (without dropped.found mask) (omega arith) low
    (λ h below. earlier_refl (slice_index s.view.seen h))
    (earlier_trans (slice_index s.view.seen g) dropped.found (without dropped.found mask) dropped.finds.later
    (earlier_without dropped.found mask small)))

-- the variables of the mask are closed
pub bit_closed : (a : About) (s t : Sitter) (g mask answer i : ℕ) → HasDropped s g mask answer t → IsView a s.view
    → g < groups a.formula.vars
    → mask < 4294967296 → i < 32 → bit_at mask i ≡ 1 → open_at t.view.seen (var_at g i) ≡ 0
bit_closed a s t g mask answer i dropped is low small within on =
    let list : t.view.seen ≡ slice_set s.view.seen g (without dropped.found mask) = ap (λ (u : Sitter). u.view.seen) dropped.seat in
    let size = is.seen.size in
    let group : (32 * g + i) / 32 ≡ g = omega arith in
    let place : (32 * g + i) % 32 ≡ i = omega arith in
    let gone : alive (slice_set s.view.seen g (without dropped.found mask)) (suc (32 * g + i)) ≡ 0 =
    alive_set s.view.seen g (without dropped.found mask) (32 * g + i) (λ (b : ℕ). b ≡ 0) (omega arith)
    (λ _. subst (λ (j : ℕ). bit_at (without dropped.found mask) j ≡ 0) (sym place)
    (omega (arith, without_alive dropped.found mask i small within)))
    (λ other. absurd (other group)) in
    subst (λ (ws : List ℕ). open_at ws (var_at g i) ≡ 0) (sym list) (omega (arith, gone))
