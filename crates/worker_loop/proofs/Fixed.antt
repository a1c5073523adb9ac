-- What the event Fix of one variable leaves of a seat, and of the evidence of its fixes.
use Rattle.std.proofs.Common.{◌≡◌, ◌≢◌, ℕ, zero, suc, ◌+◌, ◌-◌, ◌*◌, ◌/◌, ◌%◌, ◌^◌, ◌<◌, ◌≤◌, ◌⊎◌, inl, inr, Bool, true, false, true≢false, cond, IsTrue, List, [], ◌∷◌, ◌++◌, length, map, get_or, refl, sym, ap, ◌∙◌, subst, ⊎_elim, arith, length-append}
use Rattle.std.specs.Prelude.{All, Contains, ◌||◌, if◌then◌else◌, nat_eq, not, slice_index, slice_set}
use Rattle.std.specs.Int.{bit_at}
use Rattle.std.proofs.lemmas.List.{map-append, length-map, append-nil}
use Rattle.std.proofs.lemmas.List.Elements.{All-push, All-weaker}
use Rattle.std.proofs.lemmas.List.Sums.{sum_by-cons}
use Rattle.std.proofs.lemmas.Bool.{cases_eq, cases_lt, eq-eqb, eqb-true}
use Rattle.std.proofs.lemmas.Nat.Bits.{bit_at-lt, bit_at-zero, bit_at-pow_same, bit_at-pow_other, same_from_bits}
use Rattle.cnf_core.specs.Literals.{Literal, Literals, Assignment, is_true, value_of}
use Rattle.cnf_core.specs.Formulas.{Cnf, IsModel, Entails, EntailsClause, true_literal}
use Rattle.cnf_core.proofs.Lists.{Contains-nil, Contains-cons_cases}
use Rattle.cnf_core.proofs.Models.{entails_by, entails_at, entails_clause_at}
use Rattle.lrat_log.specs.declared.kind.Kind.{Kind}
use Rattle.lrat_log.specs.declared.kind.Kind.TheVariants.{Learnt, Unit as UnitKind, Core, Empty, Import}
use Rattle.lrat_log.specs.Entries.{Entry, Recorded, entry_at, no_entry, no_literal, is_import}
use Rattle.lrat_log.specs.Kept.{IsLog}
use Rattle.lrat_log.specs.Laws.{LoggedIsEntailed}
use Rattle.board_core.specs.Subjects.{About, groups, candidate, Entailed}
use Rattle.board_core.specs.Words.{fixed, open_at, Earlier, with_fixed, newly, var_if, vars_from, vars_of, times, named}
use Rattle.board_core.specs.Boards.{EachOf, MayPublish, stamped, top}
use Rattle.board_core.specs.Rules.{AreEarlier, AreWords, IsView, IsOnce}
use Rattle.core_chunks.specs.Chunks.{is_open}
use Rattle.board_core.specs.declared.view.View.{View}
use Rattle.board_core.specs.declared.view.Stamped.{Stamped}
use Rattle.board_core.proofs.Bits.{newly_bit, with_fixed_alive, with_fixed_fixed, vars_from_more, vars_from_start, vars_of_upto, times-append}
use Rattle.board_core.proofs.Clocks.{named-append}
use Rattle.board_core.proofs.Ends.{candidate-lt, candidate_within}
use Rattle.board_core.proofs.Steps.{earlier_refl, earlier_trans, fixed_set, are_earlier_on}
use Rattle.board_core.proofs.Totals.{few_fixes}
use Rattle.candidate_words.specs.Seats.{Sitter, HasFixed}
use Rattle.model_store.specs.Stores.{Store}
use Rattle.model_store.specs.declared.witness.Witness.{Witness}
use Rattle.assumption_solver.specs.Units.{HasUnit, is_unit}
use Rattle.worker_loop.proofs.Words.{open_candidate}
use Rattle.worker_loop.specs.Evidence.{IsRooted, IsTold, IsImportOf, IsPublished, IsClocked}

-- a candidate's group
pub group_low : (F : Cnf) (x g : ℕ) → candidate F x ≡ 1 → g ≡ (x - 1) / 32 → g < groups F.vars
group_low F x g shown is =
    let within = candidate_within F x (omega (arith, shown)) in
    let high = within.high in
    let low = within.low in
    omega arith

-- the mask of a variable has its bit alone
pub own_bit : (x g mask i : ℕ) → 0 < x → g ≡ (x - 1) / 32 → mask ≡ 2 ^ ((x - 1) % 32) → bit_at mask i ≡ 1 → suc (32 * g + i) ≡ x
own_bit x g mask i low group mask_is on =
    let here : bit_at (2 ^ ((x - 1) % 32)) i ≡ 1 = ap (λ (m : ℕ). bit_at m i) (sym mask_is) ∙ on in
    let place : i ≡ (x - 1) % 32 =
    ⊎_elim (λ (same : i ≡ (x - 1) % 32). same)
    (λ (other : i ≢ (x - 1) % 32). absurd (omega (arith, here, bit_at-pow_other ((x - 1) % 32) i other)))
    (cases_eq i ((x - 1) % 32)) in
    omega arith

-- What a unit says.
or_none : (b : Bool) → IsTrue (b || false) → IsTrue b
or_none true is = refl
or_none false is = is

pub units_hold : (L : Recorded) → LoggedIsEntailed → IsLog L → (l : Literal) → HasUnit L l → Entails L.formula l
units_hold L law log l unit =
    let at = unit.at_id in
    let holds : EntailsClause L.formula (l ∷ []) = subst (EntailsClause L.formula) at.literals
    (law L.formula L.entries log.each_next at.place no_entry at.within) in
    entails_by L.formula l (λ a model. or_none (is_true a l) (entails_clause_at L.formula (l ∷ []) a holds model))

-- a literal that is true in the phases is the phase literal
by_value : (p b : Bool) → IsTrue (if p then b else not b) → p ≡ b
by_value true b is = sym is
by_value false true is = absurd (true≢false (sym is))
by_value false false is = refl

pub phase_of : (F : Cnf) (a : Assignment) (l : Literal) → IsModel F a → Entails F l → l ≡ true_literal a l.var
phase_of F a l model holds =
    ap (λ (p : Bool). let k : Literal = record { var = l.var; positive = p } in k)
    (by_value l.positive (value_of a l.var) (entails_at F l a holds model))

pub each_entailed : (a b : About) (L : Recorded) (l : Literal) (g mask : ℕ) → b ≡ a → L.formula ≡ a.formula
    → ((k : Literal) → HasUnit L k → Entails L.formula k) → IsRooted a L l → candidate a.formula l.var ≡ 1
    → g ≡ (l.var - 1) / 32 → mask ≡ 2 ^ ((l.var - 1) % 32) → EachOf b (Entailed b) g mask
unfolding Entailed
each_entailed a b L l g mask same formula units rooted shown group mask_is =
    let within = candidate_within a.formula l.var (omega (arith, shown)) in
    subst (λ (d : About). EachOf d (Entailed d) g mask) (sym same)
    (λ i low on.
    let place : suc (32 * g + i) ≡ l.var = own_bit l.var g mask i within.low group mask_is on in
    let holds : Entails a.formula (true_literal a.phases l.var) =
    subst (Entails a.formula) rooted.phase (subst (λ (F : Cnf). Entails F l) formula (units l rooted.unit)) in
    (ap (candidate a.formula) place ∙ shown, subst (λ (x : ℕ). Entails a.formula (true_literal a.phases x)) (sym place) holds))

-- The variables of a mask with one bit or none.
none_from : (n y m : ℕ) → ((i : ℕ) → i < n → bit_at m i ≡ 0) → vars_from n y m ≡ []
none_from zero y m none = vars_from_start y m
none_from (suc n) y m none =
    vars_from_more n y m
    ∙ ap (λ (xs : List ℕ). xs ++ var_if (bit_at m n) (y + n)) (none_from n y m (λ i low. none i (omega arith)))
    ∙ ap (λ (b : ℕ). var_if b (y + n)) (none n (omega arith))

one_from : (n y m k : ℕ) → k < n → bit_at m k ≡ 1 → ((i : ℕ) → i ≢ k → bit_at m i ≡ 0) → vars_from n y m ≡ (y + k) ∷ []
one_from zero y m k low on rest = absurd (omega arith)
one_from (suc n) y m k low on rest =
    ⊎_elim
    (λ (same : n ≡ k).
    let bit : bit_at m n ≡ 1 = ap (bit_at m) same ∙ on in
    vars_from_more n y m
    ∙ ap (λ (xs : List ℕ). xs ++ var_if (bit_at m n) (y + n)) (none_from n y m (λ i below. rest i (λ (e : i ≡ k). omega arith)))
    ∙ ap (λ (b : ℕ). var_if b (y + n)) bit
    ∙ ap (λ (j : ℕ). (y + j) ∷ []) same)
    (λ (other : n ≢ k).
    vars_from_more n y m
    ∙ ap (λ (xs : List ℕ). xs ++ var_if (bit_at m n) (y + n)) (one_from n y m k (omega arith) on rest)
    ∙ ap (λ (b : ℕ). ((y + k) ∷ []) ++ var_if b (y + n)) (rest n other))
    (cases_eq n k)

pub no_vars : (g m : ℕ) → m ≡ 0 → vars_of g m ≡ []
no_vars g m none =
    sym (vars_of_upto g m 32 refl) ∙ none_from 32 (suc (32 * g)) m (λ i _. ap (λ (n : ℕ). bit_at n i) none ∙ bit_at-zero i)

-- the bits that were set, where some was
rest_zero : (x mask found answer i : ℕ) → mask ≡ 2 ^ ((x - 1) % 32) → answer ≡ newly found mask → i ≢ (x - 1) % 32 → bit_at answer i ≡ 0
rest_zero x mask found answer i mask_is is other =
    let bit : bit_at mask i ≡ 0 = ap (λ (m : ℕ). bit_at m i) mask_is ∙ bit_at-pow_other ((x - 1) % 32) i other in
    let same : bit_at answer i ≡ bit_at (newly found mask) i = ap (λ (m : ℕ). bit_at m i) is in
    omega (arith, bit, same, newly_bit found mask i)

own_won : (x mask found answer : ℕ) → mask ≡ 2 ^ ((x - 1) % 32) → answer ≡ newly found mask → (answer ≡ 0 → ⊥)
    → bit_at answer ((x - 1) % 32) ≡ 1
own_won x mask found answer mask_is is some =
    ⊎_elim
    (λ (none : bit_at answer ((x - 1) % 32) < 1).
    absurd (some (same_from_bits answer 0 (λ i.
    ⊎_elim (λ (same : i ≡ (x - 1) % 32). ap (bit_at answer) same ∙ omega arith ∙ sym (bit_at-zero i))
    (λ (other : i ≢ (x - 1) % 32). rest_zero x mask found answer i mask_is is other ∙ sym (bit_at-zero i))
    (cases_eq i ((x - 1) % 32))))))
    (λ (one : 1 ≤ bit_at answer ((x - 1) % 32)). omega (arith, bit_at-lt answer ((x - 1) % 32)))
    (cases_lt (bit_at answer ((x - 1) % 32)) 1)

pub won_is : (x g mask found answer : ℕ) → 0 < x → g ≡ (x - 1) / 32 → mask ≡ 2 ^ ((x - 1) % 32) → answer ≡ newly found mask
    → (answer ≡ 0 → ⊥) → vars_of g answer ≡ x ∷ []
won_is x g mask found answer low group mask_is is some =
    let place : suc (32 * g) + (x - 1) % 32 ≡ x = omega arith in
    sym (vars_of_upto g answer 32 refl)
    ∙ one_from 32 (suc (32 * g)) answer ((x - 1) % 32) (omega arith) (own_won x mask found answer mask_is is some)
    (λ i other. rest_zero x mask found answer i mask_is is other)
    ∙ ap (λ (y : ℕ). y ∷ []) place

-- the list of fixes after it
pub fixes_none : (s t : Sitter) (g mask answer : ℕ) → HasFixed s g mask answer t → answer ≡ 0 → t.view.fixes ≡ s.view.fixes
fixes_none s t g mask answer is none =
    ap (λ (u : Sitter). u.view.fixes) is.seat
    ∙ ap (λ (xs : List ℕ). s.view.fixes ++ xs) (no_vars g (newly is.found mask) (sym is.answer_is ∙ none))
    ∙ append-nil s.view.fixes

pub fixes_one : (s t : Sitter) (x g mask answer : ℕ) → HasFixed s g mask answer t → 0 < x → g ≡ (x - 1) / 32 → mask ≡ 2 ^ ((x - 1) % 32)
    → (answer ≡ 0 → ⊥) → t.view.fixes ≡ s.view.fixes ++ x ∷ []
fixes_one s t x g mask answer is low group mask_is some =
    ap (λ (u : Sitter). u.view.fixes) is.seat
    ∙ ap (λ (xs : List ℕ). s.view.fixes ++ xs)
    (ap (vars_of g) (sym is.answer_is) ∙ won_is x g mask is.found answer low group mask_is is.answer_is some)

abbrev mark : Bool → ℕ
mark b = cond b 1 0

times_one : (x : ℕ) → times x (x ∷ []) ≡ 1
times_one x =
    let e : mark (nat_eq x x) ≡ 1 = ap mark (eq-eqb x x refl) in
    omega (arith, sum_by-cons (λ (z : ℕ). mark (nat_eq z x)) x [], e)

times_more : (xs ys : List ℕ) (x : ℕ) → ys ≡ xs ++ x ∷ [] → times x ys ≡ times x xs + 1
times_more xs ys x is = omega (arith, ap (times x) is, times-append x xs (x ∷ []), times_one x)

-- there is room for one that was won
pub room_for_fix : (a : About) (s t : Sitter) (x capacity : ℕ) (fixes : Literals) → t.view.fixes ≡ s.view.fixes ++ x ∷ [] → IsOnce a t.view
    → map (λ (l : Literal). l.var) fixes ≡ s.view.fixes → a.formula.vars ≤ capacity → length fixes < capacity
room_for_fix a s t x capacity fixes list once are room =
    omega (
      arith,
      few_fixes a t.view once,
      ap length list,
      length-append s.view.fixes (x ∷ []),
      ap length are,
      length-map fixes (λ (l : Literal). l.var),
    )

-- it may be published right after the log's clock
pub may_publish : (a : About) (s t : Sitter) (L : Recorded) (g mask answer x stamp : ℕ) → HasFixed s g mask answer t
    → t.view.fixes ≡ s.view.fixes ++ x ∷ [] → IsOnce a t.view → IsClocked a s.view L → stamp ≡ L.clock → MayPublish t.view x (stamp + 1)
may_publish a s t L g mask answer x stamp is list once clocked clock =
    let imports : t.view.imports ≡ s.view.imports = ap (λ (u : Sitter). u.view.imports) is.seat in
    let published : t.view.published ≡ s.view.published = ap (λ (u : Sitter). u.view.published) is.seat in
    let count = times_more s.view.fixes t.view.fixes x list in
    let high = clocked.clock in
    record {
      fixed = omega (arith, count);
      unpublished = ap (named x) published ∙ omega (arith, count, once.fixes x, candidate-lt a.formula x, clocked.all_published x);
      low = omega arith;
      high = subst (λ (ps : List Stamped). stamp + 1 ≤ top ps + 1) (sym imports) (omega (arith, high, clock));
    }

-- whose pair is in the list
named_from : (ps : List Stamped) (p : Stamped) → Contains ps p → 1 ≤ named p.var ps
named_from [] p here = absurd (Contains-nil p here)
named_from (q ∷ qs) p here =
    ⊎_elim
    (λ (same : q ≡ p).
    let e : mark (nat_eq q.var p.var) ≡ 1 = ap mark (eq-eqb q.var p.var (ap (λ (r : Stamped). r.var) same)) in
    omega (arith, sum_by-cons (λ (r : Stamped). mark (nat_eq r.var p.var)) q qs, e))
    (λ (among : Contains qs p). omega (arith, sum_by-cons (λ (r : Stamped). mark (nat_eq r.var p.var)) q qs, named_from qs p among))
    (Contains-cons_cases q qs p here)

kind_cases : (k : Kind) → is_unit k ≡ true → (k ≡ UnitKind) ⊎ (k ≡ Import)
kind_cases Learnt is = absurd (true≢false (sym is))
kind_cases UnitKind is = inl refl
kind_cases Core is = absurd (true≢false (sym is))
kind_cases Empty is = absurd (true≢false (sym is))
kind_cases Import is = inr refl

-- a variable that isn't imported has a unit that was shown here
pub not_imported : (s t : Sitter) (x g mask answer : ℕ) → HasFixed s g mask answer t → 0 < x → g ≡ (x - 1) / 32
    → mask ≡ 2 ^ ((x - 1) % 32) → (answer ≡ 0 → ⊥) → named x s.view.imports ≡ 0
not_imported s t x g mask answer is low group mask_is some =
    let place : suc (32 * g + (x - 1) % 32) ≡ x = omega arith in
    subst (λ (y : ℕ). named y s.view.imports ≡ 0) place
    (is.own ((x - 1) % 32) (omega arith) (own_won x mask is.found answer mask_is is.answer_is some))

pub published_one : (a : About) (v : View) (L : Recorded) (l : Literal) → IsLog L → IsClocked a v L → IsRooted a L l
    → named l.var v.imports ≡ 0 → IsPublished a L (stamped l.var (L.clock + 1))
published_one a v L l log clocked rooted own =
    let at = rooted.unit.at_id in
    let clock : (entry_at L at.place).clock ≤ L.clock = log.clocks at.place no_entry at.within in record {
      place = at.place;
      within = at.within;
      kind = ⊎_elim (λ (is : (entry_at L at.place).kind ≡ UnitKind). is)
          (λ (is : (entry_at L at.place).kind ≡ Import).
          let import = clocked.imported at.place no_entry at.within (ap is_import is) in
          let same : l.var ≡ import.var = ap (λ (ls : Literals). (get_or ls 0 no_literal).var) (sym at.literals ∙ import.literals) in
          let none : named import.var v.imports ≡ 0 = subst (λ (x : ℕ). named x v.imports ≡ 0) same own in
          absurd (omega (arith, none, named_from v.imports (stamped import.var import.stamp) import.known)))
          (kind_cases (entry_at L at.place).kind at.kind);
      literals = at.literals ∙ ap (λ (k : Literal). k ∷ []) rooted.phase;
      before = omega (arith, clock);
    }

one_name : (y x stamp : ℕ) → times y (x ∷ []) ≡ named y (stamped x stamp ∷ [])
one_name y x stamp = refl

-- the clocks after it was published
pub clocked_published : (a : About) (v u : View) (L : Recorded) (x stamp : ℕ) → u.imports ≡ v.imports
    → u.published ≡ v.published ++ stamped x stamp ∷ [] → u.fixes ≡ v.fixes ++ x ∷ [] → IsPublished a L (stamped x stamp)
    → IsClocked a v L → IsClocked a u L
clocked_published a v u L x stamp imports published fixes new is = record {
  clock = subst (λ (ps : List Stamped). L.clock ≤ top ps) (sym imports) is.clock;
  imported = All-weaker (λ (e : Entry). IsTrue (is_import e.kind) → IsImportOf a v e) (λ (e : Entry). IsTrue
      (is_import e.kind) → IsImportOf a u e)
      (λ e old import. let here = old import in record {
        var = here.var;
        stamp = here.stamp;
        literals = here.literals;
        known = subst (λ (ps : List Stamped). Contains ps (stamped here.var here.stamp)) (sym imports) here.known;
        later = here.later;
      })
      L.entries is.imported;
  published = subst (λ (ps : List Stamped). All (IsPublished a L) ps) (sym published)
      (All-push (IsPublished a L) v.published (stamped x stamp) is.published new);
  all_published = λ y.
      subst (λ (ps : List Stamped). times y u.fixes ≡ named y ps) (sym published)
      (subst (λ (xs : List ℕ). times y xs ≡ named y (v.published ++ stamped x stamp ∷ [])) (sym fixes)
      (omega (
        arith,
        is.all_published y,
        times-append y v.fixes (x ∷ []),
        named-append y v.published (stamped x stamp ∷ []),
        one_name y x stamp,
      )));
}

-- what is told after one fix more, and after none
pub told_fixed : (a : About) (v u : View) (m : Store) (L : Recorded) (drops : List Witness) (fixes new : Literals) (l : Literal)
    → u.drops ≡ v.drops → u.fixes ≡ v.fixes ++ l.var ∷ [] → new ≡ fixes ++ l ∷ [] → IsRooted a L l
    → IsTold a v m L drops fixes → IsTold a u m L drops new
told_fixed a v u m L drops fixes new l same list step rooted told = record {
  store = told.store;
  log = told.log;
  drops_are = told.drops_are ∙ sym same;
  fixes_are = ap (map (λ (k : Literal). k.var)) step
      ∙ map-append (λ (k : Literal). k.var) fixes (l ∷ [])
      ∙ ap (λ (xs : List ℕ). xs ++ l.var ∷ []) told.fixes_are
      ∙ sym list;
  witnessed = told.witnessed;
  rooted = subst (λ (ls : Literals). All (IsRooted a L) ls) (sym step) (All-push (IsRooted a L) fixes l told.rooted rooted);
}

pub told_same : (a : About) (v u : View) (m : Store) (L : Recorded) (drops : List Witness) (fixes : Literals)
    → u.drops ≡ v.drops → u.fixes ≡ v.fixes → IsTold a v m L drops fixes → IsTold a u m L drops fixes
told_same a v u m L drops fixes same list told = record {
  store = told.store;
  log = told.log;
  drops_are = told.drops_are ∙ sym same;
  fixes_are = told.fixes_are ∙ sym list;
  witnessed = told.witnessed;
  rooted = told.rooted;
}

-- what is seen after it
earlier_fixed : (w mask : ℕ) → Earlier w (with_fixed w mask)
earlier_fixed w mask i within =
    let low = with_fixed_alive w mask i within in
    let up = with_fixed_fixed w mask i in
    (omega (arith, low), omega (arith, up))

pub seen_fixed : (a : About) (s t : Sitter) (g mask answer : ℕ) → HasFixed s g mask answer t → IsView a s.view → g < groups a.formula.vars
    → AreEarlier (groups a.formula.vars) s.view.seen t.view.seen
seen_fixed a s t g mask answer is view low =
    let list : t.view.seen ≡ slice_set s.view.seen g (with_fixed is.found mask) = ap (λ (u : Sitter). u.view.seen) is.seat in
    let size = view.seen.size in
    subst (λ (ws : List ℕ). AreEarlier (groups a.formula.vars) s.view.seen ws) (sym list)
    (are_earlier_on (groups a.formula.vars) s.view.seen s.view.seen g (with_fixed is.found mask) (omega arith) low
    (λ h below. earlier_refl (slice_index s.view.seen h))
    (earlier_trans (slice_index s.view.seen g) is.found (with_fixed is.found mask) is.finds.later (earlier_fixed is.found mask)))

pub fixed_closed : (a : About) (s t : Sitter) (x g mask answer : ℕ) → HasFixed s g mask answer t → IsView a s.view
    → g < groups a.formula.vars
    → 0 < x → g ≡ (x - 1) / 32 → mask ≡ 2 ^ ((x - 1) % 32) → open_at t.view.seen x ≡ 0
fixed_closed a s t x g mask answer is view low some group mask_is =
    let list : t.view.seen ≡ slice_set s.view.seen g (with_fixed is.found mask) = ap (λ (u : Sitter). u.view.seen) is.seat in
    let size = view.seen.size in
    let bit : bit_at mask ((x - 1) % 32) ≡ 1 = ap (λ (m : ℕ). bit_at m ((x - 1) % 32)) mask_is ∙ bit_at-pow_same ((x - 1) % 32) in
    let gone : fixed (slice_set s.view.seen g (with_fixed is.found mask)) (suc (x - 1)) ≡ 1 =
    fixed_set s.view.seen g (with_fixed is.found mask) (x - 1) (λ (b : ℕ). b ≡ 1) (omega arith)
    (λ _. omega (
      arith,
      bit,
      with_fixed_fixed is.found mask ((x - 1) % 32),
      bit_at-lt is.found (32 + (x - 1) % 32),
    ))
    (λ other. absurd (other (sym group))) in
    let place : suc (x - 1) ≡ x = omega arith in
    let there : open_at (slice_set s.view.seen g (with_fixed is.found mask)) (suc (x - 1)) ≡ 0 =
    omega (arith, gone, bit_at-lt (slice_index (slice_set s.view.seen g (with_fixed is.found mask)) ((x - 1) / 32)) ((x - 1) % 32)) in
    subst (λ (ws : List ℕ). open_at ws x ≡ 0) (sym list)
    (subst (λ (y : ℕ). open_at (slice_set s.view.seen g (with_fixed is.found mask)) y ≡ 0) place there)

-- an open variable is a candidate
pub open_shown : (a : About) (ws : List ℕ) (x : ℕ) → AreWords a ws → IsTrue (is_open ws x) → candidate a.formula x ≡ 1
open_shown a ws zero words is = absurd (true≢false (sym is))
open_shown a ws (suc c) words is =
    let one : open_at ws (suc c) ≡ 1 = eqb-true (open_at ws (suc c)) 1 is in
    omega (arith, one, open_candidate a ws words (suc c), candidate-lt a.formula (suc c))
