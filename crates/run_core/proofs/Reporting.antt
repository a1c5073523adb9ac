-- What the report of gathered findings says, where something is open and where nothing is.
use Rattle.std.proofs.Common.{◌≡◌, ℕ, zero, suc, ◌<◌, ◌≤◌, inl, inr, true≢false, Bool, true, false, List, [], ◌∷◌, length, take, map, refl}
use Rattle.std.proofs.Common.{sym, ap, ◌∙◌, subst, ⊎_elim, arith, cond}
use Rattle.std.specs.Prelude.{◌≢◌, not, Option, Some, None, is_some, MatchOption, nat_eq, All, AllPairs, Contains, slice_index_or}
use Rattle.std.specs.List.Sorted.{IsPermutation, IsNonDecreasingBy}
use Rattle.std.proofs.lemmas.Bool.{cases_eq, cases_lt, eq-eqb, ne_eqb}
use Rattle.std.proofs.lemmas.List.{get_or-map, length-map}
use Rattle.std.proofs.lemmas.List.Elements.{All-weaker, All-contains, All-contains_itself, Contains-get_or}
use Rattle.std.proofs.lemmas.List.Sorted.{IsPermutation-map, All-permutation, sum_by-IsPermutation}
use Rattle.std.proofs.lemmas.List.Sums.{sum_by-cons}
use Rattle.cnf_core.specs.Literals.{Literal, Literals, Assignment}
use Rattle.cnf_core.specs.Formulas.{Cnf, IsModel, Entails, true_literal}
use Rattle.cnf_core.proofs.Lists.{nil_without_members, Contains-head, Contains-tail, Contains-nil, Contains-cons_cases}
use Rattle.lrat_lines.specs.Proofs.{Proves}
use Rattle.lrat_lines.specs.Tidy.{IsTidy}
use Rattle.cert_merge.specs.Trimming.{HasUnits}
use Rattle.model_store.specs.Stores.{Store, model_at, HoldsModels}
use Rattle.model_store.specs.declared.witness.Witness.{Witness}
use Rattle.board_core.specs.Subjects.{About, about, candidate}
use Rattle.board_core.specs.Words.{alive, fixed, open_at, times}
use Rattle.board_core.specs.Laws.{fixed_literals, NoneOpen}
use Rattle.board_core.specs.Rules.{Tells}
use Rattle.board_core.specs.declared.view.View.{View}
use Rattle.board_core.proofs.Ends.{candidate-lt, candidate_past, fixed_candidate}
use Rattle.candidate_words.specs.Seats.{Board}
use Rattle.worker_loop.specs.Evidence.{IsWitness, IsKeeping}
use Rattle.run_core.specs.declared.gathered.Gathered.{Gathered}
use Rattle.run_core.specs.declared.outcome.Report.{Report}
use Rattle.run_core.specs.Outcomes.{about_first, IsDropped, IsFixed, HasDrop, HasFix, IsReport, IsComplete, IsUnfinished, IsExhausted, IsSpent, IsPartial}
use Rattle.run_core.specs.Steps.Crews.{IsOut}
use Rattle.run_core.specs.Steps.Gathers.{IsGathered}
use Rattle.run_core.specs.Steps.Reports.{IsReportOf}
use Rattle.run_core.proofs.Joining.{open_most}
use Rattle.run_core.proofs.Closing.{candidate_of_shown, shown_of_candidate, var_of_candidate, conflict, entails_of_entailed, fixed_in, fixed_there, fixed_rise, open_before, none_after, backbone_fixed}

abbrev mark : Bool → ℕ
mark b = cond b 1 0

abbrev var_of : Witness → ℕ
var_of w = w.var

-- Members of lists of variables.
times_member : (xs : List ℕ) (x : ℕ) → Contains xs x → 1 ≤ times x xs
times_member [] x among = absurd (Contains-nil x among)
times_member (y ∷ xs) x among =
    ⊎_elim
    (λ (same : y ≡ x).
    let one : mark (nat_eq y x) ≡ 1 = ap mark (eq-eqb y x same) in
    omega (arith, sum_by-cons (λ (z : ℕ). mark (nat_eq z x)) y xs, one))
    (λ (rest : Contains xs x).
    omega (arith, sum_by-cons (λ (z : ℕ). mark (nat_eq z x)) y xs, times_member xs x rest))
    (Contains-cons_cases y xs x among)

member_times : (xs : List ℕ) (x : ℕ) → 1 ≤ times x xs → Contains xs x
member_times [] x some = absurd (omega (arith, some))
member_times (y ∷ xs) x some =
    ⊎_elim
    (λ (same : y ≡ x). subst (λ (k : ℕ). Contains (y ∷ xs) k) same (Contains-head y xs))
    (λ (other : y ≢ x).
    let none : mark (nat_eq y x) ≡ 0 = ap mark (ne_eqb y x other) in
    Contains-tail y xs x (member_times xs x (omega (arith, some, sum_by-cons (λ (z : ℕ). mark (nat_eq z x)) y xs, none))))
    (cases_eq y x)

-- what stands at two places stands there twice
twice : (xs : List ℕ) (i j d : ℕ) → i < j → j < length xs → slice_index_or xs i d ≡ slice_index_or xs j d
    → 2 ≤ times (slice_index_or xs j d) xs
twice [] i j d before within same = absurd (omega (arith, within))
twice (x ∷ xs) i zero d before within same = absurd (omega (arith, before))
twice (x ∷ xs) zero (suc j) d before within same =
    let y = slice_index_or xs j d in
    let one : mark (nat_eq x y) ≡ 1 = ap mark (eq-eqb x y same) in
    let rest : 1 ≤ times y xs = times_member xs y (Contains-get_or xs j d (omega (arith, within))) in
    omega (arith, sum_by-cons (λ (z : ℕ). mark (nat_eq z y)) x xs, one, rest)
twice (x ∷ xs) (suc i) (suc j) d before within same =
    let y = slice_index_or xs j d in
    let rest : 2 ≤ times y xs = twice xs i j d (omega (arith, before)) (omega (arith, within)) same in
    omega (arith, sum_by-cons (λ (z : ℕ). mark (nat_eq z y)) x xs, rest)

member_var : {X : Type 0} (f : X → ℕ) (xs : List X) (x : X) → Contains xs x → Contains (map f xs) (f x)
member_var f [] x among = absurd (Contains-nil x among)
member_var f (y ∷ xs) x among =
    ⊎_elim
    (λ (same : y ≡ x). subst (λ (k : ℕ). Contains (f y ∷ map f xs) k) (ap f same) (Contains-head (f y) (map f xs)))
    (λ (rest : Contains xs x). Contains-tail (f y) (map f xs) (f x) (member_var f xs x rest))
    (Contains-cons_cases y xs x among)

-- a member of the list by its image
record HasImage {X : Type 0} (f : X → ℕ) (xs : List X) (n : ℕ) : Type 0 where
  item : X
  among : Contains xs item
  image : f item ≡ n

image_of : {X : Type 0} (f : X → ℕ) (xs : List X) (n : ℕ) → Contains (map f xs) n → HasImage f xs n
image_of f [] n among = absurd (Contains-nil n among)
image_of f (y ∷ xs) n among =
    ⊎_elim
    (λ (same : f y ≡ n). record { item = y; among = Contains-head y xs; image = same })
    (λ (rest : Contains (map f xs) n). let found = image_of f xs n rest in
    record { item = found.item; among = Contains-tail y xs found.item found.among; image = found.image })
    (Contains-cons_cases (f y) (map f xs) n among)

-- The first model.
pub record IsFirstModel (ms : List Assignment) (phases : Assignment) : Type 0 where
  pub some : 0 < length ms
  pub is : slice_index_or ms 0 [] ≡ phases

pub first_model : (ms : List Assignment) (phases : Assignment) → take 1 ms ≡ phases ∷ [] → IsFirstModel ms phases
first_model [] phases is = absurd (omega (arith, ap length is))
first_model (m ∷ ms) phases is = record { some = omega arith; is = ap (λ (xs : List Assignment). slice_index_or xs 0 []) is }

pub phases_model : (s : Store) (a : About) → HoldsModels s → s.formula ≡ a.formula → take 1 s.models ≡ a.phases ∷ [] → IsModel a.formula a.phases
phases_model s a holds formula first =
    let is = first_model s.models a.phases first in
    subst (λ (m : Assignment). IsModel a.formula m) is.is
    (subst (λ (F : Cnf). IsModel F (slice_index_or s.models 0 [])) formula (holds.each 0 [] is.some))

pub none_out : (n : ℕ) (out : List ℕ) → IsOut n n out → out ≡ []
none_out n out is =
    nil_without_members out (λ j here. let both = is.only j (times_member out j here) in omega (arith, both.0, both.1))

pub same_fixed : (p q : Assignment) (xs ys : List ℕ) (m n : ℕ) → p ≡ q → xs ≡ ys → m ≡ n → fixed_literals p xs m ≡ fixed_literals q ys n
same_fixed p q xs ys m n phases words vars =
    ap (λ (z : Assignment). fixed_literals z xs m) phases ∙ ap (λ (z : List ℕ). fixed_literals q z m) words
    ∙ ap (λ (z : ℕ). fixed_literals q ys z) vars

-- the fixed literals that were read off, and the report that was made
pub fixes_made : (a : About) (F : Cnf) (s : Store) (ws xs : List ℕ) (n : ℕ) (lits : Literals) → a.formula ≡ F → take 1 s.models ≡ a.phases ∷ []
    → xs ≡ ws → n ≡ F.vars → lits ≡ fixed_literals (model_at s 0) xs n → lits ≡ fixed_literals a.phases ws a.formula.vars
fixes_made a F s ws xs n lits formula first words vars is =
    is ∙ same_fixed (model_at s 0) a.phases xs ws n a.formula.vars (first_model s.models a.phases first).is words
    (vars ∙ sym (ap (λ (G : Cnf). G.vars) formula))

pub report_made : (b : Board) (workers budget : ℕ) (g : Gathered) (ws : List ℕ) (r : Report) (F : Cnf) (keep : Literals) → b.about.formula ≡ F
    → IsGathered b workers budget workers g → Tells b.about ws g.seat.view → HoldsModels g.models → r.models ≡ g.models
    → IsPermutation g.drops.items r.drops.items → IsNonDecreasingBy (λ (w : Witness). w.var) r.drops.items
    → r.fixes.items ≡ fixed_literals b.about.phases ws b.about.formula.vars → keep ≡ r.fixes.items
    → Proves F r.proof → IsTidy F r.proof → HasUnits r.proof keep → IsReportOf b workers budget g ws r
report_made b workers budget g ws r F keep formula gathered tells holds models moved sorted fixes kept accepted tidy units = record {
  gathered = gathered;
  tells = tells;
  phases = phases_model g.models b.about holds gathered.store gathered.first;
  each = subst (λ (G : Cnf). All (IsModel G) g.models.models) gathered.store holds.each;
  models = models;
  moved = moved;
  sorted = sorted;
  fixes = fixes;
  accepted = subst (λ (G : Cnf). Proves G r.proof) (sym formula) accepted;
  tidy = subst (λ (G : Cnf). IsTidy G r.proof) (sym formula) tidy;
  units = subst (λ (ls : Literals). HasUnits r.proof ls) kept units;
}

-- What was found of an open variable.
pub closed_all : (o : Option ℕ) (b : Bool) (P : Type 0) (Q : ℕ → Type 0) → is_some o ≡ not b → b ≡ true → MatchOption o P Q → P
closed_all None b P Q is told says = says
closed_all (Some x) b P Q is told says = absurd (true≢false (is ∙ ap not told))

pub record HasOne (Q : ℕ → Type 0) : Type 0 where
  pub var : ℕ
  pub holds : Q var

pub open_one : (o : Option ℕ) (b : Bool) (P : Type 0) (Q : ℕ → Type 0) → is_some o ≡ not b → b ≡ false → MatchOption o P Q → HasOne Q
open_one None b P Q is told says = absurd (true≢false (sym (is ∙ ap not told)))
open_one (Some x) b P Q is told says = record { var = x; holds = says }

pub none_open_upto : (a : About) (ws : List ℕ) (v : View) → Tells a ws v
    → ((x : ℕ) → 0 < x → x ≤ a.formula.vars → open_at ws x ≡ 0) → NoneOpen ws
none_open_upto a ws v tells closed zero = omega arith
none_open_upto a ws v tells closed (suc c) =
    ⊎_elim
    (λ (past : a.formula.vars < suc c). omega (arith, tells.drops (suc c), candidate_past a.formula (suc c) past))
    (λ (high : suc c ≤ a.formula.vars). closed (suc c) (omega arith) high)
    (cases_lt a.formula.vars (suc c))

-- what the words that were looked at say, of which these are a copy
pub closed_copy : (a : About) (F : Cnf) (ws xs : List ℕ) (v : View) (n : ℕ) → Tells a ws v → a.formula ≡ F → xs ≡ ws → n ≡ F.vars
    → ((x : ℕ) → 0 < x → x ≤ n → open_at xs x ≡ 0) → NoneOpen ws
closed_copy a F ws xs v n tells formula words vars closed =
    none_open_upto a ws v tells (λ x low high. subst (λ (zs : List ℕ). open_at zs x ≡ 0) words
    (closed x low (subst (λ (m : ℕ). x ≤ m) (ap (λ (G : Cnf). G.vars) formula ∙ sym vars) high)))

-- What the closed words and the root's view say of a variable.
rise_of : (ws : List Witness) → IsNonDecreasingBy (λ (w : Witness). w.var) ws → ((x : ℕ) → times x (map var_of ws) ≤ 1)
    → AllPairs (λ (w u : Witness). w.var < u.var) ws
rise_of ws sorted once i j d before within =
    let low = sorted i j d (omega arith) within in
    let at : (k : ℕ) → k < length ws → slice_index_or (map var_of ws) k d.var ≡ (slice_index_or ws k d).var =
    λ k there. get_or-map var_of ws k d d.var there in
    ⊎_elim
    (λ (less : (slice_index_or ws i d).var < (slice_index_or ws j d).var). less)
    (λ (most : (slice_index_or ws j d).var ≤ (slice_index_or ws i d).var).
    let same : slice_index_or (map var_of ws) i d.var ≡ slice_index_or (map var_of ws) j d.var =
    at i (omega arith) ∙ (let e : (slice_index_or ws i d).var ≡ (slice_index_or ws j d).var = omega arith in e) ∙ sym (at j within) in
    absurd (omega (arith, twice (map var_of ws) i j d.var before (omega (arith, length-map ws var_of)) same, once (slice_index_or (map var_of ws) j d.var))))
    (cases_lt (slice_index_or ws i d).var (slice_index_or ws j d).var)

pub record Facts (b : Board) (workers budget : ℕ) (g : Gathered) (ws : List ℕ) (r : Report) : Type 0 where
  pub about_is : about_first b.about.formula r.models ≡ b.about
  pub formula : r.models.formula ≡ b.about.formula
  pub some : 0 < length r.models.models
  pub drop_times : (x : ℕ) → times x (map var_of r.drops.items) ≡ times x g.seat.view.drops
  pub drop_of : (x : ℕ) → 1 ≤ times x g.seat.view.drops → HasDrop r x
  pub of_drop : (x : ℕ) → HasDrop r x → 1 ≤ times x g.seat.view.drops
  pub fix_of : (x : ℕ) → fixed ws x ≡ 1 → HasFix r x
  pub of_fix : (x : ℕ) → HasFix r x → fixed ws x ≡ 1

first_about : (F : Cnf) (s t : Store) (a : About) → a.formula ≡ F → s ≡ t → take 1 t.models ≡ a.phases ∷ [] → about_first F s ≡ a
first_about F s t a formula same first =
    let is = (first_model t.models a.phases first).is in
    ap (λ (u : Store). about_first F u) same ∙ ap (about F) is ∙ ap (λ (G : Cnf). about G a.phases) (sym formula)

facts : (b : Board) (workers budget : ℕ) (g : Gathered) (ws : List ℕ) (r : Report) → IsReportOf b workers budget g ws r
    → Facts b workers budget g ws r
facts b workers budget g ws r of =
    let a = b.about in
    let n = a.formula.vars in
    let is = of.gathered in
    let counts : (x : ℕ) → times x (map var_of r.drops.items) ≡ times x g.seat.view.drops =
    λ x. sum_by-IsPermutation (λ (y : ℕ). mark (nat_eq y x)) (map var_of g.drops.items) (map var_of r.drops.items)
    (IsPermutation-map var_of g.drops.items r.drops.items of.moved) ∙ ap (times x) is.drops_are in record {
      about_is = first_about a.formula r.models g.models a refl of.models is.first;
      formula = ap (λ (s : Store). s.formula) of.models ∙ is.store;
      some = subst (λ (s : Store). 0 < length s.models) (sym of.models) (first_model g.models.models a.phases is.first).some;
      drop_times = counts;
      drop_of = λ x some. member_times (map var_of r.drops.items) x (omega (arith, counts x, some));
      of_drop = λ x has. omega (arith, times_member (map var_of r.drops.items) x has, counts x);
      fix_of = λ x one.
          let var = var_of_candidate a.formula x (let most = fixed_candidate a ws x of.tells.words in let lt = candidate-lt a.formula x in omega (arith, most, lt, one)) in
          subst (λ (ls : Literals). Contains (map (λ (l : Literal). l.var) ls) x) (sym of.fixes)
          (member_var (λ (l : Literal). l.var) (fixed_literals a.phases ws n) (true_literal a.phases x) (fixed_there a.phases ws n x var.low var.high one));
      of_fix = λ x has.
          let found = image_of (λ (l : Literal). l.var) (fixed_literals a.phases ws n) x
          (subst (λ (ls : Literals). Contains (map (λ (l : Literal). l.var) ls) x) of.fixes has) in
          ap (fixed ws) (sym found.image) ∙ (fixed_in a.phases ws n found.item found.among).is_fixed;
    }

-- The report.
pub is_report : (b : Board) (workers budget : ℕ) (g : Gathered) (ws : List ℕ) (r : Report) → IsReportOf b workers budget g ws r
    → IsReport b.about.formula r
is_report b workers budget g ws r of =
    let a = b.about in
    let F = a.formula in
    let v = g.seat.view in
    let is = of.gathered in
    let tells = of.tells in
    let has = facts b workers budget g ws r of in
    let phases_are : model_at r.models 0 ≡ a.phases = ap (λ (c : About). c.phases) has.about_is in
    let dropped_one : (x : ℕ) → 1 ≤ times x v.drops → candidate F x ≡ 1 =
    λ x some. omega (arith, tells.drops x, candidate-lt F x, some) in
    let fixed_one : (x : ℕ) → fixed ws x ≡ 1 → candidate F x ≡ 1 =
    λ x one. let most = fixed_candidate a ws x tells.words in let lt = candidate-lt F x in omega (arith, most, lt, one) in
    record {
      formula = has.formula;
      some = has.some;
      models = subst (λ (s : Store). All (IsModel F) s.models) (sym of.models) of.each;
      drops_rise = rise_of r.drops.items of.sorted (λ x. omega (arith, has.drop_times x, tells.drops x, candidate-lt F x));
      fixes_rise = subst (λ (ls : Literals). AllPairs (λ (k l : Literal). k.var < l.var) ls) (sym of.fixes) (fixed_rise a.phases ws F.vars);
      apart = λ x dropped fix.
          let some = has.of_drop x dropped in
          let one = has.of_fix x fix in
          let shown = fixed_one x one in
          conflict a x (tells.truth.against x shown (omega (arith, tells.drops x, some, shown))) (tells.truth.entailed x shown one);
      dropped = All-permutation (IsDropped F r.models) g.drops.items r.drops.items of.moved
          (All-weaker (λ (w : Witness). Contains g.drops.items w) (IsDropped F r.models)
          (λ w here. record {
            shown = shown_of_candidate F w.var (dropped_one w.var (subst (λ (xs : List ℕ). 1 ≤ times w.var xs) is.drops_are
                (times_member (map var_of g.drops.items) w.var (member_var var_of g.drops.items w here))));
            witness = subst (λ (c : About). IsWitness c r.models w) (sym has.about_is)
                (subst (λ (s : Store). IsWitness a s w) (sym of.models) (All-contains (IsWitness a g.models) g.drops.items w is.witnessed here));
          }) g.drops.items (All-contains_itself g.drops.items));
      fixed = subst (λ (ls : Literals). All (IsFixed F r.models) ls) (sym of.fixes)
          (All-weaker (λ (l : Literal). Contains (fixed_literals a.phases ws F.vars) l) (IsFixed F r.models)
          (λ l here.
          let one = fixed_in a.phases ws F.vars l here in
          let shown = fixed_one l.var one.is_fixed in record {
            shown = shown_of_candidate F l.var shown;
            phase = one.phase ∙ ap (λ (m : Assignment). true_literal m l.var) (sym phases_are);
            entailed = subst (λ (k : Literal). Entails F k) (sym one.phase) (entails_of_entailed a l.var (tells.truth.entailed l.var shown one.is_fixed));
          }) (fixed_literals a.phases ws F.vars) (All-contains_itself (fixed_literals a.phases ws F.vars)));
      accepted = of.accepted;
      tidy = of.tidy;
      units = of.units;
    }

-- Nothing open.
pub complete : (b : Board) (workers budget : ℕ) (g : Gathered) (ws : List ℕ) (r : Report) → IsReportOf b workers budget g ws r
    → NoneOpen ws → IsComplete b.about.formula r
complete b workers budget g ws r of none =
    let a = b.about in
    let has = facts b workers budget g ws r of in record {
      report = is_report b workers budget g ws r of;
      backbone = of.fixes ∙ backbone_fixed a ws g.seat.view of.tells of.phases none;
      covered = λ x shown.
          let one = candidate_of_shown a.formula x shown in
          ⊎_elim
          (λ (is : fixed ws x ≡ 1). inr (has.fix_of x is))
          (λ (free : fixed ws x ≢ 1).
          let most = fixed_candidate a ws x of.tells.words in
          inl (has.drop_of x (omega (arith, of.tells.drops x, none x, one, most))))
          (cases_eq (fixed ws x) 1);
    }

-- Something open.
pub unfinished : (b : Board) (workers budget : ℕ) (g : Gathered) (ws : List ℕ) (r : Report) (x : ℕ) → IsReportOf b workers budget g ws r
    → open_at ws x ≡ 1 → IsUnfinished b.about.formula r
unfinished b workers budget g ws r x of is_on =
    let a = b.about in
    let has = facts b workers budget g ws r of in
    let lt = candidate-lt a.formula x in
    let one : candidate a.formula x ≡ 1 = omega (arith, of.tells.drops x, is_on, lt) in
    let on : alive ws x ≡ 1 = omega (arith, of.tells.drops x, is_on, lt) in record {
      report = is_report b workers budget g ws r of;
      var = x;
      is_open = record {
        shown = shown_of_candidate a.formula x one;
        not_dropped = λ dropped. absurd (omega (arith, has.of_drop x dropped, of.tells.drops x, one, on));
        not_fixed = λ fix. absurd (omega (arith, has.of_fix x fix, is_on, on));
      };
    }

exhausted : (b : Board) (workers budget : ℕ) (g : Gathered) (ws : List ℕ) (r : Report) → IsReportOf b workers budget g ws r
    → g.failed ≡ false → IsExhausted b.about.formula r
exhausted b workers budget g ws r of fed x place is_on within =
    let a = b.about in
    let v = g.seat.view in
    let has = facts b workers budget g ws r of in
    let one = candidate_of_shown a.formula x is_on.shown in
    let var = var_of_candidate a.formula x one in
    let live : alive ws x ≡ 1 =
    ⊎_elim
    (λ (none : times x v.drops < 1). let e : alive ws x ≡ 1 = omega (arith, of.tells.drops x, one, none) in e)
    (λ (some : 1 ≤ times x v.drops). absurd (is_on.not_dropped (has.drop_of x some)))
    (cases_lt (times x v.drops) 1) in
    let free : fixed ws x ≡ 0 =
    ⊎_elim
    (λ (is : fixed ws x ≡ 1). absurd (is_on.not_fixed (has.fix_of x is)))
    (λ (other : fixed ws x ≢ 1). let most = fixed_candidate a ws x of.tells.words in let e : fixed ws x ≡ 0 = omega (arith, most, one, other) in e)
    (cases_eq (fixed ws x) 1) in
    let seen : open_at v.seen x ≡ 1 = omega (arith, open_before a ws v x of.tells var.high, open_most v.seen x, live, free) in
    subst (λ (c : About). IsKeeping c r.models x place) (sym has.about_is)
    (subst (λ (s : Store). IsKeeping a s x place) (sym of.models)
    (of.gathered.settled fed x place var.low seen (subst (λ (s : Store). place < length s.models) of.models within)))

pub partial : (b : Board) (workers budget : ℕ) (g : Gathered) (ws : List ℕ) (r : Report) (x : ℕ) → IsReportOf b workers budget g ws r
    → open_at ws x ≡ 1 → g.failed ≡ false → length g.logs.items ≡ workers → IsPartial b.about.formula workers budget r g.logs.items
partial b workers budget g ws r x of is_on fed each = record {
  unfinished = unfinished b workers budget g ws r x of is_on;
  exhausted = exhausted b workers budget g ws r of fed;
  each = each;
  spent = ⊎_elim
      (λ (all : All (IsSpent b.about.formula budget) g.logs.items). all)
      (λ (none : NoneOpen g.seat.view.seen). absurd (omega (arith, none_after b.about ws g.seat.view of.tells none x, is_on)))
      (of.gathered.ended fed);
}
