-- Which formula and lines a checker stands for after a line more.
use Rattle.std.proofs.Common.{◌≡◌, ◌↔◌, ℕ, zero, suc, ◌+◌, ◌-◌, ◌==◌, ◌<◌, ◌≤◌, Bool, true, false, if◌then◌else◌, IsTrue, List, [], ◌∷◌}
use Rattle.std.proofs.Common.{◌++◌, Option, Some, None, Result, Ok, Err, length, inl, inr, refl, sym, ap, ◌∙◌, subst, append-nil, arith}
use Rattle.std.specs.Prelude.{nat_le, nat_lt, find, is_none, slice_get, slice_index_or, OnOk, IfErr}
use Rattle.std.specs.List.{list_any}
use Rattle.std.proofs.lemmas.Bool.{cases_eq, eq-eqb, ne_eqb, both_ways}
use Rattle.std.proofs.lemmas.List.{length_push}
use Rattle.cnf_core.specs.Literals.{Literal, Literals, code_of}
use Rattle.cnf_core.specs.Formulas.{Cnf, with_clause}
use Rattle.cnf_core.proofs.Lists.{Contains-nil}
use Rattle.lrat_lines.specs.declared.line.Line.{Line}
use Rattle.lrat_lines.specs.declared.line.Line.TheVariants.{Add, Delete}
use Rattle.lrat_lines.specs.Sets.{HasSet, IsSameSet}
use Rattle.lrat_lines.specs.Propagation.{Known, Refusal, IdNotRising, rup}
use Rattle.lrat_lines.specs.Proofs.{Progress, start, with_set, without, unless_refused, refusal_of, unknown_of, after_add, after_line}
use Rattle.lrat_lines.specs.Proofs.{then_line, checked, reached, IsReached}
use Rattle.lrat_lines.proofs.SameSets.{rup-agree}
use Rattle.lrat_lines.proofs.Progressing.{checked-push, checked-nil, reached-push, reached-nil}
use Rattle.lrat_checker.specs.Steps.Units.{is_unit, is_empty}
use Rattle.lrat_checker.specs.Refusals.{IsRefusal, refusal_in}
use Rattle.lrat_checker.specs.declared.refused.Refused.{Refused}
use Rattle.lrat_checker.specs.Checking.{Kept, known_of, StandsFor, Answers}
use Rattle.lrat_checker.specs.Steps.Taking.{add_refusal, first_unknown, Admits, Adds, Deletes, Forgets}
use Rattle.lrat_checker.specs.Steps.Taking.{IsFresh}
use Rattle.lrat_checker.proofs.UnitLemmas.{unit_of_same, same_of_unit, empty_of_same, same_of_empty, marks_push}

-- one line more is checked by what the checker is as far as
checked_next : (kept : Kept) (F : Cnf) (lines : List Line) (line : Line) → (stands : StandsFor kept F lines)
    → checked F (lines ++ line ∷ []) ≡ after_line F stands.progress line
checked_next kept F lines line stands = checked-push F lines line ∙ ap (λ (r : Result Progress Refusal). then_line F r line) stands.taken

-- the refusal of an addition by the greatest id so far, the number of variables and the sets that are known
abbrev refusal_at : ℕ → ℕ → Known → ℕ → Literals → List ℕ → Option Refusal
refusal_at top vars known id c hints =
    if nat_le id top then Some (IdNotRising id) else refusal_of (find (λ (l : Literal). nat_lt vars l.var) c) (rup known hints c)

-- the refusal of an addition is that by what the checker keeps
same_refusal : (kept : Kept) (F : Cnf) (p : Progress) (id : ℕ) (c : Literals) (hints : List ℕ)
    → kept.vars ≡ F.vars → kept.top ≡ p.top → ((q : ℕ) → known_of kept.known q ≡ p.known q)
    → add_refusal kept id c hints ≡ refusal_at p.top F.vars p.known id c hints
same_refusal kept F p id c hints vars top known =
    ap (λ (t : ℕ). refusal_at t kept.vars (known_of kept.known) id c hints) top
    ∙ ap (λ (v : ℕ). refusal_at p.top v (known_of kept.known) id c hints) vars
    ∙ ap (λ (r : Option Refusal).
    if nat_le id p.top then Some (IdNotRising id) else refusal_of (find (λ (l : Literal). nat_lt F.vars l.var) c) r)
    (rup-agree (known_of kept.known) p.known known hints c)

-- an addition by its refusal
add_by : (low : Bool) (id : ℕ) (o : Option Refusal) (next : Progress)
    → (if low then Err (IdNotRising id) else unless_refused o next) ≡ unless_refused (if low then Some (IdNotRising id) else o) next
add_by true id o next = refl
add_by false id o next = refl

refusal_by : (o : Option Refusal) (next : Progress) → refusal_in (unless_refused o next) ≡ o
refusal_by None next = refl
refusal_by (Some refusal) next = refl

checked_add : (kept : Kept) (F : Cnf) (lines : List Line) (id : ℕ) (c : Literals) (hints : List ℕ) → (stands : StandsFor kept F lines)
    → checked F (lines ++ Add id c hints ∷ [])
    ≡ unless_refused (add_refusal kept id c hints) (record { known = with_set stands.progress.known id c; top = id })
checked_add kept F lines id c hints stands =
    let p = stands.progress in
    let next : Progress = record { known = with_set p.known id c; top = id } in
    checked_next kept F lines (Add id c hints) stands
    ∙ add_by (nat_le id p.top) id (refusal_of (find (λ (l : Literal). nat_lt F.vars l.var) c) (rup p.known hints c)) next
    ∙ ap (λ (o : Option Refusal). unless_refused o next) (sym (same_refusal kept F p id c hints stands.vars stands.top stands.known))

pub refused_add : (kept : Kept) (F : Cnf) (lines : List Line) (id : ℕ) (c : Literals) (hints : List ℕ) → StandsFor kept F lines
    → refusal_in (checked F (lines ++ Add id c hints ∷ [])) ≡ add_refusal kept id c hints
refused_add kept F lines id c hints stands =
    ap refusal_in (checked_add kept F lines id c hints stands) ∙ refusal_by (add_refusal kept id c hints) _

-- the sets that are known agree with one more
with_set-agree : (known other : Known) → ((q : ℕ) → known q ≡ other q) → (id : ℕ) (c : Literals) (q : ℕ)
    → with_set known id c q ≡ with_set other id c q
with_set-agree known other same id c q = ap (λ (o : Option Literals). if q == id then Some c else o) (same q)

-- the marks of a checker that a set more was put to
record Marks (kept : Kept) (sets : List Literals) : Type 0 where
  units : (l : Literal) → IsTrue (slice_index_or kept.units (code_of l) false) ↔ HasSet sets (l ∷ [])
  empty : IsTrue kept.empty ↔ HasSet sets []

marks_more : (old new : Kept) (sets : List Literals) (id : ℕ) (c : Literals) → Marks old sets → Admits old new id c
    → Marks new (sets ++ c ∷ [])
marks_more old new sets id c marks admits = record {
  units = λ l. marks_push sets c (l ∷ []) _ _ (is_unit c l) (admits.units l) (same_of_unit c l) (unit_of_same c l) (marks.units l);
  empty = marks_push sets c [] _ _ (is_empty c) admits.empty (same_of_empty c) (empty_of_same c) marks.empty;
}

pub stands_add : (old new : Kept) (F : Cnf) (lines : List Line) (id : ℕ) (c : Literals) (hints : List ℕ)
    → StandsFor old F lines → Adds old new id c hints → StandsFor new F (lines ++ Add id c hints ∷ [])
stands_add old new F lines id c hints stands adds =
    let p = stands.progress in
    let next : Progress = record { known = with_set p.known id c; top = id } in
    let marks = subst (λ (sets : List Literals). Marks new sets) (sym (reached-push F lines (Add id c hints)))
    (marks_more old new (reached F lines) id c (record { units = stands.units; empty = stands.empty }) adds.admits) in
    record {
      progress = next;
      taken = checked_add old F lines id c hints stands ∙ ap (λ (o : Option Refusal). unless_refused o next) adds.shown;
      vars = adds.admits.vars ∙ stands.vars;
      top = adds.admits.top;
      known = λ q. adds.admits.known q ∙ with_set-agree (known_of old.known) p.known stands.known id c q;
      units = marks.units;
      empty = marks.empty;
    }

-- deletions

find-agree : (known other : Known) → ((q : ℕ) → known q ≡ other q) → (ids : List ℕ)
    → find (λ q. is_none (known q)) ids ≡ find (λ q. is_none (other q)) ids
find-agree known other same [] = refl
find-agree known other same (id ∷ ids) =
    ap (λ (o : Option Literals). if is_none o then Some id else find (λ q. is_none (known q)) ids) (same id)
    ∙ ap (λ (r : Option ℕ). if is_none (other id) then Some id else r) (find-agree known other same ids)

checked_delete : (kept : Kept) (F : Cnf) (lines : List Line) (id : ℕ) (ids : List ℕ) → (stands : StandsFor kept F lines)
    → checked F (lines ++ Delete id ids ∷ [])
    ≡ unless_refused (unknown_of (first_unknown kept.known ids))
    (record { known = without stands.progress.known ids; top = stands.progress.top })
checked_delete kept F lines id ids stands =
    let p = stands.progress in
    let next : Progress = record { known = without p.known ids; top = p.top } in
    checked_next kept F lines (Delete id ids) stands
    ∙ ap (λ (o : Option ℕ). unless_refused (unknown_of o) next) (sym (find-agree (known_of kept.known) p.known stands.known ids))

pub refused_delete : (kept : Kept) (F : Cnf) (lines : List Line) (id : ℕ) (ids : List ℕ) → StandsFor kept F lines
    → refusal_in (checked F (lines ++ Delete id ids ∷ [])) ≡ unknown_of (first_unknown kept.known ids)
refused_delete kept F lines id ids stands =
    ap refusal_in (checked_delete kept F lines id ids stands) ∙ refusal_by (unknown_of (first_unknown kept.known ids)) _

without-agree : (known other : Known) → ((q : ℕ) → known q ≡ other q) → (ids : List ℕ) (q : ℕ) → without known ids q ≡ without other ids q
without-agree known other same ids q =
    ap (λ (o : Option Literals). if list_any (λ (id : ℕ). id == q) ids then None else o) (same q)

stands_known : (old : Kept) (known : List (ℕ × Literals)) (F : Cnf) (lines : List Line) (id : ℕ) (ids : List ℕ)
    → StandsFor old F lines → first_unknown old.known ids ≡ None
    → ((q : ℕ) → known_of known q ≡ without (known_of old.known) ids q)
    → StandsFor (record old { known = known }) F (lines ++ Delete id ids ∷ [])
stands_known old known F lines id ids stands all_known is =
    let p = stands.progress in
    let next : Progress = record { known = without p.known ids; top = p.top } in
    let same : reached F lines ≡ reached F (lines ++ Delete id ids ∷ []) =
    sym (reached-push F lines (Delete id ids) ∙ append-nil (reached F lines)) in
    let marks : Marks old (reached F (lines ++ Delete id ids ∷ [])) =
    subst (λ (sets : List Literals). Marks old sets) same (record { units = stands.units; empty = stands.empty }) in
    record {
      progress = next;
      taken = checked_delete old F lines id ids stands ∙ ap (λ (o : Option ℕ). unless_refused (unknown_of o) next) all_known;
      vars = stands.vars;
      top = stands.top;
      known = λ q. is q ∙ without-agree (known_of old.known) p.known stands.known ids q;
      units = marks.units;
      empty = marks.empty;
    }

pub stands_delete : (old new : Kept) (F : Cnf) (lines : List Line) (id : ℕ) (ids : List ℕ)
    → StandsFor old F lines → Deletes old new ids → StandsFor new F (lines ++ Delete id ids ∷ [])
stands_delete old new F lines id ids stands deletes =
    subst (λ (kept : Kept). StandsFor kept F (lines ++ Delete id ids ∷ [])) (sym deletes.forgets.rest)
    (stands_known old new.known F lines id ids stands deletes.all_known deletes.forgets.known)

-- a new checker

slice_get_past : (xs : List Literals) (i : ℕ) → length xs ≤ i → slice_get xs i ≡ None
slice_get_past [] i past = refl
slice_get_past (x ∷ xs) zero past = absurd (omega arith)
slice_get_past (x ∷ xs) (suc i) past = slice_get_past xs i (omega arith)

slice_get_push : (xs : List Literals) (x : Literals) (i : ℕ)
    → slice_get (xs ++ x ∷ []) i ≡ (if i == length xs then Some x else slice_get xs i)
slice_get_push [] x zero = refl
slice_get_push [] x (suc i) = rw (ne_eqb (suc i) 0 (λ e. omega arith)) refl
slice_get_push (y ∷ xs) x zero = rw (ne_eqb 0 (length (y ∷ xs)) (λ e. omega arith)) refl
slice_get_push (y ∷ xs) x (suc i) = slice_get_push xs x i ∙ ap (λ (b : Bool). if b then Some x else slice_get xs i) (shifted i (length xs))
  where
    shifted : (m n : ℕ) → (m == n) ≡ (suc m == suc n)
    shifted m n = elim (cases_eq m n) [
      | inl same ↦ eq-eqb m n same ∙ sym (eq-eqb (suc m) (suc n) (ap suc same))
      | inr other ↦ ne_eqb m n other ∙ sym (ne_eqb (suc m) (suc n) (λ e. other (omega arith)))
    ]

start_push : (F : Cnf) (c : Literals) (q : ℕ)
    → with_set (start F).known (length F.clauses + 1) c q ≡ (start (with_clause F c)).known q
start_push F c q = elim (cases_eq q (length F.clauses + 1)) [
  | inl last ↦
      (let some : (q == 0) ≡ false = ne_eqb q 0 (λ e. omega arith) in
      let place : (q - 1 == length F.clauses) ≡ true = eq-eqb (q - 1) (length F.clauses) (omega arith) in
      rw (eq-eqb q (length F.clauses + 1) last, some, slice_get_push F.clauses c (q - 1), place) refl)
  | inr other ↦ elim (cases_eq q 0) [
    | inl none ↦ rw (ne_eqb q (length F.clauses + 1) other, eq-eqb q 0 none) refl
    | inr some ↦
        (let place : (q - 1 == length F.clauses) ≡ false = ne_eqb (q - 1) (length F.clauses) (λ e. other (omega arith)) in
        rw (ne_eqb q (length F.clauses + 1) other, ne_eqb q 0 some, slice_get_push F.clauses c (q - 1), place) refl)
  ]
]

pub stands_clause : (old new : Kept) (F : Cnf) (c : Literals) → StandsFor old F [] → Admits old new (length F.clauses + 1) c
    → StandsFor new (with_clause F c) []
stands_clause old new F c stands admits =
    let first : start F ≡ stands.progress = (let both = sym (checked-nil F) ∙ stands.taken in cc) in
    let before = subst (λ (sets : List Literals). Marks old sets) (reached-nil F) (record { units = stands.units; empty = stands.empty }) in
    let marks = subst (λ (sets : List Literals). Marks new sets) (sym (reached-nil (with_clause F c)))
    (marks_more old new F.clauses (length F.clauses + 1) c before admits) in
    record {
      progress = start (with_clause F c);
      taken = checked-nil (with_clause F c);
      vars = admits.vars ∙ stands.vars;
      top = admits.top ∙ sym (length_push F.clauses c);
      known = λ q. admits.known q
          ∙ with_set-agree (known_of old.known) (start F).known
          (λ p. stands.known p ∙ ap (λ (r : Progress). r.known p) (sym first)) (length F.clauses + 1) c q
          ∙ start_push F c q;
      units = marks.units;
      empty = marks.empty;
    }

no_set : (c : Literals) → HasSet [] c → ⊥
no_set c has = Contains-nil has.set has.member

nothing_marked : (b : Bool) (c : Literals) → b ≡ false → IsTrue b ↔ HasSet [] c
nothing_marked b c is = (λ marked. absurd (both_ways b is marked), λ has. absurd (no_set c has))

-- which variables are shown makes no difference
pub stands_fresh : (kept : Kept) (of : Cnf) → IsFresh of.vars kept → StandsFor kept (record of { clauses = [] }) []
stands_fresh kept of fresh =
    let F : Cnf = record of { clauses = [] } in
    record {
      progress = start F;
      taken = checked-nil F;
      vars = fresh.vars_are;
      top = fresh.top;
      known = λ q. ap (λ (entries : List (ℕ × Literals)). known_of entries q) fresh.known ∙ nothing_known q;
      units = λ l. nothing_marked (slice_index_or kept.units (code_of l) false) (l ∷ []) (fresh.units (code_of l));
      empty = nothing_marked kept.empty [] fresh.empty;
    }
  where
    nothing_known : (q : ℕ) → None ≡ (start (record of { clauses = [] })).known q
    nothing_known q = elim (cases_eq q 0) [
      | inl none ↦ rw (eq-eqb q 0 none) refl
      | inr some ↦ rw (ne_eqb q 0 some) refl
    ]

-- what the checker answers to a line, by its own tests
pub answers_add : (old new : Kept) (F : Cnf) (lines : List Line) (id : ℕ) (c : Literals) (hints : List ℕ) (r : Result (Unit {0}) Refused)
    → StandsFor old F lines → OnOk r (Adds old new id c hints)
    → IfErr r (λ refused. IsRefusal refused (add_refusal old id c hints)) → Answers F lines (Add id c hints) new r
answers_add old new F lines id c hints (Ok done) stands adds refused = stands_add old new F lines id c hints stands adds
answers_add old new F lines id c hints (Err x) stands adds refused =
    subst (λ (given : Option Refusal). IsRefusal x given) (sym (refused_add old F lines id c hints stands)) refused

pub answers_delete : (old new : Kept) (F : Cnf) (lines : List Line) (id : ℕ) (ids : List ℕ) (r : Result (Unit {0}) Refused)
    → StandsFor old F lines → OnOk r (Deletes old new ids)
    → IfErr r (λ refused. IsRefusal refused (unknown_of (first_unknown old.known ids))) → Answers F lines (Delete id ids) new r
answers_delete old new F lines id ids (Ok done) stands deletes refused = stands_delete old new F lines id ids stands deletes
answers_delete old new F lines id ids (Err x) stands deletes refused =
    subst (λ (given : Option Refusal). IsRefusal x given) (sym (refused_delete old F lines id ids stands)) refused
