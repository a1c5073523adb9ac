-- What is shown from entailed sets is entailed, and so is every clause that a proof reaches.
use Rattle.std.proofs.Common.{◌≡◌, ℕ, zero, suc, ◌-◌, ◌==◌, Bool, true, false, not, if◌then◌else◌, IsTrue, List, [], ◌∷◌, ◌++◌, Option}
use Rattle.std.proofs.Common.{Some, None, Result, Ok, Err, IsOk, Contains, map, refl, sym, ap, ◌∙◌, subst, inl, inr, ⊎_elim}
use Rattle.std.specs.Prelude.{find, flat_map, is_none, nat_lt, nat_le, slice_get}
use Rattle.std.specs.List.{list_any, list_all}
use Rattle.std.proofs.lemmas.Bool.{both_ways, cases_Bool, true_from_ne_false, or_parts, not-true, not_from_false}
use Rattle.std.proofs.lemmas.List.Elements.{Contains-append_cases, Contains-push_cases}
use Rattle.cnf_core.specs.Literals.{Literal, Literals, Assignment, negated, is_true, clause_true}
use Rattle.cnf_core.specs.Formulas.{Cnf, EntailsClause}
use Rattle.cnf_core.proofs.Lists.{Contains-head, Contains-tail, Contains-cons_cases, Contains-nil, Contains-filter, passes_of_list_all}
use Rattle.cnf_core.proofs.Lists.{member_of_list_any, list_any_of_member}
use Rattle.cnf_core.proofs.Truth.{is_true-negated}
use Rattle.cnf_core.proofs.Models.{entails_clause_by, entails_clause_at}
use Rattle.lrat_lines.specs.declared.line.Line.{Line}
use Rattle.lrat_lines.specs.declared.line.Line.TheVariants.{Add, Delete}
use Rattle.lrat_lines.specs.Sets.{is_same, has, has_complements}
use Rattle.lrat_lines.specs.Propagation.{Known, Refusal, IdNotRising, NotUnit, open_literals, by_open, by_set, by_hints, IsRup}
use Rattle.lrat_lines.specs.Proofs.{Progress, start, with_set, without, unless_refused, refusal_of, unknown_of, after_line, after_lines}
use Rattle.lrat_lines.specs.Proofs.{checked, Proves, added, IsReached}
use Rattle.lrat_lines.specs.Laws.{AreEntailed, ProvedIsEntailed}
use Rattle.lrat_lines.proofs.LiteralSets.{is_same-true, Contains_of_has}

-- all these literals are true
abbrev AreTrue : Assignment → Literals → Type 0
AreTrue a trues = (l : Literal) → Contains trues l → IsTrue (is_true a l)

-- a literal is not true where its negation is
not_both : (a : Assignment) (l : Literal) → is_true a l ≡ true → is_true a (negated l) ≡ true → ⊥
not_both a l holds denied = both_ways (is_true a l) (not-true (is_true a l) (sym (is_true-negated a l) ∙ denied)) holds

-- a true literal of a clause stays open
stays_open : (a : Assignment) (trues c : Literals) (k : Literal) → AreTrue a trues → Contains c k → is_true a k ≡ true
    → Contains (open_literals trues c) k
stays_open a trues c k all there holds =
    Contains-filter (λ (l : Literal). not (has trues (negated l))) c k there
    (not_from_false (has trues (negated k)) (elim (cases_Bool (has trues (negated k))) [
      | inl some ↦ absurd (not_both a k holds (all (negated k) (Contains_of_has trues (negated k) some)))
      | inr none ↦ none
    ]))

-- the first of literals that are all the same is true where one of them is
first_is_true : (a : Assignment) (l : Literal) (ls : Literals) (k : Literal) → list_all (is_same l) ls ≡ true
    → Contains (l ∷ ls) k → is_true a k ≡ true → is_true a l ≡ true
first_is_true a l ls k same there holds =
    ⊎_elim
    (λ (is : l ≡ k). ap (is_true a) is ∙ holds)
    (λ (later : Contains ls k). ap (is_true a) (is_same-true l k (passes_of_list_all (is_same l) ls k same later)) ∙ holds)
    (Contains-cons_cases l ls k there)

AreTrue-cons : (a : Assignment) (l : Literal) (trues : Literals) → is_true a l ≡ true → AreTrue a trues → AreTrue a (l ∷ trues)
AreTrue-cons a l trues first rest k there =
    ⊎_elim
    (λ (is : l ≡ k). ap (is_true a) (sym is) ∙ first)
    (λ (later : Contains trues k). rest k later)
    (Contains-cons_cases l trues k there)

AreTrue-push : (a : Assignment) (trues : Literals) (l : Literal) → AreTrue a trues → is_true a l ≡ true
    → AreTrue a (trues ++ l ∷ [])
AreTrue-push a trues l rest last k there =
    ⊎_elim
    (λ (before : Contains trues k). rest k before)
    (λ (is : l ≡ k). ap (is_true a) (sym is) ∙ last)
    (Contains-push_cases trues l k there)

-- what follows a hint shows nothing
abbrev ShowsNothing : Assignment → (Literals → Option Refusal) → Type 0
ShowsNothing a rest = (trues : Literals) → AreTrue a trues → rest trues ≡ None → ⊥

open_shows_nothing : (a : Assignment) (h : ℕ) (trues : Literals) (rest : Literals → Option Refusal) (os : Literals) (k : Literal)
    → ShowsNothing a rest → AreTrue a trues → Contains os k → is_true a k ≡ true → by_open h trues rest os ≡ None → ⊥
open_shows_nothing a h trues rest [] k nothing all there holds none = Contains-nil k there
open_shows_nothing a h trues rest (l ∷ ls) k nothing all there holds none =
    elim (cases_Bool (list_all (is_same l) ls)) [
      | inl same ↦ nothing (trues ++ l ∷ [])
          (AreTrue-push a trues l all (first_is_true a l ls k same there holds))
          (rw same at none)
      | inr other ↦ (let wrong : Some (NotUnit h) ≡ None = rw other at none in cc wrong)
    ]

set_shows_nothing : (a : Assignment) (h : ℕ) (trues : Literals) (rest : Literals → Option Refusal) (o : Option Literals)
    → ShowsNothing a rest → AreTrue a trues → ((c : Literals) → o ≡ Some c → clause_true a c ≡ true)
    → by_set h trues rest o ≡ None → ⊥
set_shows_nothing a h trues rest None nothing all holds none = cc
set_shows_nothing a h trues rest (Some c) nothing all holds none =
    let (k, there, true_one) = member_of_list_any (is_true a) c (holds c refl) in
    open_shows_nothing a h trues rest (open_literals trues c) k nothing all (stays_open a trues c k all there true_one) true_one none

-- where an assignment makes all known sets true, and these literals, no hints show anything
hints_show_nothing : (a : Assignment) (known : Known)
    → ((id : ℕ) (c : Literals) → known id ≡ Some c → clause_true a c ≡ true)
    → (hints : List ℕ) → ShowsNothing a (by_hints known hints)
hints_show_nothing a known holds [] trues all shown = cc
hints_show_nothing a known holds (h ∷ hs) trues all shown =
    set_shows_nothing a h trues (by_hints known hs) (known h) (hints_show_nothing a known holds hs) all (holds h) shown

-- the negations of a clause that is false are true
negations_are_true : (a : Assignment) (c : Literals) → clause_true a c ≡ false → AreTrue a (map negated c)
negations_are_true a [] fails l there = absurd (Contains-nil l there)
negations_are_true a (k ∷ c) fails l there =
    let parts = or_parts (is_true a k) (clause_true a c) fails in
    AreTrue-cons a (negated k) (map negated c)
    (is_true-negated a k ∙ not_from_false (is_true a k) parts.0)
    (negations_are_true a c parts.1) l there

-- a clause with a literal and its negation is true
complements_hold : (a : Assignment) (c : Literals) → has_complements c ≡ true → clause_true a c ≡ true
complements_hold a c both =
    let (l, there, other) = member_of_list_any (λ (k : Literal). has c (negated k)) c both in
    let denied = Contains_of_has c (negated l) other in
    elim (cases_Bool (is_true a l)) [
      | inl holds ↦ list_any_of_member (is_true a) c l there holds
      | inr fails ↦ list_any_of_member (is_true a) c (negated l) denied (is_true-negated a l ∙ not_from_false (is_true a l) fails)
    ]

pub shown_is_entailed : (F : Cnf) (known : Known) (hints : List ℕ) (c : Literals)
    → AreEntailed F known → IsRup known hints c → EntailsClause F c
shown_is_entailed F known hints c entailed shown =
    entails_clause_by F c (λ a model.
    elim (cases_Bool (has_complements c)) [
      | inl both ↦ complements_hold a c both
      | inr plain ↦ true_from_ne_false (clause_true a c) (λ fails.
          hints_show_nothing a known (λ id d is. entails_clause_at F d a (entailed id d is) model) hints (map negated c)
          (negations_are_true a c fails) (rw plain at shown))
    ])

-- a line that is taken keeps all known sets entailed, and adds an entailed one
record KeepsEntailed (F : Cnf) (line : Line) (next : Progress) : Type 0 where
  known : AreEntailed F next.known
  added_one : (c : Literals) → Contains (added line) c → EntailsClause F c

taken : (low : Bool) (id : ℕ) (o : Option Literal) (r : Option Refusal) (next q : Progress)
    → (if low then Err (IdNotRising id) else unless_refused (refusal_of o r) next) ≡ Ok q → (r ≡ None) × (next ≡ q)
taken true id o r next q is = absurd (cc)
taken false id (Some l) r next q is = absurd (cc)
taken false id None (Some refusal) next q is = absurd (cc)
taken false id None None next q is = (refl, cc)

let_go : (o : Option ℕ) (next q : Progress) → unless_refused (unknown_of o) next ≡ Ok q → next ≡ q
let_go None next q is = cc
let_go (Some id) next q is = absurd (cc)

with_set_entailed : (F : Cnf) (known : Known) (id : ℕ) (c : Literals) → AreEntailed F known → EntailsClause F c
    → AreEntailed F (with_set known id c)
with_set_entailed F known id c entailed one q d is =
    elim (cases_Bool (q == id)) [
      | inl same ↦ (let which : Some c ≡ Some d = rw same at is in
          subst (λ (e : Literals). EntailsClause F e) (cc which) one)
      | inr other ↦ entailed q d (rw other at is)
    ]

without_entailed : (F : Cnf) (known : Known) (ids : List ℕ) → AreEntailed F known → AreEntailed F (without known ids)
without_entailed F known ids entailed q d is =
    elim (cases_Bool (list_any (λ (id : ℕ). id == q) ids)) [
      | inl gone ↦ (let wrong : None ≡ Some d = rw gone at is in absurd (cc wrong))
      | inr kept ↦ entailed q d (rw kept at is)
    ]

step_keeps : (F : Cnf) (p : Progress) (line : Line) (q : Progress) → AreEntailed F p.known → after_line F p line ≡ Ok q
    → KeepsEntailed F line q
step_keeps F p (Add id c hints) q entailed is =
    let both = taken (nat_le id p.top) id (find (λ (l : Literal). nat_lt F.vars l.var) c) _ _ q is in
    let one = shown_is_entailed F p.known hints c entailed both.0 in
    record {
      known = subst (λ (n : Progress). AreEntailed F n.known) both.1 (with_set_entailed F p.known id c entailed one);
      added_one = λ d there. ⊎_elim
          (λ (first : c ≡ d). subst (λ (e : Literals). EntailsClause F e) first one)
          (λ (none : Contains [] d). absurd (Contains-nil d none))
          (Contains-cons_cases c [] d there);
    }
step_keeps F p (Delete id ids) q entailed is =
    let next = let_go (find (λ (i : ℕ). is_none (p.known i)) ids) _ q is in
    record {
      known = subst (λ (n : Progress). AreEntailed F n.known) next (without_entailed F p.known ids entailed);
      added_one = λ d there. absurd (Contains-nil d there);
    }

-- after a refusal nothing is taken
pub after_lines-err : (F : Cnf) (refusal : Refusal) (lines : List Line) → after_lines F (Err refusal) lines ≡ Err refusal
after_lines-err F refusal [] = refl
after_lines-err F refusal (line ∷ lines) = after_lines-err F refusal lines

-- the clauses that the lines add are entailed, where they are taken after such progress
abbrev AddsEntailed : Cnf → List Line → Result Progress Refusal → Type 0
AddsEntailed F lines r = IsOk (after_lines F r lines) → (c : Literals) → Contains (flat_map added lines) c → EntailsClause F c

line_entailed : (F : Cnf) (p : Progress) (line : Line) (lines : List Line) (r : Result Progress Refusal)
    → AreEntailed F p.known → ((q : Progress) → AreEntailed F q.known → AddsEntailed F lines (Ok q))
    → after_line F p line ≡ r → IsOk (after_lines F r lines) → (c : Literals) → Contains (flat_map added (line ∷ lines)) c
    → EntailsClause F c
line_entailed F p line lines (Ok q) entailed again is rest c there =
    let keeps = step_keeps F p line q entailed is in
    ⊎_elim
    (λ (first : Contains (added line) c). keeps.added_one c first)
    (λ (later : Contains (flat_map added lines) c). again q keeps.known rest c later)
    (Contains-append_cases (added line) (flat_map added lines) c there)
line_entailed F p line lines (Err refusal) entailed again is rest c there =
    let wrong = subst (λ (r : Result Progress Refusal). IsOk r) (after_lines-err F refusal lines) rest in
    absurd (cc wrong)

lines_entailed : (F : Cnf) (lines : List Line) (p : Progress) → AreEntailed F p.known → AddsEntailed F lines (Ok p)
lines_entailed F [] p entailed all c there = absurd (Contains-nil c there)
lines_entailed F (line ∷ lines) p entailed all c there =
    line_entailed F p line lines (after_line F p line) entailed (lines_entailed F lines) refl all c there

pub member_of_slice_get : {X : Type 0} (xs : List X) (i : ℕ) (x : X) → slice_get xs i ≡ Some x → Contains xs x
member_of_slice_get [] i x is = absurd (cc)
member_of_slice_get (y ∷ xs) zero x is = let first : y ≡ x = cc in subst (λ z. Contains (y ∷ xs) z) first (Contains-head y xs)
member_of_slice_get (y ∷ xs) (suc i) x is = Contains-tail y xs x (member_of_slice_get xs i x is)

input_entailed : (F : Cnf) (c : Literals) → Contains F.clauses c → EntailsClause F c
input_entailed F c there =
    entails_clause_by F c (λ a model. passes_of_list_all (clause_true a) F.clauses c model.satisfied there)

start_entailed : (F : Cnf) → AreEntailed F (start F).known
start_entailed F id c is =
    elim (cases_Bool (id == 0)) [
      | inl nothing ↦ (let wrong : None ≡ Some c = rw nothing at is in absurd (cc wrong))
      | inr some ↦ input_entailed F c (member_of_slice_get F.clauses (id - 1) c (rw some at is))
    ]

pub reached_is_entailed : (F : Cnf) (lines : List Line) (c : Literals) → Proves F lines → IsReached F lines c → EntailsClause F c
unfolding checked
reached_is_entailed F lines c proves reached =
    let one : EntailsClause F reached.set = ⊎_elim
    (λ (input : Contains F.clauses reached.set). input_entailed F reached.set input)
    (λ (line : Contains (flat_map added lines) reached.set). lines_entailed F lines (start F) (start_entailed F) proves reached.set line)
    (Contains-append_cases F.clauses (flat_map added lines) reached.set reached.member) in
    entails_clause_by F c (λ a model.
    let (l, there, holds) = member_of_list_any (is_true a) reached.set (entails_clause_at F reached.set a one model) in
    list_any_of_member (is_true a) c l (reached.same.back l there) holds)

pub proved_is_entailed : ProvedIsEntailed
proved_is_entailed = record { shown = shown_is_entailed; reached = reached_is_entailed }
