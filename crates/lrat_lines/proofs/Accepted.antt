-- A tidy proof is accepted exactly where each line may follow on those before it.
use Rattle.std.proofs.Common.{◌≡◌, ℕ, zero, suc, ◌+◌, ◌-◌, ◌<◌, ◌≤◌, ◌==◌, Bool, true, false, if◌then◌else◌, List, [], ◌∷◌, ◌++◌, length, take, drop, get_or}
use Rattle.std.proofs.Common.{inl, inr, Contains, Option, Some, None, Result, Ok, Err, IsOk, refl, sym, ap, ◌∙◌, subst, length-append, take-append-drop, arith}
use Rattle.std.specs.Prelude.{All, find, nat_lt, nat_le, slice_get}
use Rattle.std.proofs.lemmas.Bool.{cases_Bool, cases_eq, cases_lt, eq-eqb, ne_eqb, le-ltb, ltb-false, lt-leb}
use Rattle.std.proofs.lemmas.List.{take_more, take_all, length-take-le}
use Rattle.std.proofs.lemmas.List.Elements.{All-contains, All-weaker, All-contains_itself}
use Rattle.cnf_core.specs.Literals.{Literal, Literals}
use Rattle.cnf_core.proofs.Lists.{Contains-head, Contains-tail}
use Rattle.cnf_core.specs.Formulas.{Cnf}
use Rattle.lrat_lines.specs.declared.line.Line.{Line}
use Rattle.lrat_lines.specs.declared.line.Line.TheVariants.{Add, Delete}
use Rattle.lrat_lines.specs.Propagation.{Refusal, IsRup, rup}
use Rattle.lrat_lines.specs.Prefixes.{EachAfter}
use Rattle.lrat_lines.specs.Proofs.{Progress, start, numbered, with_set, after_line, then_line, after_lines, checked, Proves, reached}
use Rattle.lrat_lines.specs.Tidy.{clause_of, hints_of, next_id, IsTidyLine, IsTidy, IsLineAfter}
use Rattle.lrat_lines.specs.Laws.{TidyProofsByLines}
use Rattle.lrat_lines.proofs.SameSets.{rup-agree}
use Rattle.lrat_lines.proofs.Progressing.{checked-push, checked-nil, reached-push, reached-nil}
use Rattle.lrat_lines.proofs.Entailment.{after_lines-err}
use Rattle.lrat_lines.proofs.Renumbered.{IsTaken, taken_by, take_again, passed_over, after_lines-append}

slice_get_past : (xs : List Literals) (i : ℕ) → length xs ≤ i → slice_get xs i ≡ None
slice_get_past [] i past = refl
slice_get_past (x ∷ xs) zero past = absurd (omega arith)
slice_get_past (x ∷ xs) (suc i) past = slice_get_past xs i (omega arith)

slice_get_last : (xs : List Literals) (x : Literals) (i : ℕ) → i ≡ length xs → slice_get (xs ++ x ∷ []) i ≡ Some x
slice_get_last [] x zero is = refl
slice_get_last [] x (suc i) is = absurd (omega arith)
slice_get_last (y ∷ xs) x zero is = absurd (omega arith)
slice_get_last (y ∷ xs) x (suc i) is = slice_get_last xs x i (omega arith)

slice_get_before : (xs : List Literals) (x : Literals) (i : ℕ) → (i ≡ length xs → ⊥) → slice_get (xs ++ x ∷ []) i ≡ slice_get xs i
slice_get_before [] x zero other = absurd (other refl)
slice_get_before [] x (suc i) other = refl
slice_get_before (y ∷ xs) x zero other = refl
slice_get_before (y ∷ xs) x (suc i) other = slice_get_before xs x i (λ is. other (omega arith))

-- one set more is known by the id behind the others
pub numbered-push : (sets : List Literals) (c : Literals) (id x : ℕ) → id ≡ length sets + 1
    → with_set (numbered sets) id c x ≡ numbered (sets ++ c ∷ []) x
numbered-push sets c id x is = elim (cases_eq x id) [
  | inl last ↦
      rw (eq-eqb x id last, ne_eqb x 0 (λ e. omega arith)) (sym (slice_get_last sets c (x - 1) (omega arith)))
  | inr other ↦ elim (cases_eq x 0) [
    | inl none ↦ rw (ne_eqb x id other, eq-eqb x 0 none) refl
    | inr some ↦ rw (ne_eqb x id other, ne_eqb x 0 some) (sym (slice_get_before sets c (x - 1) (λ e. other (omega arith))))
  ]
]

-- how far tidy lines lead: just what they reach is known, each by its place
pub record LeadsTidily (F : Cnf) (lines : List Line) : Type 0 where
  pub progress : Progress
  pub taken : checked F lines ≡ Ok progress
  pub top : progress.top ≡ length F.clauses + length lines
  pub count : length (reached F lines) ≡ length F.clauses + length lines
  pub known : (id : ℕ) → progress.known id ≡ numbered (reached F lines) id

find_nothing : (q : Literal → Bool) (c : Literals) → ((l : Literal) → Contains c l → q l ≡ false) → find q c ≡ None
find_nothing q [] passed = refl
find_nothing q (l ∷ c) passed =
    rw (passed l (Contains-head l c)) (find_nothing q c (λ k later. passed k (Contains-tail l c k later)))

all_within : (n : ℕ) (c : Literals) → find (λ (l : Literal). nat_lt n l.var) c ≡ None → All (λ (l : Literal). l.var ≤ n) c
all_within n c none =
    All-weaker (Contains c) (λ (l : Literal). l.var ≤ n)
    (λ l here. ltb-false n l.var (passed_over (λ (k : Literal). nat_lt n k.var) c l none here)) c (All-contains_itself c)

none_outside : (n : ℕ) (c : Literals) → All (λ (l : Literal). l.var ≤ n) c → find (λ (l : Literal). nat_lt n l.var) c ≡ None
none_outside n c within =
    find_nothing (λ (l : Literal). nat_lt n l.var) c
    (λ l here. le-ltb n l.var (All-contains (λ (k : Literal). k.var ≤ n) c l within here))

with_set-agree : (sets : List Literals) (p : Progress) → ((id : ℕ) → p.known id ≡ numbered sets id) → (id : ℕ) (c : Literals) (x : ℕ)
    → with_set p.known id c x ≡ with_set (numbered sets) id c x
with_set-agree sets p same id c x = ap (λ (o : Option Literals). if x == id then Some c else o) (same x)

tidy_addition : (F : Cnf) (lines : List Line) (id : ℕ) (c : Literals) (hints : List ℕ) → LeadsTidily F lines → id ≡ next_id F lines
    → All (λ (l : Literal). l.var ≤ F.vars) c → IsRup (numbered (reached F lines)) hints c → LeadsTidily F (lines ++ Add id c hints ∷ [])
tidy_addition F lines id c hints leads is within shown =
    let p = leads.progress in
    let next : Progress = record { known = with_set p.known id c; top = id } in
    let more : reached F (lines ++ Add id c hints ∷ []) ≡ reached F lines ++ c ∷ [] = reached-push F lines (Add id c hints) in
    let size : length (lines ++ Add id c hints ∷ []) ≡ length lines + 1 = length-append lines (Add id c hints ∷ []) in
    record {
      progress = next;
      taken = checked-push F lines (Add id c hints)
          ∙ ap (λ (r : Result Progress Refusal). then_line F r (Add id c hints)) leads.taken
          ∙ take_again id next (nat_le id p.top) (find (λ (l : Literal). nat_lt F.vars l.var) c) (rup p.known hints c)
          (lt-leb id p.top (omega (arith, leads.top))) (none_outside F.vars c within)
          (rup-agree p.known (numbered (reached F lines)) leads.known hints c ∙ shown);
      top = omega arith;
      count = omega (arith, ap length more, length-append (reached F lines) (c ∷ []), leads.count);
      known = λ x. with_set-agree (reached F lines) p leads.known id c x
          ∙ numbered-push (reached F lines) c id x (omega (arith, leads.count))
          ∙ ap (λ (sets : List Literals). numbered sets x) (sym more);
    }

leads_push : (F : Cnf) (lines : List Line) (line : Line) → LeadsTidily F lines → IsLineAfter F lines line
    → LeadsTidily F (lines ++ line ∷ [])
leads_push F lines line leads after =
    subst (λ (m : Line). LeadsTidily F (lines ++ m ∷ [])) (sym after.tidy.addition)
    (tidy_addition F lines (next_id F lines) (clause_of line) (hints_of line) leads refl after.within after.shown)

leads_start : (F : Cnf) → LeadsTidily F []
leads_start F = record {
  progress = start F;
  taken = checked-nil F;
  top = omega arith;
  count = omega (arith, ap length (reached-nil F));
  known = λ id. ap (λ (sets : List Literals). numbered sets id) (sym (reached-nil F));
}

leads_upto : (F : Cnf) (lines : List Line) (d : Line) → ((k : ℕ) → k < length lines → LeadsTidily F (take k lines)
    → IsLineAfter F (take k lines) (get_or lines k d)) → (k : ℕ) → k ≤ length lines → LeadsTidily F (take k lines)
leads_upto F lines d each zero within = leads_start F
leads_upto F lines d each (suc k) within =
    let before = leads_upto F lines d each k (omega arith) in
    let next : suc k ≡ k + 1 = omega arith in
    let more : take (suc k) lines ≡ take k lines ++ get_or lines k d ∷ [] =
    ap (λ (n : ℕ). take n lines) next ∙ take_more lines k d (omega arith) in
    subst (λ (xs : List Line). LeadsTidily F xs) (sym more)
    (leads_push F (take k lines) (get_or lines k d) before (each k (omega arith) before))

-- how far lines lead of which each may follow on those before it
pub leads_by_lines : (F : Cnf) (lines : List Line) → EachAfter (IsLineAfter F) lines → LeadsTidily F lines
leads_by_lines F lines each =
    let none : Line = Delete 0 [] in
    subst (λ (xs : List Line). LeadsTidily F xs) (take_all (length lines) lines (omega arith))
    (leads_upto F lines none (λ k below leads. each k none below) (length lines) (omega arith))

pub proves_by_lines : (F : Cnf) (lines : List Line) → EachAfter (IsLineAfter F) lines → Proves F lines
proves_by_lines F lines each =
    let leads = leads_by_lines F lines each in
    subst (λ (r : Result Progress Refusal). IsOk r) (sym leads.taken) refl

-- the lines before a line of an accepted proof are accepted with it
accepted_front : (F : Cnf) (r : Result Progress Refusal) (lines : List Line) → IsOk (after_lines F r lines) → IsOk r
accepted_front F (Ok p) lines all = refl
accepted_front F (Err refusal) lines all =
    let wrong = subst (λ (r : Result Progress Refusal). IsOk r) (after_lines-err F refusal lines) all in absurd (cc wrong)

accepted_upto : (F : Cnf) (lines : List Line) (k : ℕ) → Proves F lines → Proves F (take k lines)
unfolding checked
accepted_upto F lines k proves =
    accepted_front F (checked F (take k lines)) (drop k lines)
    (subst (λ (r : Result Progress Refusal). IsOk r)
    (ap (checked F) (sym (take-append-drop k lines)) ∙ after_lines-append F (Ok (start F)) (take k lines) (drop k lines)) proves)

record IsOkWith (r : Result Progress Refusal) : Type 0 where
  progress : Progress
  is : r ≡ Ok progress

ok_with : (r : Result Progress Refusal) → IsOk r → IsOkWith r
ok_with (Ok p) ok = record { progress = p; is = refl }
ok_with (Err refusal) ok = absurd (cc ok)

-- what a tidy line passed that was taken
line_after : (F : Cnf) (before : List Line) (line : Line) → LeadsTidily F before → IsTidyLine (next_id F before) line
    → Proves F (before ++ line ∷ []) → IsLineAfter F before line
line_after F before line leads tidy proves =
    let p = leads.progress in
    let id = next_id F before in
    let c = clause_of line in
    let hints = hints_of line in
    let step : checked F (before ++ line ∷ []) ≡ after_line F p (Add id c hints) =
    checked-push F before line ∙ ap (λ (r : Result Progress Refusal). then_line F r line) leads.taken ∙ ap (after_line F p) tidy.addition in
    let ok = ok_with (after_line F p (Add id c hints)) (subst (λ (r : Result Progress Refusal). IsOk r) step proves) in
    let taken : IsTaken F p id c hints ok.progress =
    taken_by F p id c hints ok.progress (nat_le id p.top) (find (λ (l : Literal). nat_lt F.vars l.var) c) (rup p.known hints c)
    refl refl refl ok.is in
    record {
      tidy = tidy;
      within = all_within F.vars c taken.within;
      shown = sym (rup-agree p.known (numbered (reached F before)) leads.known hints c) ∙ taken.shown;
    }

pub lines_of_proof : (F : Cnf) (lines : List Line) → IsTidy F lines → Proves F lines → EachAfter (IsLineAfter F) lines
lines_of_proof F lines tidy proves k d below =
    line_at k d below (leads_upto F lines d (λ j less leads. line_at j d less leads) k (omega arith))
  where
    line_at : (j : ℕ) (e : Line) → j < length lines → LeadsTidily F (take j lines) → IsLineAfter F (take j lines) (get_or lines j e)
    line_at j e less leads =
        line_after F (take j lines) (get_or lines j e) leads (tidy j e less)
        (subst (λ (xs : List Line). Proves F xs) (take_more lines j e less) (accepted_upto F lines (j + 1) proves))

pub tidy_proofs_by_lines : TidyProofsByLines
tidy_proofs_by_lines F lines =
    (λ both. lines_of_proof F lines both.0 both.1, λ each. ((λ k d below. (each k d below).tidy), proves_by_lines F lines each))
