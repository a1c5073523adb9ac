-- Why a printed list is the shown part of the backbone, where the tests of an answer with a model pass.
use Rattle.std.proofs.Common.{◌≡◌, ℕ, zero, suc, ◌+◌, ◌<◌, ◌≤◌, ◌==◌, Bool, true, false, not, ◌&&◌, if◌then◌else◌, IsTrue, List, [], ◌∷◌, ◌++◌, Some, None, length, Contains, refl, sym, ap, ◌∙◌, subst, ⊎_elim, inl, inr, arith}
use Rattle.std.specs.List.{list_any}
use Rattle.std.proofs.Common.{length-set}
use Rattle.std.proofs.lemmas.Bool.{and_parts, or_cases, cases_eq, not-true, both_ways, eqb-true}
use Rattle.std.proofs.lemmas.List.Elements.{Contains-append_left, Contains-push, Contains-get_or}
use Rattle.cnf_core.specs.Literals.{Literal, Literals, Assignment, is_true, all_true}
use Rattle.cnf_core.specs.Formulas.{Cnf, IsModel, Entails, is_shown, true_literal}
use Rattle.cnf_core.specs.Laws.{IsShownBackboneOf}
use Rattle.cnf_core.proofs.Lists.{Contains-head, member_of_list_any}
use Rattle.cnf_core.proofs.Truth.{true_literal_of_is_true}
use Rattle.cnf_core.proofs.Models.{entails_at}
use Rattle.cnf_core.proofs.Shown.{shown_within, shown_backbone_determined}
use Rattle.lrat_lines.specs.declared.line.Line.{Line}
use Rattle.lrat_lines.specs.Proofs.{Proves}
use Rattle.witness_text.specs.declared.line.WitnessLine.{WitnessLine}
use Rattle.witness_text.specs.Reading.{Witnessed}
use Rattle.witness_text.specs.Models.{model_in}
use Rattle.bone_check.specs.declared.verdict.Verdict.TheVariants.{Verified}
use Rattle.bone_check.specs.Tests.{◌then◌, each_from}
use Rattle.bone_check.specs.Proving.{has_unit, unit_fault}
use Rattle.bone_check.specs.Witnessing.{taken_by, is_against, is_covered, variables, model_fault, drop_fault, cover_fault, some_model, witness_verdict}
use Rattle.bone_check.specs.Laws.{IsReadable, PrintedIsRight}
use Rattle.bone_check.proofs.TestLemmas.{verified_parts, each_passed}
use Rattle.bone_check.proofs.Reaching.{unit_entailed}

-- what passes a test
by_test : {X : Type 0} (b : Bool) (x : X) → (if b then None else Some x) ≡ None → IsTrue b
by_test true x none = refl
by_test false x none = absurd (cc)

pub record IsPrintable (F : Cnf) (lines : List Line) (l : Literal) : Type 0 where
  pub shown : IsTrue (is_shown F l.var)
  pub reached : IsTrue (has_unit F lines l)

printable_by : (F : Cnf) (lines : List Line) (l : Literal) (shown unit : Bool) → is_shown F l.var ≡ shown → has_unit F lines l ≡ unit
    → unit_fault F lines l ≡ None → IsPrintable F lines l
printable_by F lines l true true shown_is unit_is none = record { shown = shown_is; reached = unit_is }
printable_by F lines l true false shown_is unit_is none = absurd (cc (rw (shown_is, unit_is) at none))
printable_by F lines l false unit shown_is unit_is none = absurd (cc (rw shown_is at none))

printable : (F : Cnf) (lines : List Line) (l : Literal) → unit_fault F lines l ≡ None → IsPrintable F lines l
printable F lines l none = printable_by F lines l (is_shown F l.var) (has_unit F lines l) refl refl none

-- each of the variables 1 to n is among them
Contains-variables : (n v : ℕ) → 0 < v → v ≤ n → Contains (variables n) v
Contains-variables zero v low high = absurd (omega arith)
Contains-variables (suc n) v low high = elim (cases_eq v (suc n)) [
  | inl is ↦ subst (λ (u : ℕ). Contains (variables n ++ suc n ∷ []) u) (sym is) (Contains-push (variables n) (suc n))
  | inr other ↦ Contains-append_left (variables n) (suc n ∷ []) v (Contains-variables n v low (omega arith))
]

covered_by : (F : Cnf) (fixed : Literals) (drops : List WitnessLine) (v : ℕ) → IsTrue (is_shown F v) → cover_fault F fixed drops v ≡ None
    → IsTrue (is_covered fixed drops v)
covered_by F fixed drops v shown none = by_test (is_covered fixed drops v) _ (rw shown at none)

-- literals of one variable that an assignment makes true are the same
same_literal : (a : Assignment) (k l : Literal) → IsTrue (is_true a k) → IsTrue (is_true a l) → k.var ≡ l.var → k ≡ l
same_literal a k l first second same =
    sym (true_literal_of_is_true a k first) ∙ ap (true_literal a) same ∙ true_literal_of_is_true a l second

first_model : (F : Cnf) (models : List Assignment) → some_model models ≡ Verified → Contains models (model_in models 0)
first_model F [] some = absurd (cc)
first_model F (a ∷ more) some = Contains-head a more

-- what passes the tests of a witness
pub record IsEvidence (F : Cnf) (fixed : Literals) (w : Witnessed) : Type 0 where
  pub some : Contains w.models (model_in w.models 0)
  pub models : (a : Assignment) → Contains w.models a → IsModel F a
  pub drops : (d : WitnessLine) → Contains w.drops d → IsTrue (is_against F w.models d)
  pub covered : (v : ℕ) → IsTrue (is_shown F v) → IsTrue (is_covered fixed w.drops v)

pub evidence_of : (F : Cnf) (fixed : Literals) (w : Witnessed) → IsReadable F.vars w → witness_verdict F fixed w ≡ Verified
    → IsEvidence F fixed w
evidence_of F fixed w readable passed =
    let cover = each_from (cover_fault F fixed w.drops) 1 (variables F.vars) in
    let drop = each_from (drop_fault F w.models) (length w.models + 1) w.drops in
    let model = each_from (model_fault F) 1 w.models in
    let first = verified_parts (some_model w.models) (model then drop then cover) passed in
    let second = verified_parts model (drop then cover) first.1 in
    let third = verified_parts drop cover second.1 in
    record {
      some = first_model F w.models first.0;
      models = λ a there. record {
        values = readable.values a there;
        satisfied = by_test (all_true a F.clauses) _ (each_passed (model_fault F) 1 w.models a second.0 there);
      };
      drops = λ d there. by_test (is_against F w.models d) _
          (each_passed (drop_fault F w.models) (length w.models + 1) w.drops d third.0 there);
      covered = λ v shown.
          let within = shown_within F (record { var = v; positive = true }) shown in
          covered_by F fixed w.drops v shown
          (each_passed (cover_fault F fixed w.drops) 1 (variables F.vars) v third.1 (Contains-variables F.vars v within.low within.high));
    }

-- a drop line has a model in which its literal, which is true in the first, is false
pub record IsDropped (F : Cnf) (models : List Assignment) (d : WitnessLine) : Type 0 where
  pub holds : IsTrue (is_true (model_in models 0) d.lit)
  pub is_model : IsModel F (taken_by models d)
  pub fails : is_true (taken_by models d) d.lit ≡ false

length_taken : (models : List Assignment) (d : WitnessLine) (flip : Bool) → d.flip ≡ flip
    → length (taken_by models d) ≡ length (model_in models d.model)
length_taken models d true is = rw is (length-set _ _ _)
length_taken models d false is = rw is refl

pub dropped_of : (F : Cnf) (fixed : Literals) (w : Witnessed) (d : WitnessLine) → IsReadable F.vars w → IsEvidence F fixed w
    → Contains w.drops d → IsDropped F w.models d
dropped_of F fixed w d readable evidence there =
    let taken = taken_by w.models d in
    let parts = and_parts (is_true (model_in w.models 0) d.lit) (all_true taken F.clauses && not (is_true taken d.lit))
    (evidence.drops d there) in
    let more = and_parts (all_true taken F.clauses) (not (is_true taken d.lit)) parts.1 in
    let member : Contains w.models (model_in w.models d.model) = Contains-get_or w.models d.model [] (readable.named d there) in
    record {
      holds = parts.0;
      is_model = record {
        values = length_taken w.models d d.flip refl ∙ readable.values (model_in w.models d.model) member;
        satisfied = more.0;
      };
      fails = not-true (is_true taken d.lit) more.1;
    }

-- an entailed literal that is shown is printed
printed_of : (F : Cnf) (lines : List Line) (fixed : Literals) (w : Witnessed) (l : Literal) → Proves F lines
    → ((k : Literal) → Contains fixed k → IsPrintable F lines k) → IsReadable F.vars w → IsEvidence F fixed w
    → IsTrue (is_shown F l.var) → Entails F l → Contains fixed l
printed_of F lines fixed w l proves printed readable evidence shown entailed =
    let a = model_in w.models 0 in
    let model = evidence.models a evidence.some in
    let holds = entails_at F l a entailed model in
    ⊎_elim
    (λ (some : IsTrue (list_any (λ (k : Literal). k.var == l.var) fixed)).
    let (k, there, same) = member_of_list_any (λ (k : Literal). k.var == l.var) fixed some in
    let k_holds = entails_at F k a (unit_entailed F lines k proves (printed k there).reached) model in
    subst (λ (x : Literal). Contains fixed x) (same_literal a k l k_holds holds (eqb-true k.var l.var same)) there)
    (λ (some : IsTrue (list_any (λ (d : WitnessLine). d.lit.var == l.var) w.drops)).
    let (d, there, same) = member_of_list_any (λ (d : WitnessLine). d.lit.var == l.var) w.drops some in
    let dropped = dropped_of F fixed w d readable evidence there in
    let is : d.lit ≡ l = same_literal a d.lit l dropped.holds holds (eqb-true d.lit.var l.var same) in
    let true_there = entails_at F l (taken_by w.models d) entailed dropped.is_model in
    absurd (both_ways (is_true (taken_by w.models d) d.lit) dropped.fails (ap (is_true (taken_by w.models d)) is ∙ true_there)))
    (or_cases (list_any (λ (k : Literal). k.var == l.var) fixed) (list_any (λ (d : WitnessLine). d.lit.var == l.var) w.drops)
    (evidence.covered l.var shown))

-- the printed literals are the shown members of the backbone
pub printed_is_right : PrintedIsRight
printed_is_right F lines fixed w proves rises readable units passed =
    let evidence = evidence_of F fixed w readable passed in
    let a = model_in w.models 0 in
    let model = evidence.models a evidence.some in
    let printed : (k : Literal) → Contains fixed k → IsPrintable F lines k =
    λ k there. printable F lines k (each_passed (unit_fault F lines) 2 fixed k units there) in
    let just : IsShownBackboneOf F fixed = record {
      rises = rises;
      just = λ l. (
        λ there. ((printed l there).shown, unit_entailed F lines l proves (printed l there).reached),
        λ both. printed_of F lines fixed w l proves printed readable evidence both.0 both.1,
      );
    } in
    (shown_backbone_determined F a fixed model just, model)
