-- The drop lines before a place, model by model.
use Rattle.std.proofs.Common.{◌≡◌, ℕ, ◌+◌, ◌<◌, ◌≤◌, IsTrue, List, [], ◌∷◌, Some, length, get_or, sym, ◌∙◌, subst, inl, inr, arith}
use Rattle.std.specs.Prelude.{slice_get}
use Rattle.std.proofs.lemmas.Bool.{cases_eq, cases_lt}
use Rattle.std.proofs.lemmas.List.{get_or_default}
use Rattle.std.proofs.lemmas.Option.{slice_get-get_or}
use Rattle.cnf_core.specs.Literals.{Assignment}
use Rattle.cnf_core.specs.Formulas.{Cnf}
use Rattle.witness_text.specs.declared.line.WitnessLine.{WitnessLine}
use Rattle.bone_check.specs.Witnessing.{is_against, drop_fault}
use Rattle.bone_check.specs.declared.verdict.Reason.TheVariants.{NotAgainst}
use Rattle.bone_check.specs.declared.verdict.Verdict.TheVariants.{Verified, NotVerified}
use Rattle.bone_check.specs.Tests.{each_from}
use Rattle.bone_check.specs.Steps.Dropping.{IsNext, AreNamed, PassBefore, PassBelow, FailsAt}
use Rattle.bone_check.proofs.TestLemmas.{each_below, each_stop, each_all}
use Rattle.bone_check.proofs.Against.{drop_passes, drop_fails}
use Rattle.bone_check.proofs.Chained.{within_of, same_line}

-- before the first line that takes the model there is none
pub pass_first : (F : Cnf) (models : List Assignment) (drops : List WitnessLine) (k place : ℕ) → IsNext drops k 0 place
    → PassBefore F models drops k place
pass_first F models drops k place next i d before here takes = absurd (next.between i d (omega arith) before here takes)

-- one line more that takes it and passes
pub pass_next : (F : Cnf) (models : List Assignment) (drops : List WitnessLine) (k place next : ℕ) (d : WitnessLine)
    → slice_get drops place ≡ Some d → d.model ≡ k → IsTrue (is_against F models d) → IsNext drops d.model (place + 1) next
    → PassBefore F models drops k place → PassBefore F models drops k next
pass_next F models drops k place next d here model against is so_far i e before there takes = elim (cases_lt i place) [
  | inl earlier ↦ so_far i e earlier there takes
  | inr le ↦ elim (cases_eq i place) [
    | inl same ↦
        subst (λ (x : WitnessLine). IsTrue (is_against F models x))
        (same_line drops place d e here (subst (λ (p : ℕ). slice_get drops p ≡ Some e) same there)) against
    | inr later ↦ absurd (is.between i e (omega arith) before there (takes ∙ sym model))
  ]
]

-- one model more
pub pass_model : (F : Cnf) (models : List Assignment) (drops : List WitnessLine) (count least place : ℕ) → place ≤ least
    → PassBelow F models drops count least → PassBefore F models drops count place → PassBelow F models drops (count + 1) place
pass_model F models drops count least place le below here i d before there takes = elim (cases_eq d.model count) [
  | inl same ↦ here i d before there same
  | inr other ↦ below i d (omega arith) there (omega arith)
]

pub fails_at : (F : Cnf) (models : List Assignment) (drops : List WitnessLine) (least place : ℕ) → place ≤ least
    → FailsAt F models drops least → (place < least → FailsAt F models drops place) → FailsAt F models drops place
fails_at F models drops least place le old new d here = elim (cases_lt place least) [
  | inl lower ↦ new lower d here
  | inr same ↦ (let is : place ≡ least = omega arith in old d (subst (λ (p : ℕ). slice_get drops p ≡ Some d) is here))
]

pub fails_end : (F : Cnf) (models : List Assignment) (drops : List WitnessLine) → FailsAt F models drops (length drops)
fails_end F models drops d here = let lt = within_of drops (length drops) d here in absurd (omega arith)

-- the verdict, by the first line that doesn't pass
pub drops_pass : (F : Cnf) (models : List Assignment) (drops : List WitnessLine) (start place : ℕ) → place ≡ length drops
    → AreNamed (length models) drops → PassBelow F models drops (length models) place
    → each_from (drop_fault F models) start drops ≡ Verified
drops_pass F models drops start place is named pass =
    each_all (drop_fault F models) start drops place (omega arith)
    (each_below (drop_fault F models) start drops place (omega arith)
    (λ i d before here. drop_passes F models d (pass i d before here (named i d here))))

pub drops_fail : (F : Cnf) (models : List Assignment) (drops : List WitnessLine) (start place : ℕ) (d : WitnessLine)
    → slice_get drops place ≡ Some d → d ≡ get_or drops place d
    → AreNamed (length models) drops → PassBelow F models drops (length models) place → FailsAt F models drops place
    → each_from (drop_fault F models) start drops ≡ NotVerified NotAgainst (start + place)
drops_fail F models drops start place d here read named pass fails =
    each_stop (drop_fault F models) start drops place d NotAgainst (within_of drops place d here) read
    (each_below (drop_fault F models) start drops place (omega (arith, within_of drops place d here))
    (λ i e before there. drop_passes F models e (pass i e before there (named i e there))))
    (drop_fails F models d (fails d here))

pub drops_fail_at : (F : Cnf) (models : List Assignment) (drops : List WitnessLine) (start place : ℕ) → place < length drops
    → AreNamed (length models) drops → PassBelow F models drops (length models) place → FailsAt F models drops place
    → each_from (drop_fault F models) start drops ≡ NotVerified NotAgainst (start + place)
drops_fail_at F models drops start place lt named pass fails = by_line drops lt named pass fails
  where
    by_line : (drops : List WitnessLine) → place < length drops → AreNamed (length models) drops
        → PassBelow F models drops (length models) place → FailsAt F models drops place
        → each_from (drop_fault F models) start drops ≡ NotVerified NotAgainst (start + place)
    by_line [] lt named pass fails = absurd (omega arith)
    by_line (x ∷ xs) lt named pass fails =
        let d : WitnessLine = get_or (x ∷ xs) place x in
        drops_fail F models (x ∷ xs) start place d (slice_get-get_or (x ∷ xs) place x lt) (get_or_default (x ∷ xs) place x d lt) named pass fails
