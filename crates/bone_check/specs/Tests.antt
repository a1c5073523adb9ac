-- Tests, one after another, and the verdict that they make.
use Rattle.std.specs.Prelude.{ℕ, ◌+◌, List, [], ◌∷◌, Option, Some, None}
use Rattle.bone_check.specs.declared.verdict.Reason.{Reason}
use Rattle.bone_check.specs.declared.verdict.Verdict.{Verdict}
use Rattle.bone_check.specs.declared.verdict.Verdict.TheVariants.{Verified, NotVerified}

-- the verdict of a test at a place, by the reason why it fails, if it does
abbrev pub at_place : ℕ → Option Reason → Verdict
at_place place None = Verified
at_place place (Some reason) = NotVerified reason place

-- the verdict of tests that come in this order: the first that fails decides
infixr 5 ◌then◌
abbrev pub ◌then◌ : Verdict → Verdict → Verdict
Verified then later = later
NotVerified reason place then later = NotVerified reason place

-- the verdict of one test on each element in turn, the first of which stands at this place
abbrev pub each_from : {X : Type 0} → (X → Option Reason) → ℕ → List X → Verdict
each_from test place [] = Verified
each_from test place (x ∷ xs) = at_place place (test x) then each_from test (place + 1) xs
