-- A text that is given: what was read of it, and what it means.
use Rattle.std.proofs.Common.{◌≡◌, ℕ, ◌≤◌, ◌++◌, List, [], length, Option, Some, None, Ok, Err, sym, ap, ◌∙◌, subst, arith}
use Rattle.std.specs.Prelude.{option_map, IfSome, Result}
use Rattle.std.proofs.lemmas.List.{append-nil, length-append}
use Rattle.bone_desk.specs.declared.desk.Feed.TheVariants as feed
use Rattle.bone_desk.specs.declared.desk.Act.{Act}
use Rattle.bone_desk.specs.Told.{Told, Rose}
use Rattle.cnf_core.specs.Formulas.{Cnf}
use Rattle.dimacs_reader.specs.declared.fault.Fault.{Fault}
use Rattle.dimacs_reader.specs.Feeds.{IsTooLong}
use Rattle.backbone_main.specs.declared.ending.Ending.{Ending}
use Rattle.backbone_main.specs.Causes.{FindsTooLong, IsFaultless, IsOneOf, Means, ReadsText}
use Rattle.backbone_main.specs.Endings.{code_of}

-- what was taken of a text that was given
taken : (given text : List ℕ) (left after : Option (List ℕ)) → left ≡ Some given → left ≡ option_map (λ rest. text ++ rest) after
    → IfSome after (λ rest. rest ≡ []) → given ≡ text
taken given text left None is took end = absurd (cc)
taken given text left (Some rest) is took end =
    let same : given ≡ text ++ rest = cc in
    same ∙ ap (λ (more : List ℕ). text ++ more) end ∙ append-nil text

pub no_longer : (given text : List ℕ) (left after : Option (List ℕ)) → left ≡ Some given
    → left ≡ option_map (λ rest. text ++ rest) after → length text ≤ length given
no_longer given text left None is took = absurd (cc)
no_longer given text left (Some rest) is took =
    let same : given ≡ text ++ rest = cc in
    omega (arith, ap length same, length-append text rest)

-- what was read is what the text means
pub meant : {given : Result Cnf Fault} (text : List ℕ) (old new : Told) → old.left feed.Text ≡ Some text → ReadsText given old new
    → Means text given
meant {given} text old new is reads =
    let same = taken text reads.text (old.left feed.Text) (new.left feed.Text) is reads.took reads.read.whole in
    let P : List ℕ → Type 0 = λ t. Means t given in
    subst P (sym same) (record { limit = reads.read.limit; reading = reads.read.reading })

pub given_too_long : (text : List ℕ) (old new : Told) → old.left feed.Text ≡ Some text → FindsTooLong old new → IsTooLong text
given_too_long text old new is found =
    let most = no_longer text found.text (old.left feed.Text) (new.left feed.Text) is found.took in
    omega (arith, most, found.long)

pub never_rose : (act : Act) (old new : Told) → IsFaultless act old new → Rose act old new → ⊥
never_rose act old new is rose = let more = rose is.below in absurd (omega (arith, is.same, more))

-- the text means a formula
pub record MeansFormula (text : List ℕ) : Type 0 where
  pub formula : Cnf
  pub means : Means text (Ok formula)

pub means_formula : (text : List ℕ) (F : Cnf) (old new : Told) → old.left feed.Text ≡ Some text → ReadsText (Ok F) old new
    → MeansFormula text
means_formula text F old new is reads = record { formula = F; means = meant text old new is reads }

-- a text that is too long means nothing, and one that means a formula has no fault
pub long_means : (text : List ℕ) (given : Result Cnf Fault) → IsTooLong text → Means text given → ⊥
long_means text given long means = absurd (omega (arith, long, means.limit))

pub both_mean : (text : List ℕ) (F : Cnf) (fault : Fault) → Means text (Ok F) → Means text (Err fault) → ⊥
both_mean text F fault good bad =
    let same : Ok F ≡ Err fault = sym good.reading ∙ bad.reading in
    absurd (cc)

pub same_meaning : (text : List ℕ) (F G : Cnf) → Means text (Ok F) → Means text (Ok G) → G ≡ F
same_meaning text F G means found =
    let same : Ok F ≡ Ok G = sym means.reading ∙ found.reading in
    cc

-- what is said of an ending's status is said of that status
pub at_code : (codes : List ℕ) (number : ℕ) (ending : Ending) → number ≡ code_of ending → IsOneOf (code_of ending) codes
    → IsOneOf number codes
at_code codes number ending is_code is = subst (λ (k : ℕ). IsOneOf k codes) (sym is_code) is
