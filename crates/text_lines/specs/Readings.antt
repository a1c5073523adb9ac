-- What a text means by a grammar that goes line by line.
use Rattle.std.specs.Prelude.{◌≡◌, ℕ, ◌+◌, List, [], ◌∷◌, length, Option, Some, None, Result, Ok, Err}
use Rattle.bone_desk.specs.Told.{Told}
use Rattle.bone_desk.specs.declared.desk.Feed.{Feed}
use Rattle.text_lines.specs.declared.feed.FeedEnd.{FeedEnd}
use Rattle.text_lines.specs.declared.feed.FeedEnd.TheVariants as feed_end
use Rattle.text_lines.specs.declared.read.TextEnd.{TextEnd}
use Rattle.text_lines.specs.declared.read.TextEnd.TheVariants.{Fault, TooLong, Bad, Memory}
use Rattle.text_lines.specs.declared.read.Refusal.{Refusal}
use Rattle.text_lines.specs.declared.read.Refusal.TheVariants as refusal
use Rattle.text_lines.specs.Lines.{Line, lines_of}
use Rattle.text_lines.specs.Feeds.{Came, CameWhole, IsReadFault, IsTooLong}

-- A grammar over lines has a state `S` and faults `F`: a step takes one line, and an end test says what is at fault
-- where the text ends.

-- the first line at fault, from 1; a line that is missing has the number behind the last one
pub record FaultAt (F : Type 0) : Type 0 where
  pub line : ℕ
  pub fault : F

-- the next step, unless a line was at fault
infixl 10 ◌>>=◌
abbrev pub ◌>>=◌ : {S T F : Type 0} → Result S (FaultAt F) → (S → Result T (FaultAt F)) → Result T (FaultAt F)
Ok s >>= f = f s
Err e >>= f = Err e

-- a fault gets its line
abbrev pub at_line : {S F : Type 0} → ℕ → Result S F → Result S (FaultAt F)
at_line n (Ok s) = Ok s
at_line n (Err fault) = Err (record { line = n; fault = fault })

-- the state behind the lines, of which the first has the number n; the first line at fault decides
abbrev pub steps : {S F : Type 0} → (S → Line → Result S F) → ℕ → S → List Line → Result S (FaultAt F)
steps step n s [] = Ok s
steps step n s (l ∷ ls) = at_line n (step s l) >>= λ t. steps step (n + 1) t ls

-- a text that may not end here is at fault behind its last line
abbrev pub ended : {S F : Type 0} → ℕ → S → Option F → Result S (FaultAt F)
ended n s None = Ok s
ended n s (Some fault) = Err (record { line = n; fault = fault })

-- the state behind all lines, or the first line at fault
abbrev pub reading : {S F : Type 0} → (S → Line → Result S F) → (S → Option F) → S → List ℕ → Result S (FaultAt F)
reading step end s text =
    steps step 1 s (lines_of text) >>= λ t. ended (length (lines_of text) + 1) t (end t)

-- the answer where the feed gives no further line
abbrev pub text_end_of : {F : Type 0} → FeedEnd → TextEnd F
text_end_of feed_end.Fault = Fault
text_end_of feed_end.TooLong = TooLong
text_end_of feed_end.Memory = Memory

-- the answer where a line isn't taken
abbrev pub refused : {F : Type 0} → ℕ → Refusal F → TextEnd F
refused line (refusal.Fault fault) = Bad line fault
refused line refusal.Memory = Memory

-- the answer to a line: what the step says, or want of memory, of which nothing is said
abbrev pub Takes : {S F : Type 0} → Result S F → S → Result (Unit {0}) (Refusal F) → Type 0
Takes given new (Ok unit) = given ≡ Ok new
Takes given new (Err (refusal.Fault fault)) = given ≡ Err fault
Takes given new (Err refusal.Memory) = Unit {0}

-- the whole text came, and this is what it means
pub record IsReadAs {S F : Type 0} (feed : Feed) (limit : ℕ) (now : Told) (text : List ℕ) (means given : Result S (FaultAt F))
    : Type 0 where
  pub came : CameWhole feed limit now text
  pub reading : means ≡ given

-- what each answer says of the text that came: `means` is its meaning, and `s` the state that it was left in
abbrev pub Answers : {S F : Type 0} → Feed → ℕ → Told → Told → List ℕ → Result S (FaultAt F) → S
    → Result (Unit {0}) (TextEnd F) → Type 0
Answers feed limit old new text means s (Ok unit) = IsReadAs feed limit new text means (Ok s)
Answers feed limit old new text means s (Err (Bad line fault)) =
    IsReadAs feed limit new text means (Err (record { line = line; fault = fault }))
Answers feed limit old new text means s (Err Fault) = IsReadFault feed limit old new text
Answers feed limit old new text means s (Err TooLong) = IsTooLong limit text
Answers feed limit old new text means s (Err Memory) = Unit {0}

-- the text that came of the feed, and what the answer says of it, where `means` is the meaning of each text
pub record ReadsText {S F : Type 0} (feed : Feed) (limit : ℕ) (old new : Told) (means : List ℕ → Result S (FaultAt F)) (s : S)
    (result : Result (Unit {0}) (TextEnd F)) : Type 0 where
  pub text : List ℕ
  pub came : Came feed old new text
  pub answer : Answers feed limit old new text (means text) s result
