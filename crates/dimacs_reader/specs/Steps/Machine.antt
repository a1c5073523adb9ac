-- A text read byte by byte: the state that a scan is in, and what a byte does to it.
use Rattle.std.specs.Prelude.{ℕ, ◌+◌, ◌^◌, ◌==◌, nat_le, Bool, true, false, ◌&&◌, ◌||◌}
use Rattle.std.specs.Prelude.{if◌then◌else◌, List, length, fold, Result, Ok, Err}
use Rattle.cnf_core.specs.Formulas.{Cnf}
use Rattle.dimacs_reader.specs.declared.fault.BadKind.TheVariants.{NoHeader, BadHeader}
use Rattle.dimacs_reader.specs.declared.fault.BadKind.TheVariants.{TooManyClauses, BadShow}
use Rattle.dimacs_reader.specs.declared.fault.BadKind.{BadKind}
use Rattle.dimacs_reader.specs.declared.fault.Fault.{Fault}
use Rattle.dimacs_reader.specs.declared.course.LineKind.{LineKind}
use Rattle.dimacs_reader.specs.declared.course.LineKind.TheVariants.{Fresh, Comment, AfterC, AfterCP, Inside}
use Rattle.dimacs_reader.specs.declared.course.Phase.{Phase}
use Rattle.dimacs_reader.specs.declared.course.Phase.TheVariants as phase
use Rattle.dimacs_reader.specs.declared.pass.Mark.{Mark}
use Rattle.dimacs_reader.specs.declared.word.Word.{Word}
use Rattle.dimacs_reader.specs.declared.word.Word.TheVariants.{Nothing}
use Rattle.dimacs_reader.specs.Pieces.{is_line_feed, is_blank}
use Rattle.dimacs_reader.specs.Reading.{no_clauses, limited, literal_from, Partial, ended, fault_at}
use Rattle.dimacs_reader.specs.Reading.{restricting, showing_also, show_number}
use Rattle.dimacs_reader.specs.Steps.Words.{byte_after, is_nothing, is_p, is_cnf, is_c, is_show_word}
use Rattle.dimacs_reader.specs.Steps.Words.{is_remark, is_percent}
use Rattle.dimacs_reader.specs.Steps.Words.{number_in, literal_in}

-- How far a text has come.
pub data Stage : Type 0 where
  -- before the header
  Before : Stage
  -- after the word `p`
  AfterWord : Stage
  -- after the word `cnf`
  AfterFormat : Stage
  -- after the number of variables
  AfterVars : Partial → Stage
  -- after the number of clauses, in the same line
  AfterCount : ℕ → Partial → Stage
  -- among the clauses
  Clauses : ℕ → Partial → Stage
  -- in a show line, before its end
  Showing : ℕ → Partial → Stage
  -- in a show line, behind its end
  Shown : ℕ → Partial → Stage
  -- behind a line that ends the clauses
  Done : Cnf → Stage
  -- after the first fault
  Failed : Fault → Stage

-- the stage of a phase: what was read behind the header, as far as the phase says
abbrev pub stage_at : Phase → ℕ → Partial → Stage
stage_at phase.Before n b = Before
stage_at phase.AfterWord n b = AfterWord
stage_at phase.AfterFormat n b = AfterFormat
stage_at phase.AfterVars n b = AfterVars b
stage_at phase.AfterCount n b = AfterCount n b
stage_at phase.Clauses n b = Clauses n b
stage_at phase.Showing n b = Showing n b
stage_at phase.Shown n b = Shown n b
stage_at phase.Done n b = Done b.formula
stage_at (phase.Failed e) n b = Failed e

-- a stage, and what the line has shown
pub record Course : Type 0 where
  pub line : LineKind
  pub stage : Stage

abbrev pub course_at : LineKind → Stage → Course
course_at line stage = record { line = line; stage = stage }

-- before any token
abbrev pub first_course : Course
first_course = course_at Fresh Before

-- the stage that the result of a step leads to
abbrev pub stage_of : {A : Type 0} → (A → Stage) → Result A Fault → Stage
stage_of next (Ok x) = next x
stage_of next (Err e) = Failed e

abbrev pub failed : BadKind → ℕ → Stage
failed kind place = Failed (record { kind = kind; place = place })

-- the stage after a word of the header that has to be there
abbrev pub word_stage : Bool → Stage → BadKind → ℕ → Stage
word_stage fits next kind place = if fits then next else failed kind place

-- one token more of the clauses, of which there are to be so many
abbrev pub after_literal : ℕ → Partial → ℕ → Word → Result Partial Fault
after_literal clauses b place w =
    if nat_le clauses (length b.formula.clauses) then fault_at TooManyClauses place
    else literal_from b place (literal_in w)

-- after a number of a show line: a variable, or its end
abbrev pub show_stage : ℕ → Partial → ℕ → Stage
show_stage clauses b v = if v == 0 then Shown clauses b else Showing clauses (showing_also b v)

-- after one token more, at this place, which may be the first of its line
abbrev pub after_word : Bool → Stage → ℕ → Word → Stage
after_word first Before place w = word_stage (is_p w) AfterWord NoHeader place
after_word first AfterWord place w = word_stage (is_cnf w) AfterFormat BadHeader place
after_word first AfterFormat place w =
    stage_of (λ n. AfterVars (no_clauses n)) (limited (2 ^ 20) place (number_in w))
after_word first (AfterVars b) place w =
    stage_of (λ n. AfterCount n b) (limited (2 ^ 21) place (number_in w))
after_word first (AfterCount n b) place w = failed BadHeader place
after_word first (Clauses n b) place w =
    if first && is_percent w then stage_of Done (ended n place b)
    else stage_of (Clauses n) (after_literal n b place w)
after_word first (Showing n b) place w =
    stage_of (show_stage n b) (show_number b.formula.vars place (number_in w))
after_word first (Shown n b) place w = failed BadShow place
after_word first (Done F) place w = Done F
after_word first (Failed e) place w = Failed e

-- after a line that ends at this place
abbrev pub after_line : ℕ → Stage → Stage
after_line place Before = Before
after_line place AfterWord = failed BadHeader place
after_line place AfterFormat = failed BadHeader place
after_line place (AfterVars b) = failed BadHeader place
after_line place (AfterCount n b) = Clauses n b
after_line place (Clauses n b) = Clauses n b
after_line place (Showing n b) = failed BadShow place
after_line place (Shown n b) = Clauses n b
after_line place (Done F) = Done F
after_line place (Failed e) = Failed e

-- what the text gives where it ends at this place
abbrev pub outcome_at : ℕ → Stage → Result Cnf Fault
outcome_at place Before = fault_at NoHeader place
outcome_at place AfterWord = fault_at BadHeader place
outcome_at place AfterFormat = fault_at BadHeader place
outcome_at place (AfterVars b) = fault_at BadHeader place
outcome_at place (AfterCount n b) = ended n place b
outcome_at place (Clauses n b) = ended n place b
outcome_at place (Showing n b) = fault_at BadShow place
outcome_at place (Shown n b) = ended n place b
outcome_at place (Done F) = Ok F
outcome_at place (Failed e) = Err e

abbrev pub is_comment : LineKind → Bool
is_comment Comment = true
is_comment line = false

abbrev pub is_over : Stage → Bool
is_over (Done F) = true
is_over (Failed e) = true
is_over s = false

-- whether the rest of the line is passed over: in a comment, behind the clauses, and after a fault
abbrev pub is_idle : Course → Bool
is_idle c = is_comment c.line || is_over c.stage

-- after the third word of a show line: among the clauses one begins, elsewhere the line is a comment
abbrev pub show_course : Stage → Course
show_course (Clauses n b) = course_at Inside (Showing n (restricting b))
show_course s = course_at Comment s

-- a line that begins as a comment may begin, after one token more
abbrev pub comment_line : LineKind → Word → LineKind
comment_line Fresh w = if is_c w then AfterC else Comment
comment_line AfterC w = if is_p w then AfterCP else Comment
comment_line line w = Comment

-- after one token more of such a line
abbrev pub after_remark : LineKind → Stage → Word → Course
after_remark AfterCP s w = if is_show_word w then show_course s else course_at Comment s
after_remark line s w = course_at (comment_line line w) s

-- whether the line begins as a comment may begin, with one token more
abbrev pub is_remark_line : LineKind → Word → Bool
is_remark_line Inside w = false
is_remark_line Fresh w = is_remark w
is_remark_line line w = true

abbrev pub is_fresh : LineKind → Bool
is_fresh Fresh = true
is_fresh line = false

-- after one token more of a line of this kind
abbrev pub after_token_in : LineKind → Stage → ℕ → Word → Course
after_token_in line s place w =
    if is_remark_line line w then after_remark line s w
    else course_at Inside (after_word (is_fresh line) s place w)

abbrev pub after_token : Course → ℕ → Word → Course
after_token c place w = if is_idle c then c else after_token_in c.line c.stage place w

abbrev pub after_end : Course → ℕ → Course
after_end c place = record { line = Fresh; stage = after_line place c.stage }

-- how far a text was read: the number of its bytes, the place where the token that isn't over began,
-- or where one can begin, what its bytes are so far, and what the tokens before it led to
pub record Scanned : Type 0 where
  pub place : ℕ
  pub start : ℕ
  pub word : Word
  pub course : Course

abbrev pub scanned_at : ℕ → ℕ → Word → Course → Scanned
scanned_at place start word course =
    record { place = place; start = start; word = word; course = course }

-- a mark in a text, and what the tokens that are over led to
abbrev pub scan_of : Mark → Course → Scanned
scan_of m course = scanned_at m.place m.start m.word course

-- where no token is open
abbrev pub between_at : ℕ → Course → Scanned
between_at place course = scanned_at place place Nothing course

abbrev pub fresh_scan : Scanned
fresh_scan = between_at 0 first_course

-- where the token is over
abbrev pub flushed_at : ℕ → Word → Course → Course
flushed_at start w c = if is_nothing w then c else after_token c start w

abbrev pub flushed : Scanned → Course
flushed s = flushed_at s.start s.word s.course

abbrev pub after_byte : Scanned → ℕ → Scanned
after_byte s b =
    if is_line_feed b then between_at (s.place + 1) (after_end (flushed s) s.place)
    else (if is_blank b then between_at (s.place + 1) (flushed s)
    else scanned_at (s.place + 1) s.start (byte_after s.word b) s.course)

abbrev pub after_bytes : Scanned → List ℕ → Scanned
after_bytes s text = fold after_byte s text

-- what the text that was read gives, if it ends here
abbrev pub outcome : Scanned → Result Cnf Fault
outcome s = outcome_at s.place (flushed s).stage
