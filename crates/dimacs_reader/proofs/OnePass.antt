-- A text read byte by byte gives what it means.
use Rattle.std.proofs.Common.{◌≡◌, ℕ, List, length, refl, ap, ◌∙◌, arith}
use Rattle.std.specs.Prelude.{fold, Option, Some, None}
use Rattle.dimacs_reader.specs.Steps.Machine.{Course}
use Rattle.dimacs_reader.specs.Steps.Machine.{Stage}
use Rattle.dimacs_reader.specs.Steps.Machine.{Before, AfterWord, AfterFormat, AfterVars, AfterCount, Clauses}
use Rattle.dimacs_reader.specs.Steps.Machine.{Showing, Shown, Done, Failed}
use Rattle.dimacs_reader.specs.Pieces.{lines}
use Rattle.dimacs_reader.specs.Reading.{reading_of}
use Rattle.dimacs_reader.specs.Steps.Machine.{Scanned, fresh_scan, after_line, outcome_at, flushed, after_bytes, outcome}
use Rattle.dimacs_reader.specs.Scans.{Stands}
use Rattle.dimacs_reader.proofs.Courses.{run_line, course_by_lines, place-after_bytes}
use Rattle.dimacs_reader.proofs.Grammar.{outcome_by_lines}

-- where the text ends, the line's end changes nothing
outcome_at-after_line : (place : ℕ) (s : Stage) → outcome_at place s ≡ outcome_at place (after_line place s)
outcome_at-after_line place Before = refl
outcome_at-after_line place AfterWord = refl
outcome_at-after_line place AfterFormat = refl
outcome_at-after_line place (AfterVars b) = refl
outcome_at-after_line place (AfterCount n b) = refl
outcome_at-after_line place (Clauses n b) = refl
outcome_at-after_line place (Showing n b) = refl
outcome_at-after_line place (Shown n b) = refl
outcome_at-after_line place (Done F) = refl
outcome_at-after_line place (Failed f) = refl

pub one_pass : (text : List ℕ) → outcome (after_bytes fresh_scan text) ≡ reading_of text
unfolding reading_of
one_pass text =
    let s : Scanned = after_bytes fresh_scan text in
    let here : s.place ≡ length text = omega (arith, place-after_bytes fresh_scan text) in
    outcome_at-after_line s.place (flushed s).stage
    ∙ ap (λ (c : Course). outcome_at s.place c.stage) (course_by_lines text)
    ∙ ap (λ n. outcome_at n (fold run_line fresh_scan.course (lines text)).stage) here
    ∙ outcome_by_lines (length text) (lines text)

-- what a scan gives that stands for a text
pub outcome_of_stands : (scan : Option Scanned) (s : Scanned) (text : List ℕ) → scan ≡ Some s → Stands scan text
    → outcome s ≡ reading_of text
outcome_of_stands None s text is stands = absurd (cc)
outcome_of_stands (Some t) s text is stands =
    let same : s ≡ after_bytes fresh_scan text = cc in
    ap outcome same ∙ one_pass text
