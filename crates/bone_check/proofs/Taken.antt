-- What the answers of a reader of lines and of a checker say of a line's text.
use Rattle.std.proofs.Common.{◌≡◌, ℕ, true, false, List, [], ◌∷◌, ◌++◌, Some, Result, Ok, Err, refl, ap, ◌∙◌}
use Rattle.cnf_core.specs.Formulas.{Cnf}
use Rattle.lrat_lines.specs.declared.line.Line.{Line}
use Rattle.lrat_lines.specs.declared.line.LineEnd.{LineEnd}
use Rattle.lrat_lines.specs.declared.line.LineEnd.TheVariants as read
use Rattle.lrat_lines.specs.Grammar.{line_of, Gives}
use Rattle.lrat_lines.specs.Propagation.{Refusal}
use Rattle.lrat_lines.specs.Proofs.{Progress, checked}
use Rattle.lrat_checker.specs.declared.refused.Refused.{Refused}
use Rattle.lrat_checker.specs.declared.refused.Refused.TheVariants as refused
use Rattle.lrat_checker.specs.Refusals.{refusal_in}
use Rattle.lrat_checker.specs.Checking.{Kept, StandsFor, Answers}
use Rattle.bone_check.specs.declared.line.Untaken.{Untaken}
use Rattle.bone_check.specs.declared.line.Untaken.TheVariants.{Fails, Memory}
use Rattle.bone_check.specs.Proving.{is_skipped, refusal_reason, unless_refused, with_line, after_text}
use Rattle.bone_check.specs.Steps.Taking.{untaken_end, untaken_refusal, LineSays, Leads, TextSays}

refused_by : (lines : List Line) (r : Result Progress Refusal) (refusal : Refusal) → refusal_in r ≡ Some refusal
    → unless_refused lines r ≡ Err (refusal_reason refusal)
refused_by lines (Ok p) refusal is = absurd (cc)
refused_by lines (Err other) refusal is = let same : other ≡ refusal = cc in ap (λ (x : Refusal). Err (refusal_reason x)) same

-- the checker's answers
pub line_refused : (F : Cnf) (lines : List Line) (line : Line) (new : Kept) (end : Refused)
    → Answers F lines line new (Err end) → LineSays F lines line new (Err (untaken_refusal end))
line_refused F lines line new (refused.IdNotRising id) is = refused_by _ (checked F (lines ++ line ∷ [])) _ is
line_refused F lines line new (refused.VarRange number) is = refused_by _ (checked F (lines ++ line ∷ [])) _ is.2
line_refused F lines line new (refused.UnknownHint id) is = refused_by _ (checked F (lines ++ line ∷ [])) _ is
line_refused F lines line new (refused.NotUnit id) is = refused_by _ (checked F (lines ++ line ∷ [])) _ is
line_refused F lines line new refused.NoConflict is = refused_by _ (checked F (lines ++ line ∷ [])) _ is
line_refused F lines line new refused.Memory is = tt

at_text : (F : Cnf) (lines : List Line) (text : List ℕ) (given : Result Line LineEnd) → is_skipped text ≡ false → line_of text ≡ given
    → after_text F lines text ≡ with_line F lines given
at_text F lines text given skipped is = rw (skipped, is) refl

-- a text that is no line
pub text_ended : (F : Cnf) (lines : List Line) (text : List ℕ) (new : Kept) (end : LineEnd) → is_skipped text ≡ false
    → Gives {A = Line} (Err end) (line_of text) → TextSays F lines text new (Err (untaken_end end))
text_ended F lines text new read.BadToken skipped is = at_text F lines text (Err read.BadToken) skipped is
text_ended F lines text new read.NotEnded skipped is = at_text F lines text (Err read.NotEnded) skipped is
text_ended F lines text new read.NegativeHint skipped is = at_text F lines text (Err read.NegativeHint) skipped is
text_ended F lines text new read.Memory skipped is = tt

-- a text that is skipped
pub text_skipped : (F : Cnf) (lines : List Line) (text : List ℕ) (kept : Kept) → is_skipped text ≡ true → StandsFor kept F lines
    → Leads F lines text kept
text_skipped F lines text kept skipped stands = record { after = lines; leads = rw skipped refl; stands = stands }

-- a text that is a line
pub text_taken : (F : Cnf) (lines : List Line) (text : List ℕ) (line : Line) (new : Kept) (result : Result (Unit {0}) Untaken)
    → is_skipped text ≡ false → line_of text ≡ Ok line → LineSays F lines line new result → TextSays F lines text new result
text_taken F lines text line new (Ok done) skipped is stands = record {
  after = lines ++ line ∷ [];
  leads = at_text F lines text (Ok line) skipped is ∙ ap (unless_refused (lines ++ line ∷ [])) stands.taken;
  stands = stands;
}
text_taken F lines text line new (Err (Fails reason)) skipped is says = at_text F lines text (Ok line) skipped is ∙ says
text_taken F lines text line new (Err Memory) skipped is says = tt
