-- The text of a proof up to a line, and from there on.
use Rattle.std.proofs.Common.{◌≡◌, ℕ, ◌+◌, ◌<◌, List, [], ◌++◌, length, take, drop, get_or, sym, ◌∙◌, ap, take-append-drop}
use Rattle.std.proofs.lemmas.List.{take_more, flat_map_more}
use Rattle.std.proofs.lemmas.List.Concat.{flat_map-append}
use Rattle.lrat_lines.specs.declared.line.Line.{Line}
use Rattle.lrat_lines.specs.Printed.{line_text, proof_text}

pub text_more : (lines : List Line) (i : ℕ) (line : Line) → i < length lines → line ≡ get_or lines i line
    → proof_text (take i lines) ++ line_text line ≡ proof_text (take (i + 1) lines)
text_more lines i line lt is =
    ap (λ (l : Line). proof_text (take i lines) ++ line_text l) is
    ∙ flat_map_more line_text [] (take i lines) (get_or lines i line)
    ∙ sym (ap proof_text (take_more lines i line lt))

pub text_split : (lines : List Line) (i : ℕ) → proof_text (take i lines) ++ proof_text (drop i lines) ≡ proof_text lines
text_split lines i = sym (flat_map-append line_text (take i lines) (drop i lines)) ∙ ap proof_text (take-append-drop i lines)

-- the lines so far are a front of all lines, and with the next line they are one too
pub text_around : (lines : List Line) (i : ℕ) (line : Line) → i < length lines → line ≡ get_or lines i line
    → (proof_text (take i lines) ++ line_text line) ++ proof_text (drop (i + 1) lines) ≡ proof_text lines
text_around lines i line lt is =
    ap (λ (front : List ℕ). front ++ proof_text (drop (i + 1) lines)) (text_more lines i line lt is)
    ∙ text_split lines (i + 1)
