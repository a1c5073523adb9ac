-- A proof with one line more.
use Rattle.std.proofs.Common.{◌≡◌, List, [], ◌∷◌, ◌++◌, Result, Ok, refl, sym, ap, ◌∙◌}
use Rattle.std.proofs.Common.{append_assoc, append-nil}
use Rattle.std.specs.Prelude.{flat_map}
use Rattle.std.proofs.lemmas.List.Concat.{flat_map-append}
use Rattle.cnf_core.specs.Literals.{Literals}
use Rattle.cnf_core.specs.Formulas.{Cnf}
use Rattle.lrat_lines.specs.declared.line.Line.{Line}
use Rattle.lrat_lines.specs.Propagation.{Refusal}
use Rattle.lrat_lines.specs.Proofs.{Progress, start, then_line, after_lines, checked, added, reached}

after_lines-push : (F : Cnf) (r : Result Progress Refusal) (lines : List Line) (line : Line)
    → after_lines F r (lines ++ line ∷ []) ≡ then_line F (after_lines F r lines) line
after_lines-push F r [] line = refl
after_lines-push F r (first ∷ lines) line = after_lines-push F (then_line F r first) lines line

-- one line more is checked where the lines before it lead
pub checked-push : (F : Cnf) (lines : List Line) (line : Line) → checked F (lines ++ line ∷ []) ≡ then_line F (checked F lines) line
unfolding checked
checked-push F lines line = after_lines-push F _ lines line

pub reached-push : (F : Cnf) (lines : List Line) (line : Line) → reached F (lines ++ line ∷ []) ≡ reached F lines ++ added line
reached-push F lines line =
    ap (λ (sets : List Literals). F.clauses ++ sets) (flat_map-append added lines (line ∷ [])
    ∙ ap (λ (sets : List Literals). flat_map added lines ++ sets) (append-nil (added line)))
    ∙ sym (append_assoc F.clauses (flat_map added lines) (added line))

pub checked-nil : (F : Cnf) → checked F [] ≡ Ok (start F)
unfolding checked
checked-nil F = refl

pub reached-nil : (F : Cnf) → reached F [] ≡ F.clauses
reached-nil F = append-nil F.clauses
