-- Where a text has a meaning, it may end.
use Rattle.std.proofs.Common.{◌≡◌, ℕ, ◌+◌, List, length, Option, Some, None, Result, Ok, Err, refl, sym, ◌∙◌, ap}
use Rattle.text_lines.specs.Lines.{Line, lines_of}
use Rattle.text_lines.specs.Readings.{FaultAt, ◌>>=◌, steps, ended, reading}

ended_none : {S F : Type 0} (end : S → Option F) (n : ℕ) (u t : S) (o : Option F) → end u ≡ o → ended n u o ≡ Ok t → end t ≡ None
ended_none end n u t None is given = ap (λ (s : _). end s) (sym (cc given)) ∙ is
ended_none end n u t (Some fault) is given = absurd (cc given)

ended_by : {S F : Type 0} (end : S → Option F) (n : ℕ) (t : S) (r : Result S (FaultAt F)) → (r >>= λ u. ended n u (end u)) ≡ Ok t → end t ≡ None
ended_by end n t (Ok u) given = ended_none end n u t (end u) refl given
ended_by end n t (Err e) given = absurd (cc given)

pub reading_ended : {S F : Type 0} (step : S → Line → Result S F) (end : S → Option F) (s t : S) (text : List ℕ)
    → reading step end s text ≡ Ok t → end t ≡ None
reading_ended step end s t text given = ended_by end (length (lines_of text) + 1) t (steps step 1 s (lines_of text)) given
