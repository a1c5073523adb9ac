-- The answer's text by whether the formula has a model.
use Rattle.std.proofs.Common.{◌≡◌, ◌≢◌, List, [], ◌∷◌, ap, refl}
use Rattle.cnf_core.specs.Literals.{Literals, Assignment}
use Rattle.cnf_core.specs.Formulas.{Cnf, models, shown_backbone}
use Rattle.answer_text.specs.AnswerText.{answer_text, verdict_text, unsat_text, sat_text}

verdict_text-some : (all : List Assignment) (fixed : Literals) → all ≢ [] → verdict_text all fixed ≡ sat_text fixed
verdict_text-some [] fixed some = absurd (some refl)
verdict_text-some (a ∷ more) fixed some = refl

pub answer_text-sat : (F : Cnf) → models F ≢ [] → answer_text F ≡ sat_text (shown_backbone F)
unfolding answer_text
answer_text-sat F some = verdict_text-some (models F) (shown_backbone F) some

pub answer_text-unsat : (F : Cnf) → models F ≡ [] → answer_text F ≡ unsat_text
unfolding answer_text
answer_text-unsat F none = ap (λ (all : List Assignment). verdict_text all (shown_backbone F)) none
