-- What an answer of `origin` puts into the view.
use Rattle.std.proofs.Common.{◌≡◌, ℕ, suc, ◌+◌, ◌++◌, [], ◌∷◌, List, max, Contains, refl, sym, ap, ◌∙◌, subst, arith}
use Rattle.std.specs.Prelude.{Some, fold}
use Rattle.std.proofs.lemmas.List.Elements.{Contains-append_left, Contains-push}
use Rattle.board_core.specs.Boards.{stamped, told, top}
use Rattle.board_core.specs.declared.view.Stamped.{Stamped}
use Rattle.candidate_words.specs.Seats.{Sitter}
use Rattle.shared_fixed.specs.Stamps.{HasAskedStamp}

-- the pair stands last
pub imports_after : (s t : Sitter) (x stamp : ℕ) → HasAskedStamp s x (Some stamp) t → t.view.imports ≡ s.view.imports ++ stamped x stamp ∷ []
imports_after s t x stamp asked =
    let e : stamp + 1 ≡ suc stamp = omega arith in
    ap (λ (r : Sitter). r.view.imports) asked ∙ ap (λ (w : ℕ). s.view.imports ++ told x w) e

pub imported : (s t : Sitter) (x stamp : ℕ) → HasAskedStamp s x (Some stamp) t → Contains t.view.imports (stamped x stamp)
imported s t x stamp asked =
    subst (λ (ps : List Stamped). Contains ps (stamped x stamp)) (sym (imports_after s t x stamp asked)) (Contains-push s.view.imports (stamped x stamp))

pub still_imported : (s t : Sitter) (x stamp : ℕ) (p : Stamped) → HasAskedStamp s x (Some stamp) t → Contains s.view.imports p → Contains t.view.imports p
still_imported s t x stamp p asked here =
    subst (λ (ps : List Stamped). Contains ps p) (sym (imports_after s t x stamp asked)) (Contains-append_left s.view.imports (stamped x stamp ∷ []) p here)

top_push : (n : ℕ) (ps : List Stamped) (p : Stamped)
    → fold (λ k (q : Stamped). max k q.stamp) n (ps ++ p ∷ []) ≡ max (fold (λ k (q : Stamped). max k q.stamp) n ps) p.stamp
top_push n [] p = refl
top_push n (q ∷ ps) p = top_push (max n q.stamp) ps p

-- the greatest stamp after it
pub top_after : (s t : Sitter) (x stamp : ℕ) → HasAskedStamp s x (Some stamp) t → top t.view.imports ≡ max (top s.view.imports) stamp
top_after s t x stamp asked = ap top (imports_after s t x stamp asked) ∙ top_push 0 s.view.imports (stamped x stamp)
