use Rattle.std.proofs.Common.{ℕ, List, [], ◌∷◌, ◌++◌, replicate, ap, sym, ◌∙◌, arith}
use Rattle.board_core.specs.Subjects.{About}
use Rattle.board_core.specs.Boards.{opening_words}
use Rattle.board_core.specs.declared.stored.StoredView.{StoredView}
use Rattle.board_core.proofs.Plays.{opens_board}
use Rattle.board_core.proofs.board.Board.open.Goals as goal

pub invariant_of-result : goal.invariant_of-result
invariant_of-result c =
    let board = opens_board c.of.result c.in_ok-words.words.items c.in_ok-origins.origins.items c.push.new.self.items c.in_ok-root.root
    (c.in_ok-words.ensures ∙ ap (λ (a : About). opening_words a.formula) (sym c.of.ensures))
    (c.in_ok-origins.ensures ∙ ap (λ (n : ℕ). replicate n 0) (c.vars.ensures.value ∙ ap (λ (a : About). a.formula.vars) (sym c.of.ensures)))
    (c.in_ok-push.ensures.items ∙ ap (λ (hs : List StoredView). hs ++ c.in_ok-root.root ∷ []) c.new-views.ensures.items)
    (λ a same. c.in_ok-root.ensures a (same ∙ ap (λ (d : About). d.formula) c.of.ensures)) in
    record { kept = board.0; vars = omega (arith, c.vars.ensures.limits.vars_limit, ap (λ (a : About). a.formula.vars) c.of.ensures) }

pub returns-clause-kept : goal.returns-clause-kept
returns-clause-kept c =
    let board = opens_board c.of.result c.in_ok-words.words.items c.in_ok-origins.origins.items c.push.new.self.items c.in_ok-root.root
    (c.in_ok-words.ensures ∙ ap (λ (a : About). opening_words a.formula) (sym c.of.ensures))
    (c.in_ok-origins.ensures ∙ ap (λ (n : ℕ). replicate n 0) (c.vars.ensures.value ∙ ap (λ (a : About). a.formula.vars) (sym c.of.ensures)))
    (c.in_ok-push.ensures.items ∙ ap (λ (hs : List StoredView). hs ++ c.in_ok-root.root ∷ []) c.new-views.ensures.items)
    (λ a same. c.in_ok-root.ensures a (same ∙ ap (λ (d : About). d.formula) c.of.ensures)) in
    board.0
