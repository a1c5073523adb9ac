use Rattle.std.proofs.Common.{◌∙◌, sym, ap, List, ℕ, ◌++◌, ◌∷◌, [], map, arith}
use Rattle.std.specs.List.{range_with_len}
use Rattle.std.proofs.lemmas.List.FromFn.{map-range_with_len_more}
use Rattle.board_core.specs.Words.{opening_word}
use Rattle.board_core.proofs.opening.opening_words.Goals as goal

pub loop-group-preserved : goal.loop-group-preserved
loop-group-preserved c =
    c.in_ok-push.ensures.items
    ∙ ap (λ (ws : List ℕ). ws ++ c.opening_word.result ∷ []) c.loop-group.invariant
    ∙ ap (λ (w : ℕ). map (opening_word c.args.formula.now) (range_with_len 0 c.loop-group.group) ++ w ∷ []) c.opening_word.ensures
    ∙ sym (map-range_with_len_more (opening_word c.args.formula.now) 0 c.loop-group.group c.loop-group.group (omega arith))
