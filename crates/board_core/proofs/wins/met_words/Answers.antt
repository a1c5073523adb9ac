use Rattle.std.proofs.Common.{ℕ, List, ◌++◌, ◌∷◌, [], sym, ap, ◌∙◌, arith}
use Rattle.std.specs.Prelude.{slice_index}
use Rattle.board_core.specs.Words.{met}
use Rattle.board_core.proofs.Seats.{met_words_more}
use Rattle.board_core.proofs.wins.met_words.Goals as goal

pub loop-place-preserved : goal.loop-place-preserved
loop-place-preserved c =
    c.in_ok-push.ensures.items
    ∙ ap (λ (ws : List ℕ). ws ++ met (slice_index c.args.left.now c.loop-place.place) (slice_index c.args.right.now c.loop-place.place) ∷ []) c.loop-place.invariant
    ∙ sym (met_words_more c.args.left.now c.args.right.now c.loop-place.place (omega arith) c.requires)
