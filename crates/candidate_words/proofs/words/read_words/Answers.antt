use Rattle.std.proofs.Common.{ℕ, List, ◌++◌, ◌∷◌, [], ap, sym, ◌∙◌}
use Rattle.std.specs.Mem.Slots.{slots_items}
use Rattle.candidate_words.proofs.Moves.{take_next}
use Rattle.candidate_words.proofs.words.read_words.Goals as goal

pub loop-i-preserved : goal.loop-i-preserved
loop-i-preserved c =
    c.in_ok-push.ensures.items ∙ ap (λ (ws : List ℕ). ws ++ c.word.result ∷ []) c.loop-i.invariant
    ∙ sym (take_next (slots_items c.args.closed.now.words) c.loop-i.i c.word.result c.word.ensures)
