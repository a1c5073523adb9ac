use Rattle.std.proofs.Common.{ℕ, ◌-◌, length, get_or, refl}
use Rattle.lrat_log.proofs.Pushed.{packed_more, words_more}
use Rattle.lrat_log.proofs.packing.push_hints.Goals as goal

pub loop-hint-preserved : goal.loop-hint-preserved
loop-hint-preserved c =
    let i = c.loop-hint.hint-index in
    let hints = c.args.hints.now in
    let id = c.args.id in
    let below : ℕ → ℕ = λ h. id - h in
    let d = get_or hints i 0 in
    record {
      bytes = packed_more below c.args.bytes.now.items c.loop-hint.bytes.items c.push_number-in-loop-hint.new.bytes.items (length hints)
          (id - d) hints i 0 c.loop-hint-test.true refl c.loop-hint.invariant.bytes c.in_ok-push_number-2.ensures.bytes;
      words = words_more below (length hints) (id - d) hints i 0 c.loop-hint-test.true refl c.loop-hint.invariant.words
          c.in_ok-push_number-2.ensures.word;
    }
