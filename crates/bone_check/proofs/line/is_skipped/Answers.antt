use Rattle.std.proofs.Common.{◌≡◌, ℕ, ◌+◌, ◌<◌, ◌==◌, true, false, List, length, get_or, drop, refl, sym, ap, ◌∙◌}
use Rattle.std.proofs.lemmas.List.{drop_more, drop_all}
use Rattle.lrat_lines.specs.Tokens.{is_gap}
use Rattle.bone_check.specs.Proving.{is_skipped}
use Rattle.bone_check.proofs.line.is_skipped.Goals as goal

-- at a byte that is no gap
stop : (s : List ℕ) (i : ℕ) → i < length s → is_gap (get_or s i 0) ≡ false → is_skipped (drop i s) ≡ (get_or s i 0 == 99)
stop s i lt gap = ap is_skipped (drop_more s i 0 lt) ∙ rw gap refl

-- at a gap
next : (s : List ℕ) (i : ℕ) → i < length s → is_gap (get_or s i 0) ≡ true → is_skipped (drop i s) ≡ is_skipped (drop (i + 1) s)
next s i lt gap = ap is_skipped (drop_more s i 0 lt) ∙ rw gap refl

pub returns-then-not-is_gap : goal.returns-then-not-is_gap
returns-then-not-is_gap c =
    let s = c.args.bytes.now in
    let i = c.loop-byte.byte-index in
    let gap : is_gap (get_or s i 0) ≡ false = sym c.is_gap.ensures ∙ c.if-not-is_gap.true in
    sym (stop s i c.loop-byte-test.true gap) ∙ c.loop-byte.invariant

pub loop-byte-preserved : goal.loop-byte-preserved
loop-byte-preserved c =
    let s = c.args.bytes.now in
    let i = c.loop-byte.byte-index in
    let gap : is_gap (get_or s i 0) ≡ true = sym c.is_gap.ensures ∙ c.if-not-is_gap.false in
    sym (next s i c.loop-byte-test.true gap) ∙ c.loop-byte.invariant

pub returns : goal.returns
returns c = ap is_skipped (sym (drop_all c.loop-byte.byte-index c.args.bytes.now c.loop-byte-test.false)) ∙ c.loop-byte.invariant
