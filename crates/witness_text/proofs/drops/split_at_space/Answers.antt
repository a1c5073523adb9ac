use Rattle.std.proofs.Common.{◌+◌, ◌-◌, length, drop, ◌∙◌, arith}
use Rattle.std.proofs.lemmas.List.{take_all, length-drop}
use Rattle.witness_text.proofs.Spaces.{spaces-none, spaces-more, space_before, space_behind, no_space_before, no_space_behind}
use Rattle.witness_text.proofs.drops.split_at_space.Goals as goal

pub loop-i-init : goal.loop-i-init
loop-i-init c = spaces-none c.args.bytes.now

pub loop-i-preserved : goal.loop-i-preserved
loop-i-preserved c = spaces-more c.args.bytes.now c.loop-i.i c.loop-i.invariant c.loop-i-test.true c.if-byte-eq32.false

pub returns-then-byte-eq32-clause-before : goal.returns-then-byte-eq32-clause-before
returns-then-byte-eq32-clause-before c =
    space_before c.args.bytes.now c.loop-i.i c.loop-i.invariant c.loop-i-test.true c.if-byte-eq32.true

pub returns-then-byte-eq32-clause-behind : goal.returns-then-byte-eq32-clause-behind
returns-then-byte-eq32-clause-behind c =
    let bytes = c.args.bytes.now in
    let i = c.loop-i.i in
    take_all (length bytes - (i + 1)) (drop (i + 1) bytes) (omega (arith, length-drop (i + 1) bytes))
    ∙ space_behind bytes i c.loop-i.invariant c.loop-i-test.true c.if-byte-eq32.true

pub returns-clause-before : goal.returns-clause-before
returns-clause-before c = no_space_before c.args.bytes.now c.loop-i.i c.loop-i.invariant c.loop-i-test.false

pub returns-clause-behind : goal.returns-clause-behind
returns-clause-behind c = no_space_behind c.args.bytes.now c.loop-i.i c.loop-i.invariant c.loop-i-test.false
