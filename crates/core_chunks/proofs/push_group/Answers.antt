use Rattle.std.proofs.Common.{◌*◌, ℕ, suc, List, take, ◌++◌, refl, ap, sym, ◌∙◌, arith}
use Rattle.std.proofs.lemmas.Nat.Bits.{shr_and_one}
use Rattle.board_core.proofs.Bits.{vars_from_start, vars_of_upto}
use Rattle.core_chunks.proofs.Parts.{take_none, bit_next, group_none}
use Rattle.core_chunks.proofs.push_group.Goals as goal

pub loop-bit-init : goal.loop-bit-init
loop-bit-init c = (
  take_none c.args.size c.args.block.now.items (omega (arith, c.requires.room))
      ∙ ap (λ (xs : List ℕ). take c.args.size (c.args.block.now.items ++ xs)) (sym (vars_from_start (suc (32 * c.args.group)) c.args.bits)),
  c.requires.room,
)

pub loop-bit-preserved : goal.loop-bit-preserved
loop-bit-preserved c = (
  bit_next c.args.size c.args.group c.args.bits c.loop-bit.bit _ _ c.args.block.now.items c.loop-bit.block.items c.push_if.new.block.items
      (sym (shr_and_one c.args.bits c.loop-bit.bit)) refl c.loop-bit.invariant.0 c.in_ok-push_if.ensures.items,
  c.in_ok-push_if.ensures.room,
)

pub returns-clause-items : goal.returns-clause-items
returns-clause-items c =
    c.loop-bit.invariant.0
    ∙ ap (λ (xs : List ℕ). take c.args.size (c.args.block.now.items ++ xs)) (vars_of_upto c.args.group c.args.bits c.loop-bit.bit (omega arith))

pub returns-then-bits-eq0-clause-items : goal.returns-then-bits-eq0-clause-items
returns-then-bits-eq0-clause-items c =
    group_none c.args.size c.args.group c.args.bits c.args.block.now.items c.if-bits-eq0.true (omega (arith, c.requires.room))
