use Rattle.std.proofs.Common.{suc, ◌*◌, refl, sym, ◌∙◌, arith}
use Rattle.std.proofs.lemmas.Nat.Bits.{shr_and_one}
use Rattle.board_core.proofs.Bits.{vars_from_start, vars_of_upto, vars_next}
use Rattle.board_core.proofs.wins.vars_of.Goals as goal

pub loop-bit-init : goal.loop-bit-init
loop-bit-init c = c.new-vars.ensures.items ∙ sym (vars_from_start (suc (32 * c.args.group)) c.args.mask)

pub loop-bit-preserved : goal.loop-bit-preserved
loop-bit-preserved c =
    vars_next c.args.group c.args.mask c.loop-bit.bit _ _ c.loop-bit.vars.items c.push_if.new.vars.items
    (sym (shr_and_one c.args.mask c.loop-bit.bit)) refl c.loop-bit.invariant c.in_ok-push_if.ensures

pub returns : goal.returns
returns c = c.loop-bit.invariant ∙ vars_of_upto c.args.group c.args.mask c.loop-bit.bit (omega arith)
