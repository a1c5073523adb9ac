use Rattle.std.proofs.Common.{◌∙◌, sym}
use Rattle.bone_check.specs.Proving.{unit_fault}
use Rattle.bone_check.proofs.TestLemmas.{each_next, each_stop}
use Rattle.bone_check.proofs.units.judge_units.Goals as goal

pub returns-in-Some : goal.returns-in-Some
returns-in-Some c lines stands =
    sym (each_stop (unit_fault c.args.formula.now lines) 2 c.args.fixed.now c.loop-i.i c.index-fixed-i.result c.in-Some.reason
    c.loop-i-test.true c.index-fixed-i.is (c.loop-i.invariant lines stands) (sym (c.unit_fault.ensures lines stands) ∙ c.in-Some.is))

pub loop-i-preserved : goal.loop-i-preserved
loop-i-preserved c lines stands =
    each_next (unit_fault c.args.formula.now lines) 2 c.args.fixed.now c.loop-i.i c.index-fixed-i.result
    c.loop-i-test.true c.index-fixed-i.is (c.loop-i.invariant lines stands) (sym (c.unit_fault.ensures lines stands) ∙ c.in_default.is)
