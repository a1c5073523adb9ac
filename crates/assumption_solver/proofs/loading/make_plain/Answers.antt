use Rattle.std.proofs.Common.{◌-◌, ◌∙◌, sym, arith}
use Rattle.assumption_solver.proofs.Plainly.{risen, risen_once, risen_tautology, var_read}
use Rattle.assumption_solver.proofs.loading.make_plain.Goals as goal

pub returns-then-var : goal.returns-then-var
returns-then-var c =
    let is = c.dedup.new.self.items in
    let r = risen c.args.lits.now.items c.sort_unstable.new.self.items is c.sort_unstable.ensures.permutation
    c.sort_unstable.ensures.sorted c.dedup.ensures.filtered in
    risen_tautology c.args.lits.now.items is c.loop-i.i r (omega arith) (omega arith)
    (sym (var_read is (c.loop-i.i - 1) c.var.result c.index.result.now (omega arith) c.var.ensures.value c.index.ensures)
    ∙ c.if-var.true
    ∙ var_read is c.loop-i.i c.var-in-loop-i.result c.index-in-loop-i.result.now (omega arith) c.var-in-loop-i.ensures.value
    c.index-in-loop-i.ensures)

pub returns : goal.returns
returns c =
    let is = c.dedup.new.self.items in
    let r = risen c.args.lits.now.items c.sort_unstable.new.self.items is c.sort_unstable.ensures.permutation
    c.sort_unstable.ensures.sorted c.dedup.ensures.filtered in
    (r.same, risen_once c.args.lits.now.items is r (λ k low lt. c.loop-i.invariant k low (omega arith)))
