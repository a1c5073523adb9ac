-- One variable more is marked.
use Rattle.std.proofs.Common.{ℕ, ◌-◌, ◌<◌, ◌≤◌, true, get_or, refl, ◌∙◌, length, length-set}
use Rattle.std.proofs.lemmas.List.Elements.{All-get_or}
use Rattle.flip_literals.proofs.Holding.{marked-more}
use Rattle.flip_literals.proofs.marks.Marks.set_to.Goals as goal

pub loop-var-preserved : goal.loop-var-preserved
loop-var-preserved c =
    let vs = c.args.vars.now in
    let i = c.loop-var.var-index in
    let v = get_or vs i 0 in
    let within = All-get_or (λ (w : ℕ). (0 < w) × (w ≤ length c.args.self.now)) vs i 0 c.loop-var-test.true c.requires in
    rw c.mark.ensures
    (record {
      each = length-set c.loop-var.self (v - 1) true ∙ c.loop-var.invariant.each;
      marked = marked-more c.loop-var.self vs i v c.loop-var.invariant.marked c.loop-var-test.true refl within.0;
    })
