-- Each candidate is flipped, and others after it, or is held, or has the other value.
use Rattle.std.proofs.Common.{◌≡◌, ◌+◌, ◌<◌, ◌≤◌, ℕ, Bool, true, List, get_or, refl, sym, ◌∙◌, subst}
use Rattle.std.proofs.lemmas.List.Elements.{All-get_or, Contains-get_or}
use Rattle.flip_literals.specs.Steps.Passes.{Tells, IsFlipped, IsHeld}
use Rattle.flip_literals.specs.Steps.Marking.{IsMarkedIn}
use Rattle.flip_literals.proofs.Walked.{passing-flipped, passing-held, passed, IsPassing}
use Rattle.flip_literals.proofs.Holding.{passing-worked}
use Rattle.flip_literals.proofs.holds.Holds.pass.Goals as goal
use Rattle.flip_literals.proofs.holds.Holds.pass.Goals.{then-flip, else-flip}

pub loop-var-preserved : goal.loop-var-preserved
loop-var-preserved c =
    let o = c.args.occurrences.now in
    let vs = c.args.candidates.now in
    let i = c.loop-var.var-index in
    let v = get_or vs i 0 in
    let before = c.loop-var.model in
    let after = c.flip.new.model in
    let within = All-get_or (λ (w : ℕ). (0 < w) × (w ≤ o.formula.vars)) vs i 0 c.loop-var-test.true c.requires.candidates in
    let marks : c.flip.new.self.listed ≡ c.args.self.now.listed = c.flip.ensures.flip.listed ∙ c.loop-var.invariant.listed in
    elim c.if-flip.branch [
      | then-flip w ↦
          let flipped : IsFlipped o v before after = subst (Tells o v before after) w.if-flip.true c.flip.ensures.told in
          let one : IsPassing o vs (i + 1) c.args.model.now after true =
          passing-flipped o vs i v c.args.model.now before after c.loop-var.changed c.loop-var.invariant.passing
          (Contains-get_or vs i 0 c.loop-var-test.true) within.0 within.1 flipped in
          rw (w.self-is, w.model-is, w.changed-is)
          (record {
            holding = w.follow.ensures.flip.holding;
            listed = w.follow.ensures.flip.listed ∙ marks;
            passing = passing-worked o vs (i + 1) c.flip.new.self w.follow.new.self c.args.model.now after w.follow.new.model one
                (subst (λ (ms : List Bool). IsMarkedIn ms vs) (sym marks) c.requires.listed) w.follow.ensures;
          })
      | else-flip w ↦
          let held : IsHeld o v before after = subst (Tells o v before after) w.if-flip.false c.flip.ensures.told in
          rw (w.self-is, w.model-is, w.changed-is)
          (record {
            holding = c.flip.ensures.flip.holding;
            listed = marks;
            passing = passing-held o vs i v c.args.model.now before after c.loop-var.changed c.loop-var.invariant.passing
                c.loop-var-test.true refl held;
          })
    ]

pub returns-clause-pass : goal.returns-clause-pass
returns-clause-pass c =
    passed c.args.occurrences.now c.args.candidates.now c.loop-var.var-index c.args.model.now c.loop-var.model c.loop-var.changed
    c.loop-var.invariant.passing c.loop-var-test.false
