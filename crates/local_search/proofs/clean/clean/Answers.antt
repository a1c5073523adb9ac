-- One literal more, a literal whose negation was kept, and the whole clause.
use Rattle.std.proofs.Common.{length, ap, ◌∙◌}
use Rattle.cnf_core.specs.Literals.{Literal, code_of}
use Rattle.local_search.proofs.Cleaning.{always-step, kept-step, clean-whole}
use Rattle.local_search.proofs.clean.clean.Goals as goal

pub returns-then-index-round-clause-clean : goal.returns-then-index-round-clause-clean
returns-then-index-round-clause-clean c =
    always-step (length c.args.seen.now.items) c.args.round c.args.clause.now c.loop-lit.lit-index c.loop-lit.seen.items
    c.loop-lit.kept.items c.lit-item.result c.code.result c.index.result.now c.requires.fits c.loop-lit.invariant c.loop-lit-test.true
    c.lit-item.is (c.code.ensures.value ∙ ap (λ (k : Literal). code_of k) c.negated.ensures) c.index.ensures c.if-index-round.true

pub loop-lit-preserved : goal.loop-lit-preserved
loop-lit-preserved c =
    kept-step (length c.args.seen.now.items) c.args.round c.args.clause.now c.loop-lit.lit-index c.loop-lit.seen.items
    c.loop-lit.kept.items c.lit-item.result c.code.result c.index.result.now c.keep.new.seen.items c.keep.new.kept.items
    c.requires.fits c.loop-lit.invariant c.loop-lit-test.true c.lit-item.is (c.code.ensures.value ∙ ap (λ (k : Literal). code_of k) c.negated.ensures) c.index.ensures
    c.if-index-round.false c.in_ok-keep.ensures

pub returns-clause-clean : goal.returns-clause-clean
returns-clause-clean c =
    clean-whole (length c.args.seen.now.items) c.args.round c.args.clause.now c.loop-lit.lit-index c.loop-lit.seen.items
    c.loop-lit.kept.items c.loop-lit.invariant c.loop-lit-test.false
