-- The literal that was true goes, and its negation comes.
use Rattle.std.proofs.Common.{◌∙◌, ap, not, refl}
use Rattle.cnf_core.specs.Literals.{with_value}
use Rattle.local_search.proofs.Turned.{lost_is, listed_other, can_lower, can_raise, onward_flipped}
use Rattle.local_search.proofs.search.LocalSearch.flip.Goals as goal

pub lower-requires : goal.lower-requires
lower-requires c =
    can_lower c.args.tables.now c.args.self.now c.args.var c.new-lost.result c.requires.state c.requires.free
    (lost_is c.args.self.now.values c.args.var c.get-value.result c.new-lost.result c.get-value.ensures c.new-lost.ensures)
    c.places.result.now c.places.ensures.places

pub raise-requires : goal.raise-requires
raise-requires c =
    can_raise c.args.tables.now c.args.self.now c.args.var c.new-lost.result c.requires.state c.requires.free
    (lost_is c.args.self.now.values c.args.var c.get-value.result c.new-lost.result c.get-value.ensures c.new-lost.ensures)
    c.places.result.now c.places-2.result.now c.lower.new.counts.tallies c.places.ensures.places
    (listed_other c.args.tables.now.clauses c.new-lost.result c.negated.result c.places-2.result.now c.negated.ensures c.places-2.ensures.places)
    c.lower.ensures.lowered

pub returns-clause-onward : goal.returns-clause-onward
returns-clause-onward c =
    onward_flipped c.args.tables.now c.args.self.now c.args.var c.new-lost.result c.requires.state c.requires.free
    (lost_is c.args.self.now.values c.args.var c.get-value.result c.new-lost.result c.get-value.ensures c.new-lost.ensures)
    c.places.result.now c.places-2.result.now c.lower.new.counts.tallies c.places.ensures.places
    (listed_other c.args.tables.now.clauses c.new-lost.result c.negated.result c.places-2.result.now c.negated.ensures c.places-2.ensures.places)
    c.lower.ensures.lowered
    (record {
      values = c.set.new.self;
      held = c.args.self.now.held;
      counts = c.raise.new.counts;
      weights = c.args.self.now.weights;
      rng = c.args.self.now.rng;
    })
    c.raise.ensures.raised
    (c.set.ensures ∙ ap (λ b. with_value c.args.self.now.values c.args.var (not b)) c.get-value.ensures) refl
    (c.raise.ensures.vars ∙ c.lower.ensures.vars)

pub returns-clause-values : goal.returns-clause-values
returns-clause-values c = c.set.ensures ∙ ap (λ b. with_value c.args.self.now.values c.args.var (not b)) c.get-value.ensures
