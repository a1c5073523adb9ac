use Rattle.std.proofs.Common.{◌≡◌, ℕ, ◌<◌, List, sym, ap, ◌∙◌, subst, arith}
use Rattle.std.specs.Int.{bit_at}
use Rattle.std.proofs.lemmas.Nat.Bits.{bit_at-zero, bit_at-lt}
use Rattle.cnf_core.specs.Literals.{value_of}
use Rattle.cnf_core.specs.Formulas.{IsModel}
use Rattle.board_core.specs.Subjects.{About, groups, candidate}
use Rattle.board_core.specs.Words.{open_at}
use Rattle.model_check.specs.Flips.{flipped}
use Rattle.model_store.specs.Stores.{Store}
use Rattle.worker_loop.specs.Steps.Moves.{IsClosed}
use Rattle.worker_loop.specs.declared.dropping.Source.{Source}
use Rattle.worker_loop.specs.Evidence.{IsWitness}
use Rattle.worker_loop.specs.Steps.Dropping.{var_at, witness_of, IsKept, IsStoredAt}
use Rattle.worker_loop.proofs.Tried.{word_at, open_bit_at, open_bit_candidate, stays_closed, by_bits, kept_open, kept_on, witness_by_value, witness_by_flip}
use Rattle.worker_loop.proofs.post.Post.drop_in.Goals as goal

pub returns-then-open-eq0-clause-dropped : goal.returns-then-open-eq0-clause-dropped
returns-then-open-eq0-clause-dropped c = λ i within is.
    let bit = open_bit_at c.args.self.now.loaded.items c.args.group c.index.result.now c.open_bits-open.result i
    (word_at c.args.self.now.loaded.items c.args.group c.index.result.now c.index.ensures
    (omega (arith, c.requires.post.loaded, c.requires.group)))
    (omega arith) c.open_bits-open.ensures within in
    let none : bit_at c.open_bits-open.result i ≡ 0 = ap (λ (m : ℕ). bit_at m i) c.if-open-eq0.true ∙ bit_at-zero i in
    absurd (omega (arith, bit, none, is))

pub against_bits-against-requires-clause-among : goal.against_bits-against-requires-clause-among
against_bits-against-requires-clause-among c = λ i within on.
    open_bit_candidate c.args.self.now.question.now c.args.self.now.loaded.items c.args.self.now.seat.view.loaded c.args.group
    c.index.result.now
    c.open_bits-open.result i c.requires.post.view.loaded c.requires.copied c.index.ensures (omega arith) c.open_bits-open.ensures
    c.requires.group within on

pub drop_mask-requires-clause-mask : goal.drop_mask-requires-clause-mask
drop_mask-requires-clause-mask c = λ i within on.
    let here = c.against_bits-against.ensures.against i within on in
    let is = open_bit_candidate c.args.self.now.question.now c.args.self.now.loaded.items c.args.self.now.seat.view.loaded c.args.group
    c.index.result.now c.open_bits-open.result i c.requires.post.view.loaded c.requires.copied c.index.ensures (omega arith)
    c.open_bits-open.ensures c.requires.group within here.0 in (
      is,
      subst (λ (s : Source). IsWitness c.args.self.now.question.now c.args.self.now.models (witness_of s (var_at c.args.group i)))
          (sym c.of.ensures)
          (witness_by_value c.args.self.now.question.now c.args.self.now.models c.args.place c.args.model.now (var_at c.args.group i)
          c.requires.post.told.store c.requires.stored c.requires.model is here.1),
    )

pub free_bits-free-requires-clause-kept : goal.free_bits-free-requires-clause-kept
free_bits-free-requires-clause-kept c = λ i within on.
    let both = kept_open c.open_bits-open.result c.against_bits-against.result i (omega arith) within on in
    subst (λ (a : About). candidate a.formula (var_at c.args.group i) ≡ 1) (sym c.drop_mask.ensures.onward.question)
    (open_bit_candidate c.args.self.now.question.now c.args.self.now.loaded.items c.args.self.now.seat.view.loaded c.args.group
    c.index.result.now c.open_bits-open.result i c.requires.post.view.loaded c.requires.copied c.index.ensures (omega arith)
    c.open_bits-open.ensures c.requires.group within both.0)

pub free_bits-free-requires-clause-phases : goal.free_bits-free-requires-clause-phases
free_bits-free-requires-clause-phases c = λ i within on.
    let both = kept_open c.open_bits-open.result c.against_bits-against.result i (omega arith) within on in
    subst (λ (a : About). value_of c.args.model.now (var_at c.args.group i) ≡ value_of a.phases (var_at c.args.group i))
    (sym c.drop_mask.ensures.onward.question) (c.against_bits-against.ensures.rest i within both.0 both.1)

pub drop_mask-requires-2-clause-mask : goal.drop_mask-requires-2-clause-mask
drop_mask-requires-2-clause-mask c = λ i within on.
    let here = c.free_bits-free.ensures.free i within on in
    let both = kept_open c.open_bits-open.result c.against_bits-against.result i (omega arith) within here.0 in
    let is : candidate c.drop_mask.new.self.question.now.formula (var_at c.args.group i) ≡ 1 =
    subst (λ (a : About). candidate a.formula (var_at c.args.group i) ≡ 1) (sym c.drop_mask.ensures.onward.question)
    (open_bit_candidate c.args.self.now.question.now c.args.self.now.loaded.items c.args.self.now.seat.view.loaded c.args.group
    c.index.result.now c.open_bits-open.result i c.requires.post.view.loaded c.requires.copied c.index.ensures (omega arith)
    c.open_bits-open.ensures c.requires.group within both.0) in
    let same : value_of c.args.model.now (var_at c.args.group i) ≡ value_of c.drop_mask.new.self.question.now.phases
    (var_at c.args.group i) =
    subst (λ (a : About). value_of c.args.model.now (var_at c.args.group i) ≡ value_of a.phases (var_at c.args.group i))
    (sym c.drop_mask.ensures.onward.question) (c.against_bits-against.ensures.rest i within both.0 both.1) in
    let stored : IsStoredAt c.drop_mask.new.self.models c.args.place c.args.model.now =
    subst (λ (s : Store). IsStoredAt s c.args.place c.args.model.now) (sym c.drop_mask.ensures.rest.models) c.requires.stored in
    let model : IsModel c.drop_mask.new.self.question.now.formula c.args.model.now =
    subst (λ (a : About). IsModel a.formula c.args.model.now) (sym c.drop_mask.ensures.onward.question) c.requires.model in (
      is,
      subst (λ (s : Source). IsWitness c.drop_mask.new.self.question.now c.drop_mask.new.self.models (witness_of s (var_at c.args.group i)))
          (sym c.of-2.ensures)
          (witness_by_flip c.drop_mask.new.self.question.now c.drop_mask.new.self.models c.args.place c.args.model.now (var_at c.args.group i)
          c.drop_mask.ensures.post.told.store stored model here.1 is same),
    )

pub returns-clause-dropped : goal.returns-clause-dropped
returns-clause-dropped c = λ i within is.
    let bit = open_bit_at c.args.self.now.loaded.items c.args.group c.index.result.now c.open_bits-open.result i
    (word_at c.args.self.now.loaded.items c.args.group c.index.result.now c.index.ensures
    (omega (arith, c.requires.post.loaded, c.requires.group)))
    (omega arith) c.open_bits-open.ensures within in
    let on : bit_at c.open_bits-open.result i ≡ 1 = bit ∙ is in
    by_bits (IsClosed c.drop_mask-2.new.self (var_at c.args.group i)) (IsKept c.args.self.now c.args.model.now (var_at c.args.group i))
    (bit_at c.against_bits-against.result i) (bit_at c.free_bits-free.result i)
    (bit_at-lt c.against_bits-against.result i) (bit_at-lt c.free_bits-free.result i)
    (λ hit.
    let low : c.args.group < groups c.drop_mask.new.self.question.now.formula.vars =
    subst (λ (a : About). c.args.group < groups a.formula.vars) (sym c.drop_mask.ensures.onward.question) c.requires.group in
    stays_closed c.drop_mask.new.self.question.now.formula.vars c.args.group i c.drop_mask.new.self.seat.view.seen
    c.drop_mask-2.new.self.seat.view.seen c.drop_mask-2.ensures.onward.seen low within (c.drop_mask.ensures.dropped i within hit))
    (λ miss hit. c.drop_mask-2.ensures.dropped i within hit)
    (λ miss none. record {
      value = c.against_bits-against.ensures.rest i within on miss;
      critical = λ model. c.free_bits-free.ensures.rest i within
          (kept_on c.open_bits-open.result c.against_bits-against.result i (omega arith) within on miss)
          (subst (λ (ws : List ℕ). open_at ws (var_at c.args.group i) ≡ 1) (sym c.drop_mask.ensures.onward.copy) is)
          none
          (subst (λ (a : About). IsModel a.formula (flipped c.args.model.now (var_at c.args.group i)))
          (sym c.drop_mask.ensures.onward.question) model);
    })
