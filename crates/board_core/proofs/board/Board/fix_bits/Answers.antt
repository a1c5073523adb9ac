use Rattle.std.proofs.Common.{◌≡◌, ℕ, ◌*◌, ◌%◌, ap, arith}
use Rattle.std.specs.Prelude.{bit_or}
use Rattle.board_core.proofs.Plays.{fixes, stays_set}
use Rattle.board_core.proofs.board.Board.fix_bits.Goals as goal

pub invariant_of-self : goal.invariant_of-self
invariant_of-self c =
    let b = c.self.inside in
    let w = c.index-word.result.now in
    let next = fixes b.about b.words.items b.origins.items b.views.items c.args.self.now c.args.view c.args.group c.args.mask w _ c.index_mut.result.now c.fix_bits.new.self
    c.self.view_is c.self.invariant.kept c.requires.lawful c.index_mut.ensures.value c.index-word.ensures (let e : (c.from.result * 4294967296) % 18446744073709551616 ≡ c.args.mask * 4294967296 = omega arith in ap (λ (m : ℕ). bit_or w m) e) c.in-Ok.ensures.ok in
    record { kept = next.kept; vars = c.self.invariant.vars }

pub returns-in-Ok-clause-ok : goal.returns-in-Ok-clause-ok
returns-in-Ok-clause-ok c =
    let b = c.self.inside in
    let w = c.index-word.result.now in
    let next = fixes b.about b.words.items b.origins.items b.views.items c.args.self.now c.args.view c.args.group c.args.mask w _ c.index_mut.result.now c.fix_bits.new.self
    c.self.view_is c.self.invariant.kept c.requires.lawful c.index_mut.ensures.value c.index-word.ensures (let e : (c.from.result * 4294967296) % 18446744073709551616 ≡ c.args.mask * 4294967296 = omega arith in ap (λ (m : ℕ). bit_or w m) e) c.in-Ok.ensures.ok in
    next.is

pub returns-in-Ok-clause-kept : goal.returns-in-Ok-clause-kept
returns-in-Ok-clause-kept c =
    let b = c.self.inside in
    let w = c.index-word.result.now in
    let next = fixes b.about b.words.items b.origins.items b.views.items c.args.self.now c.args.view c.args.group c.args.mask w _ c.index_mut.result.now c.fix_bits.new.self
    c.self.view_is c.self.invariant.kept c.requires.lawful c.index_mut.ensures.value c.index-word.ensures (let e : (c.from.result * 4294967296) % 18446744073709551616 ≡ c.args.mask * 4294967296 = omega arith in ap (λ (m : ℕ). bit_or w m) e) c.in-Ok.ensures.ok in
    next.kept

pub invariant_of-self-in-Err : goal.invariant_of-self-in-Err
invariant_of-self-in-Err c =
    let b = c.self.inside in
    let same = stays_set b.about b.words.items b.origins.items b.views.items c.args.self.now c.args.view c.index_mut.result.now c.fix_bits.new.self
    c.self.view_is c.self.invariant.kept c.requires.lawful.loads.within c.index_mut.ensures.value c.in-Err.ensures.err in
    record { kept = same.kept; vars = c.self.invariant.vars }

pub returns-in-Err-clause-err : goal.returns-in-Err-clause-err
returns-in-Err-clause-err c =
    let b = c.self.inside in
    let same = stays_set b.about b.words.items b.origins.items b.views.items c.args.self.now c.args.view c.index_mut.result.now c.fix_bits.new.self
    c.self.view_is c.self.invariant.kept c.requires.lawful.loads.within c.index_mut.ensures.value c.in-Err.ensures.err in
    same.is

pub returns-in-Err-clause-kept : goal.returns-in-Err-clause-kept
returns-in-Err-clause-kept c =
    let b = c.self.inside in
    let same = stays_set b.about b.words.items b.origins.items b.views.items c.args.self.now c.args.view c.index_mut.result.now c.fix_bits.new.self
    c.self.view_is c.self.invariant.kept c.requires.lawful.loads.within c.index_mut.ensures.value c.in-Err.ensures.err in
    same.kept
