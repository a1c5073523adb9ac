use Rattle.std.proofs.Common.{◌-◌, length, take, drop, sym, ap, ◌∙◌, arith}
use Rattle.std.proofs.lemmas.List.{nil_from_length}
use Rattle.cert_merge.specs.Trimming.{is_root}
use Rattle.cert_merge.proofs.Marking.{root_empty, root_unit, root_other, first_and_rest}
use Rattle.cert_merge.proofs.wanted.Wanted.take.Goals as goal

pub returns-in-empty-clause-root : goal.returns-in-empty-clause-root
returns-in-empty-clause-root c = λ keep before looks.
    c.take_empty.ensures.result ∙ root_empty keep before c.args.self.now.units.items c.args.self.now.empty looks
    ∙ ap (is_root keep before) (sym (nil_from_length c.args.lits.now (omega arith)))

pub returns-in-len1-up-clause-root : goal.returns-in-len1-up-clause-root
returns-in-len1-up-clause-root c = λ keep before looks.
    c.take_unit.ensures.result
    ∙ root_unit keep before c.args.self.now.units.items c.args.self.now.empty c.first-item.result (take (length c.args.lits.now - 1) (drop 1 c.args.lits.now))
    (sym c.are_same.ensures ∙ c.if-are_same.true) looks
    ∙ ap (is_root keep before) (sym (first_and_rest c.args.lits.now c.first-item.result c.in-len1-up.len_at_least c.first-item.is))

pub returns-in_default-clause-root : goal.returns-in_default-clause-root
returns-in_default-clause-root c = λ keep before looks.
    root_other keep before c.first-item.result (take (length c.args.lits.now - 1) (drop 1 c.args.lits.now))
    (sym c.are_same.ensures ∙ c.if-are_same.false)
    ∙ ap (is_root keep before) (sym (first_and_rest c.args.lits.now c.first-item.result c.in-len1-up.len_at_least c.first-item.is))
