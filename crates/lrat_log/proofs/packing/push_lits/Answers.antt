use Rattle.std.proofs.Common.{◌≡◌, length, get_or, ap, ◌∙◌, subst}
use Rattle.std.proofs.lemmas.List.Elements.{All-more}
use Rattle.cnf_core.specs.Literals.{Literal, code_of}
use Rattle.lrat_log.specs.Steps.Unpacked.{IsCode}
use Rattle.lrat_log.proofs.Pushed.{packed_more, words_more}
use Rattle.lrat_log.proofs.packing.push_lits.Goals as goal

pub loop-lit-preserved : goal.loop-lit-preserved
loop-lit-preserved c =
    let i = c.loop-lit.lit-index in
    let lits = c.args.lits.now in
    let lit = c.lit-item.result in
    let same : c.from.result ≡ code_of (get_or lits i lit) = c.from.ensures ∙ c.code.ensures.value ∙ ap code_of c.lit-item.is in
    record {
      bytes = packed_more code_of c.args.bytes.now.items c.loop-lit.bytes.items c.push_number-in-loop-lit.new.bytes.items (length lits)
          c.from.result lits i lit c.loop-lit-test.true same c.loop-lit.invariant.bytes c.in_ok-push_number-2.ensures.bytes;
      words = words_more code_of (length lits) c.from.result lits i lit c.loop-lit-test.true same c.loop-lit.invariant.words
          c.in_ok-push_number-2.ensures.word;
      codes = All-more (λ (x : Literal). IsCode (code_of x)) lits i lit c.loop-lit-test.true c.loop-lit.invariant.codes
          (subst IsCode (c.code.ensures.value ∙ ap code_of c.lit-item.is)
          (record { low = c.code.ensures.range.0; high = c.code.ensures.range.1 }));
    }
