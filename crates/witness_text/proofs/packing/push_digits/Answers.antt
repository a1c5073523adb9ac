-- After the loop each word has its values, and the front is as it was.
use Rattle.std.proofs.Common.{◌≡◌, ◌+◌, ◌==◌, length, take, get_or, sym, ap, ◌∙◌, subst, arith, rules}
use Rattle.std.proofs.lemmas.List.{length-map}
use Rattle.model_store.specs.Steps.Packed.{words_for, HasValues}
use Rattle.model_store.proofs.Words.{appended_by}
use Rattle.witness_text.specs.Reading.{values_of}
use Rattle.witness_text.proofs.packing.push_digits.Goals as goal

pub returns-clause-ok : goal.returns-clause-ok
returns-clause-ok c =
    let old = c.args.words.now.items in
    let new = c.loop-j.words.items in
    let digits = c.args.digits.now in
    let a = values_of digits in
    let start : c.len-start.result ≡ length old = search rules in
    let len : length a ≡ length digits = length-map digits (λ d. d == 49) in
    let count : c.words_for-count.result ≡ words_for (length a) =
    c.words_for-count.ensures ∙ ap words_for (sym len) in
    let front : take (length old) new ≡ old = subst (λ n. take n new ≡ old) start c.loop-j.invariant.front in
    appended_by old new a (c.loop-j.invariant.len ∙ ap (λ n. n + c.words_for-count.result) start ∙ ap (λ n. length old + n) count)
    front
    (λ k below.
    subst (λ n. HasValues a k (get_or new (n + k) 0)) start
    (c.loop-j.invariant.written k (omega (arith, c.loop-j-test.false, count))))
