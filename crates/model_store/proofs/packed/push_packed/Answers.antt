-- After the loop each word has its values, and the front is as it was.
use Rattle.std.proofs.Common.{◌≡◌, ◌+◌, length, take, get_or, ap, ◌∙◌, subst, arith, rules}
use Rattle.model_store.specs.Steps.Packed.{words_for, HasValues}
use Rattle.model_store.proofs.Words.{appended_by}
use Rattle.model_store.proofs.packed.push_packed.Goals as goal

pub returns-clause-ok : goal.returns-clause-ok
returns-clause-ok c =
    let old = c.args.words.now.items in
    let new = c.loop-j.words.items in
    let a = c.args.values.now in
    let start : c.len-start.result ≡ length old = search rules in
    let count : c.words_for-count.result ≡ words_for (length a) =
    c.words_for-count.ensures ∙ ap words_for c.len.ensures in
    let front : take (length old) new ≡ old = subst (λ n. take n new ≡ old) start c.loop-j.invariant.front in
    appended_by old new a (c.loop-j.invariant.len ∙ ap (λ n. n + c.words_for-count.result) start ∙ ap (λ n. length old + n) count)
    front
    (λ k below.
    subst (λ n. HasValues a k (get_or new (n + k) 0)) start
    (c.loop-j.invariant.written k (omega (arith, c.loop-j-test.false, count))))
