use Rattle.std.proofs.Common.{◌≡◌, ℕ, ◌<◌, ◌+◌, List, [], ◌∷◌, ◌++◌, length, map, take, drop, get_or, set, sym, ap, ◌∙◌, append_assoc, arith}
use Rattle.std.proofs.lemmas.List.{length-take-le, set_at, get_or_at, drop_more, map_more, length-map}
use Rattle.cert_merge.proofs.ids.renumber.Goals as goal

-- one hint more has its new id
one_more : (f : ℕ → ℕ) (before now : List ℕ) (i x : ℕ) → i < length before → now ≡ map f (take i before) ++ drop i before
    → x ≡ f (get_or now i 0) → set now i x ≡ map f (take (i + 1) before) ++ drop (i + 1) before
one_more f before now i x below is new =
    let split : now ≡ map f (take i before) ++ get_or before i 0 ∷ drop (i + 1) before =
    is ∙ ap (λ (xs : List ℕ). map f (take i before) ++ xs) (drop_more before i 0 below) in
    let front : length (map f (take i before)) ≡ i = length-map (take i before) f ∙ length-take-le i before (omega arith) in
    let read : x ≡ f (get_or before i 0) =
    new ∙ ap (λ (xs : List ℕ). f (get_or xs i 0)) split
    ∙ ap f (get_or_at (map f (take i before)) (get_or before i 0) (drop (i + 1) before) 0 i front) in
    ap (λ (xs : List ℕ). set xs i x) split
    ∙ set_at (map f (take i before)) (get_or before i 0) (drop (i + 1) before) x i front
    ∙ ap (λ (y : ℕ). map f (take i before) ++ y ∷ drop (i + 1) before) read
    ∙ sym (append_assoc (map f (take i before)) (f (get_or before i 0) ∷ []) (drop (i + 1) before))
    ∙ ap (λ (xs : List ℕ). xs ++ drop (i + 1) before) (sym (map_more f before i 0 below))

pub loop-hint-preserved : goal.loop-hint-preserved
loop-hint-preserved c =
    one_more _ c.args.hints.now c.loop-hint.hints c.loop-hint.hint-index c.listed.result (omega arith) c.loop-hint.invariant c.listed.ensures
