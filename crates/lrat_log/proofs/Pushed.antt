-- Numbers that are put behind others one by one.
use Rattle.std.proofs.Common.{◌≡◌, ℕ, ◌+◌, ◌<◌, List, [], ◌∷◌, ◌++◌, length, map, take, get_or, sym, ap, ◌∙◌, subst}
use Rattle.std.specs.Prelude.{All}
use Rattle.std.proofs.lemmas.List.{flat_map_more, map_more}
use Rattle.std.proofs.lemmas.List.Elements.{All-push}
use Rattle.lrat_log.specs.Packed.{packed_number, packed_numbers}
use Rattle.lrat_log.specs.Steps.Unpacked.{IsWord}

pub packed_more : {X : Type 0} (f : X → ℕ) (old bytes new : List ℕ) (n x : ℕ) (xs : List X) (i : ℕ) (d : X) → i < length xs
    → x ≡ f (get_or xs i d) → bytes ≡ old ++ packed_numbers (n ∷ map f (take i xs)) → new ≡ bytes ++ packed_number x
    → new ≡ old ++ packed_numbers (n ∷ map f (take (i + 1) xs))
packed_more f old bytes new n x xs i d below same before more =
    more
    ∙ ap (λ (b : List ℕ). b ++ packed_number x) before
    ∙ flat_map_more packed_number old (n ∷ map f (take i xs)) x
    ∙ ap (λ (y : ℕ). old ++ packed_numbers (n ∷ (map f (take i xs) ++ y ∷ []))) same
    ∙ ap (λ (ys : List ℕ). old ++ packed_numbers (n ∷ ys)) (sym (map_more f xs i d below))

pub words_more : {X : Type 0} (f : X → ℕ) (n x : ℕ) (xs : List X) (i : ℕ) (d : X) → i < length xs
    → x ≡ f (get_or xs i d) → All IsWord (n ∷ map f (take i xs)) → IsWord x → All IsWord (n ∷ map f (take (i + 1) xs))
words_more f n x xs i d below same before word =
    subst (λ (ys : List ℕ). All IsWord (n ∷ ys)) (sym (map_more f xs i d below))
    (All-push IsWord (n ∷ map f (take i xs)) (f (get_or xs i d)) before (subst IsWord same word))
