-- Numbers that are read one by one from a list that begins with their count.
use Rattle.std.proofs.Common.{◌≡◌, ℕ, ◌+◌, ◌<◌, List, [], ◌∷◌, ◌++◌, length, map, take, drop, get_or, sym, ap, ◌∙◌, subst, arith}
use Rattle.std.proofs.lemmas.List.{append_assoc, get_or-take, get_or-drop, length-take-le, drop-drop, map_more}
use Rattle.lrat_log.specs.Steps.Unpacked.{first, IsCountedList}

-- the number that is next is the one at its place
pub next_is : (ns vs : List ℕ) (k : ℕ) → vs ≡ drop k ns → first vs ≡ get_or ns k 0
next_is ns vs k left =
    let here : k + 0 ≡ k = omega arith in
    ap (λ (ms : List ℕ). first ms) left ∙ get_or-drop k ns 0 0 ∙ ap (λ (i : ℕ). get_or ns i 0) here

pub next_number : (P : ℕ → Type 0) (ns vs : List ℕ) (k n : ℕ) → IsCountedList P ns → n ≡ first ns → k < n
    → vs ≡ drop k (drop 1 ns) → P (first vs)
next_number P ns vs k n list count below left =
    let size = length-take-le (first ns) (drop 1 ns) list.enough in
    subst P (get_or-take (first ns) (drop 1 ns) k 0 (omega arith) ∙ sym (next_is (drop 1 ns) vs k left))
    (list.each k 0 (omega arith))

pub place_within : (P : ℕ → Type 0) (ns : List ℕ) (k n : ℕ) → IsCountedList P ns → n ≡ first ns → k < n
    → k < length (drop 1 ns)
place_within P ns k n list count below = omega (arith, list.enough)

pub left_after : (ns vs ws : List ℕ) (k : ℕ) → vs ≡ drop k ns → ws ≡ drop 1 vs → ws ≡ drop (k + 1) ns
left_after ns vs ws k left rest = rest ∙ ap (drop 1) left ∙ drop-drop 1 k ns

pub mapped_more : {X : Type 0} (f : ℕ → X) (old xs new : List X) (x : X) (ns : List ℕ) (k : ℕ) → k < length ns
    → x ≡ f (get_or ns k 0) → xs ≡ old ++ map f (take k ns) → new ≡ xs ++ x ∷ [] → new ≡ old ++ map f (take (k + 1) ns)
mapped_more {X} f old xs new x ns k below same before more =
    more
    ∙ ap (λ (ys : List X). ys ++ x ∷ []) before
    ∙ append_assoc old (map f (take k ns)) (x ∷ [])
    ∙ ap (λ (y : X). old ++ (map f (take k ns) ++ y ∷ [])) same
    ∙ ap (λ (ys : List X). old ++ ys) (sym (map_more f ns k 0 below))
