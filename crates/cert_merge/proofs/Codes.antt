-- Packed forms of literals, and tests on lists with one element more.
use Rattle.std.proofs.Common.{◌≡◌, ℕ, ◌+◌, ◌*◌, ◌≤◌, Bool, true, false, ◌&&◌, ◌||◌, if◌then◌else◌, List, [], ◌∷◌, ◌++◌, refl, ap, ◌∙◌, arith}
use Rattle.std.specs.List.{list_any}
use Rattle.cnf_core.specs.Literals.{Literal, code_of}

by_parts : (p q : Bool) (v w : ℕ) → 2 * v + (if p then 0 else 1) ≡ 2 * w + (if q then 0 else 1)
    → record { var = v; positive = p } ≡ (let l : Literal = record { var = w; positive = q } in l)
by_parts true true v w same = ap (λ (u : ℕ). record { var = u; positive = true }) (omega arith)
by_parts true false v w same = absurd (omega arith)
by_parts false true v w same = absurd (omega arith)
by_parts false false v w same = ap (λ (u : ℕ). record { var = u; positive = false }) (omega arith)

-- each literal has its own code
pub code_of_injective : (k l : Literal) → code_of k ≡ code_of l → k ≡ l
code_of_injective k l same = by_parts k.positive l.positive k.var l.var same

pub code_of-bound : (l : Literal) → code_of l ≤ 2 * l.var + 1
code_of-bound l = by_sign l.positive
  where
    by_sign : (p : Bool) → 2 * l.var + (if p then 0 else 1) ≤ 2 * l.var + 1
    by_sign true = omega arith
    by_sign false = omega arith

pub or_false : (x : Bool) → (x || false) ≡ x
or_false true = refl
or_false false = refl

pub or_true : (x : Bool) → (x || true) ≡ true
or_true true = refl
or_true false = refl

pub and_false : (x : Bool) → (x && false) ≡ false
and_false true = refl
and_false false = refl

or_assoc : (x y z : Bool) → (x || (y || z)) ≡ ((x || y) || z)
or_assoc true y z = refl
or_assoc false y z = refl

pub any_push : {X : Type 0} (p : X → Bool) (xs : List X) (x : X) → list_any p (xs ++ x ∷ []) ≡ (list_any p xs || p x)
any_push p [] x = or_false (p x)
any_push p (y ∷ ys) x = ap (λ (b : Bool). p y || b) (any_push p ys x) ∙ or_assoc (p y) (list_any p ys) (p x)
