-- Packed forms of literals.
use Rattle.std.proofs.Common.{◌≡◌, ◌≢◌, ℕ, ◌+◌, ◌*◌, ◌≤◌, ℤ, pos, Bool, true, false, not, eqb, w8, refl, sym, ap, ◌∙◌, arith}
use Rattle.std.proofs.lemmas.Bool.{eqb-true, eq-eqb, not-false, false≢true}
use Rattle.cnf_core.specs.Literals.{Literal, code_of}
use Rattle.std.specs.Int.{cast_signed, cast_unsigned}
use Rattle.trail_core.specs.Trails.{sign_of}
use Rattle.trail_core.specs.Steps.Tables.{unset}

pub code_le : (l : Literal) → code_of l ≤ 2 * l.var + 1
code_le l =
    let cases : (v : ℕ) (b : Bool) → code_of (record { var = v; positive = b }) ≤ 2 * v + 1 =
    λ v b. elim b as (λ p. code_of (record { var = v; positive = p }) ≤ 2 * v + 1) [ true ↦ omega arith | false ↦ omega arith ] in
    cases l.var l.positive

literal_is : (v u : ℕ) (b : Bool) → v ≡ u → (let l : Literal = record { var = v; positive = b } in l) ≡ record { var = u; positive = b }
literal_is v u b e = ap (λ n. record { var = n; positive = b }) e

same_parts : (v u : ℕ) (b p : Bool) → code_of (record { var = v; positive = b }) ≡ code_of (record { var = u; positive = p })
    → (let l : Literal = record { var = v; positive = b } in l) ≡ record { var = u; positive = p }
same_parts v u true true e = literal_is v u true (omega (arith, e))
same_parts v u true false e = absurd (omega (arith, e))
same_parts v u false true e = absurd (omega (arith, e))
same_parts v u false false e = literal_is v u false (omega (arith, e))

-- a literal is known by its packed form
pub same_code : (k l : Literal) → code_of k ≡ code_of l → k ≡ l
same_code k l e = same_parts k.var l.var k.positive l.positive e

-- a sign is written as a byte and read back
written : (v : ℕ) (b : Bool) → cast_signed w8 (cast_unsigned w8 (sign_of (record { var = v; positive = b })))
    ≡ sign_of (record { var = v; positive = b })
written v true = refl
written v false = refl

pub sign_written : (x : ℤ) (l : Literal) → x ≡ sign_of l → cast_signed w8 (cast_unsigned w8 x) ≡ sign_of l
sign_written x l is = ap (λ y. cast_signed w8 (cast_unsigned w8 y)) is ∙ written l.var l.positive

-- ---- what a comparison says

pub same_if : (k l : Literal) (b : Bool) → b ≡ eqb (code_of k) (code_of l) → b ≡ true → k ≡ l
same_if k l b is equal = same_code k l (eqb-true (code_of k) (code_of l) (sym is ∙ equal))

pub same_unless : (k l : Literal) (b : Bool) → b ≡ not (eqb (code_of k) (code_of l)) → b ≡ false → k ≡ l
same_unless k l b is equal = same_code k l (eqb-true (code_of k) (code_of l) (not-false (eqb (code_of k) (code_of l)) (sym is ∙ equal)))

pub other_if : (k l : Literal) (b : Bool) → b ≡ eqb (code_of k) (code_of l) → b ≡ false → k ≢ l
other_if k l b is apart same = false≢true (sym apart ∙ is ∙ eq-eqb (code_of k) (code_of l) (ap code_of same))

pub other_unless : (k l : Literal) (b : Bool) → b ≡ not (eqb (code_of k) (code_of l)) → b ≡ true → k ≢ l
other_unless k l b is apart same =
    false≢true (sym (ap not (eq-eqb (code_of k) (code_of l) (ap code_of same))) ∙ sym is ∙ apart)

-- ---- signs

set_sign : (v : ℕ) (b : Bool) → sign_of (record { var = v; positive = b }) ≢ pos 0
set_sign v true e = let no : 0 ≡ 1 = ap unset e in absurd (omega (arith, no))
set_sign v false e = let no : 0 ≡ 1 = ap unset e in absurd (omega (arith, no))

-- no literal has the sign of no value
pub sign_is_set : (l : Literal) → sign_of l ≢ pos 0
sign_is_set l e = set_sign l.var l.positive e

pub unset_of_sign : (l : Literal) → unset (sign_of l) ≡ 0
unset_of_sign l =
    let cases : (v : ℕ) (b : Bool) → unset (sign_of (record { var = v; positive = b })) ≡ 0 =
    λ v b. elim b as (λ p. unset (sign_of (record { var = v; positive = p })) ≡ 0) [ true ↦ refl | false ↦ refl ] in
    cases l.var l.positive
