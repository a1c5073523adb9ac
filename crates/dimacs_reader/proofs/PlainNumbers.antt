-- Printed numbers: of which bytes they are, and what is read from them.
use Rattle.std.proofs.Common.{◌≡◌, ℕ, zero, suc, ◌<◌, ◌≤◌, ◌^◌, ◌==◌, Bool, true, false, List, [], ◌∷◌, length}
use Rattle.std.proofs.Common.{Some, refl, ap, ◌∙◌, arith}
use Rattle.std.specs.Prelude.{decimal, option_and_then}
use Rattle.std.specs.Int.{IsInRange}
use Rattle.std.specs.Str.Parse.{AllDigits}
use Rattle.std.proofs.lemmas.Bool.{ne_eqb}
use Rattle.std.proofs.lemmas.Fmt.{digits_decimal, decimal_nonempty}
use Rattle.std.proofs.lemmas.Str.Parse.{numerals_by_value, tells_digits, digit_from_value}
use Rattle.cnf_core.specs.Spelling.{literal_text, number_of_digits}
use Rattle.cnf_core.proofs.Numerals.{number_of_digits-decimal}
use Rattle.dimacs_reader.specs.Numbers.{negative_of, positive_of, literal_of}
use Rattle.dimacs_reader.proofs.PlainPieces.{NonePass}

-- the test takes no digit
abbrev pub SparesDigits : (ℕ → Bool) → Type 0
SparesDigits test = (b : ℕ) → IsInRange 48 57 b → test b ≡ false

all_spared : (test : ℕ → Bool) → SparesDigits test → (ds : List ℕ) → AllDigits 10 ds → NonePass test ds
all_spared test spares [] digits = tt
all_spared test spares (d ∷ ds) digits = (spares d (digit_from_value d digits.0), all_spared test spares ds digits.1)

pub NonePass-decimal : (test : ℕ → Bool) (n : ℕ) → SparesDigits test → n < 2 ^ 64 → NonePass test (decimal n)
NonePass-decimal test n spares small = all_spared test spares (decimal n) (digits_decimal (numerals_by_value _ tells_digits) n small)

literal_text-negative : (v : ℕ) → 0 < v → literal_text (record { var = v; positive = false }) ≡ 45 ∷ decimal v
literal_text-negative zero some = absurd (omega arith)
literal_text-negative (suc n) some = refl

pub NonePass-literal_text : (test : ℕ → Bool) (v : ℕ) (sign : Bool) → SparesDigits test → test 45 ≡ false → 0 < v → v ≤ 2 ^ 20
    → NonePass test (literal_text (record { var = v; positive = sign }))
NonePass-literal_text test v true spares minus low high = NonePass-decimal test v spares (omega arith)
NonePass-literal_text test v false spares minus low high =
    rw (literal_text-negative v low) (minus, NonePass-decimal test v spares (omega arith))

pub length-literal_text : (v : ℕ) (sign : Bool) → 0 < v → v ≤ 2 ^ 20 → 0 < length (literal_text (record { var = v; positive = sign }))
length-literal_text v true low high = decimal_nonempty v (omega arith)
length-literal_text v false low high = rw (literal_text-negative v low) (omega arith)

literal_of_digits : (ds : List ℕ) (n : ℕ) → NonePass (λ b. b == 45) ds → number_of_digits ds ≡ Some n
    → literal_of ds ≡ Some (record { var = n; positive = true })
literal_of_digits [] n unsigned value = absurd (cc)
literal_of_digits (d ∷ ds) n unsigned value = rw unsigned.0 (ap (option_and_then positive_of) value)

negative_of_some : (v : ℕ) → 0 < v → negative_of v ≡ Some (record { var = v; positive = false })
negative_of_some v some = rw (ne_eqb v 0 (λ e. omega arith))

pub literal_of-literal_text : (v : ℕ) (sign : Bool) → 0 < v → v ≤ 2 ^ 20
    → literal_of (literal_text (record { var = v; positive = sign })) ≡ Some (record { var = v; positive = sign })
literal_of-literal_text v true low high =
    literal_of_digits (decimal v) v (NonePass-decimal (λ b. b == 45) v (λ b range. ne_eqb b 45 (λ e. omega arith)) (omega arith))
    (number_of_digits-decimal v (omega arith))
literal_of-literal_text v false low high =
    ap literal_of (literal_text-negative v low)
    ∙ ap (option_and_then negative_of) (number_of_digits-decimal v (omega arith))
    ∙ negative_of_some v low
