-- A text that the library parses, as `number_in` sees it.
use Rattle.std.proofs.Common.{◌≡◌, ◌<◌, ◌≤◌, ℕ, Bool, true, false, Some, None, Result, Ok, Err, refl, sym, ap, ◌∙◌, arith}
use Rattle.std.specs.Result.{result_ok}
use Rattle.std.specs.Str.Parse.{ParsesUnsigned, digits_value, without_leading_plus}
use Rattle.clap.specs.Values.{IsUnsignedIn}
use Rattle.clap.specs.ValueTests.{is_unsigned_in}
use Rattle.clap.specs.Walk.{Text}
use Rattle.clap.specs.declared.builder.value_parser.ValueParser.TheVariants.{Unsigned}
use Rattle.clap.proofs.ValueTestLemmas.{accepts-Accepts, Accepts-accepts}
use Rattle.bone_words.specs.Settings.{number_in}

in_bounds : (low high : ℕ) (text : Text) → IsUnsignedIn low high text
    → number_in low high text ≡ Some (digits_value 10 (without_leading_plus text))
unfolding number_in
in_bounds low high text within = rw (Accepts-accepts false (Unsigned low high) text within) refl

out_of_bounds : (low high : ℕ) (text : Text) → (IsUnsignedIn low high text → ⊥) → number_in low high text ≡ None
unfolding number_in
out_of_bounds low high text outside = by_test (is_unsigned_in low high text) refl
  where
    by_test : (b : Bool) → is_unsigned_in low high text ≡ b → number_in low high text ≡ None
    by_test true holds = absurd (outside (accepts-Accepts false (Unsigned low high) text holds))
    by_test false fails = rw fails refl

module _ {E : Type 0} (low high : ℕ) (text : Text) where
  pub none_parsed : (r : Result ℕ E) → ParsesUnsigned 64 10 text r → None ≡ result_ok r → None ≡ number_in low high text
  none_parsed (Ok n) parsed is = cc
  none_parsed (Err e) parsed is = sym (out_of_bounds low high text (λ within. parsed (within.0, within.1)))

  pub some_parsed : (r : Result ℕ E) (n : ℕ) → ParsesUnsigned 64 10 text r → Some n ≡ result_ok r → low ≤ n → n ≤ high
      → Some n ≡ number_in low high text
  some_parsed (Ok m) n parsed is above below =
      let same : n ≡ digits_value 10 (without_leading_plus text) = cc (is, parsed.1) in
      ap Some same ∙ sym (in_bounds low high text (parsed.0.0, parsed.0.1, omega arith, omega arith))
  some_parsed (Err e) n parsed is above below = cc

  pub low_parsed : (r : Result ℕ E) (n : ℕ) → ParsesUnsigned 64 10 text r → Some n ≡ result_ok r → n < low
      → None ≡ number_in low high text
  low_parsed (Ok m) n parsed is below =
      let same : n ≡ digits_value 10 (without_leading_plus text) = cc (is, parsed.1) in
      sym (out_of_bounds low high text (λ within. let above = within.2 in absurd (omega arith)))
  low_parsed (Err e) n parsed is below = cc

  pub high_parsed : (r : Result ℕ E) (n : ℕ) → ParsesUnsigned 64 10 text r → Some n ≡ result_ok r → high < n
      → None ≡ number_in low high text
  high_parsed (Ok m) n parsed is above =
      let same : n ≡ digits_value 10 (without_leading_plus text) = cc (is, parsed.1) in
      sym (out_of_bounds low high text (λ within. let below = within.3 in absurd (omega arith)))
  high_parsed (Err e) n parsed is above = cc
