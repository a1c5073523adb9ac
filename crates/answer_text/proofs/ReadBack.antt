-- The text of an answer in order reads back as that answer.
use Rattle.std.proofs.Common.{◌≡◌, ◌≢◌, ℕ, zero, suc, ◌<◌, ◌≤◌, ◌^◌, Bool, true, false, List, [], ◌∷◌, ◌++◌, length, All, Some, None, refl, sym, ◌∙◌, ap, subst, arith, get_or}
use Rattle.std.specs.Prelude.{if◌then◌else◌, flat_map, decimal}
use Rattle.std.specs.Int.{IsInRange}
use Rattle.std.specs.Str.Parse.{AllDigits}
use Rattle.std.proofs.lemmas.Bool.{ne_eqb, le-leb}
use Rattle.std.proofs.lemmas.Fmt.{digits_decimal, decimal_nonempty, first_decimal}
use Rattle.std.proofs.lemmas.Str.Parse.{numerals_by_value, tells_digits, digit_from_value}
use Rattle.std.proofs.lemmas.List.{append_assoc}
use Rattle.std.proofs.lemmas.List.Elements.{All-head, All-tail, All-nil, All-cons}
use Rattle.cnf_core.specs.Literals.{Literal, IsWithin}
use Rattle.cnf_core.specs.Spelling.{literal_text, number_of_digits}
use Rattle.cnf_core.proofs.Numerals.{number_of_digits-decimal}
use Rattle.text_lines.specs.Lines.{Line, text_of_line, lines_of, IsPlain}
use Rattle.text_lines.proofs.Lines.{lines_ended}
use Rattle.answer_text.specs.Reading.{up_to, variable_of, signed_literal, literal_of}

-- a variable's digits
record IsWritten (vars n : ℕ) : Type 0 where
  variable : variable_of vars (decimal n) ≡ Some n
  plain : IsPlain (decimal n)
  unsigned : literal_of vars (decimal n) ≡ signed_literal true (variable_of vars (decimal n))

digits_plain : (ds : List ℕ) → AllDigits 10 ds → IsPlain ds
digits_plain [] digits = All-nil (λ (b : ℕ). b ≢ 10)
digits_plain (d ∷ ds) digits =
    let range : IsInRange 48 57 d = digit_from_value d digits.0 in
    All-cons (λ (b : ℕ). b ≢ 10) d ds (λ (e : d ≡ 10). omega (arith, e, range)) (digits_plain ds digits.1)

up_to_fits : (vars n : ℕ) → n ≤ vars → up_to vars (Some n) ≡ Some n
up_to_fits vars n le = ap (λ (t : Bool). if t then Some n else None) (le-leb n vars le)

variable_by : (vars n : ℕ) (ds : List ℕ) → 0 < length ds → 48 < get_or ds 0 0 → n ≤ vars → number_of_digits ds ≡ Some n → variable_of vars ds ≡ Some n
variable_by vars n [] some high le e = absurd (omega arith)
variable_by vars n (d ∷ ds) some high le e =
    ap (λ (t : Bool). if t then None else up_to vars (number_of_digits (d ∷ ds))) (ne_eqb d 48 (λ (x : d ≡ 48). omega (arith, x, high)))
    ∙ ap (up_to vars) e ∙ up_to_fits vars n le

unsigned_by : (vars : ℕ) (ds : List ℕ) → 0 < length ds → 48 < get_or ds 0 0 → literal_of vars ds ≡ signed_literal true (variable_of vars ds)
unsigned_by vars [] some high = absurd (omega arith)
unsigned_by vars (d ∷ ds) some high =
    ap (λ (t : Bool). if t then signed_literal false (variable_of vars ds) else signed_literal true (variable_of vars (d ∷ ds)))
    (ne_eqb d 45 (λ (x : d ≡ 45). omega (arith, x, high)))

written : (vars n : ℕ) → vars ≤ 2 ^ 20 → 0 < n → n ≤ vars → IsWritten vars n
written vars n small low high = record {
  variable = variable_by vars n (decimal n) (decimal_nonempty n (omega arith)) (first_decimal n low (omega arith)) high
      (number_of_digits-decimal n (omega arith));
  plain = digits_plain (decimal n) (digits_decimal (numerals_by_value _ tells_digits) n (omega arith));
  unsigned = unsigned_by vars (decimal n) (decimal_nonempty n (omega arith)) (first_decimal n low (omega arith));
}

literal_text-negative : (v : ℕ) → 0 < v → literal_text (record { var = v; positive = false }) ≡ 45 ∷ decimal v
literal_text-negative zero some = absurd (omega arith)
literal_text-negative (suc n) some = refl

pub record IsReadBack (vars : ℕ) (l : Literal) : Type 0 where
  pub literal : literal_of vars (literal_text l) ≡ Some l
  pub plain : IsPlain (literal_text l)

read_back_by : (vars v : ℕ) (positive : Bool) → vars ≤ 2 ^ 20 → 0 < v → v ≤ vars → IsReadBack vars (record { var = v; positive = positive })
read_back_by vars v true small low high =
    let w = written vars v small low high in
    record { literal = w.unsigned ∙ ap (signed_literal true) w.variable; plain = w.plain }
read_back_by vars v false small low high =
    let w = written vars v small low high in
    record {
      literal = ap (literal_of vars) (literal_text-negative v low) ∙ ap (signed_literal false) w.variable;
      plain = subst (λ (ds : List ℕ). IsPlain ds) (sym (literal_text-negative v low))
          (All-cons (λ (b : ℕ). b ≢ 10) 45 (decimal v) (λ (e : 45 ≡ 10). omega (arith, e)) w.plain);
    }

pub read_back : (vars : ℕ) (l : Literal) → vars ≤ 2 ^ 20 → IsWithin vars l → IsReadBack vars l
read_back vars l small within = read_back_by vars l.var l.positive small within.low within.high

-- whole lines, put together, are these lines
pub record IsWholeLine (l : Line) : Type 0 where
  pub plain : IsPlain l.bytes
  pub is_ended : l.ended ≡ true

line_joined : (bytes rest : List ℕ) (t : Bool) → t ≡ true → IsPlain bytes
    → lines_of (text_of_line (record { bytes = bytes; ended = t }) ++ rest) ≡ record { bytes = bytes; ended = t } ∷ lines_of rest
line_joined bytes rest false is plain = absurd (cc is)
line_joined bytes rest true is plain = ap lines_of (append_assoc bytes (10 ∷ []) rest) ∙ lines_ended bytes rest plain

pub lines_back : (ls : List Line) → All IsWholeLine ls → lines_of (flat_map text_of_line ls) ≡ ls
lines_back [] whole = refl
lines_back (l ∷ ls) whole =
    let first = All-head IsWholeLine l ls whole in
    line_joined l.bytes (flat_map text_of_line ls) l.ended first.is_ended first.plain
    ∙ ap (λ (rest : List Line). l ∷ rest) (lines_back ls (All-tail IsWholeLine l ls whole))
