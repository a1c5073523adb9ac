-- A text that reads is the text of what it tells.
use Rattle.std.proofs.Common.{◌≡◌, ◌≢◌, ℕ, ◌+◌, ◌^◌, ◌<◌, ◌≤◌, ◌==◌, ◌&&◌, not, Bool, true, false, Option, Some, None, Result, Ok, Err, List, [], ◌∷◌, ◌++◌, length, get_or, map, refl, sym, ap, ◌∙◌, subst, append_assoc, append-nil, length-append, arith}
use Rattle.std.specs.Prelude.{decimal, nat_lt, nat_le, cond}
use Rattle.std.specs.List.{list_all, flat_map}
use Rattle.std.specs.Char.{is_ascii_digit}
use Rattle.std.proofs.lemmas.Bool.{and_parts, not-true, eqb-true, ltb-true, leb-true, both_ways}
use Rattle.std.proofs.lemmas.Fmt.{decimal-digits_value}
use Rattle.std.proofs.lemmas.List.Concat.{flat_map-append}
use Rattle.cnf_core.specs.Literals.{Literal, Assignment}
use Rattle.cnf_core.specs.Spelling.{literal_text, digits_value}
use Rattle.text_lines.specs.Lines.{Line, lines_of, with_byte, text_of_line}
use Rattle.text_lines.specs.Readings.{at_line, steps, ◌>>=◌}
use Rattle.witness_text.specs.declared.line.WitnessLine.{WitnessLine}
use Rattle.witness_text.specs.WitnessText.{digit_of, model_line, drop_line, model_lines, drop_lines, witness_text}
use Rattle.witness_text.specs.Reading.{Witnessed, none_read, is_bit, values_of, with_model, can_be_model, with_digits, is_padded, is_plain, number_below, signed_literal, literal_within, value_of_digit, before_space, behind_space, joined, drop_of, last_var, with_drop, with_drop_above, with_line}
use Rattle.witness_text.specs.Texts.{or_fault, line_step}
use Rattle.witness_text.specs.Laws.{TextsAreSpelled}
use Rattle.witness_text.proofs.Kept.{chosen, inner}
use Rattle.witness_text.proofs.Spelled.{own, drop_body, drop_line_parts, literal_text-negative}
use Rattle.witness_text.proofs.ReadTells.{good, same, end_told}

-- the lines of a text are the text

with_byte-text : (b : ℕ) (ls : List Line) → flat_map text_of_line (with_byte b ls) ≡ b ∷ flat_map text_of_line ls
with_byte-text b [] = refl
with_byte-text b (l ∷ ls) = refl

first_by : (b : ℕ) (bs : List ℕ) (test : Bool) → (b == 10) ≡ test → flat_map text_of_line (lines_of bs) ≡ bs
    → flat_map text_of_line (cond test (record { bytes = []; ended = true } ∷ lines_of bs) (with_byte b (lines_of bs))) ≡ b ∷ bs
first_by b bs true is rest =
    ap (λ (more : List ℕ). 10 ∷ more) rest ∙ ap (λ (x : ℕ). x ∷ bs) (sym (eqb-true b 10 is))
first_by b bs false is rest = with_byte-text b (lines_of bs) ∙ ap (λ (more : List ℕ). b ∷ more) rest

lines_text : (text : List ℕ) → flat_map text_of_line (lines_of text) ≡ text
lines_text [] = refl
lines_text (b ∷ bs) = first_by b bs (b == 10) refl (lines_text bs)

-- the parts around a space, where something stands behind it

parts_by : (b : ℕ) (bs : List ℕ) (test : Bool) → (b == 32) ≡ test
    → (behind_space bs ≢ [] → bs ≡ before_space bs ++ 32 ∷ behind_space bs)
    → cond test bs (behind_space bs) ≢ []
    → b ∷ bs ≡ cond test [] (b ∷ before_space bs) ++ 32 ∷ cond test bs (behind_space bs)
parts_by b bs true is rest some = ap (λ (x : ℕ). x ∷ bs) (eqb-true b 32 is)
parts_by b bs false is rest some = ap (λ (more : List ℕ). b ∷ more) (rest some)

space_parts : (bs : List ℕ) → behind_space bs ≢ [] → bs ≡ before_space bs ++ 32 ∷ behind_space bs
space_parts [] some = absurd (some refl)
space_parts (b ∷ bs) some = parts_by b bs (b == 32) refl (space_parts bs) some

-- what was read from each part writes that part

plain_decimal : (ds : List ℕ) → is_plain ds ≡ true → digits_value ds < 2 ^ 64 → decimal (digits_value ds) ≡ ds
plain_decimal ds plain small =
    let parts = and_parts (list_all is_ascii_digit ds) (nat_lt 0 (length ds) && not (is_padded ds)) plain in
    let more = and_parts (nat_lt 0 (length ds)) (not (is_padded ds)) parts.1 in
    let unpadded : is_padded ds ≡ false = not-true (is_padded ds) more.1 in
    decimal-digits_value own ds parts.0 (ltb-true 0 (length ds) more.0) (one_zero ds (ltb-true 0 (length ds) more.0) unpadded) small
  where
    one_zero : (ds : List ℕ) → 0 < length ds → is_padded ds ≡ false → get_or ds 0 0 ≡ 48 → length ds ≡ 1
    one_zero ds some unpadded zero = grind (arith, unpadded)

number_spelled : (limit : ℕ) (ds : List ℕ) (k : ℕ) → limit ≤ 2 ^ 64 → number_below limit ds ≡ Some k → decimal k ≡ ds
number_spelled limit ds k wide is =
    let got = chosen (is_plain ds && nat_lt (digits_value ds) limit) (Some (digits_value ds)) k is in
    let parts = and_parts (is_plain ds) (nat_lt (digits_value ds) limit) got.test_is in
    let small : digits_value ds < 2 ^ 64 = omega (arith, ltb-true (digits_value ds) limit parts.1) in
    ap decimal (sym (inner (digits_value ds) k got.given)) ∙ plain_decimal ds parts.0 small

signed_text : (positive : Bool) (v : ℕ) (ds : List ℕ) → 0 < v → decimal v ≡ ds
    → literal_text (record { var = v; positive = positive }) ≡ cond positive ds (45 ∷ ds)
signed_text true v ds some is = is
signed_text false v ds some is = literal_text-negative v some ∙ ap (λ (xs : List ℕ). 45 ∷ xs) is

signed_spelled : (n : ℕ) (positive : Bool) (ds : List ℕ) (l : Literal) → n ≤ 2 ^ 20 → signed_literal n positive ds ≡ Some l
    → literal_text l ≡ cond positive ds (45 ∷ ds)
signed_spelled n positive ds l small is =
    let v = digits_value ds in
    let got = chosen (is_plain ds && (nat_lt 0 v && nat_le v n)) (Some (record { var = v; positive = positive })) l is in
    let parts = and_parts (is_plain ds) (nat_lt 0 v && nat_le v n) got.test_is in
    let bounds = and_parts (nat_lt 0 v) (nat_le v n) parts.1 in
    let high : v < 2 ^ 64 = omega (arith, leb-true v n bounds.1) in
    ap literal_text (sym (inner (record { var = v; positive = positive }) l got.given))
    ∙ signed_text positive v ds (ltb-true 0 v bounds.0) (plain_decimal ds parts.0 high)

literal_by : (n b : ℕ) (ds : List ℕ) (l : Literal) (minus : Bool) → (b == 45) ≡ minus → n ≤ 2 ^ 20
    → cond minus (signed_literal n false ds) (signed_literal n true (b ∷ ds)) ≡ Some l → literal_text l ≡ b ∷ ds
literal_by n b ds l true test small is =
    signed_spelled n false ds l small is ∙ ap (λ (x : ℕ). x ∷ ds) (sym (eqb-true b 45 test))
literal_by n b ds l false test small is = signed_spelled n true (b ∷ ds) l small is

literal_spelled : (n : ℕ) (ds : List ℕ) (l : Literal) → n ≤ 2 ^ 20 → literal_within n ds ≡ Some l → literal_text l ≡ ds
literal_spelled n [] l small is = absurd (cc)
literal_spelled n (b ∷ ds) l small is = literal_by n b ds l (b == 45) refl small is

bit_by : (b : ℕ) (zero one : Bool) → (b == 48) ≡ zero → (b == 49) ≡ one → cond zero true one ≡ true → digit_of one ≡ b
bit_by b zero true z o is = sym (eqb-true b 49 o)
bit_by b true false z o is = sym (eqb-true b 48 z)
bit_by b false false z o is = absurd (both_ways false refl is)

bit_spelled : (b : ℕ) → is_bit b ≡ true → digit_of (b == 49) ≡ b
bit_spelled b is = bit_by b (b == 48) (b == 49) refl refl is

digit_spelled : (bs : List ℕ) (f : Bool) → value_of_digit bs ≡ Some f → bs ≡ digit_of f ∷ []
digit_spelled [] f is = absurd (cc)
digit_spelled (b ∷ []) f is =
    let got = chosen (is_bit b) (Some (b == 49)) f is in
    ap (λ (x : ℕ). x ∷ []) (sym (bit_spelled b got.test_is) ∙ ap digit_of (inner (b == 49) f got.given))
digit_spelled (b ∷ c ∷ more) f is = absurd (cc)

joined_parts : (l : Option Literal) (k : Option ℕ) (f : Option Bool) (d : WitnessLine) → joined l k f ≡ Some d
    → (l ≡ Some d.lit) × (k ≡ Some d.model) × (f ≡ Some d.flip)
joined_parts (Some l) (Some k) (Some f) d is =
    let same_line = inner (record { lit = l; model = k; flip = f }) d is in (
      ap (λ (e : WitnessLine). Some e.lit) same_line,
      ap (λ (e : WitnessLine). Some e.model) same_line,
      ap (λ (e : WitnessLine). Some e.flip) same_line,
    )
joined_parts (Some l) (Some k) None d is = absurd (cc)
joined_parts (Some l) None f d is = absurd (cc)
joined_parts None k f d is = absurd (cc)

some_digit : (bs : List ℕ) (f : Bool) → bs ≡ digit_of f ∷ [] → bs ≢ []
some_digit bs f is none = absurd (cc)

nothing_behind : (bs : List ℕ) → behind_space bs ≢ [] → bs ≢ []
nothing_behind bs some none = some (ap behind_space none)

drop_spelled : (n count : ℕ) (body : List ℕ) (d : WitnessLine) → n ≤ 2 ^ 20 → count ≤ 2 ^ 64 → drop_of n count body ≡ Some d
    → drop_body d ≡ body
drop_spelled n count body d small wide is =
    let rest = behind_space body in
    let got = joined_parts (literal_within n (before_space body)) (number_below count (before_space rest))
    (value_of_digit (behind_space rest)) d is in
    let last = digit_spelled (behind_space rest) d.flip got.2 in
    let some = some_digit (behind_space rest) d.flip last in
    let number = number_spelled count (before_space rest) d.model wide got.1 in
    let literal = literal_spelled n (before_space body) d.lit small got.0 in
    let rest_is : decimal d.model ++ 32 ∷ digit_of d.flip ∷ [] ≡ rest =
    ap (λ (xs : List ℕ). xs ++ 32 ∷ digit_of d.flip ∷ []) number
    ∙ ap (λ (xs : List ℕ). before_space rest ++ 32 ∷ xs) (sym last)
    ∙ sym (space_parts rest some) in
    ap (λ (xs : List ℕ). literal_text d.lit ++ 32 ∷ xs) rest_is
    ∙ ap (λ (xs : List ℕ). xs ++ 32 ∷ rest) literal
    ∙ sym (space_parts body (nothing_behind rest some))

digits_spelled : (digits : List ℕ) → list_all is_bit digits ≡ true → map digit_of (values_of digits) ≡ digits
digits_spelled [] all = refl
digits_spelled (b ∷ bs) all =
    let parts = and_parts (is_bit b) (list_all is_bit bs) all in
    ap (λ (x : ℕ). x ∷ map digit_of (values_of bs)) (bit_spelled b parts.0) ∙ ap (λ (xs : List ℕ). b ∷ xs) (digits_spelled bs parts.1)

-- the text so far
abbrev told_text : Witnessed → List ℕ
told_text w = witness_text w.models w.drops

no_members : {X : Type 0} (xs : List X) → length xs ≡ 0 → xs ≡ []
no_members [] is = refl
no_members (x ∷ xs) is = absurd (omega arith)

-- a line that was taken is the text that was added
record Adds (w t : Witnessed) (bytes : List ℕ) : Type 0 where
  vars : t.vars ≡ w.vars
  more : length w.models ≤ length t.models
  text : length w.models ≤ 2 ^ 64 → told_text t ≡ told_text w ++ (bytes ++ 10 ∷ [])

model_text : (models : List Assignment) (a : Assignment) (drops : List WitnessLine) → drops ≡ []
    → witness_text (models ++ a ∷ []) drops ≡ witness_text models drops ++ model_line a
model_text models a drops none =
    ap (λ (ds : List WitnessLine). witness_text (models ++ a ∷ []) ds) none
    ∙ append-nil (model_lines (models ++ a ∷ []))
    ∙ flat_map-append model_line models (a ∷ [])
    ∙ ap (λ (xs : List ℕ). model_lines models ++ xs) (append-nil (model_line a))
    ∙ ap (λ (xs : List ℕ). xs ++ model_line a) (sym (append-nil (model_lines models)))
    ∙ ap (λ (ds : List WitnessLine). witness_text models ds ++ model_line a) (sym none)

drop_text : (models : List Assignment) (drops : List WitnessLine) (d : WitnessLine)
    → witness_text models (drops ++ d ∷ []) ≡ witness_text models drops ++ drop_line d
drop_text models drops d =
    ap (λ (xs : List ℕ). model_lines models ++ xs)
    (flat_map-append drop_line drops (d ∷ []) ∙ ap (λ (xs : List ℕ). drop_lines drops ++ xs) (append-nil (drop_line d)))
    ∙ sym (append_assoc (model_lines models) (drop_lines drops) (drop_line d))

adds_model : (w t : Witnessed) (digits : List ℕ) → with_digits w digits ≡ Some t → Adds w t (109 ∷ digits)
adds_model w t digits is =
    let a = values_of digits in
    let got = chosen (can_be_model w digits) (Some (with_model w a)) t is in
    let parts = and_parts (length w.drops == 0) ((length digits == w.vars) && list_all is_bit digits) got.test_is in
    let none : w.drops ≡ [] = no_members w.drops (eqb-true (length w.drops) 0 parts.0) in
    let bits = (and_parts (length digits == w.vars) (list_all is_bit digits) parts.1).1 in
    let here : Adds w (with_model w a) (109 ∷ digits) = record {
      vars = refl;
      more = omega (arith, length-append w.models (a ∷ []));
      text = λ wide. model_text w.models a w.drops none
          ∙ ap (λ (ds : List ℕ). told_text w ++ ((109 ∷ ds) ++ 10 ∷ [])) (digits_spelled digits bits);
    } in
    subst (λ (u : Witnessed). Adds w u (109 ∷ digits)) (inner (with_model w a) t got.given) here

adds_drop : (w t : Witnessed) (body : List ℕ) (o : Option WitnessLine) → w.vars ≤ 2 ^ 20
    → ((d : WitnessLine) → o ≡ Some d → length w.models ≤ 2 ^ 64 → drop_body d ≡ body)
    → with_drop_above w o ≡ Some t → Adds w t (100 ∷ 32 ∷ body)
adds_drop w t body None small spelled is = absurd (cc)
adds_drop w t body (Some d) small spelled is =
    let got = chosen (nat_lt (last_var w.drops) d.lit.var) (Some (with_drop w d)) t is in
    let here : Adds w (with_drop w d) (100 ∷ 32 ∷ body) = record {
      vars = refl;
      more = omega arith;
      text = λ wide. drop_text w.models w.drops d
          ∙ ap (λ (xs : List ℕ). told_text w ++ xs) (sym (append-nil (drop_line d)) ∙ drop_line_parts d [])
          ∙ ap (λ (xs : List ℕ). told_text w ++ ((100 ∷ 32 ∷ xs) ++ 10 ∷ [])) (spelled d refl wide);
    } in
    subst (λ (u : Witnessed). Adds w u (100 ∷ 32 ∷ body)) (inner (with_drop w d) t got.given) here

adds_by : (w t : Witnessed) (b c : ℕ) (more : List ℕ) (letter drop : Bool) → (b == 109) ≡ letter
    → ((b == 100) && (c == 32)) ≡ drop → w.vars ≤ 2 ^ 20
    → cond letter (with_digits w (c ∷ more)) (cond drop (with_drop_above w (drop_of w.vars (length w.models) more)) None) ≡ Some t
    → Adds w t (b ∷ c ∷ more)
adds_by w t b c more true drop m d small is =
    subst (λ (x : ℕ). Adds w t (x ∷ c ∷ more)) (sym (eqb-true b 109 m)) (adds_model w t (c ∷ more) is)
adds_by w t b c more false true m d small is =
    let parts = and_parts (b == 100) (c == 32) d in
    let here = adds_drop w t more (drop_of w.vars (length w.models) more) small
    (λ e got wide. drop_spelled w.vars (length w.models) more e small wide got) is in
    subst (λ (x : ℕ). Adds w t (x ∷ c ∷ more)) (sym (eqb-true b 100 parts.0))
    (subst (λ (y : ℕ). Adds w t (100 ∷ y ∷ more)) (sym (eqb-true c 32 parts.1)) here)
adds_by w t b c more false false m d small is = absurd (cc)

adds_line : (w t : Witnessed) (line : List ℕ) → w.vars ≤ 2 ^ 20 → with_line w line ≡ Some t → Adds w t line
adds_line w t [] small is = absurd (cc)
adds_line w t (b ∷ []) small is =
    let got = chosen (b == 109) (with_digits w []) t is in
    subst (λ (x : ℕ). Adds w t (x ∷ [])) (sym (eqb-true b 109 got.test_is)) (adds_model w t [] got.given)
adds_line w t (b ∷ c ∷ more) small is = adds_by w t b c more (b == 109) ((b == 100) && (c == 32)) refl refl small is

-- the lines up to an end

record Grows (w v : Witnessed) (text : List ℕ) : Type 0 where
  more : length w.models ≤ length v.models
  text_is : length v.models ≤ 2 ^ 64 → told_text v ≡ told_text w ++ text

adds_given : (w t : Witnessed) (bytes : List ℕ) (o : Option Witnessed) → ((u : Witnessed) → o ≡ Some u → Adds w u bytes)
    → or_fault o ≡ Ok t → Adds w t bytes
adds_given w t bytes None adds is = absurd (cc)
adds_given w t bytes (Some u) adds is = subst (λ (x : Witnessed). Adds w x bytes) (good (Ok u) u t refl is) (adds u refl)

-- a line that was taken had its line feed
record Took (w t : Witnessed) (l : Line) : Type 0 where
  adds : Adds w t l.bytes
  is_ended : text_of_line l ≡ l.bytes ++ 10 ∷ []

took_by : (w t : Witnessed) (bytes : List ℕ) (ended : Bool) → w.vars ≤ 2 ^ 20
    → line_step w (record { bytes = bytes; ended = ended }) ≡ Ok t → Took w t (record { bytes = bytes; ended = ended })
took_by w t bytes true small is = record {
  adds = adds_given w t bytes (with_line w bytes) (λ u got. adds_line w u bytes small got) is;
  is_ended = refl;
}
took_by w t bytes false small is = absurd (cc)

grow_next : (k : ℕ) (l : Line) (ls : List Line) (w v : Witnessed) (r : Result Witnessed (Unit {0}))
    → ((t : Witnessed) → r ≡ Ok t → Took w t l)
    → ((t : Witnessed) → t.vars ≡ w.vars → steps line_step (k + 1) t ls ≡ Ok v → Grows t v (flat_map text_of_line ls))
    → (at_line k r >>= λ t. steps line_step (k + 1) t ls) ≡ Ok v → Grows w v (text_of_line l ++ flat_map text_of_line ls)
grow_next k l ls w v (Ok t) took later is =
    let first = took t refl in
    let rest = later t first.adds.vars is in
    record {
      more = omega (arith, first.adds.more, rest.more);
      text_is = λ wide.
          rest.text_is wide
          ∙ ap (λ (xs : List ℕ). xs ++ flat_map text_of_line ls)
          (first.adds.text (omega (arith, first.adds.more, rest.more)) ∙ ap (λ (xs : List ℕ). told_text w ++ xs) (sym first.is_ended))
          ∙ append_assoc (told_text w) (text_of_line l) (flat_map text_of_line ls);
    }
grow_next k l ls w v (Err f) took later is = absurd (cc)

steps_grow : (ls : List Line) (k : ℕ) (w v : Witnessed) → w.vars ≤ 2 ^ 20 → steps line_step k w ls ≡ Ok v
    → Grows w v (flat_map text_of_line ls)
steps_grow [] k w v small is =
    subst (λ (u : Witnessed). Grows w u []) (same (Ok w) w v refl is)
    (record { more = omega arith; text_is = λ wide. sym (append-nil (told_text w)) })
steps_grow (l ∷ ls) k w v small is =
    grow_next k l ls w v (line_step w l)
    (λ t got. took_by w t l.bytes l.ended small got)
    (λ t vars rest. steps_grow ls (k + 1) t v (omega (arith, vars, small)) rest)
    is

pub texts_spelled : TextsAreSpelled
texts_spelled n text w small wide is =
    let read = end_told (steps line_step 1 (none_read n) (lines_of text)) (length (lines_of text) + 1) w is in
    sym ((steps_grow (lines_of text) 1 (none_read n) w small read).text_is wide ∙ lines_text text)
