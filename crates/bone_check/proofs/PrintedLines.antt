-- A printed line of a proof is one line of the text, and is read as that line.
use Rattle.std.proofs.Common.{◌≡◌, ◌≢◌, ℕ, ◌+◌, ◌<◌, ◌≤◌, ◌^◌, ◌==◌, Bool, true, false, List, [], ◌∷◌, ◌++◌, Result, Ok, Err, length, All, refl, sym, ap, ◌∙◌, subst, append_assoc, append-nil, arith}
use Rattle.std.specs.Prelude.{IsOk, is_ok, decimal, codes, flat_map}
use Rattle.std.specs.Int.{IsInRange}
use Rattle.std.specs.Str.Parse.{AllDigits}
use Rattle.std.proofs.lemmas.Bool.{ne_eqb, cond-false}
use Rattle.std.proofs.lemmas.Fmt.{digits_decimal, decimal_nonempty}
use Rattle.std.proofs.lemmas.Str.Parse.{numerals_by_value, tells_digits, digit_from_value}
use Rattle.std.proofs.lemmas.List.Elements.{All-head, All-tail, All-cons, All-nil, All-append}
use Rattle.cnf_core.specs.Literals.{Literal, Literals, IsWithin, AreWithin}
use Rattle.cnf_core.specs.Spelling.{literal_text}
use Rattle.cnf_core.specs.Formulas.{Cnf}
use Rattle.text_lines.specs.Lines as text
use Rattle.text_lines.specs.Readings.{steps, at_line, ◌>>=◌}
use Rattle.text_lines.proofs.Lines.{lines_ended}
use Rattle.lrat_lines.specs.declared.line.Line.{Line}
use Rattle.lrat_lines.specs.declared.line.Line.TheVariants.{Add, Delete}
use Rattle.lrat_lines.specs.Tokens.{is_gap}
use Rattle.lrat_lines.specs.Grammar.{line_of}
use Rattle.lrat_lines.specs.Printed.{number_bytes, literal_bytes, numbers_bytes, literals_bytes, line_bytes, proof_text, IsWide, IsPrintable, IsInMemory}
use Rattle.lrat_lines.specs.Propagation.{Refusal}
use Rattle.lrat_lines.specs.Proofs.{Progress, start, then_line, after_lines, checked, Proves}
use Rattle.lrat_lines.proofs.ReadsBack.{printed_reads_back}
use Rattle.witness_text.proofs.Spelled.{literal_text-negative}
use Rattle.bone_check.specs.declared.verdict.Reason.{Reason}
use Rattle.bone_check.specs.Proving.{is_skipped, unless_refused, with_line, after_text}
use Rattle.bone_check.specs.Verdicts.{text_step, proof_reading}
use Rattle.bone_check.specs.Complete.{IsWritableProof}

-- ---- no byte of a printed line is a line feed

abbrev IsNoFeed : ℕ → Type 0
IsNoFeed b = b ≢ 10

digits_plain : (ds : List ℕ) → AllDigits 10 ds → text.IsPlain ds
digits_plain [] digits = All-nil IsNoFeed
digits_plain (d ∷ ds) digits =
    let range : IsInRange 48 57 d = digit_from_value d digits.0 in
    All-cons IsNoFeed d ds (λ e. omega (arith, range, e)) (digits_plain ds digits.1)

decimal_digits : (n : ℕ) → n < 2 ^ 64 → AllDigits 10 (decimal n)
decimal_digits n small = digits_decimal (numerals_by_value _ tells_digits) n small

decimal_plain : (n : ℕ) → n < 2 ^ 64 → text.IsPlain (decimal n)
decimal_plain n small = digits_plain (decimal n) (decimal_digits n small)

signed_plain : (positive : Bool) (v : ℕ) → 0 < v → v ≤ 2 ^ 20 → text.IsPlain (literal_text (record { var = v; positive = positive }))
signed_plain true v low high = decimal_plain v (omega arith)
signed_plain false v low high =
    subst (λ (bs : List ℕ). text.IsPlain bs) (sym (literal_text-negative v low))
    (All-cons IsNoFeed 45 (decimal v) (λ e. omega (arith, e)) (decimal_plain v (omega arith)))

-- a list of parts, none of which has a line feed
parts_plain : {X : Type 0} (P : X → Type 0) (part : X → List ℕ) (xs : List X) → ((x : X) → P x → text.IsPlain (part x)) → All P xs
    → text.IsPlain (flat_map part xs)
parts_plain P part [] plain all = All-nil IsNoFeed
parts_plain P part (x ∷ xs) plain all =
    All-append IsNoFeed (part x) (flat_map part xs) (plain x (All-head P x xs all)) (parts_plain P part xs plain (All-tail P x xs all))

byte_plain : (b : ℕ) → b ≢ 10 → text.IsPlain (b ∷ [])
byte_plain b other = All-cons IsNoFeed b [] other (All-nil IsNoFeed)

space_plain : text.IsPlain (32 ∷ [])
space_plain = byte_plain 32 (λ e. omega (arith, e))

number_plain : (n : ℕ) → IsWide n → text.IsPlain (number_bytes n)
number_plain n wide = All-append IsNoFeed (decimal n) (32 ∷ []) (decimal_plain n wide) space_plain

literal_plain : (l : Literal) → IsWithin (2 ^ 20) l → text.IsPlain (literal_bytes l)
literal_plain l within =
    All-append IsNoFeed (literal_text l) (32 ∷ []) (signed_plain l.positive l.var within.low within.high) space_plain

numbers_plain : (ns : List ℕ) → All IsWide ns → text.IsPlain (numbers_bytes ns)
numbers_plain ns wide =
    All-append IsNoFeed (flat_map number_bytes ns) (48 ∷ []) (parts_plain IsWide number_bytes ns number_plain wide)
    (byte_plain 48 (λ e. omega (arith, e)))

literals_plain : (c : Literals) → AreWithin (2 ^ 20) c → text.IsPlain (literals_bytes c)
literals_plain c within =
    All-append IsNoFeed (flat_map literal_bytes c) (48 ∷ 32 ∷ []) (parts_plain (IsWithin (2 ^ 20)) literal_bytes c literal_plain within)
    (All-cons IsNoFeed 48 (32 ∷ []) (λ e. omega (arith, e)) space_plain)

line_plain : (line : Line) → IsInMemory line → text.IsPlain (line_bytes line)
line_plain (Add id c hints) memory =
    All-append IsNoFeed (number_bytes id) (literals_bytes c ++ numbers_bytes hints) (number_plain id memory.own)
    (All-append IsNoFeed (literals_bytes c) (numbers_bytes hints) (literals_plain c memory.within) (numbers_plain hints memory.others))
line_plain (Delete id ids) memory =
    All-append IsNoFeed (number_bytes id) (100 ∷ 32 ∷ numbers_bytes ids) (number_plain id memory.own)
    (All-cons IsNoFeed 100 (32 ∷ numbers_bytes ids) (λ e. omega (arith, e))
    (All-cons IsNoFeed 32 (numbers_bytes ids) (λ e. omega (arith, e)) (numbers_plain ids memory.others)))

-- ---- it isn't skipped

digit_no_gap : (d : ℕ) → 48 ≤ d → is_gap d ≡ false
digit_no_gap d low =
    rw (ne_eqb d 32 (λ e. omega arith), ne_eqb d 9 (λ e. omega arith), ne_eqb d 13 (λ e. omega arith), ne_eqb d 10 (λ e. omega arith))

digits_not_skipped : (ds more : List ℕ) → AllDigits 10 ds → 0 < length ds → is_skipped (ds ++ more) ≡ false
digits_not_skipped [] more digits some = absurd (omega arith)
digits_not_skipped (d ∷ ds) more digits some =
    let range : IsInRange 48 57 d = digit_from_value d digits.0 in
    cond-false (is_gap d) (is_skipped (ds ++ more)) (d == 99) (digit_no_gap d (omega (arith, range)))
    ∙ ne_eqb d 99 (λ e. omega (arith, range, e))

id_not_skipped : (id : ℕ) (more : List ℕ) → IsWide id → is_skipped (number_bytes id ++ more) ≡ false
id_not_skipped id more wide =
    ap is_skipped (append_assoc (decimal id) (codes " ") more)
    ∙ digits_not_skipped (decimal id) (codes " " ++ more) (decimal_digits id wide) (decimal_nonempty id wide)

not_skipped : (line : Line) → IsInMemory line → is_skipped (line_bytes line) ≡ false
not_skipped (Add id c hints) memory = id_not_skipped id (literals_bytes c ++ numbers_bytes hints) memory.own
not_skipped (Delete id ids) memory = id_not_skipped id (codes "d " ++ numbers_bytes ids) memory.own

-- ---- the first lines of an accepted proof are accepted

refused_stays : (F : Cnf) (refusal : Refusal) (lines : List Line) → after_lines F (Err refusal) lines ≡ Err refusal
refused_stays F refusal [] = refl
refused_stays F refusal (line ∷ lines) = refused_stays F refusal lines

after_lines-append : (F : Cnf) (r : Result Progress Refusal) (front rest : List Line)
    → after_lines F r (front ++ rest) ≡ after_lines F (after_lines F r front) rest
after_lines-append F r [] rest = refl
after_lines-append F r (line ∷ front) rest = after_lines-append F (then_line F r line) front rest

was_ok : (F : Cnf) (r : Result Progress Refusal) (rest : List Line) → IsOk (after_lines F r rest) → IsOk r
was_ok F (Ok p) rest ok = refl
was_ok F (Err refusal) rest ok = absurd (cc (ap is_ok (sym (refused_stays F refusal rest)) ∙ ok))

proves_front : (F : Cnf) (front rest : List Line) → Proves F (front ++ rest) → Proves F front
unfolding checked
proves_front F front rest proves =
    was_ok F (after_lines F (Ok (start F)) front) rest (ap is_ok (sym (after_lines-append F (Ok (start F)) front rest)) ∙ proves)

-- ---- the text reads as the lines

accepted : (lines : List Line) (r : Result Progress Refusal) → IsOk r → unless_refused lines r ≡ Ok lines
accepted lines (Ok p) ok = refl
accepted lines (Err refusal) ok = absurd (cc ok)

line_taken : (F : Cnf) (before : List Line) (line : Line) → IsPrintable line → IsInMemory line → Proves F (before ++ line ∷ [])
    → after_text F before (line_bytes line) ≡ Ok (before ++ line ∷ [])
line_taken F before line printable memory proves =
    cond-false (is_skipped (line_bytes line)) (Ok before) (with_line F before (line_of (line_bytes line))) (not_skipped line memory)
    ∙ ap (with_line F before) (printed_reads_back line printable memory)
    ∙ accepted (before ++ line ∷ []) (checked F (before ++ line ∷ [])) proves

lines_taken : (F : Cnf) (n : ℕ) (before rest : List Line) → All IsPrintable rest → All IsInMemory rest → Proves F (before ++ rest)
    → steps (text_step F) n before (text.lines_of (proof_text rest)) ≡ Ok (before ++ rest)
lines_taken F n before [] printable memory proves = ap (λ (ls : List Line). Ok ls) (sym (append-nil before))
lines_taken F n before (line ∷ rest) printable memory proves =
    let here = All-head IsInMemory line rest memory in
    let joined : (before ++ line ∷ []) ++ rest ≡ before ++ line ∷ rest = append_assoc before (line ∷ []) rest in
    let onward : Proves F ((before ++ line ∷ []) ++ rest) = subst (λ (ls : List Line). Proves F ls) (sym joined) proves in
    ap (λ (bytes : List ℕ). steps (text_step F) n before (text.lines_of bytes)) (append_assoc (line_bytes line) (codes "\n") (proof_text rest))
    ∙ ap (λ (ls : List text.Line). steps (text_step F) n before ls) (lines_ended (line_bytes line) (proof_text rest) (line_plain line here))
    ∙ ap (λ (r : Result (List Line) Reason). at_line n r >>= λ (ls : List Line). steps (text_step F) (n + 1) ls (text.lines_of (proof_text rest)))
    (line_taken F before line (All-head IsPrintable line rest printable) here (proves_front F (before ++ line ∷ []) rest onward))
    ∙ lines_taken F (n + 1) (before ++ line ∷ []) rest (All-tail IsPrintable line rest printable) (All-tail IsInMemory line rest memory) onward
    ∙ ap (λ (ls : List Line). Ok ls) joined

pub proof_read : (F : Cnf) (lines : List Line) → IsWritableProof F lines → proof_reading F (proof_text lines) ≡ Ok lines
unfolding proof_reading
proof_read F lines is = lines_taken F 1 [] lines is.printable is.in_memory is.accepted
