-- A printed line is read as that line.
use Rattle.std.proofs.Common.{◌≡◌, ℕ, zero, suc, ◌^◌, ◌<◌, ◌≤◌, ◌==◌, Bool, true, false, List, [], ◌∷◌, ◌++◌, length, Option, Some, None}
use Rattle.std.proofs.Common.{Ok, Result, All, inl, inr, refl, sym, ap, ◌∙◌, append_assoc, arith}
use Rattle.std.specs.Prelude.{decimal, codes, flat_map, filter, bytes_eq}
use Rattle.std.specs.Int.{IsInRange}
use Rattle.std.specs.Str.Parse.{AllDigits}
use Rattle.std.proofs.lemmas.Bool.{ne_eqb, lt-ltb, le-leb, cases_Bool}
use Rattle.std.proofs.lemmas.Fmt.{digits_decimal, decimal_nonempty}
use Rattle.std.proofs.lemmas.Str.Parse.{numerals_by_value, tells_digits, digit_from_value}
use Rattle.std.proofs.lemmas.List.Elements.{All-head, All-tail}
use Rattle.std.proofs.lemmas.Slice.Eq.{bytes_eq-Decides}
use Rattle.cnf_core.specs.Literals.{Literal, Literals, IsWithin, AreWithin}
use Rattle.cnf_core.specs.Spelling.{literal_text, number_of_digits}
use Rattle.cnf_core.proofs.Numerals.{number_of_digits-decimal}
use Rattle.lrat_lines.specs.declared.line.Line.TheVariants.{Add, Delete}
use Rattle.lrat_lines.specs.declared.line.LineEnd.{LineEnd}
use Rattle.lrat_lines.specs.Tokens.{is_gap, before_gap, behind_gaps, is_filled, tokens}
use Rattle.lrat_lines.specs.Grammar.{◌>>=◌, id_from, id_item, hint_item, literal_from, literal_item, Listed, listed, listed_by}
use Rattle.lrat_lines.specs.Grammar.{with_element, own_id, ended, addition, deletion, behind_id, line_of_tokens, line_of}
use Rattle.lrat_lines.specs.Printed.{number_bytes, literal_bytes, numbers_bytes, literals_bytes, IsId, IsWide}
use Rattle.lrat_lines.specs.Laws.{PrintedReadsBack}

-- no byte is a gap
abbrev IsWord : List ℕ → Type 0
IsWord [] = Unit {0}
IsWord (b ∷ bs) = (is_gap b ≡ false) × IsWord bs

before_gap-word : (w more : List ℕ) → IsWord w → before_gap (w ++ 32 ∷ more) ≡ w
before_gap-word [] more word = refl
before_gap-word (b ∷ bs) more word = rw (word.0, before_gap-word bs more word.1)

behind_gaps-word : (w more : List ℕ) → IsWord w → behind_gaps (w ++ 32 ∷ more) ≡ before_gap more ∷ behind_gaps more
behind_gaps-word [] more word = refl
behind_gaps-word (b ∷ bs) more word = rw (word.0, behind_gaps-word bs more word.1)

before_gap-last : (w : List ℕ) → IsWord w → before_gap w ≡ w
before_gap-last [] word = refl
before_gap-last (b ∷ bs) word = rw (word.0, before_gap-last bs word.1)

behind_gaps-last : (w : List ℕ) → IsWord w → behind_gaps w ≡ []
behind_gaps-last [] word = refl
behind_gaps-last (b ∷ bs) word = rw (word.0, behind_gaps-last bs word.1)

filled_first : (w : List ℕ) (ts : List (List ℕ)) → 0 < length w → filter is_filled (w ∷ ts) ≡ w ∷ filter is_filled ts
filled_first [] ts some = absurd (omega arith)
filled_first (b ∷ bs) ts some = refl

-- a word before a space is the first token
tokens-word : (w more : List ℕ) → IsWord w → 0 < length w → tokens (w ++ 32 ∷ more) ≡ w ∷ tokens more
tokens-word w more word some =
    ap (λ (t : List ℕ). filter is_filled (t ∷ behind_gaps (w ++ 32 ∷ more))) (before_gap-word w more word)
    ∙ ap (λ (ts : List (List ℕ)). filter is_filled (w ∷ ts)) (behind_gaps-word w more word)
    ∙ filled_first w (before_gap more ∷ behind_gaps more) some

-- the last token
tokens-last : (w : List ℕ) → IsWord w → 0 < length w → tokens w ≡ w ∷ []
tokens-last w word some =
    ap (λ (t : List ℕ). filter is_filled (t ∷ behind_gaps w)) (before_gap-last w word)
    ∙ ap (λ (ts : List (List ℕ)). filter is_filled (w ∷ ts)) (behind_gaps-last w word)
    ∙ filled_first w [] some

-- printed numbers

no_gap : (b : ℕ) → 45 ≤ b → b ≤ 57 → is_gap b ≡ false
no_gap b low high =
    rw (ne_eqb b 32 (λ e. omega arith), ne_eqb b 9 (λ e. omega arith), ne_eqb b 13 (λ e. omega arith), ne_eqb b 10 (λ e. omega arith))

digits_are_word : (ds : List ℕ) → AllDigits 10 ds → IsWord ds
digits_are_word [] digits = tt
digits_are_word (d ∷ ds) digits =
    let range : IsInRange 48 57 d = digit_from_value d digits.0 in
    (no_gap d (omega arith) (omega arith), digits_are_word ds digits.1)

decimal_is_word : (n : ℕ) → n < 2 ^ 64 → IsWord (decimal n)
decimal_is_word n small = digits_are_word (decimal n) (digits_decimal (numerals_by_value _ tells_digits) n small)

-- digits begin with no minus sign
record BeginsUnsigned (ds : List ℕ) : Type 0 where
  head : ℕ
  tail : List ℕ
  is : ds ≡ head ∷ tail
  unsigned : (head == 45) ≡ false

digits_unsigned : (ds : List ℕ) → AllDigits 10 ds → 0 < length ds → BeginsUnsigned ds
digits_unsigned [] digits some = absurd (omega arith)
digits_unsigned (d ∷ ds) digits some =
    let range : IsInRange 48 57 d = digit_from_value d digits.0 in
    record { head = d; tail = ds; is = refl; unsigned = ne_eqb d 45 (λ e. omega arith) }

decimal_unsigned : (n : ℕ) → n < 2 ^ 64 → BeginsUnsigned (decimal n)
decimal_unsigned n small =
    digits_unsigned (decimal n) (digits_decimal (numerals_by_value _ tells_digits) n small) (decimal_nonempty n small)

id_of_number : (n : ℕ) → 0 < n → n < 2 ^ 64 → id_from (Some n) ≡ Ok (Some n)
id_of_number zero some small = absurd (omega arith)
id_of_number (suc n) some small = rw (lt-ltb (suc n) (2 ^ 64) small)

id_item-decimal : (n : ℕ) → IsId n → IsWide n → id_item (decimal n) ≡ Ok (Some n)
id_item-decimal n some small = ap id_from (number_of_digits-decimal n small) ∙ id_of_number n some small

hint_item-unsigned : (ds : List ℕ) → BeginsUnsigned ds → hint_item ds ≡ id_item ds
hint_item-unsigned ds begins =
    ap hint_item begins.is ∙ by_head begins.head begins.tail begins.unsigned ∙ ap id_item (sym begins.is)
  where
    by_head : (d : ℕ) (ds : List ℕ) → (d == 45) ≡ false → hint_item (d ∷ ds) ≡ id_item (d ∷ ds)
    by_head d ds unsigned = rw unsigned refl

hint_item-decimal : (n : ℕ) → IsId n → IsWide n → hint_item (decimal n) ≡ Ok (Some n)
hint_item-decimal n some small = hint_item-unsigned (decimal n) (decimal_unsigned n small) ∙ id_item-decimal n some small

literal_item-unsigned : (ds : List ℕ) → BeginsUnsigned ds → literal_item ds ≡ literal_from true (number_of_digits ds)
literal_item-unsigned ds begins =
    ap literal_item begins.is ∙ by_head begins.head begins.tail begins.unsigned
    ∙ ap (λ (xs : List ℕ). literal_from true (number_of_digits xs)) (sym begins.is)
  where
    by_head : (d : ℕ) (ds : List ℕ) → (d == 45) ≡ false
        → literal_item (d ∷ ds) ≡ literal_from true (number_of_digits (d ∷ ds))
    by_head d ds unsigned = rw unsigned refl

literal_of_number : (positive : Bool) (v : ℕ) → 0 < v → v ≤ 2 ^ 20
    → literal_from positive (Some v) ≡ Ok (Some (record { var = v; positive = positive }))
literal_of_number positive zero some small = absurd (omega arith)
literal_of_number positive (suc v) some small = rw (le-leb (suc v) (2 ^ 20) small)

literal_text-negative : (v : ℕ) → 0 < v → literal_text (record { var = v; positive = false }) ≡ 45 ∷ decimal v
literal_text-negative zero some = absurd (omega arith)
literal_text-negative (suc n) some = refl

-- a printed literal is a word, and is read as that literal
record ReadsAs (l : Literal) : Type 0 where
  word : IsWord (literal_text l)
  filled : 0 < length (literal_text l)
  item : literal_item (literal_text l) ≡ Ok (Some l)

signed_reads : (positive : Bool) (v : ℕ) → 0 < v → v ≤ 2 ^ 20 → ReadsAs (record { var = v; positive = positive })
signed_reads true v low high = record {
  word = decimal_is_word v (omega arith);
  filled = decimal_nonempty v (omega arith);
  item = literal_item-unsigned (decimal v) (decimal_unsigned v (omega arith))
      ∙ ap (literal_from true) (number_of_digits-decimal v (omega arith))
      ∙ literal_of_number true v low high;
}
signed_reads false v low high = record {
  word = rw (literal_text-negative v low) (refl, decimal_is_word v (omega arith));
  filled = rw (literal_text-negative v low) (omega arith);
  item = ap literal_item (literal_text-negative v low)
      ∙ ap (literal_from false) (number_of_digits-decimal v (omega arith))
      ∙ literal_of_number false v low high;
}

literal_reads : (l : Literal) → IsWithin (2 ^ 20) l → ReadsAs l
literal_reads l within = signed_reads l.positive l.var within.low within.high

-- lists

listed-element : {A : Type 0} (item : List ℕ → Result (Option A) LineEnd) (t : List ℕ) (ts behind : List (List ℕ)) (x : A) (xs : List A)
    → item t ≡ Ok (Some x) → listed item ts ≡ Ok (record { elements = xs; behind = behind })
    → listed item (t ∷ ts) ≡ Ok (record { elements = x ∷ xs; behind = behind })
listed-element item t ts behind x xs is rest =
    ap (λ r. r >>= listed_by ts (listed item ts)) is ∙ ap (λ r. r >>= with_element x) rest

-- a word with a space behind it, and more
spaced : (w more : List ℕ) → (w ++ codes " ") ++ more ≡ w ++ 32 ∷ more
spaced w more = append_assoc w (codes " ") more

numbers_read : (item : List ℕ → Result (Option ℕ) LineEnd) → item (codes "0") ≡ Ok None
    → ((n : ℕ) → IsId n → IsWide n → item (decimal n) ≡ Ok (Some n))
    → (ns : List ℕ) → All IsId ns → All IsWide ns
    → listed item (tokens (numbers_bytes ns)) ≡ Ok (record { elements = ns; behind = [] })
numbers_read item ends reads [] some small = ap (λ r. r >>= listed_by [] (listed item [])) ends
numbers_read item ends reads (n ∷ ns) some small =
    let id = All-head IsId n ns some in
    let wide = All-head IsWide n ns small in
    let more = numbers_bytes ns in
    ap (λ (bs : List ℕ). listed item (tokens bs))
    (append_assoc (number_bytes n) (flat_map number_bytes ns) (codes "0") ∙ spaced (decimal n) more)
    ∙ ap (listed item) (tokens-word (decimal n) more (decimal_is_word n wide) (decimal_nonempty n wide))
    ∙ listed-element item (decimal n) (tokens more) [] n ns (reads n id wide)
    (numbers_read item ends reads ns (All-tail IsId n ns some) (All-tail IsWide n ns small))

literals_read : (c : Literals) (more : List ℕ) → AreWithin (2 ^ 20) c
    → listed literal_item (tokens (literals_bytes c ++ more)) ≡ Ok (record { elements = c; behind = tokens more })
literals_read [] more within = ap (listed literal_item) (tokens-word (codes "0") more (refl, tt) (omega arith))
literals_read (l ∷ c) more within =
    let reads = literal_reads l (All-head (IsWithin (2 ^ 20)) l c within) in
    let rest = literals_bytes c ++ more in
    ap (λ (bs : List ℕ). listed literal_item (tokens bs))
    (ap (λ (bs : List ℕ). bs ++ more) (append_assoc (literal_bytes l) (flat_map literal_bytes c) (codes "0 "))
    ∙ append_assoc (literal_bytes l) (literals_bytes c) more ∙ spaced (literal_text l) rest)
    ∙ ap (listed literal_item) (tokens-word (literal_text l) rest reads.word reads.filled)
    ∙ listed-element literal_item (literal_text l) (tokens rest) (tokens more) l c reads.item
    (literals_read c more (All-tail (IsWithin (2 ^ 20)) l c within))

-- tokens that begin with a list of literals are no deletion
behind_id-addition : (ts : List (List ℕ)) (id : ℕ) (l : Listed Literal) → listed literal_item ts ≡ Ok l
    → behind_id ts id ≡ addition id ts
behind_id-addition [] id l reads = refl
behind_id-addition (t ∷ ts) id l reads = elim (cases_Bool (bytes_eq t (codes "d"))) [
  | inl word ↦ (let same : t ≡ codes "d" = (bytes_eq-Decides t (codes "d")).0 word in
      let wrong = ap (λ (w : List ℕ). listed literal_item (w ∷ ts)) (sym same) ∙ reads in absurd (cc wrong))
  | inr other ↦ rw other refl
]

-- a line's own id, and what is behind it
id_read : (id : ℕ) (more : List ℕ) → IsId id → IsWide id
    → line_of (number_bytes id ++ more) ≡ behind_id (tokens more) id
unfolding line_of
id_read id more some wide =
    ap (λ (bs : List ℕ). line_of_tokens (tokens bs)) (spaced (decimal id) more)
    ∙ ap line_of_tokens (tokens-word (decimal id) more (decimal_is_word id wide) (decimal_nonempty id wide))
    ∙ ap (λ r. r >>= own_id >>= behind_id (tokens more)) (id_item-decimal id some wide)

addition_read : (id : ℕ) (c : Literals) (hints : List ℕ) → AreWithin (2 ^ 20) c → All IsId hints → All IsWide hints
    → addition id (tokens (literals_bytes c ++ numbers_bytes hints)) ≡ Ok (Add id c hints)
addition_read id c hints within some wide =
    ap (λ r. r >>= λ (l : Listed Literal). listed hint_item l.behind >>= λ (h : Listed ℕ). ended (Add id l.elements h.elements) h.behind)
    (literals_read c (numbers_bytes hints) within)
    ∙ ap (λ r. r >>= λ (h : Listed ℕ). ended (Add id c h.elements) h.behind)
    (numbers_read hint_item refl hint_item-decimal hints some wide)

deletion_read : (id : ℕ) (ids : List ℕ) → All IsId ids → All IsWide ids
    → deletion id (tokens (numbers_bytes ids)) ≡ Ok (Delete id ids)
deletion_read id ids some wide =
    ap (λ r. r >>= λ (l : Listed ℕ). ended (Delete id l.elements) l.behind)
    (numbers_read id_item refl id_item-decimal ids some wide)

pub printed_reads_back : PrintedReadsBack
printed_reads_back (Add id c hints) printable memory =
    id_read id (literals_bytes c ++ numbers_bytes hints) printable.own memory.own
    ∙ behind_id-addition (tokens (literals_bytes c ++ numbers_bytes hints)) id _ (literals_read c (numbers_bytes hints) memory.within)
    ∙ addition_read id c hints memory.within printable.others memory.others
printed_reads_back (Delete id ids) printable memory =
    id_read id (codes "d " ++ numbers_bytes ids) printable.own memory.own
    ∙ ap (λ (ts : List (List ℕ)). behind_id ts id) (tokens-word (codes "d") (numbers_bytes ids) (refl, tt) (omega arith))
    ∙ deletion_read id ids printable.others memory.others
