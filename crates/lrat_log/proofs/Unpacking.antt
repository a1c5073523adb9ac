-- Entries come back out of their bytes, one by one and all together.
use Rattle.std.proofs.Common.{◌≡◌, ℕ, zero, suc, ◌+◌, ◌-◌, ◌<◌, ◌≤◌, List, [], ◌∷◌, ◌++◌, length, map, take, drop, get_or, refl, sym}
use Rattle.std.proofs.Common.{ap, ◌∙◌, subst, arith, length-append}
use Rattle.std.specs.Prelude.{All, slice_index}
use Rattle.std.proofs.lemmas.List.{take_at, take_all, drop_at, length-map}
use Rattle.std.proofs.lemmas.List.Concat.{flat_map-append}
use Rattle.std.proofs.lemmas.List.Elements.{All-head, All-tail, All-drop}
use Rattle.cnf_core.specs.Literals.{Literal, Literals, code_of, literal_of_code}
use Rattle.lrat_log.specs.declared.kind.Kind.{Kind}
use Rattle.lrat_log.specs.declared.kind.Kind.TheVariants.{Learnt, Unit as UnitKind, Core, Empty, Import}
use Rattle.lrat_log.specs.Entries.{Entry, no_entry}
use Rattle.lrat_log.specs.Packed.{kind_number, hint_numbers, entry_numbers, packed_number, packed_numbers, packed_entry}
use Rattle.lrat_log.specs.Steps.Paged.{Stored, stored_at}
use Rattle.lrat_log.specs.Steps.Unpacked.{values, first, counted_list, kind_of_number, literals_in, hints_in, front_numbers}
use Rattle.lrat_log.specs.Steps.Unpacked.{stored_entry, stored_entries, unpacked_entry, unpacked, IsWord, IsPackable, ArePackable}
use Rattle.lrat_log.specs.Steps.Unpacked.{last_entry}
use Rattle.lrat_log.proofs.Groups.{values_packed}

pub kind_back : (k : Kind) → kind_of_number (kind_number k) ≡ k
kind_back Learnt = refl
kind_back UnitKind = refl
kind_back Core = refl
kind_back Empty = refl
kind_back Import = refl

pub literal_back : (l : Literal) → literal_of_code (code_of l) ≡ l
literal_back l = grind arith

literals_back : (c : Literals) → map literal_of_code (map code_of c) ≡ c
literals_back [] = refl
literals_back (l ∷ c) =
    ap (λ (x : Literal). x ∷ map literal_of_code (map code_of c)) (literal_back l) ∙ ap (λ (d : Literals). l ∷ d) (literals_back c)

hints_back : (id : ℕ) (hs : List ℕ) → All (λ h. h ≤ id) hs → map (λ d. id - d) (map (λ h. id - h) hs) ≡ hs
hints_back id [] low = refl
hints_back id (h ∷ hs) low =
    let le : h ≤ id = All-head (λ (x : ℕ). x ≤ id) h hs low in
    let same : id - (id - h) ≡ h = omega arith in
    ap (λ (x : ℕ). x ∷ map (λ d. id - d) (map (λ h. id - h) hs)) same
    ∙ ap (λ (xs : List ℕ). h ∷ xs) (hints_back id hs (All-tail (λ (x : ℕ). x ≤ id) h hs low))

-- the numbers behind a count
counted_is : (ns ms : List ℕ) → counted_list (length ns ∷ (ns ++ ms)) ≡ ns
counted_is ns ms = take_at ns ms (length ns) refl

-- the parts of an entry's bytes

pub numbers_are : (id : ℕ) (before e : Entry) → IsPackable id before e
    → values (packed_entry id before e) ≡ entry_numbers id before e
numbers_are id before e packable = values_packed (entry_numbers id before e) packable.words

front_is : (id : ℕ) (before e : Entry)
    → packed_entry id before e ≡ packed_numbers (front_numbers before e) ++ packed_numbers (hint_numbers id e.hints)
front_is id before e = flat_map-append packed_number (front_numbers before e) (hint_numbers id e.hints)

pub hint_bytes_are : (id : ℕ) (before e : Entry)
    → drop (length (packed_numbers (front_numbers before e))) (packed_entry id before e) ≡ packed_numbers (hint_numbers id e.hints)
hint_bytes_are id before e =
    ap (drop (length (packed_numbers (front_numbers before e)))) (front_is id before e)
    ∙ drop_at (packed_numbers (front_numbers before e)) (packed_numbers (hint_numbers id e.hints))
    (length (packed_numbers (front_numbers before e))) refl

pub hints_within : (id : ℕ) (before e : Entry)
    → length (packed_numbers (front_numbers before e)) ≤ length (packed_entry id before e)
hints_within id before e =
    omega (
      arith,
      ap (λ (x : List ℕ). length x) (front_is id before e),
      length-append (packed_numbers (front_numbers before e)) (packed_numbers (hint_numbers id e.hints)),
    )

pub hint_words : (id : ℕ) (before e : Entry) → IsPackable id before e → All IsWord (hint_numbers id e.hints)
hint_words id before e packable =
    subst (All IsWord)
    (drop_at (front_numbers before e) (hint_numbers id e.hints) (length (front_numbers before e)) refl)
    (All-drop IsWord (length (front_numbers before e)) (entry_numbers id before e) packable.words)

pub hint_numbers_are : (id : ℕ) (before e : Entry) → IsPackable id before e
    → values (drop (length (packed_numbers (front_numbers before e))) (packed_entry id before e)) ≡ hint_numbers id e.hints
hint_numbers_are id before e packable =
    ap values (hint_bytes_are id before e) ∙ values_packed (hint_numbers id e.hints) (hint_words id before e packable)

pub literals_are : (id : ℕ) (before e : Entry) → literals_in (entry_numbers id before e) ≡ e.literals
literals_are id before e =
    ap (map literal_of_code)
    (ap (λ (n : ℕ). take n (map code_of e.literals ++ hint_numbers id e.hints)) (sym (length-map e.literals code_of))
    ∙ take_at (map code_of e.literals) (hint_numbers id e.hints) (length (map code_of e.literals)) refl)
    ∙ literals_back e.literals

pub hints_are : (id : ℕ) (hs : List ℕ) → All (λ h. h ≤ id) hs → hints_in id (hint_numbers id hs) ≡ hs
hints_are id hs low =
    ap (map (λ (d : ℕ). id - d))
    (take_all (length hs) (map (λ h. id - h) hs) (omega (arith, length-map hs (λ (h : ℕ). id - h))))
    ∙ hints_back id hs low

-- an entry comes back
entry_back : (id : ℕ) (before e : Entry) → IsPackable id before e → unpacked_entry id before (stored_entry id before e) ≡ e
entry_back id before e packable =
    let ns = entry_numbers id before e in
    let query : before.query + (e.query - before.query) ≡ e.query = (let le = packable.query in omega arith) in
    ap (λ (x : List ℕ). record {
      kind = kind_of_number (first x);
      literals = literals_in x;
      hints = hints_in id (values (drop (stored_entry id before e).hints (packed_entry id before e)));
      query = before.query + slice_index x 1;
      clock = e.clock;
    }) (numbers_are id before e packable)
    ∙ ap (λ (k : Kind). record e {
      kind = k;
      literals = literals_in ns;
      hints = hints_in id (values (drop (stored_entry id before e).hints (packed_entry id before e)));
      query = before.query + (e.query - before.query);
    }) (kind_back e.kind)
    ∙ ap (λ (c : Literals). record e {
      literals = c;
      hints = hints_in id (values (drop (stored_entry id before e).hints (packed_entry id before e)));
      query = before.query + (e.query - before.query);
    }) (literals_are id before e)
    ∙ ap (λ (hs : List ℕ). record e { hints = hs; query = before.query + (e.query - before.query) })
    (ap (hints_in id) (hint_numbers_are id before e packable) ∙ hints_are id e.hints packable.hints)
    ∙ ap (λ (q : ℕ). record e { query = q }) query

-- and all do
pub entries_back : (id : ℕ) (before : Entry) (es : List Entry) → ArePackable id before es
    → unpacked id before (stored_entries id before es) ≡ es
entries_back id before [] packable = refl
entries_back id before (e ∷ es) packable =
    ap (λ (x : Entry). x ∷ unpacked (id + 1) x (stored_entries (id + 1) e es)) (entry_back id before e packable.0)
    ∙ ap (λ (xs : List Entry). e ∷ xs) (entries_back (id + 1) e es packable.1)

-- one more

pub stored_more : (id last : ℕ) (before : Entry) (es : List Entry) (e : Entry) → last ≡ id + length es
    → stored_entries id before (es ++ e ∷ []) ≡ stored_entries id before es ++ stored_entry last (last_entry before es) e ∷ []
stored_more id last before [] e is =
    let here : id ≡ last = omega arith in
    ap (λ (n : ℕ). stored_entry n before e ∷ []) here
stored_more id last before (x ∷ es) e is =
    ap (λ (ss : List Stored). stored_entry id before x ∷ ss) (stored_more (id + 1) last x es e (omega arith))

pub packable_more : (id last : ℕ) (before : Entry) (es : List Entry) (e : Entry) → last ≡ id + length es
    → ArePackable id before es → IsPackable last (last_entry before es) e → ArePackable id before (es ++ e ∷ [])
packable_more id last before [] e is packable next =
    let here : last ≡ id = omega arith in
    (subst (λ (n : ℕ). IsPackable n before e) here next, tt)
packable_more id last before (x ∷ es) e is packable next =
    (packable.0, packable_more (id + 1) last x es e (omega arith) packable.1 next)

pub last_is : (before : Entry) (es : List Entry) (e : Entry) → last_entry before (es ++ e ∷ []) ≡ e
last_is before [] e = refl
last_is before (x ∷ es) e = last_is x es e

pub count_stored : (id : ℕ) (before : Entry) (es : List Entry) → length (stored_entries id before es) ≡ length es
count_stored id before [] = refl
count_stored id before (e ∷ es) = ap suc (count_stored (id + 1) e es)

-- reads

abbrev pub entry_behind : Entry → List Entry → ℕ → Entry
entry_behind before es zero = before
entry_behind before es (suc i) = get_or es i no_entry

pub stored_is : (id here : ℕ) (before : Entry) (es : List Entry) (i : ℕ) → i < length es → here ≡ id + i
    → stored_at (stored_entries id before es) i ≡ stored_entry here (entry_behind before es i) (get_or es i no_entry)
stored_is id here before [] i below is = absurd (omega arith)
stored_is id here before (e ∷ es) zero below is =
    let same : id ≡ here = omega arith in
    ap (λ (n : ℕ). stored_entry n before e) same
stored_is id here before (e ∷ es) (suc zero) below is = stored_is (id + 1) here e es zero (omega arith) (omega arith)
stored_is id here before (e ∷ es) (suc (suc i)) below is = stored_is (id + 1) here e es (suc i) (omega arith) (omega arith)

pub packable_is : (id here : ℕ) (before : Entry) (es : List Entry) (i : ℕ) → i < length es → here ≡ id + i
    → ArePackable id before es → IsPackable here (entry_behind before es i) (get_or es i no_entry)
packable_is id here before [] i below is packable = absurd (omega arith)
packable_is id here before (e ∷ es) zero below is packable =
    let same : id ≡ here = omega arith in
    subst (λ (n : ℕ). IsPackable n before e) same packable.0
packable_is id here before (e ∷ es) (suc zero) below is packable =
    packable_is (id + 1) here e es zero (omega arith) (omega arith) packable.1
packable_is id here before (e ∷ es) (suc (suc i)) below is packable =
    packable_is (id + 1) here e es (suc i) (omega arith) (omega arith) packable.1
