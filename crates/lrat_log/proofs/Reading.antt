-- What is read out of an entry's bytes.
use Rattle.std.proofs.Common.{◌≡◌, ℕ, ◌-◌, ◌<◌, ◌≤◌, List, ◌++◌, length, map, take, drop, get_or, sym, ap, ◌∙◌, subst, ⊎_elim, lit<}
use Rattle.std.proofs.Common.{arith, length-append}
use Rattle.std.specs.Prelude.{All, slice_index_or}
use Rattle.std.proofs.lemmas.Bool.{cases_lt}
use Rattle.std.proofs.lemmas.List.{get_or_past, get_or_append_left, get_or-map, length-map, take_at, take_all}
use Rattle.cnf_core.specs.Literals.{code_of}
use Rattle.lrat_log.specs.Entries.{Entry, no_literal}
use Rattle.lrat_log.specs.Packed.{literal_numbers, hint_numbers, entry_numbers}
use Rattle.lrat_log.specs.Steps.Unpacked.{first, IsWord, IsCode, IsPackable, IsCountedList}
use Rattle.lrat_log.proofs.CountedLists.{next_is}

-- each number of these fits
pub word_at : (ns : List ℕ) (k : ℕ) → All IsWord ns → IsWord (get_or ns k 0)
word_at ns k words = ⊎_elim
    (λ (below : k < length ns). words k 0 below)
    (λ (past : length ns ≤ k). subst IsWord (sym (get_or_past ns k 0 past)) (lit< tt))
    (cases_lt k (length ns))

pub word_of : (vs ns : List ℕ) (k : ℕ) → vs ≡ ns → All IsWord ns → IsWord (get_or vs k 0)
word_of vs ns k is words = subst (λ (xs : List ℕ). IsWord (get_or xs k 0)) (sym is) (word_at ns k words)

-- the literals of an entry, and the hints behind them
abbrev pub list_numbers : ℕ → Entry → List ℕ
list_numbers id e = literal_numbers e.literals ++ hint_numbers id e.hints

pub lists_left : (id : ℕ) (before e : Entry) (vs ws : List ℕ) → vs ≡ entry_numbers id before e → ws ≡ drop 3 vs
    → ws ≡ list_numbers id e
lists_left id before e vs ws is rest = rest ∙ ap (drop 3) is

pub literals_left : (id : ℕ) (before e : Entry) (vs ws : List ℕ) → vs ≡ entry_numbers id before e → ws ≡ drop 4 vs
    → ws ≡ map code_of e.literals ++ hint_numbers id e.hints
literals_left id before e vs ws is rest = rest ∙ ap (drop 4) is

pub literals_counted : (id : ℕ) (before e : Entry) (ws : List ℕ) → IsPackable id before e → ws ≡ list_numbers id e
    → IsCountedList IsCode ws
literals_counted id before e ws packable is =
    let codes = map code_of e.literals in
    let size : length codes ≡ length e.literals = length-map e.literals code_of in
    let taken : take (length e.literals) (codes ++ hint_numbers id e.hints) ≡ codes =
    take_at codes (hint_numbers id e.hints) (length e.literals) size in
    subst (IsCountedList IsCode) (sym is) (record {
      some = omega arith;
      count = word_at (entry_numbers id before e) 3 packable.words;
      enough = omega (arith, length-append codes (hint_numbers id e.hints));
      each = subst (All IsCode) (sym taken) (λ k d below.
          subst IsCode (sym (get_or-map code_of e.literals k no_literal d (omega arith)))
          (packable.codes k no_literal (omega arith)));
    })

pub hints_counted : (id : ℕ) (hs ws : List ℕ) → IsWord (length hs) → ws ≡ hint_numbers id hs → IsCountedList (λ d. d ≤ id) ws
hints_counted id hs ws count is =
    let size : length (map (λ h. id - h) hs) ≡ length hs = length-map hs (λ (h : ℕ). id - h) in
    let taken : take (length hs) (map (λ h. id - h) hs) ≡ map (λ h. id - h) hs =
    take_all (length hs) (map (λ h. id - h) hs) (omega arith) in
    subst (IsCountedList (λ (d : ℕ). d ≤ id)) (sym is) (record {
      some = omega arith;
      count = count;
      enough = omega arith;
      each = subst (All (λ (d : ℕ). d ≤ id)) (sym taken) (λ k d below.
          subst (λ (x : ℕ). x ≤ id) (sym (get_or-map (λ (h : ℕ). id - h) hs k 0 d (omega arith))) (omega arith));
    })

-- one literal, and one hint
pub code_is : (id : ℕ) (e : Entry) (vs ws : List ℕ) (k : ℕ) → k < length e.literals
    → vs ≡ map code_of e.literals ++ hint_numbers id e.hints → ws ≡ drop k vs
    → first ws ≡ code_of (slice_index_or e.literals k no_literal)
code_is id e vs ws k below is rest =
    next_is vs ws k rest
    ∙ ap (λ (xs : List ℕ). get_or xs k 0) is
    ∙ get_or_append_left (map code_of e.literals) (hint_numbers id e.hints) 0 k (omega (arith, length-map e.literals code_of))
    ∙ get_or-map code_of e.literals k no_literal 0 below

pub below_is : (id : ℕ) (hs vs ws : List ℕ) (k : ℕ) → k < length hs → vs ≡ map (λ h. id - h) hs → ws ≡ drop k vs
    → first ws ≡ id - get_or hs k 0
below_is id hs vs ws k below is rest =
    next_is vs ws k rest ∙ ap (λ (xs : List ℕ). get_or xs k 0) is ∙ get_or-map (λ (h : ℕ). id - h) hs k 0 0 below
