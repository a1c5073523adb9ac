-- A log of packed entries, with one more, and with a new query number.
use Rattle.std.proofs.Common.{◌≡◌, ℕ, ◌+◌, ◌-◌, ◌≤◌, Bool, true, false, cond, List, [], ◌∷◌, ◌++◌, length, sym, ap, ◌∙◌, subst, arith}
use Rattle.std.specs.Prelude.{All}
use Rattle.std.proofs.lemmas.List.Elements.{All-weaker}
use Rattle.std.proofs.lemmas.List.Sums.{count_by-le-length}
use Rattle.cnf_core.specs.Literals.{Literals, code_of}
use Rattle.cnf_core.specs.Formulas.{Cnf}
use Rattle.lrat_lines.specs.Tidy.{IsHint}
use Rattle.lrat_log.specs.declared.kind.Kind.{Kind}
use Rattle.lrat_log.specs.Entries.{Entry, no_entry, is_learnt, is_learnt_entry, next_entry, with_entry}
use Rattle.lrat_log.specs.Kept.{IsNext}
use Rattle.lrat_log.specs.Packed.{hint_numbers, packed_numbers}
use Rattle.lrat_log.specs.Steps.Heads.{front_of}
use Rattle.lrat_log.specs.Steps.Paged.{Stored}
use Rattle.lrat_log.specs.Steps.Unpacked.{stored_entry, stored_entries, unpacked, unpacked_log, last_entry, IsWord, IsCode}
use Rattle.lrat_log.specs.Steps.Unpacked.{IsPackable, IsKept}
use Rattle.lrat_log.proofs.Kept.{counted_push, counted_next}
use Rattle.lrat_log.proofs.Unpacking.{stored_more, packable_more, last_is, count_stored, entries_back}

-- there are as many byte strings as entries
pub count_kept : (F : Cnf) (all : List Stored) (query clock : ℕ) (used : Bool) (learnt last_query : ℕ)
    → IsKept (unpacked_log F all query clock) all used learnt last_query
    → length all ≡ length (unpacked (length F.clauses + 1) no_entry all)
count_kept F all query clock used learnt last_query kept =
    ap (λ (ss : List Stored). length ss) kept.stored ∙ count_stored (length F.clauses + 1) no_entry (unpacked
    (length F.clauses + 1) no_entry all)

-- hints of the next entry are below its id
pub hints_low : (id n : ℕ) (hints : List ℕ) → n ≤ id → All (IsHint n) hints → All (λ h. h ≤ id) hints
hints_low id n hints le below =
    All-weaker (IsHint n) (λ (h : ℕ). h ≤ id) (λ (h : ℕ) (hint : IsHint n h). omega (arith, hint.high)) hints below

-- the bytes of the next entry are there, and give it back
pub record HasBytes (F : Cnf) (all : List Stored) (query clock last_query : ℕ) (kind : Kind) (c : Literals) (hints : List ℕ) (now id : ℕ)
    (s : Stored) : Type 0 where
  pub id_is : id ≡ length F.clauses + 1 + length all
  pub bytes : s.bytes ≡ packed_numbers (front_of
      (record { kind = kind; query_step = query - last_query; clock_step = now - clock }) c ++ hint_numbers id hints)
  pub start : s.hints ≡ length (packed_numbers (front_of
      (record { kind = kind; query_step = query - last_query; clock_step = now - clock }) c))
  pub words : All IsWord (front_of (record { kind = kind; query_step = query - last_query; clock_step = now - clock }) c ++
      hint_numbers id hints)
  pub codes : All (λ l. IsCode (code_of l)) c
  pub clock_is : s.clock ≡ now

pub record IsNextLog (F : Cnf) (all new : List Stored) (query now : ℕ) (e : Entry) (learnt : ℕ) : Type 0 where
  pub entries : unpacked (length F.clauses + 1) no_entry new ≡ unpacked (length F.clauses + 1) no_entry all ++ e ∷ []
  pub kept : IsKept (unpacked_log F new query now) new true learnt query

stored_with : (s : Stored) (bytes : List ℕ) (hints clock : ℕ) → s.bytes ≡ bytes → s.hints ≡ hints → s.clock ≡ clock
    → s ≡ record { bytes = bytes; hints = hints; clock = clock }
stored_with s bytes hints clock bytes_are hints_are clock_is =
    ap (λ (x : List ℕ). record s { bytes = x }) bytes_are
    ∙ ap (λ (x : ℕ). record s { bytes = bytes; hints = x }) hints_are
    ∙ ap (λ (x : ℕ). record s { bytes = bytes; hints = hints; clock = x }) clock_is

pub kept_push : (F : Cnf) (all new : List Stored) (query clock : ℕ) (used : Bool) (learnt last_query : ℕ) (kind : Kind) (c : Literals)
    (hints : List ℕ) (now id n : ℕ) (s : Stored)
    → IsKept (unpacked_log F all query clock) all used learnt last_query
    → IsNext F (unpacked (length F.clauses + 1) no_entry all) (next_entry (unpacked_log F all query clock) kind c hints now)
    → clock ≤ now → n ≡ learnt + cond (is_learnt kind) 1 0
    → HasBytes F all query clock last_query kind c hints now id s → new ≡ all ++ s ∷ []
    → IsNextLog F all new query now (next_entry (unpacked_log F all query clock) kind c hints now) n
kept_push F all new query clock used learnt last_query kind c hints now id n s kept next later more has pushed =
    let first = length F.clauses + 1 in
    let L = unpacked_log F all query clock in
    let es = unpacked first no_entry all in
    let e = next_entry L kind c hints now in
    let last = last_entry no_entry es in
    let count = count_kept F all query clock used learnt last_query kept in
    let at' : id ≡ first + length es = (let is = has.id_is in omega arith) in
    let query_same : query - last_query ≡ query - last.query = ap (λ (x : ℕ). query - x) kept.last_is in
    let clock_same : now - clock ≡ now - last.clock = ap (λ (x : ℕ). now - x) kept.clock in
    let front : ℕ → ℕ → List ℕ = λ q t. front_of (record { kind = kind; query_step = q; clock_step = t }) c in
    let both : front (query - last_query) (now - clock) ≡ front (query - last.query) (now - last.clock) =
    ap (λ (q : ℕ). front q (now - clock)) query_same ∙ ap (front (query - last.query)) clock_same in
    let stored : s ≡ stored_entry id last e =
    stored_with s _ _ now
    (has.bytes ∙ ap (λ (ns : List ℕ). packed_numbers (ns ++ hint_numbers id hints)) both)
    (has.start ∙ ap (λ (ns : List ℕ). length (packed_numbers ns)) both)
    has.clock_is in
    let packable : IsPackable id last e =
    record {
      query = (let le = kept.rises in let same = kept.last_is in omega arith);
      words = subst (λ (ns : List ℕ). All IsWord (ns ++ hint_numbers id hints)) both has.words;
      codes = has.codes;
      hints = hints_low id (first + length es) hints (omega arith) next.hints_before;
    } in
    let all_packable = packable_more first id no_entry es e at' kept.packable packable in
    let new_is : new ≡ stored_entries first no_entry (es ++ e ∷ []) =
    pushed
    ∙ ap (λ (ss : List Stored). ss ++ s ∷ []) kept.stored
    ∙ ap (λ (x : Stored). stored_entries first no_entry es ++ x ∷ []) stored
    ∙ sym (stored_more first id no_entry es e at') in
    let entries : unpacked first no_entry new ≡ es ++ e ∷ [] =
    ap (unpacked first no_entry) new_is ∙ entries_back first no_entry (es ++ e ∷ []) all_packable in
    let end : last_entry no_entry (es ++ e ∷ []) ≡ e = last_is no_entry es e in
    let whole : IsKept (with_entry L kind c hints now) new true n query =
    record {
      stored = new_is;
      packable = all_packable;
      counted = counted_push L used learnt kind c hints now n kept.counted next later more;
      last_is = ap (λ (x : Entry). x.query) (sym end);
      clock = ap (λ (x : Entry). x.clock) (sym end);
      rises = omega arith;
    } in
    record {
      entries = entries;
      kept = subst (λ (xs : List Entry). IsKept (record { formula = F; entries = xs; query = query; clock = now }) new true n query)
          (sym entries) whole;
    }

pub kept_next : (F : Cnf) (all : List Stored) (query clock learnt last_query : ℕ)
    → IsKept (unpacked_log F all query clock) all true learnt last_query
    → IsKept (unpacked_log F all (query + 1) clock) all false learnt last_query
kept_next F all query clock learnt last_query kept = record {
  stored = kept.stored;
  packable = kept.packable;
  counted = counted_next (unpacked_log F all query clock) learnt kept.counted;
  last_is = kept.last_is;
  clock = kept.clock;
  rises = omega (arith, kept.rises);
}

-- no more clauses were learnt than there are entries
pub learnt_fits : (F : Cnf) (all : List Stored) (query clock : ℕ) (used : Bool) (learnt last_query : ℕ)
    → IsKept (unpacked_log F all query clock) all used learnt last_query → learnt ≤ length all
learnt_fits F all query clock used learnt last_query kept =
    omega (
      arith,
      kept.counted.count,
      count_by-le-length is_learnt_entry (unpacked (length F.clauses + 1) no_entry all),
      count_kept F all query clock used learnt last_query kept,
    )
