-- What the layout says of the entries.
use Rattle.std.proofs.Common.{◌≡◌, ℕ, ◌+◌, ◌-◌, ◌<◌, ◌≤◌, ◌^◌, List, length, get_or, sym, ap, ◌∙◌, subst, arith}
use Rattle.std.specs.List.{between}
use Rattle.std.proofs.lemmas.List.{get_or_read}
use Rattle.std.proofs.lemmas.List.Edits.{length-between, get_or-between}
use Rattle.std.proofs.lemmas.List.FromFn.{length-map-range_with_len, get_or-map-range_with_len}
use Rattle.cnf_core.specs.Literals.{Literal, Literals}
use Rattle.clause_arena.specs.Entries.{Entries, no_entry, no_literal, entry_at, len_of, literal_of}
use Rattle.clause_arena.specs.Steps.Layout.{no_mark, mark_at, laid_entry, laid_entries, IsLaidOut}
use Rattle.clause_arena.specs.declared.arena.Mark.{Mark}

-- the fields of an arena, and the entries that they are seen as
pub record IsKept (l : Literals) (s : List ℕ) (m : List Mark) (a : Entries) : Type 0 where
  pub laid : IsLaidOut l s m
  pub is : laid_entries l s m ≡ a

pub length_is : (l : Literals) (s : List ℕ) (m : List Mark) (a : Entries) → IsKept l s m a → length m ≡ length a
length_is l s m a k = sym (length-map-range_with_len (laid_entry l s m) 0 (length m)) ∙ ap length k.is

pub laid_at : (l : Literals) (s : List ℕ) (m : List Mark) (k : ℕ) → k < length m
    → entry_at (laid_entries l s m) k ≡ laid_entry l s m k
laid_at l s m k within =
    get_or-map-range_with_len (laid_entry l s m) 0 (length m) k k no_entry within (omega arith)

pub entry_is : (l : Literals) (s : List ℕ) (m : List Mark) (a : Entries) (r : ℕ) → IsKept l s m a → r < length a
    → entry_at a r ≡ laid_entry l s m r
entry_is l s m a r k within =
    let here : r < length m = omega (arith, length_is l s m a k) in
    ap (λ b. entry_at b r) (sym k.is) ∙ laid_at l s m r here

-- the two starts of a clause are there
pub starts_here : (l : Literals) (s : List ℕ) (m : List Mark) (a : Entries) (r : ℕ) → IsKept l s m a
    → r < length a → r + 1 < length s
starts_here l s m a r k within = omega (arith, length_is l s m a k, k.laid.at_least (omega (arith, length_is l s m a k)))

pub record Bounds (l : Literals) (s : List ℕ) (a : Entries) (r : ℕ) : Type 0 where
  pub rises : get_or s r 0 ≤ get_or s (r + 1) 0
  pub within : get_or s (r + 1) 0 ≤ length l
  pub fits : length l < 2 ^ 32
  pub count : len_of a r ≡ get_or s (r + 1) 0 - get_or s r 0
  pub lits : (entry_at a r).lits ≡ between (get_or s r 0) (get_or s (r + 1) 0) l

pub bounds_of : (l : Literals) (s : List ℕ) (m : List Mark) (a : Entries) (r : ℕ) → IsKept l s m a → r < length a
    → Bounds l s a r
bounds_of l s m a r k here =
    let count : length m ≡ length a = length_is l s m a k in
    let rises : get_or s r 0 ≤ get_or s (r + 1) 0 = k.laid.rising r (r + 1) (omega arith) (omega arith) in
    let to_end : get_or s (r + 1) 0 ≤ get_or s (length m) 0 = k.laid.rising (r + 1) (length m) (omega arith) (omega arith) in
    let within : get_or s (r + 1) 0 ≤ length l = omega (arith, k.laid.last) in
    let lits : (entry_at a r).lits ≡ between (get_or s r 0) (get_or s (r + 1) 0) l =
    ap (λ e. e.lits) (entry_is l s m a r k here) in
    record {
      rises = rises;
      within = within;
      fits = k.laid.literals_limit;
      count = ap length lits ∙ length-between l (get_or s r 0) (get_or s (r + 1) 0) within;
      lits = lits;
    }

-- a literal, read where the clause starts
pub literal_is : (l : Literals) (s : List ℕ) (a : Entries) (r i : ℕ) → Bounds l s a r → i < len_of a r
    → literal_of a r i ≡ get_or l (get_or s r 0 + i) no_literal
literal_is l s a r i b within =
    ap (λ ls. get_or ls i no_literal) b.lits
    ∙ get_or-between l (get_or s r 0) (get_or s (r + 1) 0) i no_literal (omega (arith, b.count, b.rises))

pub literal_here : (l : Literals) (s : List ℕ) (a : Entries) (r i : ℕ) → Bounds l s a r → i < len_of a r
    → get_or s r 0 + i < length l
literal_here l s a r i b within = omega (arith, b.count, b.rises, b.within)

pub read_literal : (l : Literals) (s : List ℕ) (a : Entries) (r i from : ℕ) (x : Literal) → Bounds l s a r
    → i < len_of a r → from ≡ get_or s r 0 → x ≡ get_or l (from + i) x → x ≡ literal_of a r i
read_literal l s a r i from x b within is read =
    let at : x ≡ get_or l (get_or s r 0 + i) x = subst (λ (n : ℕ). x ≡ get_or l (n + i) x) is read in
    get_or_read l (get_or s r 0 + i) x (literal_here l s a r i b within) at no_literal
    ∙ sym (literal_is l s a r i b within)

-- a mark that was read is the entry's
pub read_mark : (l : Literals) (s : List ℕ) (m : List Mark) (a : Entries) (r : ℕ) (x : Mark) → IsKept l s m a
    → r < length a → x ≡ get_or m r x
    → (x.id ≡ (entry_at a r).id) × (x.learnt ≡ (entry_at a r).learnt) × (x.live ≡ (entry_at a r).live)
read_mark l s m a r x k here read =
    let within : r < length m = omega (arith, length_is l s m a k) in
    let is : x ≡ mark_at m r = get_or_read m r x within read no_mark in
    let entry : laid_entry l s m r ≡ entry_at a r = sym (entry_is l s m a r k here) in (
      ap (λ y. y.id) is ∙ ap (λ e. e.id) entry,
      ap (λ y. y.learnt) is ∙ ap (λ e. e.learnt) entry,
      ap (λ y. y.live) is ∙ ap (λ e. e.live) entry,
    )
