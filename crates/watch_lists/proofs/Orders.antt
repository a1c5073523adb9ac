-- Clauses with their literals in another order.
use Rattle.std.proofs.Common.{◌≡◌, ◌≢◌, ℕ, ◌<◌, ◌⊎◌, length, get_or, swap, Contains, refl, sym, ap, ◌∙◌, subst, inl, inr, ⊎_elim, arith}
use Rattle.std.proofs.lemmas.List.{length-set, get_or-set_same, get_or-set_other, get_or_default}
use Rattle.std.proofs.lemmas.List.Edits.{swapped_from_swap, length-swap}
use Rattle.std.proofs.lemmas.List.Elements.{Contains-get_or}
use Rattle.std.proofs.lemmas.List.Sorted.{IsPermutation-refl, IsPermutation-sym, IsPermutation-trans, IsPermutation-swap}
use Rattle.std.proofs.lemmas.List.Sorted.{length_permutation, Contains-permutation}
use Rattle.std.proofs.lemmas.Bool.{cases_eq}
use Rattle.cnf_core.specs.Literals.{Literal, Literals, IsWithin}
use Rattle.clause_arena.specs.Entries.{Entry, Entries, no_entry, no_literal, entry_at, len_of, literal_of, IsLive, with_swap}
use Rattle.watch_lists.specs.Clauses.{IsLong, IsClean, IsReorderedEntry, IsReordered}

same_entry : (e : Entry) → IsReorderedEntry e e
same_entry e = record { id = refl; learnt = refl; live = refl; lits = IsPermutation-refl e.lits }

pub reordered_refl : (a : Entries) → IsReordered a a
reordered_refl a = record { count = refl; entries = λ r lt. same_entry (entry_at a r) }

pub reordered_sym : (a b : Entries) → IsReordered a b → IsReordered b a
reordered_sym a b f = record {
  count = sym f.count;
  entries = λ r lt.
      let x = f.entries r (omega (arith, f.count)) in record {
        id = sym x.id;
        learnt = sym x.learnt;
        live = sym x.live;
        lits = IsPermutation-sym (entry_at a r).lits (entry_at b r).lits x.lits;
      };
}

pub reordered_trans : (a b c : Entries) → IsReordered a b → IsReordered b c → IsReordered a c
reordered_trans a b c f g = record {
  count = g.count ∙ f.count;
  entries = λ r lt.
      let x = f.entries r lt in
      let y = g.entries r (omega (arith, f.count)) in record {
        id = y.id ∙ x.id;
        learnt = y.learnt ∙ x.learnt;
        live = y.live ∙ x.live;
        lits = IsPermutation-trans (entry_at a r).lits (entry_at b r).lits (entry_at c r).lits x.lits y.lits;
      };
}

-- ---- what stays

pub live_after : (a b : Entries) (r : ℕ) → IsReordered a b → IsLive a r → IsLive b r
live_after a b r f h = record {
  present = omega (arith, f.count, h.present);
  live = (f.entries r h.present).live ∙ h.live;
}

pub size_after : (a b : Entries) (r : ℕ) → IsReordered a b → IsLive a r → len_of b r ≡ len_of a r
size_after a b r f h = length_permutation (entry_at a r).lits (entry_at b r).lits (f.entries r h.present).lits

pub long_after : (a b : Entries) (r : ℕ) → IsReordered a b → IsLong a r → IsLong b r
long_after a b r f h = record {
  live = live_after a b r f h.live;
  long = omega (arith, size_after a b r f h.live, h.long);
}

pub member_after : (a b : Entries) (r : ℕ) (l : Literal) → IsReordered a b → IsLive a r
    → Contains (entry_at a r).lits l → Contains (entry_at b r).lits l
member_after a b r l f h = Contains-permutation (entry_at a r).lits (entry_at b r).lits l (f.entries r h.present).lits

-- the literal of a place is one of the clause
pub literal_member : (a : Entries) (r i : ℕ) → i < len_of a r → Contains (entry_at a r).lits (literal_of a r i)
literal_member a r i lt = Contains-get_or (entry_at a r).lits i no_literal lt

-- a literal of the clause has a place
pub record HasPlace (a : Entries) (r : ℕ) (l : Literal) : Type 0 where
  pub place : ℕ
  pub within : place < len_of a r
  pub lit : literal_of a r place ≡ l

pub place_of : (a : Entries) (r : ℕ) (l : Literal) → Contains (entry_at a r).lits l → HasPlace a r l
place_of a r l h = record {
  place = h.0;
  within = h.1;
  lit = get_or_default (entry_at a r).lits h.0 no_literal l h.1 ∙ h.2;
}

-- ---- two literals exchanged

at_swapped : (a : Entries) (r i j : ℕ) → r < length a
    → entry_at (with_swap a r i j) r ≡ record (entry_at a r) { lits = swap (entry_at a r).lits i j }
at_swapped a r i j lt = get_or-set_same a r (record (entry_at a r) { lits = swap (entry_at a r).lits i j }) no_entry lt

pub at_unswapped : (a : Entries) (r i j s : ℕ) → s ≢ r → entry_at (with_swap a r i j) s ≡ entry_at a s
at_unswapped a r i j s other =
    get_or-set_other a r s (record (entry_at a r) { lits = swap (entry_at a r).lits i j }) no_entry other

pub reordered_swap : (a : Entries) (r i j : ℕ) → r < length a → i < len_of a r → j < len_of a r
    → IsReordered a (with_swap a r i j)
reordered_swap a r i j here first second =
    let xs = (entry_at a r).lits in
    let new : Entry = record (entry_at a r) { lits = swap xs i j } in record {
      count = length-set a r new;
      entries = λ s lt. ⊎_elim
          (λ (at : s ≡ r).
          let changed : IsReorderedEntry (entry_at a r) new =
          record { id = refl; learnt = refl; live = refl; lits = IsPermutation-swap xs (swap xs i j) i j first second refl } in
          subst (λ (z : ℕ). IsReorderedEntry (entry_at a z) (entry_at (with_swap a r i j) z)) (sym at)
          (subst (λ (e : Entry). IsReorderedEntry (entry_at a r) e) (sym (at_swapped a r i j here)) changed))
          (λ (other : s ≢ r).
          subst (λ (e : Entry). IsReorderedEntry (entry_at a s) e) (sym (at_unswapped a r i j s other)) (same_entry (entry_at a s)))
          (cases_eq s r);
    }

-- where the literal of a place comes from
abbrev ComesFrom : ℕ → ℕ → ℕ → ℕ → Type 0
ComesFrom i j k m = ((k ≡ i) × (m ≡ j)) ⊎ (((k ≡ j) × (m ≡ i)) ⊎ ((k ≢ i) × (k ≢ j) × (m ≡ k)))

record HasSource (xs : Literals) (i j k : ℕ) : Type 0 where
  place : ℕ
  within : place < length xs
  lit : get_or (swap xs i j) k no_literal ≡ get_or xs place no_literal
  from : ComesFrom i j k place

source : (xs : Literals) (i j k : ℕ) → i < length xs → j < length xs → k < length xs → HasSource xs i j k
source xs i j k first second within =
    let f = swapped_from_swap xs (swap xs i j) i j no_literal first second refl in
    let at : (n : ℕ) → k ≡ n → get_or (swap xs i j) k no_literal ≡ get_or (swap xs i j) n no_literal =
    λ n e. ap (λ z. get_or (swap xs i j) z no_literal) e in
    ⊎_elim
    (λ (is : k ≡ i). let h : HasSource xs i j k = record { place = j; within = second; lit = at i is ∙ f.0; from = inl (is, refl) } in h)
    (λ (not_first : k ≢ i). ⊎_elim
    (λ (is : k ≡ j). let h : HasSource xs i j k = record {
      place = i;
      within = first;
      lit = at j is
          ∙ f.1;
      from = inr (inl (is, refl));
    } in h)
    (λ (not_second : k ≢ j).
    let h : HasSource xs i j k =
    record { place = k; within = within; lit = f.2 k not_first not_second; from = inr (inr (not_first, not_second, refl)) } in h)
    (cases_eq k j))
    (cases_eq k i)

same_source : (i j k m l n : ℕ) → ComesFrom i j k m → ComesFrom i j l n → m ≡ n → k ≡ l
same_source i j k m l n p q same =
    ⊎_elim
    (λ (p1 : (k ≡ i) × (m ≡ j)). ⊎_elim
    (λ (q1 : (l ≡ i) × (n ≡ j)). omega arith)
    (λ (q' : ((l ≡ j) × (n ≡ i)) ⊎ ((l ≢ i) × (l ≢ j) × (n ≡ l))). ⊎_elim
    (λ (q2 : (l ≡ j) × (n ≡ i)). omega arith)
    (λ (q3 : (l ≢ i) × (l ≢ j) × (n ≡ l)). absurd (q3.1 (omega arith))) q') q)
    (λ (p' : ((k ≡ j) × (m ≡ i)) ⊎ ((k ≢ i) × (k ≢ j) × (m ≡ k))). ⊎_elim
    (λ (p2 : (k ≡ j) × (m ≡ i)). ⊎_elim
    (λ (q1 : (l ≡ i) × (n ≡ j)). omega arith)
    (λ (q' : ((l ≡ j) × (n ≡ i)) ⊎ ((l ≢ i) × (l ≢ j) × (n ≡ l))). ⊎_elim
    (λ (q2 : (l ≡ j) × (n ≡ i)). omega arith)
    (λ (q3 : (l ≢ i) × (l ≢ j) × (n ≡ l)). absurd (q3.0 (omega arith))) q') q)
    (λ (p3 : (k ≢ i) × (k ≢ j) × (m ≡ k)). ⊎_elim
    (λ (q1 : (l ≡ i) × (n ≡ j)). absurd (p3.1 (omega arith)))
    (λ (q' : ((l ≡ j) × (n ≡ i)) ⊎ ((l ≢ i) × (l ≢ j) × (n ≡ l))). ⊎_elim
    (λ (q2 : (l ≡ j) × (n ≡ i)). absurd (p3.0 (omega arith)))
    (λ (q3 : (l ≢ i) × (l ≢ j) × (n ≡ l)). omega (arith, p3.2, q3.2)) q') q) p') p

-- a literal of the clause with two exchanged
literal_from : (a : Entries) (r i j k : ℕ) → r < length a
    → literal_of (with_swap a r i j) r k ≡ get_or (swap (entry_at a r).lits i j) k no_literal
literal_from a r i j k here = ap (λ (e : Entry). get_or e.lits k no_literal) (at_swapped a r i j here)

pub literal_first : (a : Entries) (r i j : ℕ) → r < length a → i < len_of a r → j < len_of a r
    → literal_of (with_swap a r i j) r i ≡ literal_of a r j
literal_first a r i j here first second =
    let xs = (entry_at a r).lits in
    literal_from a r i j i here ∙ (swapped_from_swap xs (swap xs i j) i j no_literal first second refl).0

pub literal_second : (a : Entries) (r i j : ℕ) → r < length a → i < len_of a r → j < len_of a r
    → literal_of (with_swap a r i j) r j ≡ literal_of a r i
literal_second a r i j here first second =
    let xs = (entry_at a r).lits in
    literal_from a r i j j here ∙ (swapped_from_swap xs (swap xs i j) i j no_literal first second refl).1

pub literal_other : (a : Entries) (r i j k : ℕ) → r < length a → i < len_of a r → j < len_of a r → k ≢ i → k ≢ j
    → literal_of (with_swap a r i j) r k ≡ literal_of a r k
literal_other a r i j k here first second not_first not_second =
    let xs = (entry_at a r).lits in
    literal_from a r i j k here ∙ (swapped_from_swap xs (swap xs i j) i j no_literal first second refl).2 k not_first not_second

clean_list : (n i j : ℕ) (xs : Literals) → i < length xs → j < length xs → IsClean n xs → IsClean n (swap xs i j)
clean_list n i j xs first second h =
    let size : length (swap xs i j) ≡ length xs = length-swap xs i j in
    let from : (k : ℕ) → k < length (swap xs i j) → HasSource xs i j k = λ k lt. source xs i j k first second (omega
    (arith, size)) in record {
      within = λ k lt. subst (IsWithin n) (sym (from k lt).lit) (h.within (from k lt).place (from k lt).within);
      distinct = λ k l lk ll same.
          let p = from k lk in
          let q = from l ll in
          same_source i j k p.place l q.place p.from q.from
          (h.distinct p.place q.place p.within q.within
          (ap (λ (x : Literal). x.var) (sym p.lit) ∙ same ∙ ap (λ (x : Literal). x.var) q.lit));
    }

pub clean_swap : (n : ℕ) (a : Entries) (r i j s : ℕ) → r < length a → i < len_of a r → j < len_of a r → IsClean n (entry_at a s).lits
    → IsClean n (entry_at (with_swap a r i j) s).lits
clean_swap n a r i j s here first second h =
    ⊎_elim
    (λ (at : s ≡ r).
    subst (λ (z : ℕ). IsClean n (entry_at (with_swap a r i j) z).lits) (sym at)
    (subst (λ (x : Entry). IsClean n x.lits) (sym (at_swapped a r i j here))
    (clean_list n i j (entry_at a r).lits first second (subst (λ (z : ℕ). IsClean n (entry_at a z).lits) at h))))
    (λ (other : s ≢ r). subst (λ (x : Entry). IsClean n x.lits) (sym (at_unswapped a r i j s other)) h)
    (cases_eq s r)
