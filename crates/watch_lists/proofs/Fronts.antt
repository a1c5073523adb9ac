-- A trail and a longer one that begins with it, and what literals it makes true.
use Rattle.std.proofs.Common.{◌≡◌, ℕ, ◌<◌, ◌≤◌, Bool, true, false, List, [], ◌∷◌, ◌++◌, length, take, Contains, refl, sym, ap, ◌∙◌, subst}
use Rattle.std.proofs.Common.{arith}
use Rattle.std.proofs.lemmas.List.{get_or-take, take-append-le, take_all, take-take, length_push, get_or_push}
use Rattle.cnf_core.specs.Literals.{Literal, negated}
use Rattle.clause_arena.specs.Entries.{Entries, entry_at}
use Rattle.trail_core.specs.declared.entry.Assigned.{Assigned}
use Rattle.trail_core.specs.Trails.{no_entry, assigned_at, HasLiteral, IsFree}
use Rattle.trail_core.specs.TrueAndFalse.{HasLiteralBefore, HasLiteralBy}
use Rattle.watch_lists.specs.Clauses.{HasTrueBy, IsForced, HasTrue, IsReordered}
use Rattle.watch_lists.proofs.Orders.{live_after, member_after, reordered_sym}

-- one trail begins with the other
pub record IsFront (es fs : List Assigned) : Type 0 where
  pub grown : length es ≤ length fs
  pub front : take (length es) fs ≡ es

pub front_refl : (es : List Assigned) → IsFront es es
front_refl es = record { grown = omega arith; front = take_all (length es) es (omega arith) }

pub front_push : (es : List Assigned) (x : Assigned) → IsFront es (es ++ x ∷ [])
front_push es x = record {
  grown = omega (arith, length_push es x);
  front = take-append-le (length es) es (x ∷ []) (omega arith) ∙ take_all (length es) es (omega arith);
}

pub at_front : (es fs : List Assigned) (k : ℕ) → IsFront es fs → k < length es → assigned_at fs k ≡ assigned_at es k
at_front es fs k f lt =
    sym (get_or-take (length es) fs k no_entry lt) ∙ ap (λ (gs : List Assigned). assigned_at gs k) f.front

pub front_trans : (es fs gs : List Assigned) → IsFront es fs → IsFront fs gs → IsFront es gs
front_trans es fs gs f g = record {
  grown = omega (arith, f.grown, g.grown);
  front =
      let le : length es ≤ length fs = f.grown in
      sym (take-take (length es) (length fs) gs le) ∙ ap (λ (xs : List Assigned). take (length es) xs) g.front ∙ f.front;
}

pub literal_kept : (es fs : List Assigned) (l : Literal) → IsFront es fs → HasLiteral es l → HasLiteral fs l
literal_kept es fs l f h = record {
  place = h.place;
  within = omega (arith, f.grown, h.within);
  lit = ap (λ (x : Assigned). x.lit) (at_front es fs h.place f h.within) ∙ h.lit;
}

pub literal_by_kept : (es fs : List Assigned) (n : ℕ) (l : Literal) → IsFront es fs → HasLiteralBy es n l → HasLiteralBy fs n l
literal_by_kept es fs n l f h = record {
  place = h.place;
  within = omega (arith, f.grown, h.within);
  lit = ap (λ (x : Assigned). x.lit) (at_front es fs h.place f h.within) ∙ h.lit;
  level = omega (arith, ap (λ (x : Assigned). x.level) (at_front es fs h.place f h.within), h.level);
}

pub literal_before_kept : (es fs : List Assigned) (k : ℕ) (l : Literal) → IsFront es fs → k ≤ length es
    → HasLiteralBefore es k l → HasLiteralBefore fs k l
literal_before_kept es fs k l f le h = record {
  place = h.place;
  before = h.before;
  lit = ap (λ (x : Assigned). x.lit) (at_front es fs h.place f (omega (arith, h.before))) ∙ h.lit;
}

-- the new last entry makes its literal true
pub literal_pushed : (es : List Assigned) (x : Assigned) → HasLiteral (es ++ x ∷ []) x.lit
literal_pushed es x = record {
  place = length es;
  within = omega (arith, length_push es x);
  lit = ap (λ (y : Assigned). y.lit) (get_or_push es x no_entry (length es) refl);
}

-- ---- clauses

pub true_kept : (a b : Entries) (es fs : List Assigned) (r : ℕ)
    → ((l : Literal) → Contains (entry_at a r).lits l → Contains (entry_at b r).lits l) → IsFront es fs
    → HasTrue a es r → HasTrue b fs r
true_kept a b es fs r members f h = record {
  lit = h.lit;
  member = members h.lit h.member;
  made = literal_kept es fs h.lit f h.made;
}

pub true_by_kept : (a b : Entries) (es fs : List Assigned) (r n : ℕ)
    → ((l : Literal) → Contains (entry_at a r).lits l → Contains (entry_at b r).lits l) → IsFront es fs
    → HasTrueBy a es r n → HasTrueBy b fs r n
true_by_kept a b es fs r n members f h = record {
  lit = h.lit;
  member = members h.lit h.member;
  made = literal_by_kept es fs n h.lit f h.made;
}

-- a forced entry stays one
pub forced_kept : (a b : Entries) (es fs : List Assigned) (k : ℕ) → IsReordered a b → IsFront es fs → k < length es
    → IsForced a es k → IsForced b fs k
forced_kept a b es fs k o f lt h =
    let is : assigned_at fs k ≡ assigned_at es k = at_front es fs k f lt in
    let lit : (assigned_at fs k).lit ≡ (assigned_at es k).lit = ap (λ (x : Assigned). x.lit) is in
    let live = live_after a b h.clause o h.live in record {
      clause = h.clause;
      reason = ap (λ (x : Assigned). x.reason) is ∙ h.reason;
      live = live;
      member = subst (λ (l : Literal). Contains (entry_at b h.clause).lits l) (sym lit)
          (member_after a b h.clause (assigned_at es k).lit o h.live h.member);
      free = λ j before same. h.free j before
          (ap (λ (x : Assigned). x.lit.var) (sym (at_front es fs j f (omega arith))) ∙ same ∙ ap (λ (l : Literal). l.var) lit);
      others = λ l member other. literal_before_kept es fs k (negated l) f (omega arith)
          (h.others l (member_after b a h.clause l (reordered_sym a b o) live member) (λ e. other (e ∙ sym lit)));
    }

-- ---- a literal and its negation

negated_parts : (v : ℕ) (b : Bool) → negated (negated (record { var = v; positive = b })) ≡ record { var = v; positive = b }
negated_parts v true = refl
negated_parts v false = refl

pub negated_twice : (l : Literal) → negated (negated l) ≡ l
negated_twice l = negated_parts l.var l.positive

literal_parts : (v u : ℕ) (b p : Bool) (A : Type 0) → v ≡ u
    → ((let l : Literal = record { var = v; positive = b } in l) ≡ record { var = u; positive = p } → A)
    → ((let l : Literal = record { var = v; positive = b } in l) ≡ negated (record { var = u; positive = p }) → A) → A
literal_parts v u true true A e same other = same (ap (λ (n : ℕ). record { var = n; positive = true }) e)
literal_parts v u true false A e same other = other (ap (λ (n : ℕ). record { var = n; positive = true }) e)
literal_parts v u false true A e same other = other (ap (λ (n : ℕ). record { var = n; positive = false }) e)
literal_parts v u false false A e same other = same (ap (λ (n : ℕ). record { var = n; positive = false }) e)

-- of two literals of one variable one is the other or its negation
pub literal_cases : (k l : Literal) (A : Type 0) → k.var ≡ l.var → (k ≡ l → A) → (k ≡ negated l → A) → A
literal_cases k l A = literal_parts k.var l.var k.positive l.positive A

-- a variable of which neither literal is true has no value
pub free_of_open : (es : List Assigned) (l : Literal) → (HasLiteral es l → ⊥) → (HasLiteral es (negated l) → ⊥) → IsFree es l.var
free_of_open es l not_true not_false k within same =
    literal_cases (assigned_at es k).lit l ⊥ same
    (λ e. not_true (record { place = k; within = within; lit = e }))
    (λ e. not_false (record { place = k; within = within; lit = e }))
