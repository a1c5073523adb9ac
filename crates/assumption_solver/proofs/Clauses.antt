-- A clause more in an arena.
--
-- plain_added     every clause stays plain
-- keeps_added     the clauses before it stay
use Rattle.std.proofs.Common.{◌≡◌, ◌≢◌, ℕ, ◌<◌, ◌≤◌, Bool, true, List, [], ◌∷◌, length, get_or, Contains, All, AllPairs, refl, sym, ap, ◌∙◌}
use Rattle.std.proofs.Common.{subst, ⊎_elim, arith}
use Rattle.std.proofs.lemmas.List.{length_push, get_or_push, get_or_append_left}
use Rattle.std.proofs.lemmas.Bool.{cases_lt}
use Rattle.cnf_core.specs.Literals.{Literals, AreWithin}
use Rattle.cnf_core.specs.Formulas.{Cnf, IsFormula}
use Rattle.clause_arena.specs.Entries.{Entry, Entries, no_entry, no_literal, entry_at, IsLive, new_entry, with_entry}
use Rattle.watch_lists.specs.Clauses.{IsLong, IsClean, AreClean}
use Rattle.watch_lists.proofs.Kept.{clean_added}
use Rattle.assumption_solver.specs.Steps.Plain.{IsPlain, AreLong}
use Rattle.assumption_solver.proofs.Reasons.{KeepsClauses}

pub entry_old : (a : Entries) (e : Entry) (r : ℕ) → r < length a → entry_at (with_entry a e) r ≡ entry_at a r
entry_old a e r lt = get_or_append_left a (e ∷ []) no_entry r lt

pub entry_new : (a : Entries) (e : Entry) → entry_at (with_entry a e) (length a) ≡ e
entry_new a e = get_or_push a e no_entry (length a) refl

-- of the live clauses of the longer arena each is an old one or the new one
pub each_live : (a : Entries) (e : Entry) (r : ℕ) (A : Type 0) → IsLive (with_entry a e) r → (IsLive a r → A) → (r ≡ length a → A) → A
each_live a e r A h old new =
    ⊎_elim
    (λ (lt : r < length a).
    let was : IsLive a r = record { present = lt; live = ap (λ (x : Entry). x.live) (sym (entry_old a e r lt)) ∙ h.live } in old was)
    (λ (past : length a ≤ r). new (omega (arith, length_push a e, h.present)))
    (cases_lt r (length a))

pub keeps_added : (a : Entries) (e : Entry) → KeepsClauses a (with_entry a e)
keeps_added a e r live =
    let is = entry_old a e r live.present in record {
      live = record { present = omega (arith, length_push a e, live.present); live = ap (λ (x : Entry). x.live) is ∙ live.live };
      forth = λ l h. subst (λ (x : Entry). Contains x.lits l) (sym is) h;
      back = λ l h. subst (λ (x : Entry). Contains x.lits l) is h;
    }

-- the new clause
pub live_new : (a : Entries) (e : Entry) → e.live ≡ true → IsLive (with_entry a e) (length a)
live_new a e live = record { present = omega (arith, length_push a e); live = ap (λ (x : Entry). x.live) (entry_new a e) ∙ live }

pub long_new : (a : Entries) (e : Entry) → e.live ≡ true → 2 ≤ length e.lits → IsLong (with_entry a e) (length a)
long_new a e live long = record {
  live = live_new a e live;
  long = subst (λ (x : Entry). 2 ≤ length x.lits) (sym (entry_new a e)) long;
}

-- each variable once: places with one variable are one place
once_places : (c : Literals) → AllPairs (λ k l. k.var ≢ l.var) c → (i j : ℕ) → i < length c → j < length c
    → (get_or c i no_literal).var ≡ (get_or c j no_literal).var → i ≡ j
once_places c once i j first second same =
    ⊎_elim
    (λ (lt : i < j). absurd (once i j no_literal lt second same))
    (λ (le : j ≤ i). ⊎_elim
    (λ (lt : j < i). absurd (once j i no_literal lt first (sym same)))
    (λ (ge : i ≤ j). omega arith)
    (cases_lt j i))
    (cases_lt i j)

pub clean_clause : (n : ℕ) (c : Literals) → AreWithin n c → AllPairs (λ k l. k.var ≢ l.var) c → IsClean n c
clean_clause n c within once = record { within = λ i lt. within i no_literal lt; distinct = once_places c once }

pub long_added : (a : Entries) (e : Entry) → AreLong a → e.live ≡ true → 2 ≤ length e.lits → AreLong (with_entry a e)
long_added a e all live long r h =
    each_live a e r (IsLong (with_entry a e) r) h
    (λ old. record { live = h; long = subst (λ (x : Entry). 2 ≤ length x.lits) (sym (entry_old a e r old.present)) (all r old).long })
    (λ at. subst (IsLong (with_entry a e)) (sym at) (long_new a e live long))

-- a plain clause
pub plain_added : (n : ℕ) (a : Entries) (id : ℕ) (c : Literals) (learnt : Bool) → AreLong a → AreClean n a → IsPlain c → AreWithin n c
    → AreLong (with_entry a (new_entry id c learnt)) × AreClean n (with_entry a (new_entry id c learnt))
plain_added n a id c learnt long clean plain within = (
  long_added a (new_entry id c learnt) long refl plain.long,
  clean_added n a (new_entry id c learnt) clean (clean_clause n c within plain.each_once),
)

-- the next clause of a formula
pub next_loaded : (F : Cnf) (xs : List Literals) (i id : ℕ) (x c : Literals) (a b : Entries) (learnt : Bool) → All IsPlain F.clauses
    → IsFormula F → xs ≡ F.clauses → i < length xs → x ≡ get_or xs i x → c ≡ x → b ≡ with_entry a (new_entry id c learnt)
    → AreLong a × AreClean F.vars a → AreLong b × AreClean F.vars b
next_loaded F xs i id x c a b learnt plain formula is lt here same more h =
    let at : i < length F.clauses = omega (arith, ap length is) in
    let e : get_or F.clauses i x ≡ c = ap (λ (ys : List Literals). get_or ys i x) (sym is) ∙ sym here ∙ sym same in
    subst (λ (d : Entries). AreLong d × AreClean F.vars d) (sym more)
    (plain_added F.vars a id c learnt h.0 h.1 (subst IsPlain e (plain i x at)) (subst (AreWithin F.vars) e (formula.within i x at)))

-- the literals of an added clause
pub clean_at_end : (n : ℕ) (a b : Entries) (c : Literals) (r id : ℕ) → b ≡ with_entry a (new_entry id c true) → r ≡ length a → IsClean n c
    → IsClean n (entry_at b r).lits
clean_at_end n a b c r id more end h =
    let e = new_entry id c true in
    let is : entry_at b r ≡ e = ap (λ (d : Entries). entry_at d r) more ∙ ap (λ (k : ℕ). entry_at (with_entry a e) k) end ∙ entry_new a e in
    subst (λ (y : Entry). IsClean n y.lits) (sym is) h
