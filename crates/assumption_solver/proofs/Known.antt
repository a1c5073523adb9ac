-- What a log knows by its ids, and what analysis may name of it.
--
-- known_more       more entries
-- map_of           the log's own map has all members
-- at_of_known      a known id is one of the log's
-- is_shown         hints that prove a clause from it show the clause
use Rattle.std.proofs.Common.{◌≡◌, ℕ, ◌+◌, ◌-◌, ◌<◌, ◌≤◌, ◌==◌, Bool, true, false, cond, List, [], ◌∷◌, ◌++◌, length, map, get_or, Some, None}
use Rattle.std.proofs.Common.{Contains, refl, sym, ap, ◌∙◌, subst, ⊎_elim, arith}
use Rattle.std.specs.List.{slice_get}
use Rattle.std.proofs.lemmas.Bool.{cases_lt, eqb-true, eq-eqb, false_from_ne_true}
use Rattle.std.proofs.lemmas.List.{length-append, length-map, map-append, append_assoc, get_or_append_left, get_or-append-add, get_or-map}
use Rattle.std.proofs.lemmas.List.Elements.{All-from_get_or, Contains-get_or}
use Rattle.std.proofs.lemmas.Option.{slice_get-get_or, slice_get_within}
use Rattle.cnf_core.specs.Literals.{Literal, Literals, AreWithin, IsWithin}
use Rattle.cnf_core.specs.Formulas.{Cnf}
use Rattle.clause_arena.specs.Entries.{Entries, no_literal, entry_at as clause_at}
use Rattle.trail_core.specs.TrueAndFalse.{IsFalse}
use Rattle.trail_core.specs.declared.entry.Assigned.{Assigned}
use Rattle.trail_core.specs.Trails.{TrailState, assigned_at, IsTrail}
use Rattle.lrat_lines.specs.Sets.{IsSameSet}
use Rattle.lrat_lines.specs.Proofs.{numbered}
use Rattle.lrat_lines.specs.Tidy.{IsHint}
use Rattle.lrat_lines.specs.Tight.{IsKnown}
use Rattle.conflict_analysis.specs.Members.{IsMapOf, IsLiveClause, IsRootUnit, HasClause, IsProof}
use Rattle.lrat_log.specs.Entries.{Entry, Recorded, no_entry, entry_at, id_after, known_after}
use Rattle.conflict_analysis.proofs.Deriving.{derives_clause, tight_of_derives}
use Rattle.conflict_analysis.proofs.Outcomes.{tight_is_proof}
use Rattle.lrat_log.specs.Kept.{IsShown}
use Rattle.assumption_solver.specs.Units.{IsUnitAt}
use Rattle.assumption_solver.specs.Steps.Solving.{IsLogged}
use Rattle.assumption_solver.proofs.Places.{entry_of_place}
use Rattle.assumption_solver.proofs.Tables.{IsLonger}

-- ---- numbers

pub record IsAtId (sets : List Literals) (id : ℕ) (c : Literals) : Type 0 where
  pub low : 0 < id
  pub high : id ≤ length sets
  pub set : get_or sets (id - 1) [] ≡ c

numbered_cases : (sets : List Literals) (id : ℕ) (c : Literals) (b : Bool) → (id == 0) ≡ b → cond b None (slice_get sets (id - 1)) ≡ Some c
    → IsAtId sets id c
numbered_cases sets id c true zero is = let wrong : None ≡ Some c = is in cc
numbered_cases sets id c false some is =
    let lt : id - 1 < length sets = slice_get_within sets (id - 1) c is in
    let pos : 0 < id = ⊎_elim
    (λ (h : 0 < id). h)
    (λ (h : id ≤ 0). let e : (id == 0) ≡ true = eq-eqb id 0 (omega arith) in cc)
    (cases_lt 0 id) in
    let both : Some (get_or sets (id - 1) []) ≡ Some c = sym (slice_get-get_or sets (id - 1) [] lt) ∙ is in
    let same : get_or sets (id - 1) [] ≡ c = cc in
    record { low = pos; high = omega arith; set = same }

pub at_of_numbered : (sets : List Literals) (id : ℕ) (c : Literals) → numbered sets id ≡ Some c → IsAtId sets id c
at_of_numbered sets id c is = numbered_cases sets id c (id == 0) refl is

pub numbered_of_at : (sets : List Literals) (id : ℕ) (c : Literals) → IsAtId sets id c → numbered sets id ≡ Some c
numbered_of_at sets id c h =
    let some : (id == 0) ≡ false = false_from_ne_true (id == 0) (λ zero. omega (arith, h.low, eqb-true id 0 zero)) in
    ap (λ (b : Bool). cond b None (slice_get sets (id - 1))) some
    ∙ slice_get-get_or sets (id - 1) [] (omega (arith, h.low, h.high)) ∙ ap Some h.set

numbered_more : (sets more : List Literals) (id : ℕ) (c : Literals) → numbered sets id ≡ Some c → numbered (sets ++ more) id ≡ Some c
numbered_more sets more id c is =
    let h = at_of_numbered sets id c is in
    numbered_of_at (sets ++ more) id c (record {
      low = h.low;
      high = omega (arith, h.high, length-append sets more);
      set = get_or_append_left sets more [] (id - 1) (omega (arith, h.low, h.high)) ∙ h.set;
    })

sets_longer : (L M : Recorded) (h : IsLonger L M) → M.formula.clauses ++ map (λ (e : Entry). e.literals) M.entries
    ≡ (L.formula.clauses ++ map (λ (e : Entry). e.literals) L.entries) ++ map (λ (e : Entry). e.literals) h.more
sets_longer L M h =
    ap (λ (F : Cnf). F.clauses ++ map (λ (e : Entry). e.literals) M.entries) h.formula
    ∙ ap (λ (es : List Entry). L.formula.clauses ++ map (λ (e : Entry). e.literals) es) h.entries
    ∙ ap (λ (cs : List Literals). L.formula.clauses ++ cs) (map-append (λ (e : Entry). e.literals) L.entries h.more)
    ∙ sym (append_assoc L.formula.clauses (map (λ (e : Entry). e.literals) L.entries) (map (λ (e : Entry). e.literals) h.more))

-- what was known is known of the longer log
pub known_more : (L M : Recorded) (id : ℕ) (c : Literals) → IsLonger L M → known_after L.formula L.entries id ≡ Some c
    → known_after M.formula M.entries id ≡ Some c
known_more L M id c h is =
    ap (λ (sets : List Literals). numbered sets id) (sets_longer L M h)
    ∙ numbered_more (L.formula.clauses ++ map (λ (e : Entry). e.literals) L.entries) (map (λ (e : Entry). e.literals) h.more) id c is

pub clause_more : (L M : Recorded) (id : ℕ) (c : Literals) → IsLonger L M → HasClause (known_after L.formula L.entries) id c
    → HasClause (known_after M.formula M.entries) id c
clause_more L M id c h k = record { set = k.set; is_known = known_more L M id k.set h k.is_known; same = k.same }

same_set : (c : Literals) → IsSameSet c c
same_set c = record { forth = λ l h. h; back = λ l h. h }

pub clause_of_known : (L : Recorded) (id : ℕ) (c : Literals) → known_after L.formula L.entries id ≡ Some c
    → HasClause (known_after L.formula L.entries) id c
clause_of_known L id c is = record { set = c; is_known = is; same = same_set c }

-- an entry is known by its id
pub known_entry : (L : Recorded) (id k : ℕ) → k < length L.entries → id ≡ length L.formula.clauses + 1 + k
    → known_after L.formula L.entries id ≡ Some (entry_at L k).literals
known_entry L id k lt is =
    let f : Entry → Literals = λ e. e.literals in
    let firsts = L.formula.clauses in
    let sets = firsts ++ map f L.entries in
    let size : length sets ≡ length firsts + length L.entries =
    length-append firsts (map f L.entries) ∙ ap (λ (n : ℕ). length firsts + n) (length-map L.entries f) in
    let place : id - 1 ≡ length firsts + k = omega (arith, is) in
    numbered_of_at sets id (entry_at L k).literals (record {
      low = omega (arith, is);
      high = omega (arith, is, size, lt);
      set = ap (λ (n : ℕ). get_or sets n []) place ∙ get_or-append-add firsts (map f L.entries) k []
          ∙ get_or-map f L.entries k no_entry [] lt;
    })

pub unit_known : (L : Recorded) (id : ℕ) (l : Literal) → IsUnitAt L id l → known_after L.formula L.entries id ≡ Some (l ∷ [])
unit_known L id l h = known_entry L id h.place h.within h.has_id ∙ ap Some h.literals

-- an input clause is known by its place
pub input_known : (L : Recorded) (k : ℕ) → k < length L.formula.clauses
    → known_after L.formula L.entries (k + 1) ≡ Some (get_or L.formula.clauses k [])
input_known L k lt =
    let f : Entry → Literals = λ e. e.literals in
    let firsts = L.formula.clauses in
    let sets = firsts ++ map f L.entries in
    numbered_of_at sets (k + 1) (get_or firsts k []) (record {
      low = omega arith;
      high = omega (arith, lt, length-append firsts (map f L.entries));
      set = ap (λ (n : ℕ). get_or sets n []) (let e : k + 1 - 1 ≡ k = omega arith in e) ∙ get_or_append_left firsts (map f L.entries) [] k lt;
    })

-- ---- what analysis may name

pub map_of : (a : Entries) (es : List Assigned) (L : Recorded) → IsLogged a es L → IsMapOf a es (known_after L.formula L.entries)
map_of a es L h id c member =
    let K = known_after L.formula L.entries in
    ⊎_elim
    (λ (m : IsLiveClause a id c).
    subst (HasClause K id) m.has_lits
    (subst (λ (n : ℕ). HasClause K n (clause_at a m.reference).lits) m.has_id
    (h.clauses (clause_at a m.reference) (entry_of_place a m.reference m.live) m.live.live)))
    (λ (m : IsRootUnit es id c).
    subst (HasClause K id) m.has_lits
    (clause_of_known L id ((assigned_at es m.place).lit ∷ [])
    (unit_known L id (assigned_at es m.place).lit (h.units m.place id m.within m.reason))))
    member

pub at_of_known : (L : Recorded) (id : ℕ) → IsKnown (known_after L.formula L.entries) id → IsHint (id_after L.formula L.entries) id
at_of_known L id k =
    let f : Entry → Literals = λ e. e.literals in
    let h = at_of_numbered (L.formula.clauses ++ map f L.entries) id k.set k.is_known in record {
      low = h.low;
      high = omega (arith, h.high, length-append L.formula.clauses (map f L.entries), length-map L.entries f);
    }

pub is_shown : (L : Recorded) (hints : List ℕ) (c : Literals) → AreWithin L.formula.vars c → IsProof (known_after L.formula L.entries) hints c
    → IsShown L.formula L.entries hints c
is_shown L hints c within p = record {
  within = within;
  hints_before = All-from_get_or (IsHint (id_after L.formula L.entries)) hints 0 (λ i lt.
      at_of_known L (get_or hints i 0) (p.ids (get_or hints i 0) (Contains-get_or hints i 0 lt)));
  proved = p.shows;
}

-- literals that are false on a trail are among its variables
pub within_of_false : (t : TrailState) (x : Literal) → IsTrail t → IsFalse t.entries x → IsWithin t.vars x
within_of_false t x trail f =
    let w = trail.within f.place f.within in
    let v : (assigned_at t.entries f.place).lit.var ≡ x.var = ap (λ (l : Literal). l.var) f.lit in
    record { low = omega (arith, w.low, v); high = omega (arith, w.high, v) }

pub false_within : (n : ℕ) (t : TrailState) (c : Literals) → IsTrail t → t.vars ≡ n → ((x : Literal) → Contains c x → IsFalse t.entries x)
    → AreWithin n c
false_within n t c trail vars all =
    subst (λ (m : ℕ). AreWithin m c) vars (All-from_get_or (IsWithin t.vars) c no_literal (λ i lt.
    within_of_false t (get_or c i no_literal) trail (all (get_or c i no_literal) (Contains-get_or c i no_literal lt))))

-- a clause that is known shows itself
pub shown_same : (L : Recorded) (id : ℕ) (c : Literals) → AreWithin L.formula.vars c → HasClause (known_after L.formula L.entries) id c
    → IsShown L.formula L.entries (id ∷ []) c
shown_same L id c within has =
    let K = known_after L.formula L.entries in
    is_shown L (id ∷ []) c within
    (tight_is_proof K (id ∷ []) c
    (tight_of_derives K [] 0 c (id ∷ []) (λ x q there lt _. omega (arith, lt)) (derives_clause K [] 0 id c has)))
