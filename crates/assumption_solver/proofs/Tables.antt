-- A log with more entries, and the table of its units.
--
-- unit_longer, entry_longer      entries stay
-- noted_shown, learnt_shown      what one entry more is
-- table_other, table_unit        the table after it
-- table_query, query_is_blank    a new query
use Rattle.std.proofs.Common.{◌≡◌, ◌≢◌, ℕ, ◌+◌, ◌*◌, ◌-◌, ◌<◌, ◌≤◌, ◌==◌, ◌&&◌, Bool, true, false, cond, IsTrue, List, [], ◌∷◌, ◌++◌, length, map, filter, get_or, set, All}
use Rattle.std.proofs.Common.{Some, None, Result, Ok, Err, OnOk, OnErr, IfOk, refl, sym, ap, ◌∙◌, subst, ⊎_elim, arith}
use Rattle.std.specs.List.{slice_get}
use Rattle.std.proofs.lemmas.Bool.{cases_lt, eq-eqb, eqb-true, false_from_ne_true, false≢true}
use Rattle.std.proofs.lemmas.List.{length_push, length-append, get_or_push, get_or_append_left, length-set, get_or-set_same, get_or-set_other, map-append, append_assoc, length-map}
use Rattle.std.proofs.lemmas.List.Elements.{All-append, All-cons, All-nil, All-contains, filter-append}
use Rattle.std.proofs.lemmas.List.Sums.{sum_by_push}
use Rattle.std.proofs.lemmas.Option.{slice_get-get_or}
use Rattle.cnf_core.specs.Literals.{Literal, Literals, code_of, IsWithin}
use Rattle.cnf_core.specs.Formulas.{Cnf}
use Rattle.cnf_core.proofs.Lists.{kept_of_Contains-filter, nil_without_members}
use Rattle.watch_lists.proofs.Attached.{literal_eq}
use Rattle.trail_core.proofs.Literals.{same_code}
use Rattle.trail_core.proofs.Lookups.{code_within}
use Rattle.lrat_log.specs.declared.kind.Kind.{Kind}
use Rattle.lrat_log.specs.declared.kind.Kind.TheVariants.{Learnt, Unit as UnitKind, Core, Empty, Import}
use Rattle.lrat_log.specs.Entries.{Entry, Recorded, no_entry, entry_at, is_learnt, is_import, is_learnt_entry, learnt_count, id_after, known_after}
use Rattle.lrat_log.specs.Entries.{next_entry, with_entry, with_shown, with_new_query, is_query_used}
use Rattle.lrat_log.specs.Fresh.{is_learnt_in, learnt_in}
use Rattle.assumption_solver.specs.Units.{is_unit, IsUnitAt, HasUnit}
use Rattle.assumption_solver.specs.Logs.{IsEntryAt, IsContinued}
use Rattle.assumption_solver.specs.Steps.Tables.{IsTable}
use Rattle.assumption_solver.specs.Steps.Noted.{IsNoted, HasLearnt}

-- ---- entries stay

-- the same formula, and more entries behind the others
pub record IsLonger (old new : Recorded) : Type 0 where
  pub formula : new.formula ≡ old.formula
  pub more : List Entry
  pub entries : new.entries ≡ old.entries ++ more

pub longer_continued : (L M : Recorded) → IsContinued L M → IsLonger L M
longer_continued L M h = record { formula = h.formula; more = h.more; entries = h.entries }

pub longer_entry : (L : Recorded) (kind : Kind) (c : Literals) (hints : List ℕ) (clock : ℕ) → IsLonger L (with_entry L kind c hints clock)
longer_entry L kind c hints clock = record { formula = refl; more = next_entry L kind c hints clock ∷ []; entries = refl }

pub count_longer : (L M : Recorded) → IsLonger L M → length L.entries ≤ length M.entries
count_longer L M h = omega (arith, ap length h.entries, length-append L.entries h.more)

pub at_longer : (L M : Recorded) (k : ℕ) → IsLonger L M → k < length L.entries → entry_at M k ≡ entry_at L k
at_longer L M k h lt = ap (λ (es : List Entry). get_or es k no_entry) h.entries ∙ get_or_append_left L.entries h.more no_entry k lt

first_longer : (L M : Recorded) → IsLonger L M → length M.formula.clauses ≡ length L.formula.clauses
first_longer L M h = ap (λ (F : Cnf). length F.clauses) h.formula

pub unit_longer : (L M : Recorded) (id : ℕ) (l : Literal) → IsLonger L M → IsUnitAt L id l → IsUnitAt M id l
unit_longer L M id l h u =
    let same = at_longer L M u.place h u.within in record {
      place = u.place;
      within = omega (arith, u.within, count_longer L M h);
      has_id = omega (arith, u.has_id, first_longer L M h);
      kind = ap (λ (e : Entry). is_unit e.kind) same ∙ u.kind;
      literals = ap (λ (e : Entry). e.literals) same ∙ u.literals;
    }

pub entry_longer : (L M : Recorded) (id : ℕ) (kind : Kind) (c : Literals) → IsLonger L M → IsEntryAt L id kind c → IsEntryAt M id kind c
entry_longer L M id kind c h u =
    let same = at_longer L M u.place h u.within in record {
      place = u.place;
      within = omega (arith, u.within, count_longer L M h);
      has_id = omega (arith, u.has_id, first_longer L M h);
      has_kind = ap (λ (e : Entry). e.kind) same ∙ u.has_kind;
      literals = ap (λ (e : Entry). e.literals) same ∙ u.literals;
    }

pub has_unit_longer : (L M : Recorded) (l : Literal) → IsLonger L M → HasUnit L l → HasUnit M l
has_unit_longer L M l h u = record { id = u.id; at_id = unit_longer L M u.id l h u.at_id }

-- ---- one entry more

at_new : (L : Recorded) (kind : Kind) (c : Literals) (hints : List ℕ) (clock : ℕ)
    → entry_at (with_entry L kind c hints clock) (length L.entries) ≡ next_entry L kind c hints clock
at_new L kind c hints clock = get_or_push L.entries (next_entry L kind c hints clock) no_entry (length L.entries) refl

pub entry_new : (L : Recorded) (kind : Kind) (c : Literals) (hints : List ℕ) (clock id : ℕ) → id ≡ id_after L.formula L.entries
    → IsEntryAt (with_entry L kind c hints clock) id kind c
entry_new L kind c hints clock id is =
    let e = next_entry L kind c hints clock in
    let same = at_new L kind c hints clock in record {
      place = length L.entries;
      within = omega (arith, length_push L.entries e);
      has_id = is;
      has_kind = ap (λ (x : Entry). x.kind) same;
      literals = ap (λ (x : Entry). x.literals) same;
    }

-- an entry of a kind that shows its literal by itself
pub unit_of_entry : (L : Recorded) (id : ℕ) (kind : Kind) (l : Literal) → is_unit kind ≡ true → IsEntryAt L id kind (l ∷ []) → IsUnitAt L id l
unit_of_entry L id kind l unit h = record {
  place = h.place;
  within = h.within;
  has_id = h.has_id;
  kind = ap is_unit h.has_kind ∙ unit;
  literals = h.literals;
}

one_if : Bool → ℕ
one_if b = cond b 1 0

one_if_false : (b : Bool) → b ≡ false → one_if b ≡ 0
unfolding one_if
one_if_false true h = absurd (false≢true (sym h))
one_if_false false h = refl

no_more : (n : ℕ) (b : Bool) → b ≡ false → n + one_if b ≡ n
unfolding one_if
no_more n b h = omega (arith, one_if_false b h)

learnt_in_push : (es : List Entry) (q : ℕ) (e : Entry)
    → learnt_in (es ++ e ∷ []) q ≡ learnt_in es q ++ map (λ (x : Entry). x.literals) (filter (is_learnt_in q) (e ∷ []))
learnt_in_push es q e =
    ap (λ (xs : List Entry). map (λ (x : Entry). x.literals) xs) (filter-append (is_learnt_in q) es (e ∷ []))
    ∙ map-append (λ (x : Entry). x.literals) (filter (is_learnt_in q) es) (filter (is_learnt_in q) (e ∷ []))

append_nil : {X : Type 0} (xs : List X) → xs ++ [] ≡ xs
append_nil [] = refl
append_nil (x ∷ xs) = ap (λ ys. x ∷ ys) (append_nil xs)

continued_shown : (L : Recorded) (kind : Kind) (c : Literals) (hints : List ℕ) → is_import kind ≡ false
    → IsContinued L (with_shown L kind c hints)
continued_shown L kind c hints shown =
    let e = next_entry L kind c hints L.clock in record {
      formula = refl;
      query = refl;
      clock = refl;
      more = e ∷ [];
      entries = refl;
      own = All-cons (λ (x : Entry). x.query ≡ L.query) e [] refl (All-nil (λ (x : Entry). x.query ≡ L.query));
      shown = All-cons (λ (x : Entry). is_import x.kind ≡ false) e [] shown (All-nil (λ (x : Entry). is_import x.kind ≡ false));
    }

pub noted_shown : (L : Recorded) (kind : Kind) (c : Literals) (hints : List ℕ) → is_import kind ≡ false → is_learnt kind ≡ false
    → IsNoted L (with_shown L kind c hints)
unfolding one_if
noted_shown L kind c hints shown other =
    let e = next_entry L kind c hints L.clock in
    let none : filter (is_learnt_in L.query) (e ∷ []) ≡ [] =
    ap (λ (b : Bool). cond (b && (L.query == L.query)) (e ∷ []) []) other in record {
      continued = continued_shown L kind c hints shown;
      learnt = learnt_in_push L.entries L.query e
          ∙ ap (λ (xs : List Entry). learnt_in L.entries L.query ++ map (λ (x : Entry). x.literals) xs) none
          ∙ append_nil (learnt_in L.entries L.query);
      count = sum_by_push (λ (x : Entry). cond (is_learnt_entry x) 1 0) L.entries e
          ∙ no_more (learnt_count L.entries) (is_learnt kind) other;
    }

pub noted_same : (L : Recorded) → IsNoted L L
noted_same L = record {
  continued = record {
    formula = refl;
    query = refl;
    clock = refl;
    more = [];
    entries = sym (append_nil L.entries);
    own = All-nil (λ (x : Entry). x.query ≡ L.query);
    shown = All-nil (λ (x : Entry). is_import x.kind ≡ false);
  };
  learnt = refl;
  count = refl;
}

known_at_end : (F : Cnf) (es : List Entry) (e : Entry) → known_after F (es ++ e ∷ []) (id_after F es) ≡ Some e.literals
known_at_end F es e =
    let sets = F.clauses ++ map (λ (x : Entry). x.literals) es in
    let longer = F.clauses ++ map (λ (x : Entry). x.literals) (es ++ e ∷ []) in
    let is : longer ≡ sets ++ e.literals ∷ [] =
    ap (λ (xs : List Literals). F.clauses ++ xs) (map-append (λ (x : Entry). x.literals) es (e ∷ []))
    ∙ sym (append_assoc F.clauses (map (λ (x : Entry). x.literals) es) (e.literals ∷ [])) in
    let size : length sets ≡ length F.clauses + length es =
    length-append F.clauses (map (λ (x : Entry). x.literals) es)
    ∙ ap (λ (n : ℕ). length F.clauses + n) (length-map es (λ (x : Entry). x.literals)) in
    let place : length F.clauses + 1 + length es - 1 ≡ length sets = omega (arith, size) in
    let some : (length F.clauses + 1 + length es == 0) ≡ false = false_from_ne_true (length F.clauses + 1 + length es == 0) (λ zero.
    omega (arith, eqb-true (length F.clauses + 1 + length es) 0 zero)) in
    ap (λ (b : Bool). cond b None (slice_get longer (length F.clauses + 1 + length es - 1))) some
    ∙ ap (λ (n : ℕ). slice_get longer n) place
    ∙ ap (λ (xs : List Literals). slice_get xs (length sets)) is
    ∙ slice_get-get_or (sets ++ e.literals ∷ []) (length sets) [] (omega (arith, length_push sets e.literals))
    ∙ ap Some (get_or_push sets e.literals [] (length sets) refl)

pub learnt_shown : (L : Recorded) (c : Literals) (hints : List ℕ) → HasLearnt L (with_shown L Learnt c hints) c
learnt_shown L c hints =
    let e = next_entry L Learnt c hints L.clock in
    let some : filter (is_learnt_in L.query) (e ∷ []) ≡ e ∷ [] =
    ap (λ (b : Bool). cond b (e ∷ []) []) (eq-eqb L.query L.query refl) in record {
      continued = continued_shown L Learnt c hints refl;
      learnt = learnt_in_push L.entries L.query e
          ∙ ap (λ (xs : List Entry). learnt_in L.entries L.query ++ map (λ (x : Entry). x.literals) xs) some;
      count = sum_by_push (λ (x : Entry). cond (is_learnt_entry x) 1 0) L.entries e;
      known = known_at_end L.formula L.entries e;
    }

-- ---- the table

-- a unit of the longer log is one of the old entries, or the new one
unit_cases : (L : Recorded) (kind : Kind) (c : Literals) (hints : List ℕ) (clock : ℕ) (l : Literal) (A : Type 0)
    → HasUnit (with_entry L kind c hints clock) l → (HasUnit L l → A) → (is_unit kind ≡ true → c ≡ l ∷ [] → A) → A
unit_cases L kind c hints clock l A u old new =
    let e = next_entry L kind c hints clock in
    let M = with_entry L kind c hints clock in
    let at = u.at_id in
    ⊎_elim
    (λ (lt : at.place < length L.entries).
    let same : entry_at M at.place ≡ entry_at L at.place = get_or_append_left L.entries (e ∷ []) no_entry at.place lt in
    old (record {
      id = u.id;
      at_id = record {
        place = at.place;
        within = lt;
        has_id = at.has_id;
        kind = ap (λ (x : Entry). is_unit x.kind) (sym same) ∙ at.kind;
        literals = ap (λ (x : Entry). x.literals) (sym same) ∙ at.literals;
      };
    }))
    (λ (past : length L.entries ≤ at.place).
    let last : at.place ≡ length L.entries = omega (arith, length_push L.entries e, at.within) in
    let is : entry_at M at.place ≡ e = ap (λ (k : ℕ). entry_at M k) last ∙ at_new L kind c hints clock in
    new (ap (λ (x : Entry). is_unit x.kind) (sym is) ∙ at.kind) (ap (λ (x : Entry). x.literals) (sym is) ∙ at.literals))
    (cases_lt at.place (length L.entries))

pub table_other : (L : Recorded) (ids : List ℕ) (first : ℕ) (kind : Kind) (c : Literals) (hints : List ℕ) (clock : ℕ)
    → is_unit kind ≡ false → IsTable L ids first → IsTable (with_entry L kind c hints clock) ids first
table_other L ids first kind c hints clock other h =
    let M = with_entry L kind c hints clock in record {
      units = record {
        size = h.units.size;
        units = λ l within some. unit_longer L M (get_or ids (code_of l) 0) l (longer_entry L kind c hints clock) (h.units.units l within some);
        all = λ l u. unit_cases L kind c hints clock l (0 < get_or ids (code_of l) 0) u (h.units.all l)
            (λ unit is. absurd (false≢true (sym other ∙ unit)));
      };
      first_id = h.first_id;
    }

head_of : (k l : Literal) → k ∷ [] ≡ l ∷ [] → k ≡ l
head_of k l same = ap (λ (c : Literals). get_or c 0 k) same

pub table_unit : (L : Recorded) (ids : List ℕ) (first : ℕ) (kind : Kind) (l : Literal) (hints : List ℕ) (clock id : ℕ)
    → is_unit kind ≡ true → IsWithin L.formula.vars l → id ≡ id_after L.formula L.entries → IsTable L ids first
    → IsTable (with_entry L kind (l ∷ []) hints clock) (set ids (code_of l) id) first
table_unit L ids first kind l hints clock id unit within is h =
    let M = with_entry L kind (l ∷ []) hints clock in
    let new = set ids (code_of l) id in
    let lt : code_of l < length ids = omega (arith, h.units.size, code_within L.formula.vars l within) in
    let here : get_or new (code_of l) 0 ≡ id = get_or-set_same ids (code_of l) id 0 lt in
    let other : (k : Literal) → k ≢ l → get_or new (code_of k) 0 ≡ get_or ids (code_of k) 0 =
    λ k ne. get_or-set_other ids (code_of l) (code_of k) id 0 (λ same. ne (same_code k l same)) in record {
      units = record {
        size = length-set ids (code_of l) id ∙ h.units.size;
        units = λ k inside some. literal_eq k l (IsUnitAt M (get_or new (code_of k) 0) k)
            (λ same. subst (λ (m : Literal). IsUnitAt M (get_or new (code_of m) 0) m) (sym same)
            (subst (λ (n : ℕ). IsUnitAt M n l) (sym here)
            (unit_of_entry M id kind l unit (entry_new L kind (l ∷ []) hints clock id is))))
            (λ ne. subst (λ (n : ℕ). IsUnitAt M n k) (sym (other k ne))
            (unit_longer L M (get_or ids (code_of k) 0) k (longer_entry L kind (l ∷ []) hints clock)
            (h.units.units k inside (omega (arith, some, other k ne)))));
        all = λ k u. literal_eq k l (0 < get_or new (code_of k) 0)
            (λ same. omega (arith, ap (λ (m : Literal). get_or new (code_of m) 0) same, here, is))
            (λ ne. unit_cases L kind (l ∷ []) hints clock k (0 < get_or new (code_of k) 0) u
            (λ old. omega (arith, other k ne, h.units.all k old))
            (λ yes at. absurd (ne (sym (head_of l k at)))));
      };
      first_id = h.first_id;
    }

-- ---- after a call

pub table_after : {X E : Type 0} (r : Result X E) (L M : Recorded) (ids : List ℕ) (first : ℕ) (kind : Kind) (c : Literals) (hints : List ℕ)
    → is_unit kind ≡ false → OnOk r (M ≡ with_shown L kind c hints) → OnErr r (M ≡ L) → IsTable L ids first → IsTable M ids first
table_after (Ok x) L M ids first kind c hints other ok err h =
    subst (λ (N : Recorded). IsTable N ids first) (sym ok) (table_other L ids first kind c hints L.clock other h)
table_after (Err e) L M ids first kind c hints other ok err h = subst (λ (N : Recorded). IsTable N ids first) (sym err) h

pub noted_after : {X E : Type 0} (r : Result X E) (L M : Recorded) (kind : Kind) (c : Literals) (hints : List ℕ) → is_import kind ≡ false
    → is_learnt kind ≡ false → OnOk r (M ≡ with_shown L kind c hints) → OnErr r (M ≡ L) → IsNoted L M
noted_after (Ok x) L M kind c hints shown other ok err = subst (IsNoted L) (sym ok) (noted_shown L kind c hints shown other)
noted_after (Err e) L M kind c hints shown other ok err = subst (IsNoted L) (sym err) (noted_same L)

pub entry_after : {E : Type 0} (r : Result ℕ E) (L M : Recorded) (kind : Kind) (c : Literals) (hints : List ℕ)
    → OnOk r (M ≡ with_shown L kind c hints) → IfOk r (λ id. id ≡ id_after L.formula L.entries) → IfOk r (λ id. IsEntryAt M id kind c)
entry_after (Ok id) L M kind c hints ok is =
    subst (λ (N : Recorded). IsEntryAt N id kind c) (sym ok) (entry_new L kind c hints L.clock id is)
entry_after (Err e) L M kind c hints ok is = tt

pub learnt_after : {X E : Type 0} (r : Result X E) (L M : Recorded) (c : Literals) (hints : List ℕ)
    → OnOk r (M ≡ with_shown L Learnt c hints) → OnOk r (HasLearnt L M c)
learnt_after (Ok x) L M c hints ok = subst (λ (N : Recorded). HasLearnt L N c) (sym ok) (learnt_shown L c hints)
learnt_after (Err e) L M c hints ok = tt

-- a unit that was written, and put into the table
pub table_of_unit : (L M : Recorded) (ids : List ℕ) (first : ℕ) (kind : Kind) (l : Literal) (hints : List ℕ) (clock id code : ℕ)
    → is_unit kind ≡ true → IsWithin L.formula.vars l → id ≡ id_after L.formula L.entries → code ≡ code_of l
    → M ≡ with_entry L kind (l ∷ []) hints clock → IsTable L ids first → IsTable M (set ids code id) first
table_of_unit L M ids first kind l hints clock id code unit within is at same h =
    subst (λ (N : Recorded). IsTable N (set ids code id) first) (sym same)
    (subst (λ (k : ℕ). IsTable (with_entry L kind (l ∷ []) hints clock) (set ids k id) first) (sym at)
    (table_unit L ids first kind l hints clock id unit within is h))

pub entry_of_unit : (L M : Recorded) (kind : Kind) (l : Literal) (hints : List ℕ) (clock id : ℕ) → id ≡ id_after L.formula L.entries
    → M ≡ with_entry L kind (l ∷ []) hints clock → IsEntryAt M id kind (l ∷ [])
entry_of_unit L M kind l hints clock id is same =
    subst (λ (N : Recorded). IsEntryAt N id kind (l ∷ [])) (sym same) (entry_new L kind (l ∷ []) hints clock id is)

-- an entry that was there
pub entry_of_known : (L : Recorded) (id first place : ℕ) (kind : Kind) (l : Literal) → IsUnitAt L id l → first ≡ length L.formula.clauses + 1
    → place ≡ id - first → (entry_at L place).kind ≡ kind → IsEntryAt L id kind (l ∷ [])
entry_of_known L id first place kind l h is at found =
    let same : place ≡ h.place = omega (arith, at, is, h.has_id) in record {
      place = h.place;
      within = h.within;
      has_id = h.has_id;
      has_kind = ap (λ (k : ℕ). (entry_at L k).kind) (sym same) ∙ found;
      literals = h.literals;
    }

-- ---- a new query

query_of : (kind : Kind) (m q : ℕ) → IsTrue (is_learnt kind && (m == q)) → m ≡ q
query_of Learnt m q h = eqb-true m q h
query_of UnitKind m q h = absurd (false≢true h)
query_of Core m q h = absurd (false≢true h)
query_of Empty m q h = absurd (false≢true h)
query_of Import m q h = absurd (false≢true h)

pub query_is_blank : (es : List Entry) (q : ℕ) → All (λ (e : Entry). e.query < q) es → learnt_in es q ≡ []
query_is_blank es q low =
    ap (λ (xs : List Entry). map (λ (x : Entry). x.literals) xs)
    (nil_without_members (filter (is_learnt_in q) es) (λ x there.
    let k = kept_of_Contains-filter (is_learnt_in q) es x there in
    let lt : x.query < q = All-contains (λ (e : Entry). e.query < q) es x low k.member in
    omega (arith, lt, query_of x.kind x.query q k.passes)))

pub table_same : (L M : Recorded) (ids : List ℕ) (first : ℕ) → M.formula ≡ L.formula → M.entries ≡ L.entries → IsTable L ids first
    → IsTable M ids first
table_same L M ids first formula entries h =
    let forth : IsLonger L M = record { formula = formula; more = []; entries = entries ∙ sym (append_nil L.entries) } in
    let back : IsLonger M L = record { formula = sym formula; more = []; entries = sym entries ∙ sym (append_nil M.entries) } in
    let vars : M.formula.vars ≡ L.formula.vars = ap (λ (F : Cnf). F.vars) formula in record {
      units = record {
        size = h.units.size ∙ ap (λ (n : ℕ). 2 * n + 2) (sym vars);
        units = λ l within some. unit_longer L M (get_or ids (code_of l) 0) l forth
            (h.units.units l (subst (λ (n : ℕ). IsWithin n l) vars within) some);
        all = λ l u. h.units.all l (has_unit_longer M L l back u);
      };
      first_id = h.first_id ∙ ap (λ (F : Cnf). length F.clauses + 1) (sym formula);
    }

pub table_query : (L : Recorded) (ids : List ℕ) (first : ℕ) → IsTable L ids first → IsTable (with_new_query L) ids first
table_query L ids first h =
    elim (is_query_used L) as (λ b. IsTable (cond b (record L { query = L.query + 1 }) L) ids first) [
      | true ↦ table_same L (record L { query = L.query + 1 }) ids first refl refl h
      | false ↦ h
    ]

-- ---- steps one after another

pub continued_trans : (L M N : Recorded) → IsContinued L M → IsContinued M N → IsContinued L N
continued_trans L M N f g = record {
  formula = g.formula ∙ f.formula;
  query = g.query ∙ f.query;
  clock = g.clock ∙ f.clock;
  more = f.more ++ g.more;
  entries = g.entries ∙ ap (λ (es : List Entry). es ++ g.more) f.entries ∙ append_assoc L.entries f.more g.more;
  own = All-append (λ (e : Entry). e.query ≡ L.query) f.more g.more f.own
      (subst (λ (q : ℕ). All (λ (e : Entry). e.query ≡ q) g.more) f.query g.own);
  shown = All-append (λ (e : Entry). is_import e.kind ≡ false) f.more g.more f.shown g.shown;
}

pub noted_trans : (L M N : Recorded) → IsNoted L M → IsNoted M N → IsNoted L N
noted_trans L M N f g = record {
  continued = continued_trans L M N f.continued g.continued;
  learnt = g.learnt ∙ f.learnt;
  count = g.count ∙ f.count;
}

-- an entry more that wasn't learnt, at whatever clock
pub learnt_in_other : (L : Recorded) (kind : Kind) (c : Literals) (hints : List ℕ) (clock : ℕ) → is_learnt kind ≡ false
    → learnt_in (with_entry L kind c hints clock).entries L.query ≡ learnt_in L.entries L.query
learnt_in_other L kind c hints clock other =
    let e = next_entry L kind c hints clock in
    let none : filter (is_learnt_in L.query) (e ∷ []) ≡ [] = ap (λ (b : Bool). cond (b && (L.query == L.query)) (e ∷ []) []) other in
    learnt_in_push L.entries L.query e
    ∙ ap (λ (xs : List Entry). learnt_in L.entries L.query ++ map (λ (x : Entry). x.literals) xs) none
    ∙ append_nil (learnt_in L.entries L.query)
