-- A proof under new numbers and names, behind other lines.
use Rattle.std.proofs.Common.{◌≡◌, ◌≢◌, ◌⊎◌, ℕ, zero, suc, ◌+◌, ◌-◌, ◌<◌, ◌≤◌, ◌==◌, Bool, true, false, not, if◌then◌else◌, IsTrue}
use Rattle.std.proofs.Common.{List, [], ◌∷◌, ◌++◌, length, map, Option, Some, None, Result, Ok, Err, IsOk, Contains}
use Rattle.std.proofs.Common.{refl, sym, ap, ◌∙◌, subst, inl, inr, ⊎_elim, append_assoc, length-append, arith}
use Rattle.std.specs.Prelude.{find, flat_map, is_none, nat_lt, nat_le, slice_get}
use Rattle.std.specs.List.{list_any, list_all}
use Rattle.std.proofs.lemmas.Bool.{cases_Bool, cases_eq, cases_lt, both_ways, false_from_ne_true, eq-eqb, eqb-true, ne_eqb}
use Rattle.std.proofs.lemmas.Bool.{ltb-false, le-ltb, leb-false, le-leb, lt-leb, true≢false}
use Rattle.std.proofs.lemmas.List.{map_push, map-id}
use Rattle.std.proofs.lemmas.List.Elements.{Contains-push, Contains-append_left, Contains-append_right, Contains-append_cases}
use Rattle.std.proofs.lemmas.List.Concat.{flat_map-append}
use Rattle.cnf_core.specs.Literals.{Literal, Literals, negated}
use Rattle.cnf_core.specs.Formulas.{Cnf}
use Rattle.cnf_core.proofs.Lists.{Contains-head, Contains-tail, Contains-cons_cases, Contains-nil, nil_without_members}
use Rattle.cnf_core.proofs.Lists.{Contains-filter, kept_of_Contains-filter, list_all_of_members, member_of_list_any, list_any_of_member}
use Rattle.lrat_lines.specs.declared.line.Line.{Line}
use Rattle.lrat_lines.specs.declared.line.Line.TheVariants.{Add, Delete}
use Rattle.lrat_lines.specs.Sets.{is_same, has, has_complements, IsSameSet, HasSet}
use Rattle.lrat_lines.specs.Propagation.{Known, IsSameKnown, Refusal, IdNotRising, UnknownHint, NotUnit, NoConflict}
use Rattle.lrat_lines.specs.Propagation.{open_literals, by_open, by_set, by_hints, rup, IsRup}
use Rattle.lrat_lines.specs.Proofs.{Progress, start, with_set, without, unless_refused, refusal_of, unknown_of}
use Rattle.lrat_lines.specs.Proofs.{after_line, then_line, after_lines, checked, Proves, added, reached, IsReached}
use Rattle.lrat_lines.specs.Renumbering.{renumbered, renamed, translated, shifted_id, IsRenaming, IsCarried, added_id, IsIdOf, MayFollow}
use Rattle.lrat_lines.specs.Laws.{HintsAreCarried, FollowsAccepted, ShiftedIsAccepted}
use Rattle.lrat_lines.proofs.LiteralSets.{is_same_of_equal, has_of_Contains, Contains_of_has}
use Rattle.lrat_lines.proofs.SameSets.{same_set_itself, same_test, has-same, push-same, map-same, first_itself}
use Rattle.lrat_lines.proofs.MappedLists.{source_of_map, member_of_map}
use Rattle.lrat_lines.proofs.Entailment.{after_lines-err, member_of_slice_get}
use Rattle.lrat_lines.proofs.Progressing.{checked-nil}

-- hints

has-renamed : (name : Literal → Literal) → IsRenaming name → (trues : Literals) (l : Literal)
    → has (map name trues) (name l) ≡ has trues l
has-renamed name renaming trues l =
    same_test (has (map name trues) (name l)) (has trues l)
    (λ some.
    let source = source_of_map name trues (name l) (Contains_of_has (map name trues) (name l) some) in
    has_of_Contains trues l (subst (λ (k : Literal). Contains trues k) (renaming.apart source.source l source.is) source.member))
    (λ some. has_of_Contains (map name trues) (name l) (member_of_map name trues l (Contains_of_has trues l some)))

-- whether a literal is false is the same under the names
false-renamed : (name : Literal → Literal) → IsRenaming name → (trues us : Literals) (l : Literal) → IsSameSet (map name trues) us
    → has us (negated (name l)) ≡ has trues (negated l)
false-renamed name renaming trues us l same =
    ap (has us) (sym (renaming.negates l))
    ∙ sym (has-same (map name trues) us (name (negated l)) same)
    ∙ has-renamed name renaming trues (negated l)

open-renamed : (name : Literal → Literal) → IsRenaming name → (trues us c d : Literals) → IsSameSet (map name trues) us
    → IsSameSet (map name c) d → IsSameSet (map name (open_literals trues c)) (open_literals us d)
open-renamed name renaming trues us c d same sets = record {
  forth = λ k there.
      let x = source_of_map name (open_literals trues c) k there in
      let kept = kept_of_Contains-filter (λ (l : Literal). not (has trues (negated l))) c x.source x.member in
      subst (λ (m : Literal). Contains (open_literals us d) m) x.is
      (Contains-filter (λ (l : Literal). not (has us (negated l))) d (name x.source)
      (sets.forth (name x.source) (member_of_map name c x.source kept.member))
      (ap not (false-renamed name renaming trues us x.source same) ∙ kept.passes));
  back = λ k there.
      let kept = kept_of_Contains-filter (λ (l : Literal). not (has us (negated l))) d k there in
      let x = source_of_map name c k (sets.back k kept.member) in
      subst (λ (m : Literal). Contains (map name (open_literals trues c)) m) x.is
      (member_of_map name (open_literals trues c) x.source
      (Contains-filter (λ (l : Literal). not (has trues (negated l))) c x.source x.member
      (ap not (sym (false-renamed name renaming trues us x.source same) ∙ ap (λ (m : Literal). has us (negated m)) x.is) ∙ kept.passes)));
}

-- what follows a hint goes on to show the clause under the names
abbrev GoesOn : (Literal → Literal) → (Literals → Option Refusal) → (Literals → Option Refusal) → Type 0
GoesOn name r s = (ts us : Literals) → IsSameSet (map name ts) us → r ts ≡ None → s us ≡ None

by_open-carried : (name : Literal → Literal) (h k : ℕ) (ts us : Literals) (r s : Literals → Option Refusal) (os ps : Literals)
    → GoesOn name r s → IsSameSet (map name ts) us → IsSameSet (map name os) ps → by_open h ts r os ≡ None
    → by_open k us s ps ≡ None
by_open-carried name h k ts us r s [] [] on same sets shown = refl
by_open-carried name h k ts us r s [] (p ∷ ps) on same sets shown = absurd (Contains-nil p (sets.back p (Contains-head p ps)))
by_open-carried name h k ts us r s (o ∷ os) [] on same sets shown =
    absurd (Contains-nil (name o) (sets.forth (name o) (Contains-head (name o) (map name os))))
by_open-carried name h k ts us r s (o ∷ os) (p ∷ ps) on same sets shown =
    elim (cases_Bool (list_all (is_same o) os)) [
      | inl all ↦
          (let named : (y : Literal) → Contains (p ∷ ps) y → name o ≡ y =
          λ y there.
          (let x = source_of_map name (o ∷ os) y (sets.back y there) in
          ap name (first_itself o os x.source all x.member) ∙ x.is) in
          let is : name o ≡ p = named p (Contains-head p ps) in
          let single : list_all (is_same p) ps ≡ true =
          list_all_of_members (is_same p) ps (λ y there. is_same_of_equal p y (sym is ∙ named y (Contains-tail p ps y there))) in
          let more : IsSameSet (map name (ts ++ o ∷ [])) (us ++ p ∷ []) =
          subst (λ (xs : Literals). IsSameSet xs (us ++ p ∷ [])) (sym (map_push name ts o))
          (subst (λ (m : Literal). IsSameSet (map name ts ++ name o ∷ []) (us ++ m ∷ [])) is (push-same (map name ts) us (name o) same)) in
          rw single (on (ts ++ o ∷ []) (us ++ p ∷ []) more (rw all at shown)))
      | inr several ↦ (let wrong : Some (NotUnit h) ≡ None = rw several at shown in absurd (cc wrong))
    ]

by_set-carried : (name : Literal → Literal) → IsRenaming name → (h k : ℕ) (ts us : Literals) (r s : Literals → Option Refusal)
    (o p : Option Literals) → GoesOn name r s → IsSameSet (map name ts) us
    → ((c : Literals) → o ≡ Some c → IsSameKnown (Some (map name c)) p) → by_set h ts r o ≡ None → by_set k us s p ≡ None
by_set-carried name renaming h k ts us r s None p on same leads shown = absurd (cc)
by_set-carried name renaming h k ts us r s (Some c) None on same leads shown = absurd (leads c refl)
by_set-carried name renaming h k ts us r s (Some c) (Some d) on same leads shown =
    by_open-carried name h k ts us r s (open_literals ts c) (open_literals us d) on same
    (open-renamed name renaming ts us c d same (leads c refl)) shown

by_hints-carried : (known there : Known) (number : ℕ → ℕ) (name : Literal → Literal) → IsRenaming name → (hints : List ℕ)
    → ((h : ℕ) → Contains hints h → IsCarried known there number name h)
    → GoesOn name (by_hints known hints) (by_hints there (map number hints))
by_hints-carried known there number name renaming [] leads ts us same shown = absurd (cc)
by_hints-carried known there number name renaming (h ∷ hs) leads ts us same shown =
    by_set-carried name renaming h (number h) ts us (by_hints known hs) (by_hints there (map number hs)) (known h) (there (number h))
    (by_hints-carried known there number name renaming hs (λ k later. leads k (Contains-tail h hs k later)))
    same (leads h (Contains-head h hs)) shown

negations-renamed : (name : Literal → Literal) → IsRenaming name → (c : Literals) → map name (map negated c) ≡ map negated (map name c)
negations-renamed name renaming [] = refl
negations-renamed name renaming (l ∷ c) =
    ap (λ (k : Literal). k ∷ map name (map negated c)) (renaming.negates l)
    ∙ ap (λ (ks : Literals). negated (name l) ∷ ks) (negations-renamed name renaming c)

complements-renamed : (name : Literal → Literal) → IsRenaming name → (c d : Literals) → IsSameSet (map name c) d
    → has_complements c ≡ true → has_complements d ≡ true
complements-renamed name renaming c d same both =
    let (l, here, other) = member_of_list_any (λ (k : Literal). has c (negated k)) c both in
    list_any_of_member (λ (k : Literal). has d (negated k)) d (name l) (same.forth (name l) (member_of_map name c l here))
    (has_of_Contains d (negated (name l)) (subst (λ (k : Literal). Contains d k) (renaming.negates l)
    (same.forth (name (negated l)) (member_of_map name c (negated l) (Contains_of_has c (negated l) other)))))

pub hints_are_carried : HintsAreCarried
hints_are_carried known there number name hints c d renaming leads same shown =
    elim (cases_Bool (has_complements c)) [
      | inl both ↦ rw (complements-renamed name renaming c d same both) refl
      | inr plain ↦ elim (cases_Bool (has_complements d)) [
        | inl both ↦ rw both refl
        | inr apart ↦
            (let falses : IsSameSet (map name (map negated c)) (map negated d) =
            subst (λ (ks : Literals). IsSameSet ks (map negated d)) (sym (negations-renamed name renaming c))
            (map-same negated (map name c) d same) in
            rw apart (by_hints-carried known there number name renaming hints leads (map negated c) (map negated d) falses
            (rw plain at shown)))
      ]
    ]

-- lines

-- a search that finds nothing finds nothing where what it passes over has other names
find-renamed : {X Y : Type 0} (p : X → Bool) (q : Y → Bool) (f : X → Y) (xs : List X)
    → ((x : X) → Contains xs x → p x ≡ false → q (f x) ≡ false) → find p xs ≡ None → find q (map f xs) ≡ None
find-renamed p q f [] passed none = refl
find-renamed p q f (x ∷ xs) passed none =
    elim (cases_Bool (p x)) [
      | inl found ↦ (let wrong : Some x ≡ None = rw found at none in absurd (cc wrong))
      | inr not_here ↦
          rw (passed x (Contains-head x xs) not_here)
          (find-renamed p q f xs (λ y later. passed y (Contains-tail x xs y later)) (rw not_here at none))
    ]

pub passed_over : {X : Type 0} (p : X → Bool) (xs : List X) (x : X) → find p xs ≡ None → Contains xs x → p x ≡ false
passed_over p [] x none here = absurd (Contains-nil x here)
passed_over p (y ∷ xs) x none here =
    elim (cases_Bool (p y)) [
      | inl found ↦ (let wrong : Some y ≡ None = rw found at none in absurd (cc wrong))
      | inr not_here ↦ ⊎_elim
          (λ (is : y ≡ x). ap p (sym is) ∙ not_here)
          (λ (later : Contains xs x). passed_over p xs x (rw not_here at none) later)
          (Contains-cons_cases y xs x here)
    ]

-- what a line that was taken passed
pub record IsTaken (F : Cnf) (p : Progress) (id : ℕ) (c : Literals) (hints : List ℕ) (next : Progress) : Type 0 where
  pub rises : p.top < id
  pub within : find (λ (l : Literal). nat_lt F.vars l.var) c ≡ None
  pub shown : IsRup p.known hints c
  pub is : next ≡ record { known = with_set p.known id c; top = id }

pub taken_by : (F : Cnf) (p : Progress) (id : ℕ) (c : Literals) (hints : List ℕ) (next : Progress) (low : Bool) (o : Option Literal)
    (r : Option Refusal) → nat_le id p.top ≡ low → find (λ (l : Literal). nat_lt F.vars l.var) c ≡ o → rup p.known hints c ≡ r
    → (if low then Err (IdNotRising id) else unless_refused (refusal_of o r) (record { known = with_set p.known id c; top = id })) ≡ Ok next
    → IsTaken F p id c hints next
taken_by F p id c hints next true o r low first shown is = absurd (cc)
taken_by F p id c hints next false (Some l) r low first shown is = absurd (cc)
taken_by F p id c hints next false None (Some refusal) low first shown is = absurd (cc)
taken_by F p id c hints next false None None low first shown is = record {
  rises = leb-false id p.top low;
  within = first;
  shown = shown;
  is = (let same : record { known = with_set p.known id c; top = id } ≡ next = cc in sym same);
}

pub take_again : (id : ℕ) (next : Progress) (low : Bool) (o : Option Literal) (r : Option Refusal) → low ≡ false → o ≡ None → r ≡ None
    → (if low then Err (IdNotRising id) else unless_refused (refusal_of o r) next) ≡ Ok next
take_again id next true o r above first shown = absurd (true≢false above)
take_again id next false (Some l) r above first shown = absurd (cc)
take_again id next false None (Some refusal) above first shown = absurd (cc)
take_again id next false None None above first shown = refl

let_go : (o : Option ℕ) (next q : Progress) → unless_refused (unknown_of o) next ≡ Ok q → (o ≡ None) × (next ≡ q)
let_go None next q is = (refl, cc)
let_go (Some id) next q is = absurd (cc)

-- numbers and names for the ids of which P holds
record IsPlan (F G : Cnf) (number : ℕ → ℕ) (name : Literal → Literal) (P : ℕ → Type 0) : Type 0 where
  renaming : IsRenaming name
  within : (l : Literal) → l.var ≤ F.vars → (name l).var ≤ G.vars
  rises : (i j : ℕ) → P i → P j → i < j → number i < number j

-- how far a proof is, and its translation: what is known is carried, and ids that are new are new there too
record IsBeside (number : ℕ → ℕ) (name : Literal → Literal) (P : ℕ → Type 0) (p q : Progress) : Type 0 where
  carried : (id : ℕ) → IsCarried p.known q.known number name id
  known_ids : (id : ℕ) (c : Literals) → p.known id ≡ Some c → P id
  new : (i : ℕ) → P i → p.top < i → q.top < number i

numbers_differ : (F G : Cnf) (number : ℕ → ℕ) (name : Literal → Literal) (P : ℕ → Type 0) → IsPlan F G number name P
    → (i j : ℕ) → P i → P j → (i ≡ j → ⊥) → number i ≡ number j → ⊥
numbers_differ F G number name P plan i j at_i at_j differ same = ⊎_elim
    (λ (below : i < j). (let less : number i < number j = plan.rises i j at_i at_j below in omega arith))
    (λ (above : j ≤ i). (let less : number j < number i = plan.rises j i at_j at_i (omega arith) in omega arith))
    (cases_lt i j)

-- where the translated line leads, beside the line
record IsStepBeside (G : Cnf) (number : ℕ → ℕ) (name : Literal → Literal) (P : ℕ → Type 0) (q : Progress) (line : Line) (next : Progress)
    : Type 0 where
  there : Progress
  is : after_line G q line ≡ Ok there
  beside : IsBeside number name P next there

add_beside : (F G : Cnf) (number : ℕ → ℕ) (name : Literal → Literal) (P : ℕ → Type 0) → IsPlan F G number name P → (p q : Progress)
    → IsBeside number name P p q → (id : ℕ) (c : Literals) → P id
    → IsBeside number name P (record { known = with_set p.known id c; top = id })
    (record { known = with_set q.known (number id) (map name c); top = number id })
add_beside F G number name P plan p q beside id c here = record {
  carried = λ x d is. elim (cases_eq x id) [
    | inl same ↦
        (let which : Some c ≡ Some d = rw (eq-eqb x id same) at is in
        let one : c ≡ d = cc in
        subst (λ (b : Bool). IsSameKnown (Some (map name d)) (if b then Some (map name c) else q.known (number x)))
        (sym (eq-eqb (number x) (number id) (ap number same)))
        (subst (λ (e : Literals). IsSameSet (map name d) (map name e)) (sym one) (same_set_itself (map name d))))
    | inr other ↦
        (let old : p.known x ≡ Some d = rw (ne_eqb x id other) at is in
        subst (λ (b : Bool). IsSameKnown (Some (map name d)) (if b then Some (map name c) else q.known (number x)))
        (sym (ne_eqb (number x) (number id)
        (numbers_differ F G number name P plan x id (beside.known_ids x d old) here other)))
        (beside.carried x d old))
  ];
  known_ids = λ x d is. elim (cases_eq x id) [
    | inl same ↦ subst P (sym same) here
    | inr other ↦ beside.known_ids x d (rw (ne_eqb x id other) at is)
  ];
  new = λ i at_i above. plan.rises id i here at_i above;
}

step_add : (F G : Cnf) (number : ℕ → ℕ) (name : Literal → Literal) (P : ℕ → Type 0) → IsPlan F G number name P → (p q : Progress)
    → IsBeside number name P p q → (id : ℕ) (c : Literals) (hints : List ℕ) (next : Progress) → P id
    → IsTaken F p id c hints next → IsStepBeside G number name P q (Add (number id) (map name c) (map number hints)) next
step_add F G number name P plan p q beside id c hints next here taken =
    let there : Progress = record { known = with_set q.known (number id) (map name c); top = number id } in
    let inside : find (λ (l : Literal). nat_lt G.vars l.var) (map name c) ≡ None =
    find-renamed (λ (l : Literal). nat_lt F.vars l.var) (λ (l : Literal). nat_lt G.vars l.var) name c
    (λ l member passes. le-ltb G.vars (name l).var (plan.within l (ltb-false F.vars l.var passes))) taken.within in
    let shown : IsRup q.known (map number hints) (map name c) =
    hints_are_carried p.known q.known number name hints c (map name c) plan.renaming (λ h member. beside.carried h)
    (same_set_itself (map name c)) taken.shown in
    record {
      there = there;
      is = take_again (number id) there (nat_le (number id) q.top) _ (rup q.known (map number hints) (map name c))
          (lt-leb (number id) q.top (beside.new id here taken.rises)) inside shown;
      beside = subst (λ (n : Progress). IsBeside number name P n there) (sym taken.is)
          (add_beside F G number name P plan p q beside id c here);
    }

known_there : (name : Literal → Literal) (o p : Option Literals) → ((c : Literals) → o ≡ Some c → IsSameKnown (Some (map name c)) p)
    → is_none o ≡ false → is_none p ≡ false
known_there name None p leads some = absurd (true≢false some)
known_there name (Some c) None leads some = absurd (leads c refl)
known_there name (Some c) (Some d) leads some = refl

known_set : (o : Option Literals) → is_none o ≡ false → (c : Literals) × (o ≡ Some c)
known_set None some = absurd (true≢false some)
known_set (Some c) some = (c, refl)

step_delete : (F G : Cnf) (number : ℕ → ℕ) (name : Literal → Literal) (P : ℕ → Type 0) → IsPlan F G number name P → (p q : Progress)
    → IsBeside number name P p q → (id : ℕ) (ids : List ℕ) (next : Progress) → find (λ (x : ℕ). is_none (p.known x)) ids ≡ None
    → record { known = without p.known ids; top = p.top } ≡ next
    → IsStepBeside G number name P q (Delete (number id) (map number ids)) next
step_delete F G number name P plan p q beside id ids next known is_next = record {
  there = there;
  is = ap (λ (o : Option ℕ). unless_refused (unknown_of o) there)
      (find-renamed (λ (x : ℕ). is_none (p.known x)) (λ (x : ℕ). is_none (q.known x)) number ids
      (λ x member some. known_there name (p.known x) (q.known (number x)) (beside.carried x) some) known);
  beside = subst (λ (n : Progress). IsBeside number name P n there) is_next (record {
    carried = carried;
    known_ids = λ x d is. beside.known_ids x d (kept x d is).1;
    new = beside.new;
  });
}
  where
    there : Progress
    there = record { known = without q.known (map number ids); top = q.top }

    kept : (x : ℕ) (d : Literals) → without p.known ids x ≡ Some d → (list_any (λ (i : ℕ). i == x) ids ≡ false) × (p.known x ≡ Some d)
    kept x d is = elim (cases_Bool (list_any (λ (i : ℕ). i == x) ids)) [
      | inl gone ↦ (let wrong : None ≡ Some d = rw gone at is in absurd (cc wrong))
      | inr stays ↦ (stays, rw stays at is)
    ]

    stays_there : (x : ℕ) (d : Literals) → list_any (λ (i : ℕ). i == x) ids ≡ false → p.known x ≡ Some d
        → list_any (λ (i : ℕ). i == number x) (map number ids) ≡ false
    stays_there x d stays old = false_from_ne_true (list_any (λ (i : ℕ). i == number x) (map number ids)) (λ some.
        let (y, listed, same) = member_of_list_any (λ (i : ℕ). i == number x) (map number ids) some in
        let z = source_of_map number ids y listed in
        let (c, known_z) = known_set (p.known z.source) (passed_over (λ (i : ℕ). is_none (p.known i)) ids z.source known z.member) in
        numbers_differ F G number name P plan z.source x (beside.known_ids z.source c known_z) (beside.known_ids x d old)
        (λ equal. both_ways (list_any (λ (i : ℕ). i == x) ids) stays
        (list_any_of_member (λ (i : ℕ). i == x) ids z.source z.member (eq-eqb z.source x equal)))
        (z.is ∙ eqb-true y (number x) same))

    carried : (x : ℕ) → IsCarried (without p.known ids) (without q.known (map number ids)) number name x
    carried x d is =
        let both = kept x d is in
        subst (λ (b : Bool). IsSameKnown (Some (map name d)) (if b then None else q.known (number x)))
        (sym (stays_there x d both.0 both.1)) (beside.carried x d both.1)

step_beside : (F G : Cnf) (number : ℕ → ℕ) (name : Literal → Literal) (P : ℕ → Type 0) → IsPlan F G number name P → (p q : Progress)
    → IsBeside number name P p q → (line : Line) (next : Progress) → ((i : ℕ) → Contains (added_id line) i → P i)
    → after_line F p line ≡ Ok next → IsStepBeside G number name P q (renamed name (renumbered number line)) next
step_beside F G number name P plan p q beside (Add id c hints) next ids is =
    step_add F G number name P plan p q beside id c hints next (ids id (Contains-head id []))
    (taken_by F p id c hints next (nat_le id p.top) (find (λ (l : Literal). nat_lt F.vars l.var) c) (rup p.known hints c) refl refl refl is)
step_beside F G number name P plan p q beside (Delete id dropped) next ids is =
    let both = let_go (find (λ (x : ℕ). is_none (p.known x)) dropped) _ next is in
    step_delete F G number name P plan p q beside id dropped next both.0 both.1

-- the translated lines are taken too
abbrev GoesOnBeside : Cnf → (ℕ → ℕ) → (Literal → Literal) → (ℕ → Type 0) → Cnf → List Line → Type 0
GoesOnBeside G number name P F lines =
    (p q : Progress) → IsBeside number name P p q → ((i : ℕ) → Contains (flat_map added_id lines) i → P i)
    → IsOk (after_lines F (Ok p) lines) → IsOk (after_lines G (Ok q) (translated number name lines))

line_beside : (F G : Cnf) (number : ℕ → ℕ) (name : Literal → Literal) (P : ℕ → Type 0) → IsPlan F G number name P
    → (line : Line) (lines : List Line) → GoesOnBeside G number name P F lines → (p q : Progress) → IsBeside number name P p q
    → ((i : ℕ) → Contains (flat_map added_id (line ∷ lines)) i → P i) → (r : Result Progress Refusal) → after_line F p line ≡ r
    → IsOk (after_lines F r lines)
    → IsOk (after_lines G (after_line G q (renamed name (renumbered number line))) (translated number name lines))
line_beside F G number name P plan line lines again p q beside ids (Err refusal) is all =
    let wrong = subst (λ (r : Result Progress Refusal). IsOk r) (after_lines-err F refusal lines) all in
    absurd (cc wrong)
line_beside F G number name P plan line lines again p q beside ids (Ok next) is all =
    let step = step_beside F G number name P plan p q beside line next
    (λ i here. ids i (Contains-append_left (added_id line) (flat_map added_id lines) i here)) is in
    subst (λ (r : Result Progress Refusal). IsOk (after_lines G r (translated number name lines))) (sym step.is)
    (again next step.there step.beside (λ i later. ids i (Contains-append_right (added_id line) (flat_map added_id lines) i later)) all)

lines_beside : (F G : Cnf) (number : ℕ → ℕ) (name : Literal → Literal) (P : ℕ → Type 0) → IsPlan F G number name P
    → (lines : List Line) → GoesOnBeside G number name P F lines
lines_beside F G number name P plan [] p q beside ids all = refl
lines_beside F G number name P plan (line ∷ lines) p q beside ids all =
    line_beside F G number name P plan line lines (lines_beside F G number name P plan lines) p q beside ids (after_line F p line) refl all

-- whole proofs

pub after_lines-append : (F : Cnf) (r : Result Progress Refusal) (xs ys : List Line)
    → after_lines F r (xs ++ ys) ≡ after_lines F (after_lines F r xs) ys
after_lines-append F r [] ys = refl
after_lines-append F r (x ∷ xs) ys = after_lines-append F (then_line F r x) xs ys

slice_get_within : (xs : List Literals) (i : ℕ) (x : Literals) → slice_get xs i ≡ Some x → i < length xs
slice_get_within [] i x is = absurd (cc)
slice_get_within (y ∷ xs) zero x is = omega arith
slice_get_within (y ∷ xs) (suc i) x is = omega (arith, slice_get_within xs i x is)

input_id : (F : Cnf) (id : ℕ) (c : Literals) → (start F).known id ≡ Some c → (0 < id) × (id ≤ length F.clauses)
input_id F id c is = elim (cases_eq id 0) [
  | inl none ↦ (let wrong : None ≡ Some c = rw (eq-eqb id 0 none) at is in absurd (cc wrong))
  | inr some ↦
      (let place : slice_get F.clauses (id - 1) ≡ Some c = rw (ne_eqb id 0 some) at is in
      (omega arith, omega (arith, slice_get_within F.clauses (id - 1) c place)))
]

translated_is_accepted : (F : Cnf) (lines : List Line) (G : Cnf) (front : List Line) (progress : Progress)
    (number : ℕ → ℕ) (name : Literal → Literal) → Proves F lines → checked G front ≡ Ok progress
    → MayFollow F lines G progress number name → Proves G (front ++ translated number name lines)
unfolding checked
translated_is_accepted F lines G front progress number name proves before may =
    subst (λ (r : Result Progress Refusal). IsOk r)
    (sym (after_lines-append G (Ok (start G)) front (translated number name lines)
    ∙ ap (λ (r : Result Progress Refusal). after_lines G r (translated number name lines)) before))
    (lines_beside F G number name (IsIdOf F lines)
    (record { renaming = may.renaming; within = may.within; rises = may.rises })
    lines (start F) progress
    (record { carried = may.inputs; known_ids = λ id c is. inl (input_id F id c is); new = may.new })
    (λ i there. inr there) proves)

-- what is reached

same_set_then : (c d e : Literals) → IsSameSet c d → IsSameSet d e → IsSameSet c e
same_set_then c d e first second = record {
  forth = λ l there. second.forth l (first.forth l there);
  back = λ l there. first.back l (second.back l there);
}

-- all that is known is one of these sets
abbrev AreAmong : Known → List Literals → Type 0
AreAmong known sets = (id : ℕ) (c : Literals) → known id ≡ Some c → Contains sets c

step_among : (F : Cnf) (p : Progress) (line : Line) (next : Progress) (sets : List Literals) → AreAmong p.known sets
    → after_line F p line ≡ Ok next → AreAmong next.known (sets ++ added line)
step_among F p (Add id c hints) next sets among is =
    let taken = taken_by F p id c hints next (nat_le id p.top) (find (λ (l : Literal). nat_lt F.vars l.var) c) (rup p.known hints c)
    refl refl refl is in
    subst (λ (n : Progress). AreAmong n.known (sets ++ c ∷ [])) (sym taken.is) (λ x d known. elim (cases_eq x id) [
      | inl same ↦
          (let which : Some c ≡ Some d = rw (eq-eqb x id same) at known in
          let one : c ≡ d = cc in
          subst (λ (e : Literals). Contains (sets ++ c ∷ []) e) one (Contains-push sets c))
      | inr other ↦ Contains-append_left sets (c ∷ []) d (among x d (rw (ne_eqb x id other) at known))
    ])
step_among F p (Delete id ids) next sets among is =
    let both = let_go (find (λ (x : ℕ). is_none (p.known x)) ids) _ next is in
    subst (λ (n : Progress). AreAmong n.known (sets ++ [])) both.1 (λ x d known.
    Contains-append_left sets [] d (elim (cases_Bool (list_any (λ (i : ℕ). i == x) ids)) [
      | inl gone ↦ (let wrong : None ≡ Some d = rw gone at known in absurd (cc wrong))
      | inr stays ↦ among x d (rw stays at known)
    ]))

abbrev StaysAmong : Cnf → List Line → Type 0
StaysAmong F lines = (p q : Progress) (sets : List Literals) → AreAmong p.known sets → after_lines F (Ok p) lines ≡ Ok q
    → AreAmong q.known (sets ++ flat_map added lines)

line_among : (F : Cnf) (line : Line) (lines : List Line) → StaysAmong F lines → (p q : Progress) (sets : List Literals)
    → AreAmong p.known sets → (r : Result Progress Refusal) → after_line F p line ≡ r → after_lines F r lines ≡ Ok q
    → AreAmong q.known (sets ++ flat_map added (line ∷ lines))
line_among F line lines again p q sets among (Err refusal) is all =
    let wrong : Err refusal ≡ Ok q = sym (after_lines-err F refusal lines) ∙ all in absurd (cc wrong)
line_among F line lines again p q sets among (Ok next) is all =
    subst (λ (xs : List Literals). AreAmong q.known xs) (append_assoc sets (added line) (flat_map added lines))
    (again next q (sets ++ added line) (step_among F p line next sets among is) all)

lines_among : (F : Cnf) (lines : List Line) → StaysAmong F lines
lines_among F [] p q sets among is =
    let same : p ≡ q = cc in
    subst (λ (n : Progress). AreAmong n.known (sets ++ [])) same (λ id c known. Contains-append_left sets [] c (among id c known))
lines_among F (line ∷ lines) p q sets among is =
    line_among F line lines (lines_among F lines) p q sets among (after_line F p line) refl is

start_among : (F : Cnf) → AreAmong (start F).known F.clauses
start_among F id c is = elim (cases_eq id 0) [
  | inl none ↦ (let wrong : None ≡ Some c = rw (eq-eqb id 0 none) at is in absurd (cc wrong))
  | inr some ↦ member_of_slice_get F.clauses (id - 1) c (rw (ne_eqb id 0 some) at is)
]

-- all that is known after accepted lines is reached
pub known_is_reached : (F : Cnf) (lines : List Line) (p : Progress) → checked F lines ≡ Ok p → AreAmong p.known (reached F lines)
unfolding checked
known_is_reached F lines p is = lines_among F lines (start F) p F.clauses (start_among F) is

place_of_member : (xs : List Literals) (x : Literals) → Contains xs x → (i : ℕ) × (slice_get xs i ≡ Some x)
place_of_member [] x here = absurd (Contains-nil x here)
place_of_member (y ∷ xs) x here = ⊎_elim
    (λ (is : y ≡ x). (0, ap Some is))
    (λ (later : Contains xs x). (let found = place_of_member xs x later in (suc found.0, found.1)))
    (Contains-cons_cases y xs x here)

same_there : (c : Literals) (o : Option Literals) → IsSameKnown (Some c) o → (d : Literals) × (o ≡ Some d) × IsSameSet c d
same_there c None same = absurd same
same_there c (Some d) same = (d, refl, same)

added_there : (number : ℕ → ℕ) (name : Literal → Literal) (lines : List Line) (c : Literals) → Contains (flat_map added lines) c
    → Contains (flat_map added (translated number name lines)) (map name c)
added_there number name [] c here = absurd (Contains-nil c here)
added_there number name (Add id d hints ∷ lines) c here = ⊎_elim
    (λ (is : d ≡ c). subst (λ (e : Literals). Contains (map name d ∷ flat_map added (translated number name lines)) (map name e)) is
    (Contains-head (map name d) (flat_map added (translated number name lines))))
    (λ (later : Contains (flat_map added lines) c).
    Contains-tail (map name d) (flat_map added (translated number name lines)) (map name c) (added_there number name lines c later))
    (Contains-cons_cases d (flat_map added lines) c here)
added_there number name (Delete id ids ∷ lines) c here = added_there number name lines c here

translated_is_reached : (F : Cnf) (lines : List Line) (G : Cnf) (front : List Line) (progress : Progress)
    (number : ℕ → ℕ) (name : Literal → Literal) (c : Literals) → Proves F lines → checked G front ≡ Ok progress
    → MayFollow F lines G progress number name → IsReached F lines c
    → IsReached G (front ++ translated number name lines) (map name c)
translated_is_reached F lines G front progress number name c proves before may is =
    subst (λ (sets : List Literals). HasSet sets (map name c)) (sym all) (⊎_elim input line
    (Contains-append_cases F.clauses (flat_map added lines) is.set is.member))
  where
    all : reached G (front ++ translated number name lines) ≡ reached G front ++ flat_map added (translated number name lines)
    all = ap (λ (sets : List Literals). G.clauses ++ sets) (flat_map-append added front (translated number name lines))
        ∙ sym (append_assoc G.clauses (flat_map added front) (flat_map added (translated number name lines)))

    input : Contains F.clauses is.set → HasSet (reached G front ++ flat_map added (translated number name lines)) (map name c)
    input here =
        let (i, found) = place_of_member F.clauses is.set here in
        let known : (start F).known (i + 1) ≡ Some is.set =
        rw (ne_eqb (i + 1) 0 (λ e. omega arith)) (ap (slice_get F.clauses) (omega arith) ∙ found) in
        let (d, there, same) = same_there (map name is.set) (progress.known (number (i + 1))) (may.inputs (i + 1) is.set known) in
        record {
          set = d;
          member = Contains-append_left (reached G front) (flat_map added (translated number name lines)) d
              (known_is_reached G front progress before (number (i + 1)) d there);
          same = same_set_then (map name c) (map name is.set) d (map-same name c is.set is.same) same;
        }

    line : Contains (flat_map added lines) is.set → HasSet (reached G front ++ flat_map added (translated number name lines)) (map name c)
    line here = record {
      set = map name is.set;
      member = Contains-append_right (reached G front) (flat_map added (translated number name lines)) (map name is.set)
          (added_there number name lines is.set here);
      same = map-same name c is.set is.same;
    }

pub follows_accepted : FollowsAccepted
follows_accepted = record { accepted = translated_is_accepted; reached = translated_is_reached }

-- further clauses behind the formula's

get_in_front : (xs more : List Literals) (i : ℕ) (x : Literals) → slice_get xs i ≡ Some x → slice_get (xs ++ more) i ≡ Some x
get_in_front [] more i x is = absurd (cc)
get_in_front (y ∷ xs) more zero x is = is
get_in_front (y ∷ xs) more (suc i) x is = get_in_front xs more i x is

shifted-low : (last by id : ℕ) → id ≤ last → shifted_id last by id ≡ id
shifted-low last by id low = rw (le-leb id last low) refl

shifted-high : (last by id : ℕ) → last < id → shifted_id last by id ≡ id + by
shifted-high last by id high = rw (lt-leb id last high) refl

shifted_rises : (last by i j : ℕ) → i < j → shifted_id last by i < shifted_id last by j
shifted_rises last by i j below = ⊎_elim
    (λ (high : last < j). ⊎_elim
    (λ (above : last < i). omega (arith, shifted-high last by i above, shifted-high last by j high))
    (λ (low : i ≤ last). omega (arith, shifted-low last by i low, shifted-high last by j high))
    (cases_lt last i))
    (λ (low : j ≤ last). omega (arith, shifted-low last by i (omega arith), shifted-low last by j low))
    (cases_lt last j)

same_names : (number : ℕ → ℕ) (line : Line) → renamed (λ (l : Literal). l) (renumbered number line) ≡ renumbered number line
same_names number (Add id c hints) = ap (λ (d : Literals). Add (number id) d (map number hints)) (map-id c)
same_names number (Delete id ids) = refl

all_same_names : (number : ℕ → ℕ) (lines : List Line) → translated number (λ (l : Literal). l) lines ≡ map (renumbered number) lines
all_same_names number [] = refl
all_same_names number (line ∷ lines) =
    ap (λ (m : Line). m ∷ translated number (λ (l : Literal). l) lines) (same_names number line)
    ∙ ap (λ (ms : List Line). renumbered number line ∷ ms) (all_same_names number lines)

pub shifted_is_accepted : ShiftedIsAccepted
shifted_is_accepted F more lines proves =
    let G : Cnf = record F { clauses = F.clauses ++ more } in
    let number : ℕ → ℕ = shifted_id (length F.clauses) (length more) in
    subst (λ (xs : List Line). Proves G xs) (all_same_names number lines)
    (translated_is_accepted F lines G [] (start G) number (λ (l : Literal). l) proves (checked-nil G) (record {
      renaming = record { apart = λ k l is. is; negates = λ l. refl };
      within = λ l low. low;
      inputs = inputs;
      rises = λ i j at_i at_j below. shifted_rises (length F.clauses) (length more) i j below;
      new = λ i at_i above. omega (arith, length-append F.clauses more, shifted-high (length F.clauses) (length more) i above);
    }))
  where
    inputs : (id : ℕ)
        → IsCarried (start F).known (start (record F { clauses = F.clauses ++ more })).known (shifted_id (length F.clauses) (length more))
        (λ (l : Literal). l) id
    inputs id c is =
        let range = input_id F id c is in
        let known : (start (record F { clauses = F.clauses ++ more })).known id ≡ Some c =
        rw (ne_eqb id 0 (λ e. omega (arith, range.0)))
        (get_in_front F.clauses more (id - 1) c (rw (ne_eqb id 0 (λ e. omega (arith, range.0))) at is)) in
        subst (λ (x : ℕ). IsSameKnown (Some (map (λ (l : Literal). l) c)) ((start (record F { clauses = F.clauses ++ more })).known x))
        (sym (shifted-low (length F.clauses) (length more) id range.1))
        (subst (λ (o : Option Literals). IsSameKnown (Some (map (λ (l : Literal). l) c)) o) (sym known)
        (subst (λ (d : Literals). IsSameSet d c) (sym (map-id c)) (same_set_itself c)))
