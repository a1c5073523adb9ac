-- The definitions compute at the example.
use Rattle.std.proofs.Common.{◌≡◌, ℕ, ◌<◌, Bool, true, false, List, [], ◌∷◌, length, Contains, refl, sym, ap, ◌∙◌, subst, inl, inr, ⊎_elim}
use Rattle.std.proofs.Common.{zero, suc, ◌≤◌, take, drop, replicate, take-append-drop, arith, lit<}
use Rattle.std.specs.Prelude.{All, Some, nat_lt, nat_le, ◌&&◌}
use Rattle.std.specs.List.{list_any, list_all}
use Rattle.std.proofs.lemmas.Bool.{both_ways, and_parts, ltb-true, leb-true}
use Rattle.std.proofs.Math.Nat.{pow-suc, one-le-pow}
use Rattle.std.proofs.lemmas.List.{drop_all}
use Rattle.std.proofs.lemmas.List.Elements.{All-weaker, All-replicate, Contains-append_right}
use Rattle.std.proofs.lemmas.List.Sums.{AllPass-from_list_all}
use Rattle.cnf_core.specs.Literals.{Literal, Literals, negated, IsWithin, AreWithin}
use Rattle.cnf_core.specs.Formulas.{entails, models, assignments}
use Rattle.cnf_core.proofs.Lists.{Contains-head, Contains-tail, Contains-cons_cases, Contains-nil, list_any_of_member, list_all_of_members}
use Rattle.lrat_lines.specs.Examples.{positive, negative}
use Rattle.lrat_lines.specs.Sets.{has, has_complements}
use Rattle.lrat_lines.specs.Propagation.{Known, open_literals, IsRup}
use Rattle.lrat_lines.specs.Tight.{IsTight, IsTightFrom, AddsAt, StandsIn}
use Rattle.lrat_lines.proofs.LiteralSets.{has_of_Contains}
use Rattle.lrat_lines.specs.Sets.{IsSubset}
use Rattle.lrat_log.specs.Entries.{Recorded, empty_log, known_after, with_new_query}
use Rattle.cnf_core.specs.Epochs.{epoch_start}
use Rattle.lrat_log.specs.Fresh.{HasNoComplements, learnt_in, IsPeer, IsFresh}
use Rattle.lrat_lines.specs.Tidy.{IsHint}
use Rattle.lrat_log.specs.Kept.{IsShown}
use Rattle.lrat_log.specs.Packed.{packed_number}
use Rattle.lrat_log.specs.Examples.{refuted, by_first_two, only_one, not_two_or_three, with_core, EpochsAreWorked, BytesAreWorked}
use Rattle.lrat_log.specs.Examples.{LogIsWorked}

-- whether each literal of the first clause stands in the second
abbrev is_subset : Literals → Literals → Bool
is_subset d c = list_all (has c) d

is_subset-true : (d c : Literals) → IsSubset d c → is_subset d c ≡ true
is_subset-true d c part = list_all_of_members (has c) d (λ l there. has_of_Contains c l (part l there))

-- no clause of a list is a part of this one, by the test
no_part : (cs : List Literals) (c : Literals) → list_any (λ (d : Literals). is_subset d c) cs ≡ false
    → (d : Literals) → Contains cs d → IsSubset d c → ⊥
no_part cs c none d there part =
    both_ways (list_any (λ (e : Literals). is_subset e c) cs) none
    (list_any_of_member (λ (e : Literals). is_subset e c) cs d there (is_subset-true d c part))

plain_by : (c : Literals) → has_complements c ≡ false → HasNoComplements c
plain_by c none l there other =
    both_ways (has_complements c) none
    (list_any_of_member (λ (k : Literal). has c (negated k)) c l there (has_of_Contains c (negated l) other))

member_of_drop : (n : ℕ) (cs : List Literals) (d : Literals) → Contains (drop n cs) d → Contains cs d
member_of_drop n cs d there =
    subst (λ (ds : List Literals). Contains ds d) (take-append-drop n cs) (Contains-append_right (take n cs) (drop n cs) d there)

fresh_by : (L : Recorded) (c : Literals) → 0 < length c → has_complements c ≡ false
    → list_any (λ (d : Literals). is_subset d c) L.formula.clauses ≡ false
    → list_any (λ (d : Literals). is_subset d c) (learnt_in L.entries L.query) ≡ false
    → IsFresh L.formula L.entries L.query c
fresh_by L c some plain no_input no_learnt = record {
  some = some;
  plain = plain_by c plain;
  no_input = no_part L.formula.clauses c no_input;
  no_learnt = λ d peer.
      no_part (learnt_in L.entries L.query) c no_learnt d
      (member_of_drop (epoch_start peer.epoch) (learnt_in L.entries L.query) d peer.member);
}

-- the literals' variables, and the hints, are in range, by a test
within_by : (n : ℕ) (c : Literals) → list_all (λ (l : Literal). nat_lt 0 l.var && nat_le l.var n) c ≡ true → AreWithin n c
within_by n c all =
    All-weaker (λ (l : Literal). (nat_lt 0 l.var && nat_le l.var n) ≡ true) (IsWithin n)
    (λ (l : Literal) (passes : (nat_lt 0 l.var && nat_le l.var n) ≡ true).
    let parts = and_parts (nat_lt 0 l.var) (nat_le l.var n) passes in
    record { low = ltb-true 0 l.var parts.0; high = leb-true l.var n parts.1 })
    c (AllPass-from_list_all (λ (l : Literal). nat_lt 0 l.var && nat_le l.var n) c all)

hints_by : (id : ℕ) (hs : List ℕ) → list_all (λ (h : ℕ). nat_lt 0 h && nat_lt h id) hs ≡ true → All (IsHint id) hs
hints_by id hs all =
    All-weaker (λ (h : ℕ). (nat_lt 0 h && nat_lt h id) ≡ true) (IsHint id)
    (λ (h : ℕ) (passes : (nat_lt 0 h && nat_lt h id) ≡ true).
    let parts = and_parts (nat_lt 0 h) (nat_lt h id) passes in
    record { low = ltb-true 0 h parts.0; high = ltb-true h id parts.1 })
    hs (AllPass-from_list_all (λ (h : ℕ). nat_lt 0 h && nat_lt h id) hs all)

-- from two known clauses: the first adds a literal, and the second shows the clause
first_two_are_tight : (known : Known) → known 1 ≡ Some (positive 1 ∷ positive 2 ∷ [])
    → known 2 ≡ Some (positive 1 ∷ negative 2 ∷ [])
    → IsTight known by_first_two only_one
unfolding IsTightFrom
first_two_are_tight known one two = record {
  steps = inr (
    positive 2,
    record { set = positive 1 ∷ positive 2 ∷ []; is_known = one; doubles = []; one_open = refl; same = refl },
    record {
      hint = 2;
      listed = Contains-head 2 [];
      set = positive 1 ∷ negative 2 ∷ [];
      is_known = two;
      member = Contains-tail (positive 1) (negative 2 ∷ []) (negative 2) (Contains-head (negative 2) []);
    },
    inl (refl, record { set = positive 1 ∷ negative 2 ∷ []; is_known = two; none_open = refl }),
  );
  used = λ l there. record {
    hint = 1;
    listed = Contains-head 1 (2 ∷ []);
    set = positive 1 ∷ positive 2 ∷ [];
    is_known = one;
    member = ⊎_elim
        (λ (is : positive 1 ≡ l).
        subst (λ (k : Literal). Contains (positive 1 ∷ positive 2 ∷ []) k) is (Contains-head (positive 1) (positive 2 ∷ [])))
        (λ (rest : Contains [] l). absurd (Contains-nil l rest))
        (Contains-cons_cases (positive 1) [] l there);
  };
}

-- a literal that the hint's clause doesn't have
not_in_set : (known : Known) (h : ℕ) (c d : Literals) (l : Literal) → known h ≡ Some c → has c l ≡ false
    → known h ≡ Some d → Contains d l → ⊥
not_in_set known h c d l is none other there =
    let same : d ≡ c = cc in
    both_ways (has c l) none (has_of_Contains c l (subst (λ (e : Literals). Contains e l) same there))

needless_literal : IsTight (known_after refuted []) by_first_two (positive 1 ∷ positive 3 ∷ []) → ⊥
needless_literal tight =
    let known = known_after refuted [] in
    let three = positive 3 in
    let stands : StandsIn known by_first_two three =
    tight.used three (Contains-tail (positive 1) (three ∷ []) three (Contains-head three [])) in
    ⊎_elim
    (λ (first : 1 ≡ stands.hint).
    not_in_set known 1 (positive 1 ∷ positive 2 ∷ []) stands.set three refl refl
    (subst (λ (h : ℕ). known h ≡ Some stands.set) (sym first) stands.is_known) stands.member)
    (λ (later : Contains (2 ∷ []) stands.hint). ⊎_elim
    (λ (second : 2 ≡ stands.hint).
    not_in_set known 2 (positive 1 ∷ negative 2 ∷ []) stands.set three refl refl
    (subst (λ (h : ℕ). known h ≡ Some stands.set) (sym second) stands.is_known) stands.member)
    (λ (none : Contains [] stands.hint). Contains-nil stands.hint none)
    (Contains-cons_cases 2 [] stands.hint later))
    (Contains-cons_cases 1 (2 ∷ []) stands.hint stands.listed)

-- a hint that shows the clause adds no literal
adds_none : (known : Known) (trues c : Literals) (h : ℕ) (l : Literal) → AddsAt known trues h l → known h ≡ Some c
    → open_literals trues c ≡ [] → ⊥
adds_none known trues c h l adds is none =
    let same : c ≡ adds.set = (let both : Some c ≡ Some adds.set = sym is ∙ adds.is_known in cc) in
    let wrong : [] ≡ l ∷ adds.doubles = sym none ∙ ap (open_literals trues) same ∙ adds.one_open in
    cc

-- the one open literal of the first clause
adds_two : (known : Known) (l : Literal) → AddsAt known (negative 1 ∷ []) 1 l
    → known 1 ≡ Some (positive 1 ∷ positive 2 ∷ [])
    → l ≡ positive 2
adds_two known l adds is =
    let same : positive 1 ∷ positive 2 ∷ [] ≡ adds.set =
    (let both : Some (positive 1 ∷ positive 2 ∷ []) ≡ Some adds.set = sym is ∙ adds.is_known in cc) in
    let one : positive 2 ∷ [] ≡ l ∷ adds.doubles = ap (open_literals (negative 1 ∷ [])) same ∙ adds.one_open in
    cc

not_nil : (h : ℕ) (hs : List ℕ) → h ∷ hs ≡ [] → ⊥
not_nil h hs same = cc

needless_hint : IsTight (known_after refuted []) (1 ∷ 2 ∷ 3 ∷ []) only_one → ⊥
unfolding IsTightFrom
needless_hint tight =
    let known = known_after refuted [] in
    elim tight.steps [
      | inl last ↦ not_nil 2 (3 ∷ []) last.0
      | inr first ↦
          (let two : first.0 ≡ positive 2 = adds_two known first.0 first.1 refl in
          elim first.3 [
            | inl last ↦ not_nil 3 [] last.0
            | inr second ↦
                adds_none known (negative 1 ∷ positive 2 ∷ []) (positive 1 ∷ negative 2 ∷ []) 2 second.0
                (subst (λ (l : Literal). AddsAt known (negative 1 ∷ l ∷ []) 2 second.0) two second.1) refl refl
          ])
    ]

first_input : Contains refuted.clauses (positive 1 ∷ positive 2 ∷ [])
first_input =
    Contains-head (positive 1 ∷ positive 2 ∷ [])
    ((positive 1 ∷ negative 2 ∷ []) ∷ (negative 1 ∷ positive 3 ∷ []) ∷ (negative 1 ∷ negative 3 ∷ []) ∷ [])

-- a clause of the first epoch
first_peer : (learnt : List Literals) (d : Literals) → length learnt < 1000 → Contains learnt d → IsPeer learnt d
first_peer learnt d few there = record { epoch = 0; begun = omega arith; unended = few; member = there }

only_one_before : IsPeer (only_one ∷ []) only_one
only_one_before = first_peer (only_one ∷ []) only_one (lit< tt) (Contains-head only_one [])

-- where an epoch begins, nothing was learnt in it
no_peer : (learnt : List Literals) (d : Literals) → length learnt ≡ 1000 → IsPeer learnt d → ⊥
no_peer learnt d count peer =
    Contains-nil d (subst (λ (cs : List Literals). Contains cs d)
    (drop_all (epoch_start peer.epoch) learnt (late peer.epoch peer.unended)) peer.member)
  where
    late : (epoch : ℕ) → length learnt < epoch_start (suc epoch) → length learnt ≤ epoch_start epoch
    late zero unended = absurd (omega arith)
    late (suc epoch) unended = omega (arith, pow-suc 2 epoch, one-le-pow epoch 2 (omega arith))

pub worked_epochs : EpochsAreWorked
worked_epochs = record {
  first = refl;
  second = refl;
  third = refl;
  fourth = refl;
  in_first = first_peer;
  at_second = no_peer;
}

pub worked_bytes : BytesAreWorked
unfolding packed_number
worked_bytes = record { first = refl; second = refl; one_byte = refl; two_bytes = refl; most = refl }

-- the first clause, shown by itself, whatever hints follow
pub large_shown : (hints rest : List ℕ) → hints ≡ 1 ∷ rest → All (λ h. h ≡ 1) hints
    → IsShown refuted [] hints (positive 1 ∷ positive 2 ∷ [])
large_shown hints rest is ones = record {
  within = within_by 3 (positive 1 ∷ positive 2 ∷ []) refl;
  hints_before = All-weaker (λ (h : ℕ). h ≡ 1) (IsHint 5)
      (λ (h : ℕ) (one : h ≡ 1). record { low = omega arith; high = omega arith }) hints ones;
  proved = subst (λ (hs : List ℕ). IsRup (known_after refuted []) hs (positive 1 ∷ positive 2 ∷ [])) (sym is) refl;
}

-- so many hints to the first clause
abbrev pub ones : ℕ → List ℕ
ones count = replicate count 1

pub ones_shown : (count : ℕ) → 0 < count → IsShown refuted [] (ones count) (positive 1 ∷ positive 2 ∷ [])
ones_shown zero some = absurd (omega arith)
ones_shown (suc more) some =
    large_shown (ones (suc more)) (ones more) refl (All-replicate (λ (h : ℕ). h ≡ 1) (suc more) 1 refl)

pub worked : LogIsWorked
unfolding entails models assignments
worked = record {
  learnt = record {
    shown = record { within = within_by 3 only_one refl; hints_before = hints_by 5 by_first_two refl; proved = refl };
    fresh = fresh_by (empty_log refuted) only_one (omega arith) refl refl refl;
    tight = first_two_are_tight (known_after refuted []) refl refl;
  };
  unit = record { within = within_by 3 only_one refl; hints_before = hints_by 6 (5 ∷ []) refl; proved = refl };
  core = record {
    within = within_by 3 not_two_or_three refl;
    hints_before = hints_by 7 (3 ∷ 6 ∷ []) refl;
    proved = refl;
  };
  again = record {
    shown = record { within = within_by 3 only_one refl; hints_before = hints_by 8 by_first_two refl; proved = refl };
    fresh = fresh_by (with_new_query with_core) only_one (omega arith) refl refl refl;
    tight = first_two_are_tight (known_after refuted with_core.entries) refl refl;
  };
  imported = refl;
  imported_late = refl;
  empty = record { within = within_by 3 [] refl; hints_before = hints_by 11 (6 ∷ 3 ∷ 4 ∷ []) refl; proved = refl };
  first_unit = record { within = within_by 2 only_one refl; hints_before = hints_by 3 by_first_two refl; proved = refl };
  second_unit = record { within = within_by 2 only_one refl; hints_before = hints_by 4 (3 ∷ []) refl; proved = refl };
  conflict_itself = λ fresh.
      fresh.no_input (positive 1 ∷ positive 2 ∷ []) first_input (λ l there. there);
  learnt_before = λ fresh. fresh.no_learnt only_one only_one_before (λ l there. there);
  needless_literal = needless_literal;
  needless_hint = needless_hint;
}
