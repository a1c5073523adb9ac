-- A formula is gathered from numbers, one after another.
use Rattle.std.proofs.Common.{◌≡◌, ◌≢◌, ℕ, ◌+◌, ◌-◌, ◌<◌, ◌≤◌, ◌^◌, ℤ, pos, zero, suc, Bool, true, false, List, [], ◌∷◌, ◌++◌, length, map, take, get_or, None, refl, sym, ap, ◌∙◌, subst, append_assoc, append-nil, length-append, arith}
use Rattle.std.proofs.Math.Seq.{take-length}
use Rattle.std.proofs.lemmas.List.{take_more, map-append}
use Rattle.std.proofs.lemmas.List.Elements.{All-append, All-nil}
use Rattle.std.proofs.lemmas.List.Concat.{flat_map-append}
use Rattle.std.proofs.lemmas.List.Sums.{sum_by-append}
use Rattle.std.specs.List.{flat_map}
use Rattle.cnf_core.specs.Literals.{Literal, Literals, number_of, IsWithin, AreWithin}
use Rattle.cnf_core.specs.Formulas.{Cnf, empty_formula, with_clause, literal_count, HasRoom}
use Rattle.cnf_core.specs.Numbers.{clause_numbers, IsWritten}

-- a literal of a variable isn't written as 0
number_is_not_zero : (v : ℕ) (sign : Bool) → 0 < v → number_of (record { var = v; positive = sign }) ≢ pos 0
number_is_not_zero v true some = grind arith
number_is_not_zero v false some = grind arith

-- the clauses and the open clause are what the numbers before the place write
pub record IsGathering (vars : ℕ) (numbers : List ℤ) (place : ℕ) (F : Cnf) (lits : Literals) : Type 0 where
  pub vars_are : F.vars ≡ vars
  pub all_shown : F.shown ≡ None
  pub written : flat_map clause_numbers F.clauses ++ map number_of lits ≡ take place numbers
  pub within : AreWithin vars lits
  pub few_clauses : length F.clauses ≤ place
  pub few_literals : literal_count F.clauses + length lits ≤ place
  pub open_end : 0 < length lits → (0 < place) × (get_or numbers (place - 1) (pos 0) ≢ pos 0)

pub gathering_begun : (vars : ℕ) (numbers : List ℤ) → IsGathering vars numbers 0 (empty_formula vars) []
gathering_begun vars numbers = record {
  vars_are = refl;
  all_shown = refl;
  written = refl;
  within = All-nil (IsWithin vars);
  few_clauses = omega arith;
  few_literals = omega arith;
  open_end = λ none. absurd (omega arith);
}

all_single : (vars : ℕ) (l : Literal) → IsWithin vars l → AreWithin vars (l ∷ [])
all_single vars l within zero d here = within
all_single vars l within (suc k) d here = absurd (omega arith)

pub gathering_literal : (vars : ℕ) (numbers : List ℤ) (place : ℕ) (F : Cnf) (lits : Literals) (l : Literal)
    → IsGathering vars numbers place F lits → place < length numbers → number_of l ≡ get_or numbers place (pos 0)
    → IsWithin vars l → IsGathering vars numbers (place + 1) F (lits ++ l ∷ [])
gathering_literal vars numbers place F lits l so_far here is within =
    let last : place + 1 - 1 ≡ place = omega arith in
    let written : List ℤ = flat_map clause_numbers F.clauses in
    let count : length (lits ++ l ∷ []) ≡ length lits + 1 = length-append lits (l ∷ []) in
    record {
      vars_are = so_far.vars_are;
      all_shown = so_far.all_shown;
      written = ap (λ (ns : List ℤ). written ++ ns) (map-append number_of lits (l ∷ []))
          ∙ sym (append_assoc written (map number_of lits) (number_of l ∷ []))
          ∙ ap (λ (ns : List ℤ). ns ++ number_of l ∷ []) so_far.written
          ∙ ap (λ (n : ℤ). take place numbers ++ n ∷ []) is
          ∙ sym (take_more numbers place (pos 0) here);
      within = All-append (IsWithin vars) lits (l ∷ []) so_far.within (all_single vars l within);
      few_clauses = omega (arith, so_far.few_clauses);
      few_literals = omega (arith, so_far.few_literals, count);
      open_end = λ some. (
        omega arith,
        subst (λ (k : ℕ). get_or numbers k (pos 0) ≢ pos 0) (sym last)
            (λ zero. number_is_not_zero l.var l.positive within.low (is ∙ zero)),
      );
    }

pub gathering_clause : (vars : ℕ) (numbers : List ℤ) (place : ℕ) (F : Cnf) (lits : Literals)
    → IsGathering vars numbers place F lits → place < length numbers → get_or numbers place (pos 0) ≡ pos 0
    → IsGathering vars numbers (place + 1) (with_clause F lits) []
gathering_clause vars numbers place F lits so_far here is = record {
  vars_are = so_far.vars_are;
  all_shown = so_far.all_shown;
  written = append-nil (flat_map clause_numbers (F.clauses ++ lits ∷ []))
      ∙ flat_map-append clause_numbers F.clauses (lits ∷ [])
      ∙ ap (λ (ns : List ℤ). flat_map clause_numbers F.clauses ++ ns) (append-nil (clause_numbers lits))
      ∙ sym (append_assoc (flat_map clause_numbers F.clauses) (map number_of lits) (pos 0 ∷ []))
      ∙ ap (λ (ns : List ℤ). ns ++ pos 0 ∷ []) so_far.written
      ∙ ap (λ (n : ℤ). take place numbers ++ n ∷ []) (sym is)
      ∙ sym (take_more numbers place (pos 0) here);
  within = All-nil (IsWithin vars);
  few_clauses = omega (arith, so_far.few_clauses, length-append F.clauses (lits ∷ []));
  few_literals = omega (arith, so_far.few_literals, sum_by-append (λ (c : Literals). length c) F.clauses (lits ∷ []));
  open_end = λ none. absurd (omega arith);
}

pub gathering_has_room : (vars : ℕ) (numbers : List ℤ) (place : ℕ) (F : Cnf) (lits : Literals)
    → IsGathering vars numbers place F lits → place < length numbers → length numbers ≤ 2 ^ 21 → HasRoom F lits
gathering_has_room vars numbers place F lits so_far here few = record {
  within = subst (λ (n : ℕ). AreWithin n lits) (sym so_far.vars_are) so_far.within;
  clauses_left = omega (arith, so_far.few_clauses);
  literals_left = omega (arith, so_far.few_literals);
}

length_nil : (ls : Literals) → length ls ≡ 0 → ls ≡ []
length_nil [] none = refl
length_nil (l ∷ ls) none = absurd (omega arith)

pub gathering_done : (vars : ℕ) (numbers : List ℤ) (F : Cnf) (lits : Literals)
    → IsGathering vars numbers (length numbers) F lits → length lits ≡ 0 → IsWritten vars numbers F
gathering_done vars numbers F lits all none = record {
  vars_are = all.vars_are;
  clauses_are = sym (append-nil (flat_map clause_numbers F.clauses))
      ∙ ap (λ (ls : Literals). flat_map clause_numbers F.clauses ++ map number_of ls) (sym (length_nil lits none))
      ∙ all.written ∙ take-length numbers;
  all_shown = all.all_shown;
}
