-- What the words of a view say of variables.
use Rattle.std.proofs.Common.{◌≡◌, ℕ, zero, suc, ◌+◌, ◌*◌, ◌/◌, ◌%◌, ◌<◌, ◌≤◌, Bool, cond, List, [], ◌∷◌, get_or, Contains, ap, ◌∙◌, ⊎_elim, arith}
use Rattle.std.specs.Prelude.{All, nat_eq}
use Rattle.std.specs.Int.{bit_at}
use Rattle.std.proofs.lemmas.Bool.{cases_lt, eq-eqb}
use Rattle.std.proofs.lemmas.List.{get_or_past}
use Rattle.std.proofs.lemmas.List.Elements.{All-from_get_or, Contains-get_or}
use Rattle.std.proofs.lemmas.List.Sums.{sum_by-cons}
use Rattle.std.proofs.lemmas.Nat.Bits.{bit_at-zero}
use Rattle.cnf_core.proofs.Lists.{Contains-nil, Contains-cons_cases}
use Rattle.board_core.specs.Subjects.{About, groups, candidate}
use Rattle.board_core.specs.Words.{alive, open_at, times}
use Rattle.board_core.specs.Rules.{AreWords}
use Rattle.core_chunks.specs.Chunks.{IsBlockOf}
use Rattle.board_core.proofs.Ends.{candidate_past, candidate_within}

-- where the bits of a variable stand
place_of : (c : ℕ) → suc (32 * (c / 32) + c % 32) ≡ suc c
place_of c = omega arith

-- an open variable is a candidate
pub open_candidate : (a : About) (ws : List ℕ) → AreWords a ws → (x : ℕ) → open_at ws x ≤ candidate a.formula x
open_candidate a ws words zero = omega arith
open_candidate a ws words (suc c) =
    ⊎_elim
    (λ (low : c / 32 < groups a.formula.vars).
    let bits = (words.inside (c / 32) low (c % 32) (omega arith)).0 in
    let same : candidate a.formula (suc (32 * (c / 32) + c % 32)) ≡ candidate a.formula (suc c) = ap (candidate a.formula) (place_of c) in
    omega (arith, bits, same))
    (λ (past : groups a.formula.vars ≤ c / 32).
    let none : alive ws (suc c) ≡ 0 = ap (λ (w : ℕ). bit_at w (c % 32)) (get_or_past ws (c / 32) 0 (omega (arith, words.size))) ∙ bit_at-zero (c % 32) in
    omega arith)
    (cases_lt (c / 32) (groups a.formula.vars))

-- no variable past the formula's is open
pub none_past : (a : About) (ws : List ℕ) → AreWords a ws → (x : ℕ) → a.formula.vars < x → open_at ws x ≡ 0
none_past a ws words x past = omega (arith, open_candidate a ws words x, candidate_past a.formula x past)

-- an open variable is one of the formula's
pub open_range : (a : About) (ws : List ℕ) → AreWords a ws → (x : ℕ) → 1 ≤ open_at ws x → (0 < x) × (x ≤ a.formula.vars)
open_range a ws words x some =
    let is = candidate_within a.formula x (omega (arith, open_candidate a ws words x)) in (is.low, is.high)

abbrev mark : Bool → ℕ
mark b = cond b 1 0

-- a member stands in the list
pub times_member : (xs : List ℕ) (x : ℕ) → Contains xs x → 1 ≤ times x xs
times_member [] x among = absurd (Contains-nil x among)
times_member (y ∷ xs) x among =
    ⊎_elim
    (λ (same : y ≡ x).
    let one : mark (nat_eq y x) ≡ 1 = ap mark (eq-eqb y x same) in
    omega (arith, sum_by-cons (λ (z : ℕ). mark (nat_eq z x)) y xs, one))
    (λ (rest : Contains xs x).
    omega (arith, sum_by-cons (λ (z : ℕ). mark (nat_eq z x)) y xs, times_member xs x rest))
    (Contains-cons_cases y xs x among)

-- a block has variables of the formula
pub block_within : (ws block : List ℕ) (n size : ℕ) → IsBlockOf ws n size block → All (λ x. (0 < x) × (x ≤ n)) block
block_within ws block n size is =
    All-from_get_or (λ (x : ℕ). (0 < x) × (x ≤ n)) block 0 (λ i within.
    is.within (get_or block i 0) (times_member block (get_or block i 0) (Contains-get_or block i 0 within)))
