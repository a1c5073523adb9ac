-- What the seats of the tests have after a step.
use Rattle.std.proofs.Common.{◌≡◌, ◌≢◌, ℕ, ◌+◌, ◌-◌, ◌/◌, ◌%◌, ◌<◌, ◌≤◌, Bool, not, cond, List, [], ◌∷◌, ◌++◌, refl, sym, ap, ◌∙◌, subst, ⊎_elim, arith}
use Rattle.std.specs.Prelude.{nat_eq}
use Rattle.std.proofs.lemmas.Bool.{cases_eq, cases_lt, eq-eqb, ne_eqb}
use Rattle.std.proofs.lemmas.List.{append-nil}
use Rattle.std.proofs.lemmas.List.Elements.{filter-append}
use Rattle.std.proofs.lemmas.List.Sums.{sum_by-cons}
use Rattle.std.specs.Int.{bit_at}
use Rattle.board_core.specs.Words.{newly, vars_of, times, named}
use Rattle.board_core.specs.Boards.{fix_view, MayPublish, parent, child, joined, without_number}
use Rattle.board_core.specs.declared.view.View.{View}
use Rattle.board_core.proofs.Bits.{times-append, times_vars_of}
use Rattle.candidate_words.specs.Seats.{Board, Sitter, Sits, with_view, HasFixed}
use Rattle.shared_fixed.specs.Rushes.{IsAfterDrops, IsRushing, IsAfterRush}

abbrev mark : Bool → ℕ
mark b = cond b 1 0

-- a seat that has won variable 1 and published nothing may publish it with stamp 1
pub publish_ready : (s t : Sitter) (answer : ℕ) → HasFixed s 0 1 answer t → answer ≡ 1 → s.view.published ≡ [] → MayPublish t.view 1 1
publish_ready s t answer has won none =
    let view : t.view ≡ fix_view 0 1 has.found s.view = ap (λ (u : Sitter). u.view) has.seat in
    let bits : newly has.found 1 ≡ 1 = sym has.answer_is ∙ won in
    let one : times 1 (vars_of 0 (newly has.found 1)) ≡ 1 =
    times_vars_of 0 0 (newly has.found 1) (let e : 0 / 32 ≡ 0 = refl in e) ∙ ap (λ (m : ℕ). bit_at m (0 % 32)) bits in
    subst (λ (v : View). MayPublish v 1 1) (sym view) (record {
      fixed = omega (arith, times-append 1 s.view.fixes (vars_of 0 (newly has.found 1)), one);
      unpublished = ap (named 1) none;
      low = omega arith;
      high = omega arith;
    })

-- a list without a number that it doesn't have
without_none : (n : ℕ) (out : List ℕ) → times n out ≡ 0 → without_number n out ≡ out
without_none n [] none = refl
without_none n (k ∷ out) none =
    ⊎_elim
    (λ (same : k ≡ n).
    let one : mark (nat_eq k n) ≡ 1 = ap mark (eq-eqb k n same) in
    absurd (omega (arith, none, sum_by-cons (λ (y : ℕ). mark (nat_eq y n)) k out, one)))
    (λ (other : k ≢ n).
    let off : mark (nat_eq k n) ≡ 0 = ap mark (ne_eqb k n other) in
    subst (λ (b : Bool). cond (not b) (k ∷ without_number n out) (without_number n out) ≡ k ∷ out) (sym (ne_eqb k n other))
    (ap (λ (ks : List ℕ). k ∷ ks) (without_none n out (omega (arith, none, sum_by-cons (λ (y : ℕ). mark (nat_eq y n)) k out, off)))))
    (cases_eq k n)

without_last : (n : ℕ) (out : List ℕ) → times n out ≡ 0 → without_number n (out ++ n ∷ []) ≡ out
without_last n out none =
    filter-append (λ (j : ℕ). not (nat_eq j n)) out (n ∷ [])
    ∙ subst (λ (b : Bool). without_number n out ++ cond (not b) (n ∷ []) [] ≡ without_number n out) (sym (eq-eqb n n refl)) (append-nil (without_number n out))
    ∙ without_none n out none

-- a root that has split a seat off
pub split_rushes : (b : Board) (s t : Sitter) (count : ℕ) → IsRushing b s count → 0 < count → Sits b t → t ≡ with_view s (parent s.view)
    → IsRushing b t (count - 1)
split_rushes b s t count is some sits after =
    let next : t.view.next ≡ s.view.next + 1 = ap (λ (r : Sitter). r.view.next) after in
    let room = is.room in record {
      sits = sits;
      root = ap (λ (r : Sitter). r.view.number) after ∙ is.root;
      below = λ j here.
          let out : times j t.view.out ≡ times j s.view.out + times j (s.view.next ∷ []) =
          ap (λ (r : Sitter). times j r.view.out) after ∙ times-append j s.view.out (s.view.next ∷ []) in
          ⊎_elim (λ (same : s.view.next ≡ j). omega arith)
          (λ (other : s.view.next ≢ j).
          let none : times j (s.view.next ∷ []) ≡ 0 = rw (ne_eqb s.view.next j other) refl in
          let old : j < s.view.next = is.below j (omega arith) in
          omega arith)
          (cases_eq s.view.next j);
      room = omega arith;
    }

-- a root that has taken in what it split off
pub taken_in : (b : Board) (s t r seat u z : Sitter) (count : ℕ) → IsRushing b s count → t ≡ with_view s (parent s.view) → IsAfterRush b t r
    → seat ≡ with_view s (child s.view) → IsAfterDrops b seat u → Sits b z → z ≡ with_view r (joined r.view u.view) → IsAfterRush b s z
taken_in b s t r seat u z count is after rushed split dropped sits end =
    let number : u.view.number ≡ s.view.next = dropped.number ∙ ap (λ (v : Sitter). v.view.number) split in
    let out : r.view.out ≡ s.view.out ++ s.view.next ∷ [] = rushed.out ∙ ap (λ (v : Sitter). v.view.out) after in
    let none : times s.view.next s.view.out ≡ 0 =
    ⊎_elim (λ (h : times s.view.next s.view.out < 1). omega arith)
    (λ (h : 1 ≤ times s.view.next s.view.out). let low = is.below s.view.next h in absurd (omega arith))
    (cases_lt (times s.view.next s.view.out) 1) in
    record {
      sits = sits;
      root = ap (λ (v : Sitter). v.view.number) end ∙ rushed.root;
      out = ap (λ (v : Sitter). v.view.out) end
          ∙ ap (λ (n : ℕ). without_number n r.view.out) number
          ∙ ap (without_number s.view.next) out
          ∙ without_last s.view.next s.view.out none;
    }
