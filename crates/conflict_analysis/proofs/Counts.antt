-- How many of the first places have a property.
use Rattle.std.proofs.Common.{◌≡◌, ◌≢◌, ℕ, zero, suc, ◌+◌, ◌<◌, ◌≤◌, Bool, true, false, if◌then◌else◌, refl, sym, ap, ◌∙◌, subst, inl, inr}
use Rattle.std.proofs.Common.{arith, add-one}
use Rattle.std.proofs.lemmas.Bool.{cases_Bool, cases_eq}
use Rattle.conflict_analysis.specs.Steps.Walks.{count_below}

-- one place more, which has it or not
pub count_next : (has : ℕ → Bool) (n : ℕ)
    → count_below has (n + 1) ≡ count_below has n + (if has n then 1 else 0)
unfolding count_below
count_next has n = rw add-one refl

pub count_open : (has : ℕ → Bool) (n : ℕ) → has n ≡ true
    → count_below has (n + 1) ≡ count_below has n + 1
count_open has n is = count_next has n ∙ ap (λ (b : Bool). count_below has n + (if b then 1 else 0)) is

pub count_skip : (has : ℕ → Bool) (n : ℕ) → has n ≡ false
    → count_below has (n + 1) ≡ count_below has n
count_skip has n is =
    let one = count_next has n ∙ ap (λ (b : Bool). count_below has n + (if b then 1 else 0)) is in
    omega (arith, one)

pub count_zero : (has : ℕ → Bool) → count_below has 0 ≡ 0
unfolding count_below
count_zero has = refl

pub count_le : (has : ℕ → Bool) (n : ℕ) → count_below has n ≤ n
count_le has zero = omega (arith, count_zero has)
count_le has (suc n) =
    let before = count_le has n in
    let same : suc n ≡ n + 1 = omega arith in
    rw same (elim (cases_Bool (has n)) [
      | inl is ↦ omega (arith, count_open has n is, before)
      | inr is ↦ omega (arith, count_skip has n is, before)
    ])

-- where the places that have it stay the same
pub count_same : (old new : ℕ → Bool) (n : ℕ)
    → ((k : ℕ) → k < n → new k ≡ old k)
    → count_below new n ≡ count_below old n
count_same old new zero same = count_zero new ∙ sym (count_zero old)
count_same old new (suc n) same =
    let before = count_same old new n (λ k lt. same k (omega arith)) in
    let here = same n (omega arith) in
    let one : suc n ≡ n + 1 = omega arith in
    rw one (elim (cases_Bool (old n)) [
      | inl is ↦ omega (arith, count_open old n is, count_open new n (here ∙ is), before)
      | inr is ↦ omega (arith, count_skip old n is, count_skip new n (here ∙ is), before)
    ])

-- where one place more has it
pub count_more : (old new : ℕ → Bool) (n p : ℕ) → p < n
    → old p ≡ false → new p ≡ true
    → ((k : ℕ) → k < n → k ≢ p → new k ≡ old k)
    → count_below new n ≡ count_below old n + 1
count_more old new zero p lt closed opened same = absurd (omega arith)
count_more old new (suc n) p lt closed opened same =
    let one : suc n ≡ n + 1 = omega arith in
    rw one (elim (cases_eq p n) [
      | inl last ↦ (let was = subst (λ (k : ℕ). old k ≡ false) last closed in
          let now = subst (λ (k : ℕ). new k ≡ true) last opened in
          let before = count_same old new n (λ k less. same k (omega arith) (omega arith)) in
          omega (arith, count_skip old n was, count_open new n now, before))
      | inr other ↦ (let before = count_more old new n p (omega arith) closed opened (λ k less ne. same k (omega arith) ne) in
          let here = same n (omega arith) (λ e. other (sym e)) in
          elim (cases_Bool (old n)) [
            | inl is ↦ omega (arith, count_open old n is, count_open new n (here ∙ is), before)
            | inr is ↦ omega (arith, count_skip old n is, count_skip new n (here ∙ is), before)
          ])
    ])

-- where no place from here on has it
pub count_down : (has : ℕ → Bool) (m n : ℕ) → m ≤ n
    → ((k : ℕ) → m ≤ k → k < n → has k ≡ false)
    → count_below has n ≡ count_below has m
count_down has m zero le none =
    let same : m ≡ 0 = omega arith in rw same refl
count_down has m (suc n) le none =
    elim (cases_eq m (suc n)) [
      | inl same ↦ rw same refl
      | inr other ↦ (let before = count_down has m n (omega arith) (λ k from lt. none k from (omega arith)) in
          let one : suc n ≡ n + 1 = omega arith in
          rw one (count_skip has n (none n (omega arith) (omega arith)) ∙ before))
    ]

-- a place that has it
pub record HasPlace (has : ℕ → Bool) (n : ℕ) : Type 0 where
  pub place : ℕ
  pub before : place < n
  pub is : has place ≡ true

pub count_some : (has : ℕ → Bool) (n : ℕ) → 0 < count_below has n
    → HasPlace has n
count_some has zero some = absurd (omega (arith, some, count_zero has))
count_some has (suc n) some =
    elim (cases_Bool (has n)) [
      | inl is ↦ record { place = n; before = omega arith; is = is }
      | inr is ↦ (let one : suc n ≡ n + 1 = omega arith in
          let less : 0 < count_below has (n + 1) = subst (λ (k : ℕ). 0 < count_below has k) one some in
          let h = count_some has n (omega (arith, less, count_skip has n is)) in
          record { place = h.place; before = omega (arith, h.before); is = h.is })
    ]

pub count_none : (has : ℕ → Bool) (n k : ℕ) → count_below has n ≡ 0 → k < n
    → has k ≡ false
count_none has zero k none lt = absurd (omega arith)
count_none has (suc n) k none lt =
    let one : suc n ≡ n + 1 = omega arith in
    let nothing : count_below has (n + 1) ≡ 0 = subst (λ (i : ℕ). count_below has i ≡ 0) one none in
    elim (cases_Bool (has n)) [
      | inl is ↦ absurd (omega (arith, nothing, count_open has n is))
      | inr is ↦ elim (cases_eq k n) [
        | inl last ↦ rw last is
        | inr other ↦ count_none has n k (omega (arith, nothing, count_skip has n is)) (omega arith)
      ]
    ]

-- where none has it
pub count_nothing : (has : ℕ → Bool) (n : ℕ) → ((k : ℕ) → k < n → has k ≡ false) → count_below has n ≡ 0
count_nothing has n none = count_down has 0 n (omega arith) (λ k from lt. none k lt) ∙ count_zero has
