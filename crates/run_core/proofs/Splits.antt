-- The seats that the root splits off.
use Rattle.std.proofs.Common.{◌≡◌, ℕ, ◌+◌, ◌<◌, ◌≤◌, ◌⊎◌, inl, inr, Bool, true, false, eqb, List, [], ◌∷◌, ◌++◌, length, refl, sym, ap, ◌∙◌, subst, arith}
use Rattle.std.specs.Prelude.{slice_index_or}
use Rattle.std.proofs.lemmas.Bool.{cases_Bool, eqb-true, eqb-false, eq-eqb}
use Rattle.std.proofs.lemmas.List.{get_or_append_left, get_or_at, length-append}
use Rattle.board_core.specs.Boards.{root_view, parent, child}
use Rattle.board_core.specs.Rules.{IsOnce, IsView}
use Rattle.board_core.specs.Words.{times}
use Rattle.board_core.proofs.Bits.{times-append}
use Rattle.candidate_words.specs.Seats.{Board, Sitter, Sits, with_view}
use Rattle.worker_loop.specs.Posts.{IsUnused}
use Rattle.run_core.specs.declared.slot.Slot.{Slot}
use Rattle.run_core.specs.declared.slot.Slot.TheVariants.{Left, Empty}
use Rattle.run_core.specs.Steps.Crews.{IsOut, IsRootAt, IsLeft, IsVacant, AreVacant, IsSplitting}

none_out : (k : ℕ) → IsOut k k []
none_out k = record { each = λ j low high. absurd (omega arith); only = λ j some. absurd (omega arith) }

-- the seat of a table that was just opened
pub root_opened : (b : Board) (s : Sitter) → s.view ≡ root_view b.about → Sits b s → IsOnce b.about s.view → IsRootAt b 1 s
root_opened b s is sits once = record {
  sits = sits;
  unused = record {
    once = once;
    drops = ap (λ v. v.drops) is;
    fixes = ap (λ v. v.fixes) is;
    published = ap (λ v. v.published) is;
    imports = ap (λ v. v.imports) is;
  };
  number = ap (λ v. v.number) is;
  next_is = ap (λ v. v.next) is;
  out = subst (λ (js : List ℕ). IsOut 1 1 js) (sym (ap (λ v. v.out) is)) (none_out 1);
}

times_one : (j n : ℕ) → ((n ≡ j) × (times j (n ∷ []) ≡ 1)) ⊎ ((n ≡ j → ⊥) × (times j (n ∷ []) ≡ 0))
times_one j n = elim (cases_Bool (eqb n j)) [
  | inl is ↦ inl (eqb-true n j is, rw is refl)
  | inr is ↦ inr (eqb-false n j is, rw is refl)
]

out_next : (n : ℕ) (out : List ℕ) → 1 ≤ n → IsOut 1 n out → IsOut 1 (n + 1) (out ++ n ∷ [])
out_next n out some is = record {
  each = λ j low high. elim (times_one j n) [
    | inl (same, one) ↦ omega (arith, times-append j out (n ∷ []))
    | inr (other, none) ↦ omega (arith, times-append j out (n ∷ []), is.each j low (below j high other))
  ];
  only = λ j times. elim (times_one j n) [
    | inl (same, one) ↦ (omega arith, omega arith)
    | inr (other, none) ↦
        let old = is.only j (omega (arith, times-append j out (n ∷ []))) in (old.0, omega (arith, old.1))
  ];
}
  where
    below : (j : ℕ) → j < n + 1 → (n ≡ j → ⊥) → j < n
    below j high other = omega arith

-- a seat more was split off
pub split_next : (b : Board) (n : ℕ) (root new seat : Sitter) → 1 ≤ n → IsRootAt b n root → new ≡ with_view root (parent root.view)
    → Sits b new → (IsOnce b.about root.view → IsOnce b.about new.view) → IsRootAt b (n + 1) new
split_next b n root new seat some at is sits once = record {
  sits = sits;
  unused = record {
    once = once at.unused.once;
    drops = ap (λ (s : Sitter). s.view.drops) is ∙ at.unused.drops;
    fixes = ap (λ (s : Sitter). s.view.fixes) is ∙ at.unused.fixes;
    published = ap (λ (s : Sitter). s.view.published) is ∙ at.unused.published;
    imports = ap (λ (s : Sitter). s.view.imports) is ∙ at.unused.imports;
  };
  number = ap (λ (s : Sitter). s.view.number) is ∙ at.number;
  next_is = ap (λ (s : Sitter). s.view.next) is ∙ ap (λ (k : ℕ). k + 1) at.next_is;
  out = subst (λ (s : Sitter). IsOut 1 (n + 1) s.view.out) (sym is)
      (subst (λ (k : ℕ). IsOut 1 (n + 1) (root.view.out ++ k ∷ [])) (sym at.next_is) (out_next n root.view.out some at.out));
}

pub seat_split : (b : Board) (n : ℕ) (root seat : Sitter) → IsRootAt b n root → seat ≡ with_view root (child root.view)
    → Sits b seat → IsOnce b.about seat.view → IsLeft b n seat
seat_split b n root seat at is sits once = record {
  sits = sits;
  number = ap (λ (s : Sitter). s.view.number) is ∙ at.next_is;
  unused = record {
    once = once;
    drops = ap (λ (s : Sitter). s.view.drops) is;
    fixes = ap (λ (s : Sitter). s.view.fixes) is;
    published = ap (λ (s : Sitter). s.view.published) is;
    imports = ap (λ (s : Sitter). s.view.imports) is;
  };
}

-- its slot behind the others
pub vacant_next : {X : Type 0} {P : X → Type 0} (b : Board) (n : ℕ) (slots : List (Slot X P)) (seat : Sitter) → AreVacant b n 1 n slots → IsLeft b n seat
    → AreVacant b (n + 1) 1 (n + 1) (slots ++ Left seat ∷ [])
vacant_next {X} {P} b n slots seat old left = record {
  many = omega (arith, length-append slots (Left seat ∷ []), old.many);
  vacant = λ i d low high. elim (cases_Bool (eqb i n)) [
    | inl is ↦
        let here : i ≡ n = eqb-true i n is in
        let at : slice_index_or (slots ++ Left seat ∷ []) i d ≡ Left seat = get_or_at slots (Left seat) [] d i (old.many ∙ sym here) in
        subst (λ (s : Slot X P). IsVacant b i s) (sym at) (subst (λ (k : ℕ). IsLeft b k seat) (sym here) left)
    | inr is ↦
        let else_ : i ≡ n → ⊥ = eqb-false i n is in
        let before : i < n = omega arith in
        let at : slice_index_or (slots ++ Left seat ∷ []) i d ≡ slice_index_or slots i d =
        get_or_append_left slots (Left seat ∷ []) d i (omega (arith, old.many)) in
        subst (λ (s : Slot X P). IsVacant b i s) (sym at) (old.vacant i d low before)
  ];
}

pub vacant_first : {X : Type 0} {P : X → Type 0} (b : Board) → AreVacant {X = X} {P = P} b 1 1 1 (Empty ∷ [])
vacant_first b = record { many = refl; vacant = λ i d low high. absurd (omega arith) }

pub splitting_first : {X : Type 0} {P : X → Type 0} (b : Board) (workers : ℕ) (root : Sitter) → 1 ≤ workers → IsRootAt b 1 root
    → IsSplitting {X = X} {P = P} b workers root (Empty ∷ [])
splitting_first b workers root some at = record { some = omega arith; most = some; root = at; seats = vacant_first b }

pub splitting_next : {X : Type 0} {P : X → Type 0} (b : Board) (workers : ℕ) (root new seat : Sitter) (slots after : List (Slot X P))
    → length slots < workers → after ≡ slots ++ Left seat ∷ [] → IsSplitting b workers root slots → new ≡ with_view root (parent root.view) → seat ≡ with_view root (child root.view)
    → Sits b new × Sits b seat → (IsOnce b.about root.view → IsOnce b.about new.view) × IsOnce b.about seat.view
    → IsSplitting b workers new after
splitting_next {X} {P} b workers root new seat slots after low pushed is parent_is child_is sits once =
    let more : length (slots ++ Left seat ∷ []) ≡ length slots + 1 = length-append slots (Left seat ∷ []) in
    subst (λ (xs : List (Slot X P)). IsSplitting b workers new xs) (sym pushed) (record {
      some = omega (arith, more);
      most = omega (arith, more);
      root = subst (λ (n : ℕ). IsRootAt b n new) (sym more)
          (split_next b (length slots) root new seat is.some is.root parent_is sits.0 once.0);
      seats = subst (λ (n : ℕ). AreVacant b n 1 n (slots ++ Left seat ∷ [])) (sym more)
          (vacant_next b (length slots) slots seat is.seats
          (seat_split b (length slots) root seat is.root child_is sits.1 once.1));
    })

pub splitting_end : {X : Type 0} {P : X → Type 0} (b : Board) (workers : ℕ) (root : Sitter) (slots : List (Slot X P)) → workers ≤ length slots
    → IsSplitting b workers root slots → IsRootAt b workers root × AreVacant b workers 1 workers slots
splitting_end {X} {P} b workers root slots all is =
    let same : length slots ≡ workers = omega (arith, is.most) in (
      subst (λ (n : ℕ). IsRootAt b n root) same is.root,
      subst (λ (n : ℕ). AreVacant b n 1 n slots) same is.seats,
    )
