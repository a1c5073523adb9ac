-- The clauses are attached one after another.
use Rattle.std.proofs.Common.{◌≡◌, ℕ, ◌+◌, ◌<◌, ◌≤◌, ◌⊎◌, Bool, true, false, ◌&&◌, nat_le, if◌then◌else◌, suc, length, refl, sym, ap, ◌∙◌}
use Rattle.std.proofs.Common.{subst, inl, inr, ⊎_elim, arith}
use Rattle.std.proofs.lemmas.Bool.{cases_lt, false≢true}
use Rattle.clause_arena.specs.Entries.{Entries, entry_at, len_of}
use Rattle.watch_lists.specs.Clauses.{IsLong, IsClean}
use Rattle.watch_lists.specs.Lists.{WatchLists, with_clause, with_clauses}
use Rattle.watch_lists.proofs.Attached.{IsFilled, filled_clause}

bool_cases : (b : Bool) (A : Type 0) → (b ≡ true → A) → (b ≡ false → A) → A
bool_cases true A yes' no' = yes' refl
bool_cases false A yes' no' = no' refl

-- a clause is live and has two literals, or not
pub long_cases : (a : Entries) (r : ℕ) (A : Type 0) → r < length a → (IsLong a r → A) → ((IsLong a r → ⊥) → A) → A
long_cases a r A lt long short =
    bool_cases (entry_at a r).live A
    (λ live. ⊎_elim
    (λ (few : len_of a r < 2). short (λ h. omega (arith, h.long)))
    (λ (many : 2 ≤ len_of a r). long (record { live = record { present = lt; live = live }; long = many }))
    (cases_lt (len_of a r) 2))
    (λ dead. short (λ h. false≢true (sym dead ∙ h.live.live)))

-- one clause more was attached where it is long
pub record IsNext (a : Entries) (w v : WatchLists) (n r : ℕ) : Type 0 where
  pub here : r ≡ n
  pub within : n < length a
  pub long : IsLong a r → v ≡ with_clause w a r
  pub short : (IsLong a r → ⊥) → v ≡ w

-- what is chosen by whether a clause is live and has two literals
if_long : (w v u : WatchLists) (live : Bool) (n : ℕ) → (live ≡ true → 2 ≤ n → u ≡ v) → ((live ≡ true → 2 ≤ n → ⊥) → u ≡ w)
    → u ≡ (if live && nat_le 2 n then v else w)
if_long w v u false n long short = short (λ live many. false≢true live)
if_long w v u true n long short = ⊎_elim
    (λ (few : n < 2).
    short (λ live many. omega (arith, few, many))
    ∙ sym (ap (λ (b : Bool). if b then v else w) (let e : nat_le 2 n ≡ false = grind arith in e)))
    (λ (many : 2 ≤ n). long refl many ∙ sym (ap (λ (b : Bool). if b then v else w) (let e : nat_le 2 n ≡ true = grind arith in e)))
    (cases_lt n 2)

pub next_lists : (w₀ : WatchLists) (a : Entries) (w v : WatchLists) (n r : ℕ) → IsNext a w v n r → w ≡ with_clauses w₀ a n
    → v ≡ with_clauses w₀ a (n + 1)
next_lists w₀ a w v n r h before =
    let step : WatchLists → WatchLists =
    λ u. if (entry_at a n).live && nat_le 2 (len_of a n) then with_clause u a n else u in
    let made : v ≡ step w = if_long w (with_clause w a n) v (entry_at a n).live (len_of a n)
    (λ live many.
    h.long (subst (IsLong a) (sym h.here) (record { live = record { present = h.within; live = live }; long = many }))
    ∙ ap (λ (k : ℕ). with_clause w a k) h.here)
    (λ never. h.short (λ long. let at = subst (IsLong a) h.here long in never at.live.live at.long)) in
    made ∙ ap step before ∙ ap (λ (k : ℕ). with_clauses w₀ a k) (let e : suc n ≡ n + 1 = omega arith in e)

pub next_vars : (a : Entries) (w v : WatchLists) (n r : ℕ) → IsNext a w v n r → v.vars ≡ w.vars
next_vars a w v n r h =
    long_cases a r (v.vars ≡ w.vars) (omega (arith, h.here, h.within))
    (λ long. ap (λ (u : WatchLists). u.vars) (h.long long)) (λ short. ap (λ (u : WatchLists). u.vars) (h.short short))

pub next_filled : (a : Entries) (w v : WatchLists) (n r : ℕ) → IsNext a w v n r → (IsLong a r → IsClean w.vars (entry_at a r).lits)
    → IsFilled (λ s. s < n) a w → IsFilled (λ s. s < n + 1) a v
next_filled a w v n r h clean f =
    let kinds : (s : ℕ) → s < n + 1 → (s < n) ⊎ (s ≡ r) = λ s lt. ⊎_elim
    (λ (old : s < n). let c : (s < n) ⊎ (s ≡ r) = inl old in c)
    (λ (new : n ≤ s). let c : (s < n) ⊎ (s ≡ r) = inr (omega (arith, h.here)) in c)
    (cases_lt s n) in
    long_cases a r (IsFilled (λ s. s < n + 1) a v) (omega (arith, h.here, h.within))
    (λ long.
    subst (λ (u : WatchLists). IsFilled (λ s. s < n + 1) a u) (sym (h.long long))
    (filled_clause (λ s. s < n) (λ s. s < n + 1) a w r f long (clean long) kinds))
    (λ short.
    let same : IsFilled (λ s. s < n + 1) a w = record {
      size = f.size;
      sound = f.sound;
      complete = λ s m lt lng two. ⊎_elim
          (λ (old : s < n). f.complete s m old lng two)
          (λ (new : s ≡ r). absurd (short (subst (IsLong a) new lng)))
          (kinds s lt);
    } in
    subst (λ (u : WatchLists). IsFilled (λ s. s < n + 1) a u) (sym (h.short short)) same)
