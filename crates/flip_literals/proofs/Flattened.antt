-- One clause more at the end, and what a part of the literals is.
use Rattle.std.proofs.Common.{◌≡◌, ◌≢◌, ℕ, ◌+◌, ◌-◌, ◌<◌, ◌≤◌, List, [], ◌∷◌, ◌++◌, length, take, drop, get_or, refl, sym, ap, ◌∙◌, subst, ⊎_elim, length-append, arith}
use Rattle.std.proofs.lemmas.Bool.{cases_eq}
use Rattle.std.proofs.lemmas.List.{get_or_default, length_push, length-drop, length-take-le, get_or-take, get_or-drop, get_or_append_left, get_or-append-add, get_or_push, same_lists}
use Rattle.cnf_core.specs.Literals.{Literals}
use Rattle.flip_literals.specs.Steps.Flat.{LiesAt, IsFlat}

pub flat-nil : IsFlat [] (0 ∷ []) []
flat-nil = record { each = refl; last = refl; lies = λ p below. absurd (omega arith) }

pub flat-more : (cs : List Literals) (c : Literals) (starts : List ℕ) (lits : Literals) → IsFlat cs starts lits
    → IsFlat (cs ++ c ∷ []) (starts ++ length (lits ++ c) ∷ []) (lits ++ c)
flat-more cs c starts lits f = record {
  each = omega (arith, length_push cs c, length_push starts (length (lits ++ c)), f.each);
  last = get_or_push starts (length (lits ++ c)) 0 (length (cs ++ c ∷ [])) (omega (arith, length_push cs c, f.each));
  lies = λ p below.
      ⊎_elim
      (λ (own : p ≡ length cs).
      subst
      (λ n. LiesAt (get_or (cs ++ c ∷ []) n []) (lits ++ c) (get_or pushed n 0) (get_or pushed (n + 1) 0))
      (sym own) last_lies)
      (λ (other : p ≢ length cs). old_lies p (omega (arith, below, length_push cs c)))
      (cases_eq p (length cs));
}
  where
    pushed : List ℕ
    pushed = starts ++ length (lits ++ c) ∷ []

    long : length (lits ++ c) ≡ length lits + length c
    long = length-append lits c

    old_start : (p : ℕ) → p ≤ length cs → get_or pushed p 0 ≡ get_or starts p 0
    old_start p high = get_or_append_left starts (length (lits ++ c) ∷ []) 0 p (omega (arith, f.each))

    last_lies : LiesAt (get_or (cs ++ c ∷ []) (length cs) []) (lits ++ c) (get_or pushed (length cs) 0) (get_or pushed (length cs + 1) 0)
    last_lies =
        let start : get_or pushed (length cs) 0 ≡ length lits = old_start (length cs) (omega arith) ∙ f.last in
        let end : get_or pushed (length cs + 1) 0 ≡ length (lits ++ c) =
        get_or_push starts (length (lits ++ c)) 0 (length cs + 1) (omega (arith, f.each)) in
        let clause : get_or (cs ++ c ∷ []) (length cs) [] ≡ c = get_or_push cs c [] (length cs) refl in
        rw (start, end, clause)
        (record {
          ends = long;
          within = omega arith;
          same = λ k d below. get_or-append-add lits c k d;
        })

    old_lies : (p : ℕ) → p < length cs
        → LiesAt (get_or (cs ++ c ∷ []) p []) (lits ++ c) (get_or pushed p 0) (get_or pushed (p + 1) 0)
    old_lies p below =
        let start : get_or pushed p 0 ≡ get_or starts p 0 = old_start p (omega arith) in
        let end : get_or pushed (p + 1) 0 ≡ get_or starts (p + 1) 0 = old_start (p + 1) (omega arith) in
        let clause : get_or (cs ++ c ∷ []) p [] ≡ get_or cs p [] = get_or_append_left cs (c ∷ []) [] p below in
        let before = f.lies p below in
        rw (start, end, clause)
        (record {
          ends = before.ends;
          within = omega (arith, before.within, long);
          same = λ k d below.
              get_or_append_left lits c d (get_or starts p 0 + k) (omega (arith, before.ends, before.within, below))
              ∙ before.same k d below;
        })

pub flat-part : (c lits : Literals) (start end : ℕ) → LiesAt c lits start end → take (end - start) (drop start lits) ≡ c
flat-part c lits start end lies =
    let long : length (take (end - start) (drop start lits)) ≡ end - start =
    length-take-le (end - start) (drop start lits) (omega (arith, length-drop start lits, lies.within)) in
    same_lists (take (end - start) (drop start lits)) c (omega (arith, long, lies.ends))
    (λ k d below.
    let inside : k < end - start = omega (arith, long, below) in
    get_or-take (end - start) (drop start lits) k d inside
    ∙ get_or-drop start lits k d
    ∙ lies.same k d (omega (arith, lies.ends)))

pub flat_read : (cs : List Literals) (starts : List ℕ) (lits : Literals) (p start end : ℕ) → IsFlat cs starts lits
    → p < length cs → start ≡ get_or starts p start → end ≡ get_or starts (p + 1) end
    → take (end - start) (drop start lits) ≡ get_or cs p []
flat_read cs starts lits p start end f below start_is end_is =
    let start_there : start ≡ get_or starts p 0 = start_is ∙ get_or_default starts p start 0 (omega (arith, f.each)) in
    let end_there : end ≡ get_or starts (p + 1) 0 = end_is ∙ get_or_default starts (p + 1) end 0 (omega (arith, f.each)) in
    ap (λ n. take (end - n) (drop n lits)) start_there
    ∙ ap (λ n. take (n - get_or starts p 0) (drop (get_or starts p 0) lits)) end_there
    ∙ flat-part (get_or cs p []) lits (get_or starts p 0) (get_or starts (p + 1) 0) (f.lies p below)
