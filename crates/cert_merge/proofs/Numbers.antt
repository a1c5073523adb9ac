-- Numbers of entries: the place that a number has, and the number of a place.
use Rattle.std.proofs.Common.{◌≡◌, ℕ, zero, suc, ◌+◌, ◌-◌, ◌<◌, ◌≤◌, List, [], ◌∷◌, length, ◌++◌, map, get_or, inl, inr, refl, sym, ap, ◌∙◌, arith}
use Rattle.std.proofs.lemmas.Bool.{cases_lt, lt-ltb, le-ltb}
use Rattle.std.proofs.lemmas.List.{map-append, length-map, get_or-map, get_or_push, get_or_append_left, length_push}
use Rattle.lrat_log.specs.Entries.{Recorded}
use Rattle.cert_merge.specs.declared.place.Place.{Place}
use Rattle.cert_merge.specs.Merging.{log_at, IsPlace}
use Rattle.cert_merge.specs.Steps.Numbered.{start_of, place_from, places_of, AreStarts}
use Rattle.cert_merge.proofs.Places.{same_place}

pub start_none : (logs : List Recorded) → start_of logs 0 ≡ 0
start_none [] = refl
start_none (L ∷ Ls) = refl

start_suc : (L : Recorded) (Ls : List Recorded) (g : ℕ) → start_of (L ∷ Ls) (suc g + 1) ≡ length L.entries + start_of Ls (g + 1)
start_suc L Ls g =
    let step : suc g + 1 ≡ suc (g + 1) = omega arith in
    ap (start_of (L ∷ Ls)) step

pub start_more : (logs : List Recorded) (g : ℕ) → g < length logs → start_of logs (g + 1) ≡ start_of logs g + length (log_at logs g).entries
start_more [] g below = absurd (omega arith)
start_more (L ∷ Ls) zero below = omega (arith, start_none Ls)
start_more (L ∷ Ls) (suc g) below =
    let rest : start_of Ls (g + 1) ≡ start_of Ls g + length (log_at Ls g).entries = start_more Ls g (omega arith) in
    let same : length (log_at (L ∷ Ls) (suc g)).entries ≡ length (log_at Ls g).entries = refl in
    omega (arith, rest, same, start_suc L Ls g)

-- a number between two starts
pub found : (h : ℕ) (logs : List Recorded) (g n : ℕ) → g ≤ length logs → start_of logs g ≤ n → (g < length logs → n < start_of logs (g + 1))
    → place_from h logs n ≡ record { log = h + g; entry = n - start_of logs g }
found h [] g n most from to = same_place _ _ (omega arith) (omega arith)
found h (L ∷ Ls) zero n most from to =
    rw (lt-ltb n (length L.entries) (omega (arith, to (omega arith), start_none Ls))) (same_place _ _ (omega arith) (omega arith))
found h (L ∷ Ls) (suc g) n most from to =
    rw (le-ltb n (length L.entries) (omega arith))
    (found (h + 1) Ls g (n - length L.entries) (omega arith) (omega arith) (λ below. omega (arith, to (omega arith), start_suc L Ls g))
    ∙ same_place _ _ (omega arith) (omega arith))

-- the number of a place
pub numbered_place : (logs : List Recorded) (p : Place) → IsPlace logs p → place_from 0 logs (start_of logs p.log + p.entry) ≡ p
numbered_place logs p place =
    found 0 logs p.log (start_of logs p.log + p.entry) (omega (arith, place.log_within)) (omega arith)
    (λ below. omega (arith, start_more logs p.log below, place.within))
    ∙ same_place _ _ (omega arith) (omega arith)

-- it is below the next start
pub number_below : (logs : List Recorded) (starts : List ℕ) (p : Place) → AreStarts logs starts → IsPlace logs p
    → get_or starts p.log 0 + p.entry < get_or starts (p.log + 1) 0
number_below logs starts p are place =
    omega (
      arith,
      are.each p.log 0 (omega (arith, place.log_within)),
      are.each (p.log + 1) 0 (omega (arith, place.log_within)),
      start_more logs p.log place.log_within,
      place.within,
    )

pub started_place : (logs : List Recorded) (starts : List ℕ) (p : Place) → AreStarts logs starts → IsPlace logs p
    → place_from 0 logs (get_or starts p.log 0 + p.entry) ≡ p
started_place logs starts p are place =
    ap (λ (n : ℕ). place_from 0 logs (n + p.entry)) (are.each p.log 0 (omega (arith, place.log_within))) ∙ numbered_place logs p place

pub first_start : (logs : List Recorded) (starts : List ℕ) → AreStarts logs starts → get_or starts 0 0 ≡ 0
first_start logs starts are = are.each 0 0 (omega arith) ∙ start_none logs

-- places in order

pub places_count : (logs : List Recorded) (numbers : List ℕ) → length (places_of logs numbers) ≡ length numbers
places_count logs numbers = length-map numbers (place_from 0 logs)

pub places_push : (logs : List Recorded) (numbers more : List ℕ) (n : ℕ) (p : Place) → more ≡ numbers ++ n ∷ [] → place_from 0 logs n ≡ p
    → places_of logs more ≡ places_of logs numbers ++ p ∷ []
places_push logs numbers more n p is place =
    ap (places_of logs) is ∙ map-append (place_from 0 logs) numbers (n ∷ []) ∙ ap (λ (q : Place). places_of logs numbers ++ q ∷ []) place

pub place_read : (logs : List Recorded) (numbers : List ℕ) (k n : ℕ) (p : Place) → k < length numbers → n ≡ get_or numbers k n
    → place_from 0 logs n ≡ p → p ≡ get_or (places_of logs numbers) k p
place_read logs numbers k n p within is place =
    sym place ∙ ap (place_from 0 logs) is ∙ sym (get_or-map (place_from 0 logs) numbers k n p within)

-- the log that was found for a number has it
pub found_place : (logs : List Recorded) (starts : List ℕ) (g n : ℕ) → AreStarts logs starts → g < length starts → get_or starts g 0 ≤ n
    → (g + 1 < length starts → n < get_or starts (g + 1) 0) → place_from 0 logs n ≡ record { log = g; entry = n - get_or starts g 0 }
found_place logs starts g n are within from to =
    found 0 logs g n (omega (arith, are.count)) (omega (arith, are.each g 0 (omega (arith, are.count))))
    (λ below. omega (arith, to (omega (arith, are.count)), are.each (g + 1) 0 (omega arith)))
    ∙ same_place _ _ (omega arith) (omega (arith, are.each g 0 (omega (arith, are.count))))

-- starts, one log after the other

pub record StartsTo (logs : List Recorded) (starts : List ℕ) (g : ℕ) : Type 0 where
  pub count : length starts ≡ g + 1
  pub each : (h d : ℕ) → h ≤ g → get_or starts h d ≡ start_of logs h

pub starts_none : (logs : List Recorded) (starts : List ℕ) → starts ≡ 0 ∷ [] → StartsTo logs starts 0
starts_none logs starts is = record {
  count = ap length is;
  each = λ h d most.
      let none : h ≡ 0 = omega arith in
      ap (λ (xs : List ℕ). get_or xs h d) is ∙ ap (λ (i : ℕ). get_or (0 ∷ []) i d) none ∙ sym (ap (start_of logs) none ∙ start_none logs);
}

pub starts_more : (logs : List Recorded) (starts more : List ℕ) (g next : ℕ) → StartsTo logs starts g → g < length logs
    → more ≡ starts ++ next ∷ [] → next ≡ start_of logs g + length (log_at logs g).entries → StartsTo logs more (g + 1)
starts_more logs starts more g next to below is next_is = record {
  count = ap length is ∙ length_push starts next ∙ omega (arith, to.count);
  each = λ h d most. ap (λ (xs : List ℕ). get_or xs h d) is ∙ elim (cases_lt h (g + 1)) [
    | inl before ↦ get_or_append_left starts (next ∷ []) d h (omega (arith, to.count)) ∙ to.each h d (omega arith)
    | inr here ↦
        (let last : h ≡ g + 1 = omega arith in
        get_or_push starts next d h (omega (arith, to.count)) ∙ next_is ∙ sym (start_more logs g below) ∙ ap (start_of logs) (sym last))
  ];
}
