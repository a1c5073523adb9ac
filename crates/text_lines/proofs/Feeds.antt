-- The first line feed of some bytes.
use Rattle.std.proofs.Common.{◌≡◌, ◌≢◌, ℕ, ◌+◌, ◌-◌, ◌<◌, ◌≤◌, List, ◌∷◌, length, take, drop, get_or, refl, sym, ◌∙◌, ap, inl, inr, arith, length-take, length-drop}
use Rattle.std.specs.Prelude.{Contains}
use Rattle.std.proofs.lemmas.List.{get_or-take, get_or-drop, drop_more, take_all}
use Rattle.std.proofs.lemmas.List.Elements.{All-from_get_or, All-get_or, All-same, All-contains}
use Rattle.std.proofs.lemmas.Bool.{cases_lt, eq-eqb, eqb-true}
use Rattle.memchr.specs.Find.{Nowhere, Passes, NoneBefore, is_byte}
use Rattle.text_lines.specs.Lines.{IsPlain}
use Rattle.text_lines.specs.Steps.Onward.{IsFeedAt}

abbrev IsNoFeed : ℕ → Type 0
IsNoFeed b = b ≢ 10

plain_at : (bytes hay : List ℕ) (seen k i : ℕ) → hay ≡ drop seen bytes → IsPlain (take seen bytes) → Nowhere (Passes (is_byte 10) hay) 0 k
    → i < seen + k → i < length bytes → get_or bytes i 0 ≢ 10
plain_at bytes hay seen k i is plain nowhere low within e = elim (cases_lt i seen) [
  | inl before ↦ All-get_or IsNoFeed (take seen bytes) i 0 (omega (arith, length-take seen bytes)) plain (get_or-take seen bytes i 0 before ∙ e)
  | inr behind ↦ nowhere (i - seen) (omega arith) (omega arith) (eq-eqb (get_or hay (i - seen) 0) 10
      (ap (λ (h : List ℕ). get_or h (i - seen) 0) is ∙ get_or-drop seen bytes (i - seen) 0
      ∙ ap (λ (n : ℕ). get_or bytes n 0) (to_place seen i behind) ∙ e))
]
  where
    to_place : (a b : ℕ) → a ≤ b → a + (b - a) ≡ b
    to_place a b le = omega (arith, le)

pub plain_more : (bytes hay : List ℕ) (seen k : ℕ) → hay ≡ drop seen bytes → IsPlain (take seen bytes)
    → Nowhere (Passes (is_byte 10) hay) 0 k → IsPlain (take (seen + k) bytes)
plain_more bytes hay seen k is plain nowhere =
    All-from_get_or IsNoFeed (take (seen + k) bytes) 0 (λ (i : ℕ) (lt : i < length (take (seen + k) bytes)) (e : get_or (take (seen + k) bytes) i 0 ≡ 10).
    let size = length-take (seen + k) bytes in
    plain_at bytes hay seen k i is plain nowhere (omega (arith, size)) (omega (arith, size))
    (sym (get_or-take (seen + k) bytes i 0 (omega (arith, size))) ∙ e))

pub plain_whole : (bytes hay : List ℕ) (seen : ℕ) → hay ≡ drop seen bytes → IsPlain (take seen bytes)
    → Nowhere (Passes (is_byte 10) hay) 0 (length hay) → IsPlain bytes
plain_whole bytes hay seen is plain nowhere =
    All-same IsNoFeed bytes (take (seen + length hay) bytes)
    (sym (take_all (seen + length hay) bytes (omega (arith, ap length is, length-drop seen bytes))))
    (plain_more bytes hay seen (length hay) is plain nowhere)

pub feed_at : (bytes hay : List ℕ) (seen k : ℕ) → hay ≡ drop seen bytes → IsPlain (take seen bytes)
    → NoneBefore (Passes (is_byte 10) hay) 0 (length hay) k × Passes (is_byte 10) hay k → IsFeedAt bytes (seen + k)
feed_at bytes hay seen k is plain h =
    let within : seen + k < length bytes = omega (arith, ap length is, length-drop seen bytes, h.0.high) in
    record {
      within = within;
      plain = plain_more bytes hay seen k is plain h.0.before;
      at = drop_more bytes (seen + k) 0 within
          ∙ ap (λ (b : ℕ). b ∷ drop (seen + k + 1) bytes)
          (sym (get_or-drop seen bytes k 0) ∙ sym (ap (λ (h : List ℕ). get_or h k 0) is) ∙ eqb-true (get_or hay k 0) 10 h.1);
    }

-- bytes without a line feed have none
pub plain_has_none : (bytes : List ℕ) → IsPlain bytes → Contains bytes 10 → ⊥
plain_has_none bytes plain has = All-contains IsNoFeed bytes 10 plain has refl

pub plain_no_feed : (bytes : List ℕ) (k : ℕ) → IsPlain bytes → IsFeedAt bytes k → ⊥
plain_no_feed bytes k plain feed =
    All-get_or IsNoFeed bytes k 0 feed.within plain
    (ap (λ (rest : List ℕ). get_or rest 0 0) (sym (drop_more bytes k 0 feed.within) ∙ feed.at))
