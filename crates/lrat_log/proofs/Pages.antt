-- What pages keep where more is put behind.
use Rattle.std.proofs.Common.{◌≡◌, ℕ, ◌+◌, List, [], ◌∷◌, ◌++◌, length, take, drop, refl, sym, ap, ◌∙◌}
use Rattle.std.specs.Prelude.{All}
use Rattle.std.proofs.lemmas.List.{drop-take, map_push}
use Rattle.std.proofs.lemmas.List.Elements.{All-head, All-tail}
use Rattle.lrat_log.specs.declared.store.Slot.{Slot}
use Rattle.lrat_log.specs.Steps.Paged.{Stored, page_at, piece, stored_in, all_stored, IsSlot, KeepsPages, IsWritten}

piece_kept : (old new : List (List ℕ)) (s : Slot) → KeepsPages old new → IsSlot old s → piece new s ≡ piece old s
piece_kept old new s kept slot =
    sym (drop-take s.start s.size (page_at new s.page))
    ∙ ap (drop s.start) (kept.fronts s.page (s.start + s.size) slot.page slot.fits)
    ∙ drop-take s.start s.size (page_at old s.page)

pub stored_kept : (old new : List (List ℕ)) (index : List Slot) → KeepsPages old new → All (IsSlot old) index
    → all_stored new index ≡ all_stored old index
stored_kept old new [] kept slots = refl
stored_kept old new (s ∷ index) kept slots =
    ap (λ (bytes : List ℕ). record { bytes = bytes; hints = s.hints; clock = s.clock } ∷ all_stored new index)
    (piece_kept old new s kept (All-head (IsSlot old) s index slots))
    ∙ ap (λ (rest : List Stored). stored_in old s ∷ rest)
    (stored_kept old new index kept (All-tail (IsSlot old) s index slots))

-- one more
pub stored_push : (old new : List (List ℕ)) (index : List Slot) (bytes : List ℕ) (s : Slot) → KeepsPages old new
    → All (IsSlot old) index → IsWritten new s.page s.start bytes → s.size ≡ length bytes
    → all_stored new (index ++ s ∷ []) ≡ all_stored old index ++ record { bytes = bytes; hints = s.hints; clock = s.clock } ∷ []
stored_push old new index bytes s kept slots is_written size =
    map_push (stored_in new) index s
    ∙ ap (λ (all : List Stored). all ++ stored_in new s ∷ []) (stored_kept old new index kept slots)
    ∙ ap (λ (x : List ℕ). all_stored old index ++ record { bytes = x; hints = s.hints; clock = s.clock } ∷ [])
    (ap (λ (n : ℕ). take n (drop s.start (page_at new s.page))) size ∙ is_written.there)
