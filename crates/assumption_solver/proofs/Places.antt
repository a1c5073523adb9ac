-- The entries of an arena by membership, and by their references.
use Rattle.std.proofs.Common.{◌≡◌, ℕ, true, Contains, ap, ◌∙◌}
use Rattle.std.proofs.lemmas.List.{get_or_default}
use Rattle.std.proofs.lemmas.List.Elements.{Contains-get_or}
use Rattle.clause_arena.specs.Entries.{Entry, Entries, no_entry, entry_at, IsLive}

pub record HasPlaceOf (a : Entries) (e : Entry) : Type 0 where
  pub place : ℕ
  pub live : IsLive a place
  pub is : entry_at a place ≡ e

pub place_of_entry : (a : Entries) (e : Entry) → Contains a e → e.live ≡ true → HasPlaceOf a e
place_of_entry a e h live =
    let is : entry_at a h.0 ≡ e = get_or_default a h.0 no_entry e h.1 ∙ h.2 in record {
      place = h.0;
      live = record { present = h.1; live = ap (λ (x : Entry). x.live) is ∙ live };
      is = is;
    }

pub entry_of_place : (a : Entries) (r : ℕ) → IsLive a r → Contains a (entry_at a r)
entry_of_place a r h = Contains-get_or a r no_entry h.present
