-- Pages keep what they have, and the new slot has the bytes.
use Rattle.std.proofs.Common.{◌≡◌, ℕ, List, ◌∷◌, [], ◌++◌, ap, ◌∙◌, rules}
use Rattle.lrat_log.specs.declared.store.Slot.{Slot}
use Rattle.lrat_log.specs.Steps.Paged.{Stored, all_stored}
use Rattle.lrat_log.proofs.Pages.{stored_kept, stored_push}
use Rattle.lrat_log.proofs.store.Store.push.Goals as goal

pub returns-in_err-place-clause-err : goal.returns-in_err-place-clause-err
returns-in_err-place-clause-err c =
    let is : all_stored c.write.new.pages.items c.reserve.new.self.items ≡ c.args.self.now =
    ap (λ (index : List Slot). all_stored c.write.new.pages.items index) c.reserve.ensures.items
    ∙ stored_kept c.self.inside.pages.items c.write.new.pages.items c.self.inside.index.items c.write.ensures.kept c.self.invariant
    ∙ c.self.view_is in
    search rules

pub returns-clause-ok : goal.returns-clause-ok
returns-clause-ok c =
    let s : Slot = record {
      page = c.in_ok-place.place.page;
      start = c.in_ok-place.place.start;
      size = c.in_ok-size.size;
      hints = c.in_ok-hints.hints;
      clock = c.args.clock;
    } in
    let items : c.push_reserved.new.self.items ≡ c.self.inside.index.items ++ s ∷ [] =
    c.push_reserved.ensures.items ∙ ap (λ (index : List Slot). index ++ s ∷ []) c.in_ok-reserve.ensures.items in
    ap (λ (index : List Slot). all_stored c.write.new.pages.items index) items
    ∙ stored_push c.self.inside.pages.items c.write.new.pages.items c.self.inside.index.items c.args.bytes.now s
    c.in_ok-place.ensures.kept c.self.invariant c.in_ok-place.ensures.ok c.in_ok-size.ensures
    ∙ ap (λ (all : List Stored). all ++ record { bytes = c.args.bytes.now; hints = s.hints; clock = s.clock } ∷ []) c.self.view_is
    ∙ ap (λ (hints : ℕ). c.args.self.now ++ record { bytes = c.args.bytes.now; hints = hints; clock = s.clock } ∷ []) c.in_ok-hints.ensures
