use Rattle.std.proofs.Common.{◌≡◌, ◌∙◌, ◌+◌, ◌-◌, ℕ, sym, ap, subst, arith, List}
use Rattle.std.specs.Prelude.{slice_set}
use Rattle.bone_check.specs.Steps.Dropping.{IsChained, Links, link}
use Rattle.bone_check.proofs.Chained.{chained_more}
use Rattle.bone_check.proofs.chains.Chains.new.Goals as goal

pub loop-place-preserved : goal.loop-place-preserved
loop-place-preserved c =
    let place : ℕ = c.loop-place.place - 1 in
    let models = c.args.models in
    let drops = c.args.drops.now in
    let d = c.line_at-model.result in
    let links : Links = record { first = c.loop-place.first.items; next = c.loop-place.next.items } in
    let behind : c.loop-place.place ≡ place + 1 = omega (arith, c.loop-place-test.true) in
    let before : IsChained drops (place + 1) models links = subst (λ (p : ℕ). IsChained drops p models links) behind c.loop-place.invariant in
    let read : c.place_at.result ≡ link c.loop-place.first.items d.model =
    c.place_at.ensures ∙ ap (λ (ps : List ℕ). link ps d.model) c.deref.ensures.value in
    subst (λ (n : ℕ). IsChained drops place models (record { first = slice_set c.loop-place.first.items d.model place; next = slice_set c.loop-place.next.items place n }))
    (sym read)
    (chained_more drops models place links d c.line_at-model.ensures (c.requires place d c.line_at-model.ensures) before)
