use Rattle.std.proofs.Common.{◌≡◌, ◌+◌, length, get_or, arith, ap, sym, ◌∙◌}
use Rattle.clause_arena.proofs.Laid.{starts_here, bounds_of}
use Rattle.std.specs.List.{slice_range}
use Rattle.clause_arena.proofs.arena.Arena.lits.Goals as goal

pub start-from-requires : goal.start-from-requires
start-from-requires c =
    omega (arith, starts_here _ _ _ _ _ (record { laid = c.self.invariant; is = c.self.view_is }) c.requires.present, c.place.ensures)

pub start-end-requires : goal.start-end-requires
start-end-requires c =
    omega (arith, starts_here _ _ _ _ _ (record { laid = c.self.invariant; is = c.self.view_is }) c.requires.present, c.place-2.ensures)

pub part-requires : goal.part-requires
part-requires c =
    let s = c.self.inside.starts.items in
    let b = bounds_of _ s _ _ c.args.r (record { laid = c.self.invariant; is = c.self.view_is }) c.requires.present in
    let from : c.start-from.result ≡ get_or s c.args.r 0 = c.start-from.ensures ∙ ap (λ n. get_or s n 0) c.place.ensures in
    let to : c.start-end.result ≡ get_or s (c.args.r + 1) 0 = c.start-end.ensures ∙ ap (λ n. get_or s (n + 1) 0) c.place-2.ensures in
    let value = c.as_slice.ensures.value in
    (omega (arith, b.rises), omega (arith, b.within, ap length value))

pub returns : goal.returns
returns c =
    let s = c.self.inside.starts.items in
    let b = bounds_of _ s _ _ c.args.r (record { laid = c.self.invariant; is = c.self.view_is }) c.requires.present in
    let from : c.start-from.result ≡ get_or s c.args.r 0 = c.start-from.ensures ∙ ap (λ n. get_or s n 0) c.place.ensures in
    let to : c.start-end.result ≡ get_or s (c.args.r + 1) 0 = c.start-end.ensures ∙ ap (λ n. get_or s (n + 1) 0) c.place-2.ensures in
    let l = c.self.inside.lits.items in
    c.part.ensures
    ∙ ap (λ ls. slice_range ls c.start-from.result c.start-end.result) c.as_slice.ensures.value
    ∙ ap (λ n. slice_range l n c.start-end.result) from
    ∙ ap (λ n. slice_range l (get_or s c.args.r 0) n) to
    ∙ sym b.lits
