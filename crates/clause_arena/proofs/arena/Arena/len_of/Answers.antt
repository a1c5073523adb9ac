use Rattle.std.proofs.Common.{◌≡◌, ◌+◌, get_or, arith, ap, ◌∙◌}
use Rattle.clause_arena.proofs.Laid.{starts_here, bounds_of}
use Rattle.clause_arena.proofs.arena.Arena.len_of.Goals as goal

pub start-from-requires : goal.start-from-requires
start-from-requires c =
    omega (arith, starts_here _ _ _ _ _ (record { laid = c.self.invariant; is = c.self.view_is }) c.requires.present, c.place.ensures)

pub start-end-requires : goal.start-end-requires
start-end-requires c =
    omega (arith, starts_here _ _ _ _ _ (record { laid = c.self.invariant; is = c.self.view_is }) c.requires.present, c.place-2.ensures)

pub overflow_sub-result : goal.overflow_sub-result
overflow_sub-result c =
    let s = c.self.inside.starts.items in
    let b = bounds_of _ s _ _ c.args.r (record { laid = c.self.invariant; is = c.self.view_is }) c.requires.present in
    let from : c.start-from.result ≡ get_or s c.args.r 0 = c.start-from.ensures ∙ ap (λ n. get_or s n 0) c.place.ensures in
    let to : c.start-end.result ≡ get_or s (c.args.r + 1) 0 = c.start-end.ensures ∙ ap (λ n. get_or s (n + 1) 0) c.place-2.ensures in
    omega (arith, b.rises)

pub returns : goal.returns
returns c =
    let s = c.self.inside.starts.items in
    let b = bounds_of _ s _ _ c.args.r (record { laid = c.self.invariant; is = c.self.view_is }) c.requires.present in
    let from : c.start-from.result ≡ get_or s c.args.r 0 = c.start-from.ensures ∙ ap (λ n. get_or s n 0) c.place.ensures in
    let to : c.start-end.result ≡ get_or s (c.args.r + 1) 0 = c.start-end.ensures ∙ ap (λ n. get_or s (n + 1) 0) c.place-2.ensures in
    omega (arith, b.count)
