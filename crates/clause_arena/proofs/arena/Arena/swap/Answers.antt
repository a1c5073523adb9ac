use Rattle.std.proofs.Common.{◌≡◌, ◌+◌, get_or, arith, ap, ◌∙◌}
use Rattle.clause_arena.proofs.Laid.{starts_here, bounds_of, literal_here}
use Rattle.std.specs.List.{swap}
use Rattle.clause_arena.specs.Steps.Layout.{laid_entries}
use Rattle.clause_arena.proofs.Changed.{entries_swapped}
use Rattle.clause_arena.proofs.arena.Arena.swap.Goals as goal

pub start-from-requires : goal.start-from-requires
start-from-requires c =
    omega (arith, starts_here _ _ _ _ _ (record { laid = c.self.invariant; is = c.self.view_is }) c.requires.live.present, c.place.ensures)

pub overflow_add-from : goal.overflow_add-from
overflow_add-from c =
    let s = c.self.inside.starts.items in
    let b = bounds_of _ s _ _ c.args.r (record { laid = c.self.invariant; is = c.self.view_is }) c.requires.live.present in
    let from : c.start-from.result ≡ get_or s c.args.r 0 = c.start-from.ensures ∙ ap (λ n. get_or s n 0) c.place.ensures in
    omega (arith, literal_here _ _ _ _ _ b c.requires.first, b.fits)

pub overflow_add-from-2 : goal.overflow_add-from-2
overflow_add-from-2 c =
    let s = c.self.inside.starts.items in
    let b = bounds_of _ s _ _ c.args.r (record { laid = c.self.invariant; is = c.self.view_is }) c.requires.live.present in
    let from : c.start-from.result ≡ get_or s c.args.r 0 = c.start-from.ensures ∙ ap (λ n. get_or s n 0) c.place.ensures in
    omega (arith, literal_here _ _ _ _ _ b c.requires.second, b.fits)

pub swap-requires-clause-i_in_bounds : goal.swap-requires-clause-i_in_bounds
swap-requires-clause-i_in_bounds c =
    let s = c.self.inside.starts.items in
    let b = bounds_of _ s _ _ c.args.r (record { laid = c.self.invariant; is = c.self.view_is }) c.requires.live.present in
    let from : c.start-from.result ≡ get_or s c.args.r 0 = c.start-from.ensures ∙ ap (λ n. get_or s n 0) c.place.ensures in
    omega (arith, literal_here _ _ _ _ _ b c.requires.first)

pub swap-requires-clause-j_in_bounds : goal.swap-requires-clause-j_in_bounds
swap-requires-clause-j_in_bounds c =
    let s = c.self.inside.starts.items in
    let b = bounds_of _ s _ _ c.args.r (record { laid = c.self.invariant; is = c.self.view_is }) c.requires.live.present in
    let from : c.start-from.result ≡ get_or s c.args.r 0 = c.start-from.ensures ∙ ap (λ n. get_or s n 0) c.place.ensures in
    omega (arith, literal_here _ _ _ _ _ b c.requires.second)

pub returns : goal.returns
returns c =
    let s = c.self.inside.starts.items in
    let b = bounds_of _ s _ _ c.args.r (record { laid = c.self.invariant; is = c.self.view_is }) c.requires.live.present in
    let from : c.start-from.result ≡ get_or s c.args.r 0 = c.start-from.ensures ∙ ap (λ n. get_or s n 0) c.place.ensures in
    let l = c.self.inside.lits.items in
    let m = c.self.inside.marks.items in
    ap (λ ls. laid_entries ls s m) c.swap.ensures.items
    ∙ ap (λ n. laid_entries (swap l (n + c.args.i) (n + c.args.j)) s m) from
    ∙ entries_swapped l s m _ c.args.r c.args.i c.args.j (record { laid = c.self.invariant; is = c.self.view_is })
    c.requires.live.present c.requires.first c.requires.second
