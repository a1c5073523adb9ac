use Rattle.std.proofs.Common.{◌≡◌, get_or, arith, ap, ◌∙◌}
use Rattle.clause_arena.proofs.Laid.{starts_here, bounds_of, literal_here, read_literal}
use Rattle.clause_arena.proofs.arena.Arena.lit.Goals as goal

pub start-from-requires : goal.start-from-requires
start-from-requires c =
    omega (arith, starts_here _ _ _ _ _ (record { laid = c.self.invariant; is = c.self.view_is }) c.requires.live.present, c.place.ensures)

pub overflow_add-from : goal.overflow_add-from
overflow_add-from c =
    let s = c.self.inside.starts.items in
    let b = bounds_of _ s _ _ c.args.r (record { laid = c.self.invariant; is = c.self.view_is }) c.requires.live.present in
    let from : c.start-from.result ≡ get_or s c.args.r 0 = c.start-from.ensures ∙ ap (λ n. get_or s n 0) c.place.ensures in
    omega (arith, literal_here _ _ _ _ _ b c.requires.within, b.fits)

pub index-requires : goal.index-requires
index-requires c =
    let s = c.self.inside.starts.items in
    let b = bounds_of _ s _ _ c.args.r (record { laid = c.self.invariant; is = c.self.view_is }) c.requires.live.present in
    let from : c.start-from.result ≡ get_or s c.args.r 0 = c.start-from.ensures ∙ ap (λ n. get_or s n 0) c.place.ensures in
    omega (arith, literal_here _ _ _ _ _ b c.requires.within)

pub returns : goal.returns
returns c =
    let s = c.self.inside.starts.items in
    let b = bounds_of _ s _ _ c.args.r (record { laid = c.self.invariant; is = c.self.view_is }) c.requires.live.present in
    let from : c.start-from.result ≡ get_or s c.args.r 0 = c.start-from.ensures ∙ ap (λ n. get_or s n 0) c.place.ensures in
    read_literal _ _ _ c.args.r c.args.i c.start-from.result _ b c.requires.within from c.index.ensures
