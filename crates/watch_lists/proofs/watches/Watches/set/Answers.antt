use Rattle.std.proofs.Common.{◌≡◌, set, sym, ap, subst}
use Rattle.std.specs.Vec.{with_item}
use Rattle.cnf_core.specs.Literals.{IsWithin}
use Rattle.watch_lists.specs.Lists.{WatchLists, list_of}
use Rattle.watch_lists.specs.Steps.Lists.{with_watch_at}
use Rattle.watch_lists.proofs.Viewed.{held, list_here, list_changed}
use Rattle.watch_lists.proofs.watches.Watches.set.Goals as goal

pub returns : goal.returns
returns c =
    let within : IsWithin c.self.inside.vars c.args.lit =
    subst (λ (w : WatchLists). IsWithin w.vars c.args.lit) (sym c.self.view_is) c.requires.within in
    let here = list_here c.self.inside.lists.items c.self.inside.vars _ c.args.lit c.index_mut.result.now c.self.invariant within
    c.code.ensures.value c.index_mut.ensures.value in
    let v = with_item c.index_mut.result.now c.args.at c.args.watch in
    subst
    (λ (w : WatchLists). held (set c.self.inside.lists.items c.code.result v) c.self.inside.vars ≡ with_watch_at w c.args.lit c.args.at
    c.args.watch)
    c.self.view_is
    (list_changed c.self.inside.lists.items c.self.inside.vars _ c.args.lit v
    (set (list_of (held c.self.inside.lists.items c.self.inside.vars) c.args.lit) c.args.at c.args.watch)
    c.code.ensures.value (ap (λ xs. set xs c.args.at c.args.watch) here))
