use Rattle.std.proofs.Common.{◌≡◌, ◌<◌, length, set, swap_remove, sym, ap, ◌∙◌, subst}
use Rattle.cnf_core.specs.Literals.{IsWithin}
use Rattle.watch_lists.specs.Lists.{WatchLists, no_watch, list_of}
use Rattle.watch_lists.specs.Steps.Lists.{without_watch}
use Rattle.watch_lists.proofs.Viewed.{held, list_here, list_changed, taken_out}
use Rattle.watch_lists.proofs.watches.Watches.take_out.Goals as goal

pub returns : goal.returns
returns c =
    let within : IsWithin c.self.inside.vars c.args.lit =
    subst (λ (w : WatchLists). IsWithin w.vars c.args.lit) (sym c.self.view_is) c.requires.within in
    let here = list_here c.self.inside.lists.items c.self.inside.vars _ c.args.lit c.index_mut.result.now c.self.invariant within
    c.code.ensures.value c.index_mut.ensures.value in
    let w : WatchLists = held c.self.inside.lists.items c.self.inside.vars in
    let lt : c.args.at < length (list_of w c.args.lit) =
    subst (λ (w : WatchLists). c.args.at < length (list_of w c.args.lit)) (sym c.self.view_is) c.requires.place in
    subst
    (λ (w : WatchLists). held (set c.self.inside.lists.items c.code.result c.swap_remove.new.self) c.self.inside.vars ≡ without_watch w
    c.args.lit c.args.at)
    c.self.view_is
    (list_changed c.self.inside.lists.items c.self.inside.vars _ c.args.lit c.swap_remove.new.self
    (swap_remove (list_of w c.args.lit) c.args.at no_watch)
    c.code.ensures.value
    (c.swap_remove.ensures.items ∙ ap (λ xs. swap_remove xs c.args.at c.swap_remove.result) here
    ∙ taken_out (list_of w c.args.lit) c.args.at c.swap_remove.result lt))
