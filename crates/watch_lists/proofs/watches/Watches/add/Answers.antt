use Rattle.std.proofs.Common.{◌≡◌, [], ◌∷◌, ◌++◌, set, sym, ap, ◌∙◌, subst}
use Rattle.cnf_core.specs.Literals.{IsWithin}
use Rattle.watch_lists.specs.Lists.{WatchLists, list_of, with_watch}
use Rattle.watch_lists.proofs.Viewed.{held, list_here, list_changed, list_same, on_err}
use Rattle.watch_lists.proofs.watches.Watches.add.Goals as goal

pub returns-in_err-push-clause-err : goal.returns-in_err-push-clause-err
returns-in_err-push-clause-err c =
    let within : IsWithin c.self.inside.vars c.args.lit =
    subst (λ (w : WatchLists). IsWithin w.vars c.args.lit) (sym c.self.view_is) c.requires in
    let here = list_here c.self.inside.lists.items c.self.inside.vars _ c.args.lit c.index_mut.result.now c.self.invariant within
    c.code.ensures.value c.index_mut.ensures.value in
    let w : WatchLists = held c.self.inside.lists.items c.self.inside.vars in
    let same : held (set c.self.inside.lists.items c.code.result c.push.new.self) c.self.inside.vars ≡ w =
    list_changed c.self.inside.lists.items c.self.inside.vars _ c.args.lit c.push.new.self (list_of w c.args.lit)
    c.code.ensures.value (c.in_err-push.ensures.items ∙ here) ∙ list_same w c.args.lit in
    on_err c.from_residual.result
    (subst (λ (v : WatchLists). held (set c.self.inside.lists.items c.code.result c.push.new.self) c.self.inside.vars ≡ v) c.self.view_is
    same)

pub returns-clause-ok : goal.returns-clause-ok
returns-clause-ok c =
    let within : IsWithin c.self.inside.vars c.args.lit =
    subst (λ (w : WatchLists). IsWithin w.vars c.args.lit) (sym c.self.view_is) c.requires in
    let here = list_here c.self.inside.lists.items c.self.inside.vars _ c.args.lit c.index_mut.result.now c.self.invariant within
    c.code.ensures.value c.index_mut.ensures.value in
    subst
    (λ (w : WatchLists). held (set c.self.inside.lists.items c.code.result c.push.new.self) c.self.inside.vars ≡ with_watch w c.args.lit
    c.args.watch)
    c.self.view_is
    (list_changed c.self.inside.lists.items c.self.inside.vars _ c.args.lit c.push.new.self
    (list_of (held c.self.inside.lists.items c.self.inside.vars) c.args.lit ++ c.args.watch ∷ [])
    c.code.ensures.value (c.in_ok-push.ensures.items ∙ ap (λ xs. xs ++ c.args.watch ∷ []) here))
