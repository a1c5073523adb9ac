use Rattle.std.proofs.Common.{◌≡◌, ◌+◌, ◌*◌, List, [], length, replicate, ap, ◌∙◌, subst, arith}
use Rattle.std.specs.Vec.{with_items}
use Rattle.watch_lists.specs.Watchers.{Watcher}
use Rattle.watch_lists.specs.Lists.{WatchLists, empty_lists}
use Rattle.watch_lists.proofs.Viewed.{lists_in, held, clear_more, all_clear, refilled}
use Rattle.watch_lists.proofs.watches.Watches.clear.Goals as goal

pub loop-list-preserved : goal.loop-list-preserved
loop-list-preserved c =
    clear_more c.loop-list.list-items c.loop-list.list-index c.clear.new.self (omega arith) c.clear.ensures.items c.loop-list.invariant

pub returns : goal.returns
returns c =
    let count : length c.loop-list.list-items ≡ length c.self.inside.lists.items =
    c.loop-list.auto.list-items ∙ ap length c.deref_mut-list-items.ensures.value in
    let none : lists_in c.loop-list.list-items ≡ replicate (2 * c.self.inside.vars + 2) [] =
    all_clear c.loop-list.list-items c.loop-list.list-index (2 * c.self.inside.vars + 2)
    (count ∙ c.self.invariant) (omega (arith, ap length c.deref_mut-list-items.ensures.value, c.self.invariant)) c.loop-list.invariant in
    let lists = refilled c.self.inside.lists c.loop-list.list-items count in
    subst
    (λ (w : WatchLists). held (with_items c.self.inside.lists c.loop-list.list-items).items c.self.inside.vars ≡ empty_lists w.vars)
    c.self.view_is
    (ap (λ (ls : List (List Watcher)). record { lists = ls; vars = c.self.inside.vars }) (ap lists_in lists ∙ none))
