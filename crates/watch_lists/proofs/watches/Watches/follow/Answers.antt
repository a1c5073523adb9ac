use Rattle.std.proofs.Common.{◌≡◌, List, length, map, ap, ◌∙◌, sym, subst, arith}
use Rattle.std.proofs.lemmas.List.{length-map}
use Rattle.std.specs.Vec.{with_items}
use Rattle.watch_lists.specs.Watchers.{Watcher}
use Rattle.watch_lists.specs.Lists.{WatchLists}
use Rattle.watch_lists.specs.Moving.{moved_list, moved_lists}
use Rattle.watch_lists.proofs.Viewed.{lists_in, held, refilled}
use Rattle.watch_lists.proofs.Moving.{all_more, all_end}
use Rattle.watch_lists.proofs.watches.Watches.follow.Goals as goal

pub loop-list-preserved : goal.loop-list-preserved
loop-list-preserved c =
    all_more c.args.moves.now (lists_in c.deref_mut-list-items.result.now) c.loop-list.list-items c.loop-list.list-index
    c.list-item.result c.follow_moves.new.list c.loop-list.invariant (omega arith) c.list-item.is
    (c.follow_moves.ensures ∙ ap (λ v. moved_list c.args.moves.now v.items) (sym c.list-item.is))

pub returns : goal.returns
returns c =
    let start = c.deref_mut-list-items.result.now in
    let same : start ≡ c.self.inside.lists.items = c.deref_mut-list-items.ensures.value in
    let count : length c.loop-list.list-items ≡ length c.self.inside.lists.items =
    c.loop-list.auto.list-items ∙ ap length same in
    let done : lists_in c.loop-list.list-items ≡ map (moved_list c.args.moves.now) (lists_in c.self.inside.lists.items) =
    all_end c.args.moves.now (lists_in start) (lists_in c.loop-list.list-items) c.loop-list.list-index c.loop-list.invariant
    (omega (arith, length-map start (λ v. v.items)))
    ∙ ap (λ vs. map (moved_list c.args.moves.now) (lists_in vs)) same in
    subst
    (λ (w : WatchLists). held (with_items c.self.inside.lists c.loop-list.list-items).items c.self.inside.vars ≡ moved_lists c.args.moves.now w)
    c.self.view_is
    (ap (λ (ls : List (List Watcher)). record { lists = ls; vars = c.self.inside.vars })
    (ap lists_in (refilled c.self.inside.lists c.loop-list.list-items count) ∙ done))
