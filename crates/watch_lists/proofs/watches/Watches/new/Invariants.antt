use Rattle.std.proofs.Common.{◌≡◌, [], replicate, vec_len, vec_capacity}
use Rattle.watch_lists.proofs.Viewed.{lists_in}
use Rattle.watch_lists.proofs.watches.Watches.new.Given as goal

abbrev pub invariant-loop-place : goal.invariant-loop-place
invariant-loop-place l = record {
  lists : lists_in l.lists.items ≡ replicate l._place [];
  size : vec_len l.lists ≡ l._place;
  room : vec_capacity l.lists ≡ l.count;
}
