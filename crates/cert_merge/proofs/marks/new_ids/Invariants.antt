use Rattle.std.proofs.Common.{◌≡◌, ℕ, ◌+◌, ◌<◌, ◌≤◌, Bool, length, take, get_or}
use Rattle.std.specs.Prelude.{count_by}
use Rattle.cert_merge.proofs.marks.new_ids.Given as goal

abbrev pub invariant-loop-mark : goal.invariant-loop-mark
invariant-loop-mark l = record {
  size : length l.ids.items ≡ l.mark-index;
  each : (k : ℕ) (d : ℕ) → k < l.mark-index → get_or l.ids.items k d ≡ l.inputs + 1 + count_by (λ (m : Bool). m) (take k l.marks);
  next_is : l.next ≡ l.inputs + 1 + count_by (λ (m : Bool). m) (take l.mark-index l.marks);
  low : l.next ≤ l.inputs + 1 + l.mark-index;
}
