-- What a desk that never fails tells: the bytes of its feeds, and that no act ever failed.
use Rattle.std.specs.Prelude.{ℕ, ◌+◌, ◌-◌, ◌^◌, min, List, drop, Some, None, slice_index, slice_set}
use Rattle.bone_desk.specs.declared.desk.Feed.{Feed}
use Rattle.bone_desk.specs.declared.desk.Feed.TheVariants as feed
use Rattle.bone_desk.specs.declared.desk.Port.{Port}
use Rattle.bone_desk.specs.declared.quiet.QuietDesk.{QuietDesk}
use Rattle.bone_desk.specs.Told.{Told, feed_index, port_index}

abbrev pub feed_text : QuietDesk → Feed → List ℕ
feed_text d feed.Text = d.text.items
feed_text d feed.Answer = d.answer.items
feed_text d feed.Proof = d.proof.items
feed_text d feed.Witness = d.witness.items

-- the bytes that a feed still has
abbrev pub unread : QuietDesk → Feed → List ℕ
unread d f = drop (slice_index d.at (feed_index f)) (feed_text d f)

abbrev pub quiet_told : QuietDesk → Told
quiet_told d = record { left = λ f. Some (unread d f); put = λ p. None; faults = λ a. 0 }

-- the counts of written bytes, after so many more at one port
abbrev pub counts_after : List ℕ → Port → ℕ → List ℕ
counts_after wrote p moved =
    slice_set wrote (port_index p) (min (slice_index wrote (port_index p) + moved) (2 ^ 64 - 1))
