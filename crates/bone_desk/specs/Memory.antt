-- What a desk in memory tells: all of it. And what a call of it does.
use Rattle.std.specs.Prelude.{
  ◌≡◌,
  ◌≢◌,
  ◌≤◌,
  ◌+◌,
  ◌-◌,
  ◌^◌,
  ℕ,
  min,
  List,
  [],
  length,
  drop,
  Contains,
  Some,
  slice_index,
}
use Rattle.bone_desk.specs.declared.desk.Feed.{Feed}
use Rattle.bone_desk.specs.declared.desk.Feed.TheVariants as feed
use Rattle.bone_desk.specs.declared.desk.Port.{Port}
use Rattle.bone_desk.specs.declared.desk.Port.TheVariants as port
use Rattle.bone_desk.specs.declared.memory.MemDesk.{MemDesk}
use Rattle.bone_desk.specs.Told.{Told, feed_index, fault_count, counts_after_fault}
use Rattle.bone_desk.specs.declared.desk.Act.{Act}

abbrev pub text_of : MemDesk → Feed → List ℕ
text_of d feed.Text = d.text.items
text_of d feed.Answer = d.answer.items
text_of d feed.Proof = d.proof.items
text_of d feed.Witness = d.witness.items

abbrev pub output_of : MemDesk → Port → List ℕ
output_of d port.Answer = d.out_answer.items
output_of d port.Proof = d.out_proof.items
output_of d port.Witness = d.out_witness.items
output_of d port.Notes = d.out_notes.items

-- the bytes that a feed still has
abbrev pub unread : MemDesk → Feed → List ℕ
unread d f = drop (slice_index d.at (feed_index f)) (text_of d f)

abbrev pub memory_told : MemDesk → Told
memory_told d = record {
  left = λ f. Some (unread d f);
  put = λ p. Some (output_of d p);
  faults = fault_count d.faults;
}

-- a desk on which nothing has happened, with no text and no call that is to fail
pub record IsFresh (d : MemDesk) : Type 0 where
  pub texts : (f : Feed) → text_of d f ≡ []
  pub outputs : (p : Port) → output_of d p ≡ []
  pub unread : (f : Feed) → slice_index d.at (feed_index f) ≡ 0
  pub none_fails : d.fail.items ≡ []
  pub calls : d.calls ≡ 0
  pub faults : (a : Act) → fault_count d.faults a ≡ 0

-- the number of the next call
abbrev pub next_call : MemDesk → ℕ
next_call d = min (d.calls + 1) (2 ^ 64 - 1)

-- the next call is one of those that are to fail
abbrev pub IsListed : MemDesk → Type 0
IsListed d = Contains d.fail.items (next_call d)

-- how many bytes a port still takes
abbrev pub room : MemDesk → Port → ℕ
room d p = d.spare - length (output_of d p)

abbrev pub IsFull : MemDesk → Port → Type 0
IsFull d p = d.spare ≤ length (output_of d p)

-- a call was counted, and the texts, the list of calls that fail and the limits stayed
pub record CountsCall (old new : MemDesk) : Type 0 where
  pub calls : new.calls ≡ next_call old
  pub texts : (f : Feed) → text_of new f ≡ text_of old f
  pub fail : new.fail ≡ old.fail
  pub piece : new.piece ≡ old.piece
  pub spare : new.spare ≡ old.spare

-- a call that failed: the count of its act rose, and no byte moved
pub record CountsFault (act : Act) (old new : MemDesk) : Type 0 where
  pub call : CountsCall old new
  pub faults : new.faults ≡ counts_after_fault old.faults act
  pub at : new.at ≡ old.at
  pub outputs : (p : Port) → output_of new p ≡ output_of old p

-- a call after which nothing but the number of calls has changed
pub record ChangesCalls (old new : MemDesk) : Type 0 where
  pub call : CountsCall old new
  pub faults : new.faults ≡ old.faults
  pub at : new.at ≡ old.at
  pub outputs : (p : Port) → output_of new p ≡ output_of old p

-- a call after which nothing but the number of calls and the place in one text has changed
pub record ChangesPlace (feed : Feed) (old new : MemDesk) : Type 0 where
  pub call : CountsCall old new
  pub faults : new.faults ≡ old.faults
  pub others : (f : Feed) → f ≢ feed → unread new f ≡ unread old f
  pub outputs : (p : Port) → output_of new p ≡ output_of old p

-- a call after which nothing but the number of calls and one output has changed
pub record ChangesOutput (port : Port) (old new : MemDesk) : Type 0 where
  pub call : CountsCall old new
  pub faults : new.faults ≡ old.faults
  pub at : new.at ≡ old.at
  pub others : (p : Port) → p ≢ port → output_of new p ≡ output_of old p
