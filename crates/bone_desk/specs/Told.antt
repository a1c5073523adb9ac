-- What a desk tells of itself, and what a call may change of it.
use Rattle.std.specs.Prelude.{
  ◌≡◌,
  ◌≢◌,
  ◌<◌,
  ◌≤◌,
  ◌+◌,
  ◌-◌,
  ◌^◌,
  ℕ,
  List,
  [],
  ◌++◌,
  Option,
  IfSome,
  min,
  slice_index,
  slice_set,
  option_map,
}
use Rattle.bone_desk.specs.declared.desk.Feed.{Feed}
use Rattle.bone_desk.specs.declared.desk.Feed.TheVariants as feed
use Rattle.bone_desk.specs.declared.desk.Port.{Port}
use Rattle.bone_desk.specs.declared.desk.Port.TheVariants as port
use Rattle.bone_desk.specs.declared.desk.Act.{Act}
use Rattle.bone_desk.specs.declared.desk.Act.TheVariants.{OpenFeed, OpenPort, Read, Write}

pub record Told : Type 0 where
  -- the bytes that a feed still has; None: not told
  pub left : Feed → Option (List ℕ)
  -- the bytes that a port was given so far; None: not told
  pub put : Port → Option (List ℕ)
  -- how often an act failed: a number that never falls, and stays at 2 ^ 64 - 1 once it is there
  pub faults : Act → ℕ

-- the count of an act rose, unless it stood at its last value
abbrev pub Rose : Act → Told → Told → Type 0
Rose act old new = old.faults act < 2 ^ 64 - 1 → old.faults act < new.faults act

-- no count changes but that of this act, which doesn't fall
pub record CountsOnly (act : Act) (old new : Told) : Type 0 where
  pub others : (a : Act) → a ≢ act → new.faults a ≡ old.faults a
  pub never_falls : old.faults act ≤ new.faults act

-- what is left and what was put is as before
pub record SameBytes (old new : Told) : Type 0 where
  pub left : (f : Feed) → new.left f ≡ old.left f
  pub put : (p : Port) → new.put p ≡ old.put p

-- nothing changes but what is left of this feed, and the count of its reads
pub record ReadsOnly (feed : Feed) (old new : Told) : Type 0 where
  pub left : (f : Feed) → f ≢ feed → new.left f ≡ old.left f
  pub put : (p : Port) → new.put p ≡ old.put p
  pub counts : CountsOnly (Read feed) old new

-- nothing changes but what was put to this port, and the count of its writes
pub record WritesOnly (port : Port) (old new : Told) : Type 0 where
  pub left : (f : Feed) → new.left f ≡ old.left f
  pub put : (p : Port) → p ≢ port → new.put p ≡ old.put p
  pub counts : CountsOnly (Write port) old new

-- these bytes were taken from the front of what was left, where that is told
abbrev pub Took : Feed → List ℕ → Told → Told → Type 0
Took feed bytes old new = old.left feed ≡ option_map (λ rest. bytes ++ rest) (new.left feed)

-- these bytes were appended to what was put, where that is told
abbrev pub Gave : Port → List ℕ → Told → Told → Type 0
Gave port bytes old new = new.put port ≡ option_map (λ before. before ++ bytes) (old.put port)

-- nothing is left, where that is told
abbrev pub AtEnd : Feed → Told → Type 0
AtEnd feed told = IfSome (told.left feed) (λ rest. rest ≡ [])

-- the place of each act's count in an array of sixteen
abbrev pub feed_index : Feed → ℕ
feed_index feed.Text = 0
feed_index feed.Answer = 1
feed_index feed.Proof = 2
feed_index feed.Witness = 3

abbrev pub port_index : Port → ℕ
port_index port.Answer = 0
port_index port.Proof = 1
port_index port.Witness = 2
port_index port.Notes = 3

abbrev pub act_index : Act → ℕ
act_index (OpenFeed f) = feed_index f
act_index (OpenPort p) = 4 + port_index p
act_index (Read f) = 8 + feed_index f
act_index (Write p) = 12 + port_index p

abbrev pub fault_count : List ℕ → Act → ℕ
fault_count counts act = slice_index counts (act_index act)

-- the counts after one failure more
abbrev pub counts_after_fault : List ℕ → Act → List ℕ
counts_after_fault counts act =
    slice_set counts (act_index act) (min (fault_count counts act + 1) (2 ^ 64 - 1))
