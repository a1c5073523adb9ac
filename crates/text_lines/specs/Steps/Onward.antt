-- How far a reader has come while it looks for the end of a line.
use Rattle.std.specs.Prelude.{◌≡◌, ◌<◌, ◌+◌, ℕ, true, false, if◌then◌else◌, List, ◌∷◌, ◌++◌, length, take, drop}
use Rattle.std.specs.Prelude.{Option, Some, None, Result, Ok, Err}
use Rattle.bone_desk.specs.Told.{Told, AtEnd}
use Rattle.bone_desk.specs.declared.desk.Feed.{Feed}
use Rattle.text_lines.specs.declared.feed.FeedEnd.{FeedEnd}
use Rattle.text_lines.specs.declared.feed.FeedEnd.TheVariants.{Fault, TooLong, Memory}
use Rattle.text_lines.specs.Lines.{IsPlain}
use Rattle.text_lines.specs.Feeds.{Came, IsReadFault, IsTooLong}
use Rattle.text_lines.specs.Progress.{Progress}

-- the first line feed of the bytes stands at this place
pub record IsFeedAt (bytes : List ℕ) (k : ℕ) : Type 0 where
  pub within : k < length bytes
  pub plain : IsPlain (take k bytes)
  pub at : drop k bytes ≡ 10 ∷ drop (k + 1) bytes

abbrev pub IsFirstFeed : List ℕ → Option ℕ → Type 0
IsFirstFeed bytes None = IsPlain bytes
IsFirstFeed bytes (Some k) = IsFeedAt bytes k

-- more bytes came, and stand behind those ahead
pub record IsOnward (old new : Told) (before after : Progress) (more : List ℕ) : Type 0 where
  pub came : Came before.feed old new more
  pub feed : after.feed ≡ before.feed
  pub ahead : after.ahead ≡ before.ahead ++ more
  pub room : length more + after.room ≡ before.room
  pub end : after.over ≡ true → AtEnd before.feed new

abbrev pub IsCause : Feed → ℕ → Told → Told → List ℕ → FeedEnd → Type 0
IsCause feed room old new more Fault = IsReadFault feed room old new more
IsCause feed room old new more TooLong = IsTooLong room more
IsCause feed room old new more Memory = Unit {0}

-- more bytes came, and then no further line could be read
pub record IsStopped (feed : Feed) (room : ℕ) (old new : Told) (end : FeedEnd) : Type 0 where
  pub more : List ℕ
  pub came : Came feed old new more
  pub cause : IsCause feed room old new more end

-- the search for a line feed ended at the first one ahead, or at the end of the feed
abbrev pub EndsAt : Progress → Option ℕ → Type 0
EndsAt p None = (p.over ≡ true) × IsPlain p.ahead
EndsAt p (Some k) = (p.over ≡ false) × IsFeedAt p.ahead k

abbrev pub IsFound : Result (Option ℕ) FeedEnd → Type 0
IsFound (Ok (Some k)) = Unit {0}
IsFound (Ok None) = ⊥
IsFound (Err end) = ⊥

-- a number that each read makes less
abbrev pub reads_left : Progress → ℕ
reads_left p = if p.over then p.room else p.room + 1
