-- What came of a feed.
use Rattle.std.specs.Prelude.{ℕ, ◌<◌, ◌≤◌, List, length}
use Rattle.bone_desk.specs.Told.{Told, Took, ReadsOnly, Rose, AtEnd}
use Rattle.bone_desk.specs.declared.desk.Act.TheVariants.{Read}
use Rattle.bone_desk.specs.declared.desk.Feed.{Feed}

-- these bytes came of the feed, and nothing else changed
pub record Came (feed : Feed) (old new : Told) (bytes : List ℕ) : Type 0 where
  pub took : Took feed bytes old new
  pub only : ReadsOnly feed old new

-- the whole text of the feed came, and it isn't too long
pub record CameWhole (feed : Feed) (limit : ℕ) (new : Told) (text : List ℕ) : Type 0 where
  pub within : length text ≤ limit
  pub whole : AtEnd feed new

-- a read failed, before more bytes came than are read
pub record IsReadFault (feed : Feed) (limit : ℕ) (old new : Told) (text : List ℕ) : Type 0 where
  pub rose : Rose (Read feed) old new
  pub within : length text ≤ limit

-- more bytes came than are read
abbrev pub IsTooLong : ℕ → List ℕ → Type 0
IsTooLong limit text = limit < length text
