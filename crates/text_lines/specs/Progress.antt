-- How far the reading of a feed has come.
use Rattle.std.specs.Prelude.{◌≡◌, ℕ, ◌+◌, Bool, true, false, List, [], ◌∷◌, ◌++◌, length, Result, Ok, Err}
use Rattle.bone_desk.specs.Told.{Told, AtEnd}
use Rattle.bone_desk.specs.declared.desk.Feed.{Feed}
use Rattle.text_lines.specs.declared.feed.FeedEnd.{FeedEnd}
use Rattle.text_lines.specs.declared.feed.FeedEnd.TheVariants.{Fault, TooLong, Memory}
use Rattle.text_lines.specs.Lines.{Line, lines_of, IsFront}
use Rattle.text_lines.specs.Feeds.{Came, CameWhole, IsReadFault, IsTooLong}

-- what is seen of a reader of lines
pub record Progress : Type 0 where
  pub feed : Feed
  -- the line that was handed out last
  pub line : Line
  -- the bytes that were read and stand behind it
  pub ahead : List ℕ
  -- how many more bytes may come
  pub room : ℕ
  -- whether the end of the feed was met
  pub over : Bool

-- nothing was read, and so many bytes may come
abbrev pub unread : Feed → ℕ → Progress
unread feed limit = record { feed = feed; line = record { bytes = []; ended = false }; ahead = []; room = limit; over = false }

-- Since the start this text came, and these lines of it were handed out. Until the end is met, they are its first
-- lines also when more comes.
pub record HasRead (limit : ℕ) (start now : Told) (p : Progress) (text : List ℕ) (done : List Line) : Type 0 where
  pub came : Came p.feed start now text
  pub room : length text + p.room ≡ limit
  pub lines : lines_of text ≡ done ++ lines_of p.ahead
  pub front : p.over ≡ false → IsFront text done p.ahead
  pub end : p.over ≡ true → AtEnd p.feed now
  pub rest : p.over ≡ true → p.ahead ≡ []

-- the whole text came, and these are all of its lines
pub record IsWhole (limit : ℕ) (now : Told) (p : Progress) (text : List ℕ) (done : List Line) : Type 0 where
  pub came : CameWhole p.feed limit now text
  pub lines : lines_of text ≡ done

-- what each answer to the question for one more line says of the text that came
abbrev pub Answered : ℕ → Told → Told → Progress → List ℕ → List Line → Result Bool FeedEnd → Type 0
Answered limit start now p text done (Ok true) = HasRead limit start now p text (done ++ p.line ∷ [])
Answered limit start now p text done (Ok false) = IsWhole limit now p text done
Answered limit start now p text done (Err Fault) = IsReadFault p.feed limit start now text
Answered limit start now p text done (Err TooLong) = IsTooLong limit text
Answered limit start now p text done (Err Memory) = Unit {0}

-- behind the text so far these bytes came, and what the answer says
pub record Advanced
    (limit : ℕ)
    (start now : Told)
    (p : Progress)
    (text : List ℕ)
    (done : List Line)
    (result : Result Bool FeedEnd)
    : Type 0 where
  pub more : List ℕ
  pub came : Came p.feed start now (text ++ more)
  pub answer : Answered limit start now p (text ++ more) done result

-- the whole text came, and its lines begin with these
pub record BeginsSo (feed : Feed) (limit : ℕ) (now : Told) (text : List ℕ) (done : List Line) : Type 0 where
  pub came : CameWhole feed limit now text
  pub rest : List Line
  pub lines : lines_of text ≡ done ++ rest

-- what each end of a reading to the end of the feed says of the text that came
abbrev pub DrainedTo : Feed → ℕ → Told → Told → List ℕ → List Line → Result (Unit {0}) FeedEnd → Type 0
DrainedTo feed limit start now text done (Ok unit) = BeginsSo feed limit now text done
DrainedTo feed limit start now text done (Err Fault) = IsReadFault feed limit start now text
DrainedTo feed limit start now text done (Err TooLong) = IsTooLong limit text
DrainedTo feed limit start now text done (Err Memory) = Unit {0}

pub record Drained
    (feed : Feed)
    (limit : ℕ)
    (start now : Told)
    (text : List ℕ)
    (done : List Line)
    (result : Result (Unit {0}) FeedEnd)
    : Type 0 where
  pub more : List ℕ
  pub came : Came feed start now (text ++ more)
  pub answer : DrainedTo feed limit start now (text ++ more) done result
