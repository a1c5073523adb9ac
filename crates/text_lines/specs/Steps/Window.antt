-- What lies in a reader's memory.
use Rattle.std.specs.Prelude.{ℕ, List}

pub record Held : Type 0 where
  -- the line that was handed out last
  pub line : List ℕ
  -- the bytes that were read and stand behind it
  pub ahead : List ℕ
  -- how many more have room behind these
  pub free : ℕ
