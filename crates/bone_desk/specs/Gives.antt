-- How far the bytes of a job have come on their way to a port.
use Rattle.std.specs.Prelude.{◌≡◌, ℕ, List, ◌++◌}
use Rattle.bone_desk.specs.declared.desk.Port.{Port}
use Rattle.bone_desk.specs.declared.desk.Act.TheVariants.{Write}
use Rattle.bone_desk.specs.Told.{Told, Gave, Rose, WritesOnly}

-- of these bytes all were given but the last ones, which wait
pub record Owes (port : Port) (waiting bytes : List ℕ) (old new : Told) : Type 0 where
  pub sent : List ℕ
  pub gave : Gave port sent old new
  pub all : sent ++ waiting ≡ bytes

-- of these bytes the port got a front, the rest was not given
pub record GaveFront (port : Port) (bytes : List ℕ) (old new : Told) : Type 0 where
  pub sent : List ℕ
  pub rest : List ℕ
  pub gave : Gave port sent old new
  pub all : sent ++ rest ≡ bytes

-- the bytes that wait on their way to a port
pub record Waiting : Type 0 where
  pub port : Port
  pub bytes : List ℕ

-- some bytes were put behind those that waited: what is still to be given waits now
pub record Pushed (bytes : List ℕ) (before after : Waiting) (old new : Told) : Type 0 where
  pub port : after.port ≡ before.port
  pub owes : Owes before.port after.bytes (before.bytes ++ bytes) old new
  pub only : WritesOnly before.port old new

-- a write failed on the way: of what waited, with some bytes behind it, the port got a front
pub record CutOff (bytes : List ℕ) (before : Waiting) (old new : Told) : Type 0 where
  pub front : GaveFront before.port (before.bytes ++ bytes) old new
  pub only : WritesOnly before.port old new
  pub cause : Rose (Write before.port) old new
