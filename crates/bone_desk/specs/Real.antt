-- What a desk of files and streams tells: its counts alone.
use Rattle.std.specs.Prelude.{ℕ, List, None}
use Rattle.bone_desk.specs.Told.{Told, fault_count}

abbrev pub counts_told : List ℕ → Told
counts_told faults = record { left = λ _. None; put = λ _. None; faults = fault_count faults }
