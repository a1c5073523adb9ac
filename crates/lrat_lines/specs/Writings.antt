-- What the writer leaves.
use Rattle.bone_desk.specs.Told.{Told, Rose}
use Rattle.bone_desk.specs.declared.desk.Act.TheVariants.{Write}
use Rattle.bone_desk.specs.declared.desk.Port.TheVariants as port
use Rattle.lrat_lines.specs.declared.write.ProofEnd.{ProofEnd}
use Rattle.lrat_lines.specs.declared.write.ProofEnd.TheVariants.{Fault, Memory}

-- a fault comes of a failed write alone; want of memory has no cause that is told
abbrev pub HasCause : ProofEnd → Told → Told → Type 0
HasCause Fault old new = Rose (Write port.Proof) old new
HasCause Memory old new = Unit {0}
