-- The note of a run: one line for the user, or nothing.
use Rattle.std.specs.Prelude.{ℕ, List, [], ◌++◌, codes, decimal, ◌⊎◌}
use Rattle.bone_desk.specs.declared.desk.Feed.{Feed}
use Rattle.bone_desk.specs.declared.desk.Feed.TheVariants as feed
use Rattle.bone_desk.specs.declared.desk.Port.{Port}
use Rattle.bone_desk.specs.declared.desk.Port.TheVariants as port
use Rattle.bone_desk.specs.declared.desk.Act.{Act}
use Rattle.bone_desk.specs.declared.desk.Act.TheVariants.{OpenFeed, OpenPort, Read, Write}
use Rattle.bone_desk.specs.Told.{Told, Rose, Gave}
use Rattle.bone_desk.specs.Gives.{GaveFront}
use Rattle.dimacs_reader.specs.declared.fault.BadKind.{BadKind}
use Rattle.dimacs_reader.specs.declared.fault.BadKind.TheVariants as kind
use Rattle.dimacs_reader.specs.declared.fault.Fault.{Fault}
use Rattle.backbone_main.specs.declared.ending.Ending.{Ending}
use Rattle.backbone_main.specs.declared.ending.Ending.TheVariants.{OutOfMemory, BadText, TooLong, Failed, Usage}

-- the number of a kind of fault
abbrev pub kind_number : BadKind → ℕ
kind_number kind.NoHeader = 1
kind_number kind.BadHeader = 2
kind_number kind.BadNumber = 3
kind_number kind.LiteralRange = 4
kind_number kind.TooManyClauses = 5
kind_number kind.TooFewClauses = 6
kind_number kind.Unended = 7
kind_number kind.OverLimit = 8
kind_number kind.BadShow = 9

-- the kind and the place of a text's first fault
abbrev pub fault_note : Fault → List ℕ
fault_note fault =
    (codes "error: text kind " ++ decimal (kind_number fault.kind))
    ++ (codes " at byte " ++ decimal fault.place)
    ++ codes "\n"

-- the words for a feed and for a port
abbrev pub feed_name : Feed → List ℕ
feed_name feed.Text = codes "text"
feed_name feed.Answer = codes "answer"
feed_name feed.Proof = codes "proof"
feed_name feed.Witness = codes "witness"

abbrev pub port_name : Port → List ℕ
port_name port.Answer = codes "answer"
port_name port.Proof = codes "proof"
port_name port.Witness = codes "witness"
port_name port.Notes = codes "notes"

-- the words for an act that failed, and for the feed or port on which it did
abbrev pub failed_words : Act → List ℕ
failed_words (OpenFeed f) = codes "error: open failed: "
failed_words (OpenPort p) = codes "error: open failed: "
failed_words (Read f) = codes "error: read failed: "
failed_words (Write p) = codes "error: write failed: "

abbrev pub place_name : Act → List ℕ
place_name (OpenFeed f) = feed_name f
place_name (OpenPort p) = port_name p
place_name (Read f) = feed_name f
place_name (Write p) = port_name p

-- some words, a name, and what ends the line
abbrev pub named_note : List ℕ → List ℕ → List ℕ → List ℕ
named_note words name end = (words ++ name) ++ end

-- the note of an ending
abbrev pub note_of : Ending → List ℕ
note_of OutOfMemory = codes "error: out of memory\n"
note_of (BadText fault) = fault_note fault
note_of (TooLong f) = named_note (codes "error: ") (feed_name f) (codes " too long\n")
note_of (Failed act) = named_note (failed_words act) (place_name act) (codes "\n")
note_of Usage = codes "usage: backbone extract|check|sample [options] [names]\n"
note_of ending = []

-- the Notes port gained a front of the note, and all of it unless a write to that port failed
pub record GainsNote (note : List ℕ) (old new : Told) : Type 0 where
  pub front : GaveFront port.Notes note old new
  pub whole : Gave port.Notes note old new ⊎ Rose (Write port.Notes) old new
