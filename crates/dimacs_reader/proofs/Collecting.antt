-- The bytes of a text as they come.
use Rattle.std.proofs.Common.{◌≡◌, ℕ, ◌+◌, ◌-◌, ◌^◌, ◌≤◌, List, [], ◌++◌, length, Option, Some, refl, arith, length-append}
use Rattle.bone_desk.specs.Told.{Told}
use Rattle.bone_desk.specs.declared.desk.Feed.TheVariants.{Text}
use Rattle.bone_desk.proofs.Steps.{took_none, took_more, reads_none, reads_more}
use Rattle.dimacs_reader.specs.Feeds.{Came}
use Rattle.dimacs_reader.specs.Scans.{Stands, byte_count}
use Rattle.dimacs_reader.specs.Steps.Machine.{Scanned, fresh_scan}
use Rattle.dimacs_reader.specs.Steps.Reads.{IsScanOf}

pub came_none : (t : Told) → Came t t []
came_none t = record { took = took_none Text t; only = reads_none Text t }

pub came_more : {a b c : Told} (xs ys : List ℕ) → Came a b xs → Came b c ys → Came a c (xs ++ ys)
came_more {a} {b} {c} xs ys x y =
    record { took = took_more Text xs ys a b c x.took y.took; only = reads_more x.only y.only }

-- the scan stands for the text that came so far, and there is room for so many bytes more
pub record Collected (old now : Told) (scan : Option Scanned) (room : ℕ) (text : List ℕ) : Type 0 where
  pub came : Came old now text
  pub stands : Stands scan text
  pub count : byte_count scan ≡ length text
  pub limit : length text + room ≡ 2 ^ 27

pub collected_none : (t : Told) → Collected t t (Some fresh_scan) (2 ^ 27) []
collected_none t = record { came = came_none t; stands = refl; count = refl; limit = omega arith }

-- one read more, of so many bytes
pub collected_more : {old now new : Told} {scan longer : Option Scanned} {room k : ℕ} (text piece : List ℕ)
    → Collected old now scan room text → Came now new piece → length piece ≡ k → k ≤ room
    → Stands longer (text ++ piece) → byte_count longer ≡ byte_count scan + length piece
    → Collected old new longer (room - k) (text ++ piece)
collected_more {room = r} {k = k} text piece so_far came size fits stands count =
    let total = length-append text piece in
    record {
      came = came_more text piece so_far.came came;
      stands = stands;
      count = omega (arith, so_far.count, count, total);
      limit = omega (arith, so_far.limit, size, fits, total);
    }

-- a scan of the whole text, after a read that brings nothing
pub scanned_whole : {old now : Told} {scan : Option Scanned} {room : ℕ} (text : List ℕ)
    → Collected old now scan room text → IsScanOf scan text
scanned_whole text so_far =
    record { stands = so_far.stands; count = so_far.count; limit = omega (arith, so_far.limit) }
