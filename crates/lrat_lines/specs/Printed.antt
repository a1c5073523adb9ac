-- The one printed spelling of a line: single spaces, no leading zeros, and a line feed at the end.
use Rattle.std.specs.Prelude.{ℕ, ◌^◌, ◌<◌, List, [], ◌++◌, All, codes, decimal, flat_map}
use Rattle.cnf_core.specs.Literals.{Literal, Literals, AreWithin}
use Rattle.cnf_core.specs.Spelling.{literal_text}
use Rattle.lrat_lines.specs.declared.line.Line.{Line}
use Rattle.lrat_lines.specs.declared.line.Line.TheVariants.{Add, Delete}

-- a number, or a literal, with a space behind it
abbrev pub number_bytes : ℕ → List ℕ
number_bytes n = decimal n ++ codes " "

abbrev pub literal_bytes : Literal → List ℕ
literal_bytes l = literal_text l ++ codes " "

-- a list with a 0 at its end, and what follows
abbrev pub numbers_bytes : List ℕ → List ℕ
numbers_bytes ns = flat_map number_bytes ns ++ codes "0"

abbrev pub literals_bytes : Literals → List ℕ
literals_bytes c = flat_map literal_bytes c ++ codes "0 "

-- a line without its line feed
abbrev pub line_bytes : Line → List ℕ
line_bytes (Add id c hints) = number_bytes id ++ (literals_bytes c ++ numbers_bytes hints)
line_bytes (Delete id ids) = number_bytes id ++ (codes "d " ++ numbers_bytes ids)

abbrev pub line_text : Line → List ℕ
line_text line = line_bytes line ++ codes "\n"

-- the text of a proof: its lines, one behind another
abbrev pub proof_text : List Line → List ℕ
proof_text lines = flat_map line_text lines

-- an id that may be printed: it isn't 0, which would end a list
abbrev pub IsId : ℕ → Type 0
IsId id = 0 < id

-- all ids of the line may be printed
pub record HasIds (id : ℕ) (ids : List ℕ) : Type 0 where
  pub own : IsId id
  pub others : All IsId ids

abbrev pub IsPrintable : Line → Type 0
IsPrintable (Add id c hints) = HasIds id hints
IsPrintable (Delete id ids) = HasIds id ids

-- the numbers of the line are those that lines in memory have: ids of 64 bits, variables from 1 to 2^20
abbrev pub IsWide : ℕ → Type 0
IsWide id = id < 2 ^ 64

pub record HasWide (id : ℕ) (c : Literals) (ids : List ℕ) : Type 0 where
  pub own : IsWide id
  pub within : AreWithin (2 ^ 20) c
  pub others : All IsWide ids

abbrev pub IsInMemory : Line → Type 0
IsInMemory (Add id c hints) = HasWide id c hints
IsInMemory (Delete id ids) = HasWide id [] ids
