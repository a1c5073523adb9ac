-- The statements of the laws: what holds of every proof by the definitions alone.
use Rattle.std.specs.Prelude.{◌≡◌, ◌↔◌, ℕ, List, ◌++◌, length, map, Contains, Some, Ok}
use Rattle.cnf_core.specs.Literals.{Literal, Literals}
use Rattle.cnf_core.specs.Formulas.{Cnf, EntailsClause}
use Rattle.lrat_lines.specs.declared.line.Line.{Line}
use Rattle.lrat_lines.specs.Sets.{IsSameSet}
use Rattle.lrat_lines.specs.Propagation.{Known, AreSameKnown, rup, IsRup}
use Rattle.lrat_lines.specs.Proofs.{Progress, checked, Proves, IsReached}
use Rattle.lrat_lines.specs.Prefixes.{EachAfter}
use Rattle.lrat_lines.specs.Tidy.{IsTidy, IsLineAfter}
use Rattle.lrat_lines.specs.Renumbering.{renumbered, translated, shifted_id, IsRenaming, IsCarried, MayFollow}
use Rattle.lrat_lines.specs.Grammar.{line_of}
use Rattle.lrat_lines.specs.Printed.{IsPrintable, IsInMemory, line_bytes}

-- the formula entails each set that is known
abbrev pub AreEntailed : Cnf → Known → Type 0
AreEntailed F known = (id : ℕ) (c : Literals) → known id ≡ Some c → EntailsClause F c

-- what is shown from entailed sets is entailed, and so is all that a proof reaches
pub record ProvedIsEntailed : Type 0 where
  pub shown : (F : Cnf) (known : Known) (hints : List ℕ) (c : Literals)
      → AreEntailed F known → IsRup known hints c → EntailsClause F c
  pub reached : (F : Cnf) (lines : List Line) (c : Literals)
      → Proves F lines → IsReached F lines c → EntailsClause F c

-- reverse unit propagation looks at clauses as sets: where the clause has the same literals, and so has each
-- one that is known, it has the same outcome
abbrev pub PropagatesBySets : Type 0
PropagatesBySets = (known other : Known) (hints : List ℕ) (c d : Literals)
    → AreSameKnown known other → IsSameSet c d → rup known hints c ≡ rup other hints d

-- a printed line, without its line feed, is read as the line that it is
abbrev pub PrintedReadsBack : Type 0
PrintedReadsBack = (line : Line) → IsPrintable line → IsInMemory line → line_of (line_bytes line) ≡ Ok line

-- hints go on to show a clause by their numbers, where those lead to the same sets under the literals' names
abbrev pub HintsAreCarried : Type 0
HintsAreCarried = (known there : Known) (number : ℕ → ℕ) (name : Literal → Literal) (hints : List ℕ) (c d : Literals)
    → IsRenaming name → ((h : ℕ) → Contains hints h → IsCarried known there number name h) → IsSameSet (map name c) d
    → IsRup known hints c → IsRup there (map number hints) d

-- an accepted proof stays accepted behind other lines, over another formula, under new numbers and names, and what it
-- reaches is reached
pub record FollowsAccepted : Type 0 where
  pub accepted : (F : Cnf) (lines : List Line) (G : Cnf) (front : List Line) (progress : Progress)
      (number : ℕ → ℕ) (name : Literal → Literal)
      → Proves F lines → checked G front ≡ Ok progress → MayFollow F lines G progress number name
      → Proves G (front ++ translated number name lines)
  pub reached : (F : Cnf) (lines : List Line) (G : Cnf) (front : List Line) (progress : Progress)
      (number : ℕ → ℕ) (name : Literal → Literal) (c : Literals)
      → Proves F lines → checked G front ≡ Ok progress → MayFollow F lines G progress number name
      → IsReached F lines c → IsReached G (front ++ translated number name lines) (map name c)

-- a proof stays accepted where further clauses stand behind the formula's, and ids above theirs move up by as many
abbrev pub ShiftedIsAccepted : Type 0
ShiftedIsAccepted = (F : Cnf) (more : List Literals) (lines : List Line) → Proves F lines
    → Proves (record F { clauses = F.clauses ++ more }) (map (renumbered (shifted_id (length F.clauses) (length more))) lines)

-- a tidy proof is accepted exactly where each line may follow on those before it
abbrev pub TidyProofsByLines : Type 0
TidyProofsByLines = (F : Cnf) (lines : List Line) → (IsTidy F lines × Proves F lines) ↔ EachAfter (IsLineAfter F) lines
