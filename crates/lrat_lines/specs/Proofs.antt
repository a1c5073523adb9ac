-- Proofs over a formula: which lines they may have, and which clauses they reach.
use Rattle.std.specs.Prelude.{ℕ, ◌-◌, ◌==◌, nat_lt, nat_le, if◌then◌else◌, List, [], ◌∷◌, ◌++◌, length, find, flat_map, Option, Some, None}
use Rattle.std.specs.Prelude.{is_none, Result, Ok, Err, IsOk, slice_get}
use Rattle.std.specs.List.{list_any}
use Rattle.cnf_core.specs.Literals.{Literal, Literals}
use Rattle.cnf_core.specs.Formulas.{Cnf}
use Rattle.lrat_lines.specs.declared.line.Line.{Line}
use Rattle.lrat_lines.specs.declared.line.Line.TheVariants.{Add, Delete}
use Rattle.lrat_lines.specs.Sets.{HasSet}
use Rattle.lrat_lines.specs.Propagation.{Known, Refusal, IdNotRising, VarRange, UnknownHint, rup}

-- how far a proof is: the sets that are known, and the greatest id so far
pub record Progress : Type 0 where
  pub known : Known
  pub top : ℕ

-- these sets are known by the ids from 1 on
abbrev pub numbered : List Literals → Known
numbered sets = λ id. if id == 0 then None else slice_get sets (id - 1)

-- at the start the clauses of the formula are known
abbrev pub start : Cnf → Progress
start F = record {
  known = numbered F.clauses;
  top = length F.clauses;
}

-- the sets with one more
abbrev pub with_set : Known → ℕ → Literals → Known
with_set known id c = λ q. if q == id then Some c else known q

-- the sets without those of the ids
abbrev pub without : Known → List ℕ → Known
without known ids = λ q. if list_any (λ id. id == q) ids then None else known q

abbrev pub unless_refused : Option Refusal → Progress → Result Progress Refusal
unless_refused None next = Ok next
unless_refused (Some refusal) next = Err refusal

-- the refusal of a line whose id rises: a literal that is none of the formula's, before the hints
abbrev pub refusal_of : Option Literal → Option Refusal → Option Refusal
refusal_of (Some l) shown = Some (VarRange l)
refusal_of None shown = shown

-- a clause is added
abbrev pub after_add : Cnf → Progress → ℕ → Literals → List ℕ → Result Progress Refusal
after_add F p id c hints =
    if nat_le id p.top then Err (IdNotRising id)
    else unless_refused
    (refusal_of (find (λ l. nat_lt F.vars l.var) c) (rup p.known hints c))
    (record { known = with_set p.known id c; top = id })

-- the refusal of a deletion: the first id by which nothing was known before the line
abbrev pub unknown_of : Option ℕ → Option Refusal
unknown_of None = None
unknown_of (Some id) = Some (UnknownHint id)

-- after one more line, or the refusal
abbrev pub after_line : Cnf → Progress → Line → Result Progress Refusal
after_line F p (Add id c hints) = after_add F p id c hints
after_line F p (Delete id ids) =
    unless_refused (unknown_of (find (λ q. is_none (p.known q)) ids))
    (record { known = without p.known ids; top = p.top })

-- the next line, unless one before it was refused
abbrev pub then_line : Cnf → Result Progress Refusal → Line → Result Progress Refusal
then_line F (Ok p) line = after_line F p line
then_line F (Err refusal) line = Err refusal

abbrev pub after_lines : Cnf → Result Progress Refusal → List Line → Result Progress Refusal
after_lines F r [] = r
after_lines F r (line ∷ lines) = after_lines F (then_line F r line) lines

-- how far the lines come from the formula alone, or the first refusal
unfoldable pub checked : Cnf → List Line → Result Progress Refusal
checked F lines = after_lines F (Ok (start F)) lines

-- no line is refused
abbrev pub Proves : Cnf → List Line → Type 0
Proves F lines = IsOk (checked F lines)

-- the clause that a line adds
abbrev pub added : Line → List Literals
added (Add id c hints) = c ∷ []
added (Delete id ids) = []

-- the clauses of the formula, and those that the lines add, whether deleted since or not
abbrev pub reached : Cnf → List Line → List Literals
reached F lines = F.clauses ++ flat_map added lines

-- one of the reached clauses is this set
abbrev pub IsReached : Cnf → List Line → Literals → Type 0
IsReached F lines c = HasSet (reached F lines) c
