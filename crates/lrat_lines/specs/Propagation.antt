-- Reverse unit propagation with hints: why a clause follows from clauses that are known by their ids.
use Rattle.std.specs.Prelude.{◌≡◌, ℕ, not, if◌then◌else◌, List, [], ◌∷◌, ◌++◌, map, filter, Option, Some, None, ⊤}
use Rattle.std.specs.List.{list_all}
use Rattle.cnf_core.specs.Literals.{Literal, Literals, negated}
use Rattle.lrat_lines.specs.Sets.{is_same, has, has_complements, IsSameSet}

-- the sets that are known, each by its id
abbrev pub Known : Type 0
Known = ℕ → Option Literals

-- the same is known: a set of the same members, or nothing
abbrev pub IsSameKnown : Option Literals → Option Literals → Type 0
IsSameKnown None None = ⊤
IsSameKnown None (Some d) = ⊥
IsSameKnown (Some c) None = ⊥
IsSameKnown (Some c) (Some d) = IsSameSet c d

-- by each id the same is known
abbrev pub AreSameKnown : Known → Known → Type 0
AreSameKnown known other = (id : ℕ) → IsSameKnown (known id) (other id)

-- why a line is refused
pub data Refusal : Type 0 where
  -- the id is not above all ids before it
  IdNotRising : ℕ → Refusal
  -- the literal's variable is none of the formula's
  VarRange : Literal → Refusal
  -- no set is known by the id
  UnknownHint : ℕ → Refusal
  -- two or more literals of the hint's set are not false
  NotUnit : ℕ → Refusal
  -- the hints end, and the clause isn't shown
  NoConflict : Refusal

-- the literals of the set that are not false, where these literals are true
abbrev pub open_literals : Literals → Literals → Literals
open_literals trues c = filter (λ l. not (has trues (negated l))) c

-- what a hint does by the literals of its set that are not false: where there is none the clause is
-- shown, and the hints that follow are not looked at; a single one is true from here on
abbrev pub by_open : ℕ → Literals → (Literals → Option Refusal) → Literals → Option Refusal
by_open h trues rest [] = None
by_open h trues rest (l ∷ ls) = if list_all (is_same l) ls then rest (trues ++ l ∷ []) else Some (NotUnit h)

abbrev pub by_set : ℕ → Literals → (Literals → Option Refusal) → Option Literals → Option Refusal
by_set h trues rest None = Some (UnknownHint h)
by_set h trues rest (Some c) = by_open h trues rest (open_literals trues c)

-- what the hints do in order, from literals that are taken to be true: the refusal, or none where
-- they show the clause
abbrev pub by_hints : Known → List ℕ → Literals → Option Refusal
by_hints known [] trues = Some NoConflict
by_hints known (h ∷ hs) trues = by_set h trues (by_hints known hs) (known h)

-- why the hints don't show the clause, if so. A clause with a literal and its negation is always
-- shown. For any other the negations of its literals are taken to be true
abbrev pub rup : Known → List ℕ → Literals → Option Refusal
rup known hints c = if has_complements c then None else by_hints known hints (map negated c)

-- the hints show the clause
abbrev pub IsRup : Known → List ℕ → Literals → Type 0
IsRup known hints c = rup known hints c ≡ None
